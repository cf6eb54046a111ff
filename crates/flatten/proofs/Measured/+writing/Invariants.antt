-- A type is written by its members or its elements, and these are types. The measure is 2 * levels for `write_type`, and one more for the two loops,
-- which call it at their own level count; it calls them at one less. Each invariant: the place and the buffer that are promised are what the rest decides.
use Rattle.std.proofs.Common.{◌-◌, ◌≡◌, length, ◌+◌, ◌*◌}
use Rattle.types.specs.Entries.{members_from}
use Rattle.flatten.specs.Writing.{over_members, over_elements, step_of, entry_pieces, pour_at, pour_words}
use Rattle.flatten.proofs.Measured.+writing.Given as goal

abbrev pub decreases-write_elements : goal.decreases-write_elements
decreases-write_elements l = 2 * l.levels + 1

abbrev pub decreases-write_members : goal.decreases-write_members
decreases-write_members l = 2 * l.levels + 1

abbrev pub decreases-write_type : goal.decreases-write_type
decreases-write_type l = 2 * l.levels

abbrev pub invariant-write_elements-loop : goal.invariant-write_elements-loop
invariant-write_elements-loop l =
    (length l.out ≡ length l.initial.out)
    × (pour_at (over_elements (entry_pieces l.self.lists.types.now l.self.lists.members.now l.self.table.now l.levels l.element) (step_of l.self.table.now l.element) l.base 0 l.count) l.initial.out l.at
    ≡ pour_at (over_elements (entry_pieces l.self.lists.types.now l.self.lists.members.now l.self.table.now l.levels l.element) l.step l.base l.end (l.count - l.counter)) l.out l.to)
    × (pour_words (over_elements (entry_pieces l.self.lists.types.now l.self.lists.members.now l.self.table.now l.levels l.element) (step_of l.self.table.now l.element) l.base 0 l.count) l.initial.out l.at
    ≡ pour_words (over_elements (entry_pieces l.self.lists.types.now l.self.lists.members.now l.self.table.now l.levels l.element) l.step l.base l.end (l.count - l.counter)) l.out l.to)

abbrev pub invariant-write_members-loop-i : goal.invariant-write_members-loop-i
invariant-write_members-loop-i l =
    (length l.out ≡ length l.initial.out)
    × (pour_at (over_members (entry_pieces l.self.lists.types.now l.self.lists.members.now l.self.table.now l.levels) l.self.table.now l.overlaid l.base 0 (members_from l.self.lists.members.now l.first l.count)) l.initial.out l.at
    ≡ pour_at (over_members (entry_pieces l.self.lists.types.now l.self.lists.members.now l.self.table.now l.levels) l.self.table.now l.overlaid l.base l.end (members_from l.self.lists.members.now (l.first + l.i) (l.count - l.i))) l.out l.to)
    × (pour_words (over_members (entry_pieces l.self.lists.types.now l.self.lists.members.now l.self.table.now l.levels) l.self.table.now l.overlaid l.base 0 (members_from l.self.lists.members.now l.first l.count)) l.initial.out l.at
    ≡ pour_words (over_members (entry_pieces l.self.lists.types.now l.self.lists.members.now l.self.table.now l.levels) l.self.table.now l.overlaid l.base l.end (members_from l.self.lists.members.now (l.first + l.i) (l.count - l.i))) l.out l.to)
