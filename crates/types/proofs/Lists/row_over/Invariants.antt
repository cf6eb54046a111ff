-- `row_over` is the row of the members. The invariant: the row that the members from the place on decide is the one that all decide.
use Prim.Native.Nat.{◌+◌, ◌-◌}
use mathlib.Core.Path.{◌≡◌}
use Rattle.types.specs.Entries.{members_from}
use Rattle.types.specs.Table.{members_row}
use Rattle.types.proofs.Lists.row_over.Given as goal

abbrev pub invariant-loop-i : goal.invariant-loop-i
invariant-loop-i l = members_row l.table l.overlaid 0 0 1 0 (members_from l.self.members.now l.first l.count) ≡ members_row l.table l.overlaid l.end l.far l.align l.leaves (members_from l.self.members.now (l.first + l.i) (l.count - l.i))
