-- `level_above` is one level more than the deepest of the members. The invariant: what the members from the place on decide is what all decide.
use Prim.Native.Nat.{◌+◌, ◌-◌}
use mathlib.Core.Path.{◌≡◌}
use lib.ListN.{length}
use Rattle.types.specs.Entries.{members_from}
use Rattle.types.specs.Table.{level_above}
use Rattle.types.proofs.Lists.level_above.Given as goal

abbrev pub invariant-loop-i : goal.invariant-loop-i
invariant-loop-i l = level_above l.earlier (length l.earlier) 0 (members_from l.self.members.now l.first l.count) ≡ level_above l.earlier (length l.earlier) l.best (members_from l.self.members.now (l.first + l.i) (l.count - l.i))
