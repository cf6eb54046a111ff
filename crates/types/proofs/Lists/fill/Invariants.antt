-- `fill` fills the table, up to the first row that is refused. The invariant: refusal and table are what the entries from the place on decide.
use Prim.Native.Nat.{◌-◌}
use mathlib.Core.Path.{◌≡◌}
use lib.ListN.{length}
use Rattle.types.specs.Trees.{entries}
use Rattle.types.specs.Table.{filled_refusal, filled}
use Rattle.types.proofs.Lists.fill.Given as goal

abbrev pub invariant-loop-e : goal.invariant-loop-e
invariant-loop-e l = (length l.table ≡ length l.initial.table)
    × (filled_refusal l.self.types.now l.self.members.now l.initial.table 0 (entries l.self.types.now) ≡ filled_refusal l.self.types.now l.self.members.now l.table l.e (entries l.self.types.now - l.e))
    × (filled l.self.types.now l.self.members.now l.initial.table 0 (entries l.self.types.now) ≡ filled l.self.types.now l.self.members.now l.table l.e (entries l.self.types.now - l.e))
