-- `find_levels` finds the levels of each entry. The invariant: those below the place are found, and whether all refer back is what the entries from
-- the place on decide.
use Prim.Native.Nat.{◌-◌}
use mathlib.Core.Path.{◌≡◌}
use lib.ListN.{length}
use Rattle.types.specs.Entries.{all_refer_back}
use Rattle.types.specs.Trees.{entries}
use Rattle.types.specs.Table.{Levelled}
use Rattle.types.proofs.Lists.find_levels.Given as goal

abbrev pub invariant-loop-e : goal.invariant-loop-e
invariant-loop-e l = (length l.levels ≡ length l.initial.levels)
    × (all_refer_back l.self.types.now l.self.members.now 0 (entries l.self.types.now) ≡ all_refer_back l.self.types.now l.self.members.now l.e (entries l.self.types.now - l.e))
    × Levelled l.self.types.now l.self.members.now l.levels l.e
