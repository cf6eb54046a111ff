-- `settle_all` mends the classes and counts their slots. The invariant: what is done and what is left make the whole, in classes and in counts.
use Prim.Native.Nat.{◌+◌, ◌≤◌}
use mathlib.Core.Path.{◌≡◌}
use mathlib.Core.List.{◌++◌}
use lib.ListN.{take, drop}
use Rattle.eightbytes.specs.Class.{None}
use Rattle.eightbytes.specs.Eightbytes.{spoiled, mend, slot_count}
use Rattle.eightbytes.proofs.Counts.{sses_in}
use Rattle.eightbytes.proofs.settle_all.Given as goal

abbrev pub invariant-loop-class : goal.invariant-loop-class
invariant-loop-class l = (l.count ≤ l.class-index) × (l.floats ≤ l.class-index)
    × (spoiled l.initial.class-items ≡ spoiled (drop l.class-index l.class-items))
    × (mend None l.initial.class-items ≡ take l.class-index l.class-items ++ mend l.below (drop l.class-index l.class-items))
    × (slot_count (mend None l.initial.class-items) ≡ l.count + slot_count (mend l.below (drop l.class-index l.class-items)))
    × (sses_in (mend None l.initial.class-items) ≡ l.floats + sses_in (mend l.below (drop l.class-index l.class-items)))
