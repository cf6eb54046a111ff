-- `count_slots` counts the classes that have a slot. The invariant: what is counted and what is left make the whole.
use Prim.Native.Nat.{◌+◌, ◌≤◌}
use mathlib.Core.Path.{◌≡◌}
use lib.ListN.{drop}
use Rattle.eightbytes.specs.Eightbytes.{slot_count}
use Rattle.slot_writing.proofs.classes.count_slots.Given as goal

abbrev pub invariant-loop-class : goal.invariant-loop-class
invariant-loop-class l = (l.count ≤ l.class-index) × (slot_count l.class-items ≡ l.count + slot_count (drop l.class-index l.class-items))
