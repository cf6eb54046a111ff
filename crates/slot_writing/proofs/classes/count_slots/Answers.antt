use Prim.Native.Nat.{◌≤◌}
use mathlib.Core.Path.{sym}
use lib.ListN.{take}
use native.Mathlib.Nat.{zero-add}
use Rattle.eightbytes.proofs.Counts.{one_at_most}
use Rattle.slot_writing.proofs.Put.{count_end, count_turn}
use native.Mathlib.Omega.{arith}
use Rattle.slot_writing.proofs.classes.count_slots.Goals as goal

pub loop-class-preserved : goal.loop-class-preserved
loop-class-preserved c =
    let l = c.loop-class in
    let xs = take c.args.n c.args.classes in
    let one : c.from-count.result ≤ 1 = one_at_most _ _ c.from-count.ensures in
    (omega arith, count_turn xs l.class-index _ l.count _ _ l.invariant.1 (omega arith) c.ne.ensures c.from-count.ensures)

pub loop-class-init : goal.loop-class-init
loop-class-init c = (omega arith, sym (zero-add _))

pub overflow_add-count : goal.overflow_add-count
overflow_add-count c = let one : c.from-count.result ≤ 1 = one_at_most _ _ c.from-count.ensures in omega arith

pub returns : goal.returns
returns c = search (count_end)
