use mathlib.Core.Path.{refl}
use Rattle.slot_writing.proofs.Put.{put_short, put_start, room_start, room_turn, put_turn, put_end}
use native.Mathlib.Omega.{arith}
use Rattle.slot_writing.proofs.classes.put_classes.Goals as goal

pub returns-then-room-count_slots : goal.returns-then-room-count_slots
returns-then-room-count_slots c =
    let a = c.args in
    put_short a.size _ _ _ a.classes _ c.eightbytes_in-n.ensures (omega arith) c.count_slots.ensures c.room.ensures (omega arith)

pub loop-i-init : goal.loop-i-init
loop-i-init c =
    let a = c.args in
    let n = c.eightbytes_in-n in
    (refl, omega (arith, room_start a.size n.result a.classes _ _ a.out.now c.count_slots.ensures c.room.ensures (omega arith)), put_start a.size _ a.classes _ n.ensures (omega arith))

pub loop-i-preserved : goal.loop-i-preserved
loop-i-preserved c =
    let a = c.args in
    let n = c.eightbytes_in-n in
    let l = c.loop-i in
    let p = c.put_eightbyte-at in
    let u = c.up_at-up.ensures in (
      omega arith,
      room_turn a.size n.result a.classes l.i (omega arith) (omega arith) _ u l.out l.at l.invariant.1 _ p.ensures.0 _ (omega arith),
      put_turn a.size n.result a.classes l.i (omega arith) (omega arith) _ u l.out l.at l.invariant.1 _ p.ensures.0 _ _ l.invariant.2 p.ensures.1,
    )

pub returns : goal.returns
returns c =
    let a = c.args in
    let l = c.loop-i in
    put_end a.size c.eightbytes_in-n.result a.classes l.i l.at _ _ (omega arith) l.invariant.1 l.invariant.2
