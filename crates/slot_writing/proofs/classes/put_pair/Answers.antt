-- `put_pair` writes the slots of no, one or two eightbytes where all of them fit.
use native.Mathlib.Omega.{arith}
use Rattle.slot_writing.proofs.Pair.{put_empty, put_one, put_neither, put_behind, put_both}
use Rattle.slot_writing.proofs.classes.put_pair.Goals as goal

pub returns-then-size-le-EIGHTBYTE : goal.returns-then-size-le-EIGHTBYTE
returns-then-size-le-EIGHTBYTE c =
    let a = c.args in
    put_one a.size a.classes _ _ (omega arith) c.if-size-eq0.false (omega arith) c.put_eightbyte.ensures.1

pub returns-then-not-has_room : goal.returns-then-not-has_room
returns-then-not-has_room c =
    let a = c.args in
    put_neither a.size a.classes _ (omega arith) (omega arith) (omega arith) _ c.room.ensures _ c.has_room.ensures c.if-not-has_room.true-raw

pub put_eightbyte-requires-2 : goal.put_eightbyte-requires-2
put_eightbyte-requires-2 c =
    let a = c.args in
    put_behind a.size a.classes _ (omega arith) (omega arith) (omega arith) _ c.room.ensures _ c.has_room.ensures c.if-not-has_room.false-raw _ c.eq-up.ensures _ _ c.put_eightbyte-next.ensures.0 c.put_eightbyte-next.ensures.1 _ (omega arith)

pub returns : goal.returns
returns c =
    let a = c.args in
    let p = c.put_eightbyte-next in
    put_both a.size a.classes _ (omega arith) (omega arith) (omega arith) _ c.room.ensures _ c.has_room.ensures c.if-not-has_room.false-raw _ c.eq-up.ensures _ _ p.ensures.0 p.ensures.1 _ c.put_eightbyte-2.ensures.1

pub returns-then-size-eq0 : goal.returns-then-size-eq0
returns-then-size-eq0 c = put_empty _ _ _ (omega arith) c.if-size-eq0.true

pub bounds-classes-0 : goal.bounds-classes-0
bounds-classes-0 c = omega arith

pub put_eightbyte-requires : goal.put_eightbyte-requires
put_eightbyte-requires c = omega arith

pub shape_of-out-then-size-le-EIGHTBYTE : goal.shape_of-out-then-size-le-EIGHTBYTE
shape_of-out-then-size-le-EIGHTBYTE c = omega arith

pub has_room-requires : goal.has_room-requires
has_room-requires c = omega arith

pub bounds-classes-1 : goal.bounds-classes-1
bounds-classes-1 c = omega arith

pub bounds-classes-0-2 : goal.bounds-classes-0-2
bounds-classes-0-2 c = omega arith

pub put_eightbyte-next-requires : goal.put_eightbyte-next-requires
put_eightbyte-next-requires c = omega arith

pub bounds-classes-1-2 : goal.bounds-classes-1-2
bounds-classes-1-2 c = omega arith

pub overflow_sub-size : goal.overflow_sub-size
overflow_sub-size c = omega arith

pub shape_of-out : goal.shape_of-out
shape_of-out c = omega arith
