use mathlib.Core.Path.{refl}
use Rattle.slot_writing.proofs.EachPiece.{each_short, each_room, each_start, each_end, each_left, each_next}
use native.Mathlib.Omega.{arith}
use Rattle.slot_writing.proofs.pieces.put_pieces.Goals as goal

pub loop-p-preserved : goal.loop-p-preserved
loop-p-preserved c =
    let l = c.loop-p.invariant in
    let st = c.in-Some.ensures.steps in (
      omega arith,
      omega (arith, each_left _ _ _ _ l.1 l.2 _ _ st),
      each_next _ _ _ _ l.1 l.2 _ _ st _ c.slot_of.ensures _ c.put_slot.ensures,
    )

pub returns-then-words-room : goal.returns-then-words-room
returns-then-words-room c = search (each_short)

pub loop-p-init : goal.loop-p-init
loop-p-init c = (refl, rw (c.into_iter-p-iterator.ensures.into_iter_gives, c.each_piece-p-items.ensures) (search (each_room)), rw (c.into_iter-p-iterator.ensures.into_iter_gives, c.each_piece-p-items.ensures) (each_start _ _))

pub returns : goal.returns
returns c = let l = c.loop-p.invariant in each_end _ _ _ _ l.1 l.2 c.in-None.ensures.steps.0
