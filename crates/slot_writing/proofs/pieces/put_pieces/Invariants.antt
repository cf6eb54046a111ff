-- `put_pieces` writes a slot for each piece where they all fit. The invariant: writing the rest from `to` on gives the whole, and there is room for it.
use Prim.Native.Nat.{◌+◌, ◌*◌, ◌≤◌}
use mathlib.Core.Path.{◌≡◌}
use lib.ListN.{length}
use Rattle.shape.specs.Words.{pieces_of, pieces_left, put_at}
use Rattle.slots.specs.Words.{slot_size, words_of, written}
use Rattle.find.specs.Find.{each_piece}
use Rattle.slot_writing.proofs.pieces.put_pieces.Given as goal

abbrev pub invariant-loop-p : goal.invariant-loop-p
invariant-loop-p l = (length l.out ≡ length l.initial.out) × (l.to + slot_size * length (pieces_left l.p-iterator) ≤ length l.out) × (written (each_piece (pieces_of l.words)) l.initial.out ≡ put_at l.out l.to (words_of (each_piece (pieces_left l.p-iterator))))
