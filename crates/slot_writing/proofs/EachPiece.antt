-- How the slots of some pieces are written: `total` is the buffer once the pieces from the place on are written from `to` on.
use Prim.Native.Nat.{ℕ, suc, ◌+◌, ◌*◌, ◌/◌, ◌≤◌, ◌<◌}
use mathlib.Core.Path.{◌≡◌, refl, sym, ◌∙◌}
use mathlib.Core.Bool.{Bool, true, false}
use borrow.Author.Tests.{eqb-true, not-false}
use mathlib.Core.List.{List, [], ◌∷◌}
use native.Mathlib.Omega.{arith}
use lib.ListN.{length}
use Rattle.shape.specs.declared.Piece.{Piece}
use Rattle.shape.specs.Numbers.{integer}
use Rattle.shape.specs.Questions.{is_float}
use Rattle.shape.specs.Words.{pieces_of, put_at}
use Rattle.shape.proofs.Words.{length_pieces}
use Rattle.slots.specs.declared.Slot.{Slot}
use Rattle.slots.specs.Words.{slot, slot_size, slot_words, words_of, written}
use Rattle.shape.proofs.Put.{put_split, put_none}
use Rattle.slots.proofs.Words.{length_words, written_short}
use Rattle.find.specs.Find.{piece_slot, each_piece}
use Rattle.find.proofs.Each.{length_each}

-- the slot of a piece, by whether it is a float
module _ (p : Piece) (b : Bool) (eb : b ≡ is_float p.kind) where
  pub slot_zero : b ≡ true → slot p.kind p.offset 0 ≡ piece_slot p
  unfolding piece_slot
  slot_zero h = rw (← eb, h)

  pub slot_sized : b ≡ false → slot p.kind p.offset p.size ≡ piece_slot p
  unfolding piece_slot
  slot_sized h = let k : p.kind ≡ integer = eqb-true _ _ (not-false _ (sym eb ∙ h)) in rw (← eb, h, k)

module _ (ws out₀ : List ℕ) (room : ℕ) (er : room ≡ length out₀ / slot_size) where
  pub each_short : room < length ws / 4 → out₀ ≡ written (each_piece (pieces_of ws)) out₀
  each_short h = written_short (each_piece (pieces_of ws)) out₀ (omega (arith, length_each (pieces_of ws), length_pieces ws))

  pub each_room : length ws / 4 ≤ room → 0 + slot_size * length (pieces_of ws) ≤ length out₀
  each_room h = omega (arith, length_pieces ws)

pub each_start : (ws out₀ : List ℕ) → written (each_piece (pieces_of ws)) out₀ ≡ put_at out₀ 0 (words_of (each_piece (pieces_of ws)))
unfolding written
each_start ws out₀ = refl

module _ (total : List ℕ) (ps : List Piece) (to : ℕ) (out : List ℕ) (room : to + slot_size * length ps ≤ length out) (inv : total ≡ put_at out to (words_of (each_piece ps))) where
  pub each_end : ps ≡ [] → out ≡ total
  unfolding each_piece words_of
  each_end e = rw (inv, e) (sym (put_none out to (omega arith)))

  module _ (p : Piece) (rest : List Piece) (el : ps ≡ p ∷ rest) where
    pub each_left : to + slot_size + slot_size * length rest ≤ length out
    each_left = let r : to + slot_size * suc (length rest) ≤ length out = rw el at room in omega arith

    pub each_next : (s : Slot) → s ≡ piece_slot p → (out' : List ℕ) → out' ≡ put_at out to (slot_words s)
        → total ≡ put_at out' (to + slot_size) (words_of (each_piece rest))
    unfolding each_piece words_of
    each_next s es out' e =
        let l : length (words_of (each_piece rest)) ≡ slot_size * length (each_piece rest) = length_words (each_piece rest) in
        let k : length (each_piece rest) ≡ length rest = length_each rest in
        rw (inv, el, e, es) (put_split out to (slot_words (piece_slot p)) (words_of (each_piece rest)) (omega (arith, each_left)))
