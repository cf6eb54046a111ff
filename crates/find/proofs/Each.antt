-- The slots of some pieces: each one's own, how many they are, and those of floats that are all of one format.
use Prim.Native.Nat.{ℕ, suc}
use mathlib.Core.Path.{◌≡◌, refl, ap, sym}
use mathlib.Core.List.{List, [], ◌∷◌}
use mathlib.Core.Bool.{Bool, true, false, cond, not}
use borrow.Author.Tests.{eq-eqb, ne_eqb, eqb-true}
use lib.Dec.{eqb}
use lib.ListN.{length}
use Rattle.shape.proofs.Bools.{both_true}
use Rattle.shape.specs.declared.Piece.{Piece}
use Rattle.shape.specs.Numbers.{integer}
use Rattle.shape.specs.Questions.{is_float, all_of}
use Rattle.slots.specs.Words.{integer_slot, float_slot}
use Rattle.find.specs.Find.{floats_at, piece_slot, each_piece}
pub use Rattle.find.proofs.AllAlike.{float_kind, kind_float, length_at, floats_at_lem}

-- ---- each piece's own slot

module _ (p : Piece) where
  pub slot_integer : p.kind ≡ integer → integer_slot p.offset p.size ≡ piece_slot p
  unfolding piece_slot
  slot_integer k = rw (eq-eqb _ _ k)

  pub slot_float : (p.kind ≡ integer → ⊥) → float_slot p.kind p.offset ≡ piece_slot p
  unfolding piece_slot
  slot_float k = rw (ne_eqb _ _ k)

pub slot_kind : (p : Piece) → (piece_slot p).kind ≡ p.kind
unfolding piece_slot
slot_kind p = go (eqb p.kind integer) refl
  where
    go : (b : Bool) → eqb p.kind integer ≡ b → (cond (not b) (float_slot p.kind p.offset) (integer_slot p.offset p.size)).kind ≡ p.kind
    go true e = sym (eqb-true _ _ e)
    go false e = refl

pub length_each : (ps : List Piece) → length (each_piece ps) ≡ length ps
unfolding each_piece
length_each [] = refl
length_each (p ∷ ps) = ap suc (length_each ps)

-- where every piece is of one float format, each piece's slot is a float slot of that format
pub at_each_lem : (format : ℕ) (ps : List Piece) → is_float format ≡ true → all_of format ps ≡ true → floats_at format ps ≡ each_piece ps
unfolding floats_at each_piece all_of
at_each_lem format [] f e = refl
at_each_lem format (p ∷ ps) f e =
    let a = both_true (eqb p.kind format) (all_of format ps) e in
    let k : p.kind ≡ format = eqb-true _ _ a.0 in
    let r : floats_at format ps ≡ each_piece ps = at_each_lem format ps f a.1 in
    let s : float_slot p.kind p.offset ≡ piece_slot p = slot_float p (kind_float p.kind (rw k f)) in
    rw (r, ← s, k)
