-- What a search has found, where it found anything: a slot for each piece, how many, and how many of them are floats.
use Prim.Native.Nat.{ℕ, ◌≤◌}
use mathlib.Core.Path.{◌≡◌, refl, ◌∙◌}
use mathlib.Core.List.{List, [], ◌∷◌}
use mathlib.Core.Bool.{Bool, true, false, ◌&&◌, ◌||◌}
use native.Mathlib.Omega.{arith}
use borrow.Author.Tests.{eqb-true}
use lib.Dec.{eqb}
use lib.ListN.{length}
use Rattle.shape.proofs.Bools.{both_true}
use Rattle.shape.specs.declared.Piece.{Piece}
use Rattle.shape.specs.declared.Shape.{Shape}
use Rattle.shape.specs.Numbers.{single, double, x87_extended}
use Rattle.shape.specs.Questions.{all_of, is_all_of}
use Rattle.slots.specs.declared.Slot.{Slot}
use Rattle.slots.specs.Search.{found, nothing}
use Rattle.find.specs.Find.{found_if, floats_at, same_scalar, all_same, homogeneous, is_homogeneous, piece_slot, float_pair, x87_stack, lone_float, floating_mode, complex_float, each_piece}
use Rattle.find.proofs.Each.{kind_float, length_at, at_each_lem, slot_float}
use Rattle.find.proofs.Tests.{Fields, fields, single_or_double}

not_found : (ss : List Slot) → nothing ≡ found ss → ⊥
not_found ss e = let z : ◌≡◌ {A = ℕ} 0 1 = cc in omega arith

-- a test that found slots holds, and they are its slots
found_if_lem : (b : Bool) (ss ts : List Slot) → found_if b ss ≡ found ts → (b ≡ true) × (ts ≡ ss)
unfolding found_if
found_if_lem true ss ts e = (refl, cc)
found_if_lem false ss ts e = absurd (not_found ts e)

-- pieces that are one scalar are of one kind
same_kind : (p : Piece) (qs : List Piece) → all_same p qs ≡ true → all_of p.kind qs ≡ true
unfolding all_same all_of
same_kind p [] e = refl
same_kind p (q ∷ qs) e =
    let a = both_true (same_scalar p q) (all_same p qs) e in
    let b = both_true _ (eqb q.align p.align) a.0 in
    let k = both_true (eqb q.kind p.kind) (eqb q.size p.size) b.0 in
    rw (k.0, same_kind p qs a.1)

all_of_lem : (kind : ℕ) (ps : List Piece) → is_all_of kind ps ≡ true → all_of kind ps ≡ true
unfolding is_all_of
all_of_lem kind [] e = absurd (let z : ◌≡◌ {A = ℕ} 0 1 = cc in omega arith)
all_of_lem kind (p ∷ ps) e = e

-- ---- homogeneous

module _ (limit : ℕ) (shape : Shape) where
  -- the first piece and the test that it passed
  record First (ps : List Piece) (ss : List Slot) : Type 0 where
    piece : Piece
    slots : ss ≡ floats_at piece.kind ps
    fields : Fields limit shape piece ps

  first : (ps : List Piece) (ss : List Slot) → homogeneous limit shape ps ≡ found ss → First ps ss
  unfolding homogeneous
  first [] ss e = absurd (not_found ss e)
  first (p ∷ ps) ss e =
      let x = found_if_lem (is_homogeneous limit shape p (p ∷ ps)) (floats_at p.kind (p ∷ ps)) ss e in
      record { piece = p; slots = x.1; fields = fields limit shape p (p ∷ ps) x.0 }

  module _ (ps : List Piece) (ss : List Slot) (e : homogeneous limit shape ps ≡ found ss) where
    pub homogeneous_slots : ss ≡ each_piece ps
    homogeneous_slots =
        let f = first ps ss e in
        f.slots ∙ at_each_lem f.piece.kind ps f.fields.float (same_kind f.piece ps f.fields.same)

    pub homogeneous_few : length ss ≤ limit
    homogeneous_few = let f = first ps ss e in rw (f.slots, length_at) f.fields.few

-- ---- float_pair

module _ (iw fw : ℕ) where
  pub pair_slots : (ps : List Piece) (ss : List Slot) → float_pair iw fw ps ≡ found ss → ss ≡ each_piece ps
  unfolding float_pair each_piece
  pair_slots [] ss e = absurd (not_found ss e)
  pair_slots (p ∷ []) ss e = (found_if_lem _ (piece_slot p ∷ []) ss e).1
  pair_slots (p ∷ q ∷ []) ss e = (found_if_lem _ (piece_slot p ∷ piece_slot q ∷ []) ss e).1
  pair_slots (p ∷ q ∷ r ∷ ps) ss e = absurd (not_found ss e)

  pub pair_few : (ps : List Piece) (ss : List Slot) → float_pair iw fw ps ≡ found ss → length ss ≤ 2
  unfolding float_pair
  pair_few [] ss e = absurd (not_found ss e)
  pair_few (p ∷ []) ss e = rw (found_if_lem _ (piece_slot p ∷ []) ss e).1 (omega arith)
  pair_few (p ∷ q ∷ []) ss e = rw (found_if_lem _ (piece_slot p ∷ piece_slot q ∷ []) ss e).1 (omega arith)
  pair_few (p ∷ q ∷ r ∷ ps) ss e = absurd (not_found ss e)

-- ---- x87_stack

one_or_two : (n : ℕ) (b : Bool) → eqb n 1 || eqb n 2 && b ≡ true → n ≤ 2
one_or_two n b e = go (eqb n 1) (eqb n 2) refl refl e
  where
    go : (x y : Bool) → eqb n 1 ≡ x → eqb n 2 ≡ y → x || y && b ≡ true → n ≤ 2
    go true y o t h = let k : n ≡ 1 = eqb-true _ _ o in omega arith
    go false true o t h = let k : n ≡ 2 = eqb-true _ _ t in omega arith
    go false false o t h = absurd (let z : ◌≡◌ {A = ℕ} 0 1 = cc in omega arith)

module _ (shape : Shape) (ps : List Piece) (ss : List Slot) (e : x87_stack shape ps ≡ found ss) where
  holds : (is_all_of x87_extended ps && (eqb (length ps) 1 || eqb (length ps) 2 && shape.complex) ≡ true) × (ss ≡ floats_at x87_extended ps)
  unfolding x87_stack
  holds = found_if_lem (is_all_of x87_extended ps && (eqb (length ps) 1 || eqb (length ps) 2 && shape.complex)) (floats_at x87_extended ps) ss e

  parts : (is_all_of x87_extended ps ≡ true) × (eqb (length ps) 1 || eqb (length ps) 2 && shape.complex ≡ true)
  parts = both_true (is_all_of x87_extended ps) (eqb (length ps) 1 || eqb (length ps) 2 && shape.complex) holds.0

  pub x87_slots : ss ≡ each_piece ps
  x87_slots = holds.1 ∙ at_each_lem x87_extended ps refl (all_of_lem x87_extended ps parts.0)

  pub x87_few : length ss ≤ 2
  x87_few = rw (holds.1, length_at) (one_or_two (length ps) shape.complex parts.1)

-- ---- lone_float

pub lone_slots : (ps : List Piece) (ss : List Slot) → lone_float ps ≡ found ss → ss ≡ each_piece ps
unfolding lone_float each_piece
lone_slots [] ss e = absurd (not_found ss e)
lone_slots (p ∷ []) ss e =
    let x = found_if_lem (eqb p.kind single || eqb p.kind double) _ ss e in
    rw (x.1, slot_float p (kind_float p.kind (single_or_double p.kind x.0)))
lone_slots (p ∷ q ∷ ps) ss e = absurd (not_found ss e)

pub lone_one : (ps : List Piece) (ss : List Slot) → lone_float ps ≡ found ss → length ss ≡ 1
unfolding lone_float
lone_one [] ss e = absurd (not_found ss e)
lone_one (p ∷ []) ss e = rw (found_if_lem (eqb p.kind single || eqb p.kind double) _ ss e).1
lone_one (p ∷ q ∷ ps) ss e = absurd (not_found ss e)

-- ---- floating_mode, complex_float

pub mode_slots : (shape : Shape) (ss : List Slot) → floating_mode shape ≡ found ss → ss ≡ []
unfolding floating_mode
mode_slots shape ss e = (found_if_lem _ [] ss e).1

pub complex_slots : (shape : Shape) (ps : List Piece) (ss : List Slot) → complex_float shape ps ≡ found ss → ss ≡ []
unfolding complex_float
complex_slots shape ps ss e = (found_if_lem _ [] ss e).1
