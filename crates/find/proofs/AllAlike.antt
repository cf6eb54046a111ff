-- The laws of `homogeneous`, each with what the code looked at as premises: what fails decides, and where nothing fails the slots are found; and
-- what float slots of one format are.
use Rattle.std.specs.Prelude.{Some, None}
use Rattle.std.specs.Bool.{then_some}
use Prim.Native.Nat.{ℕ, suc, ◌*◌, ◌/◌, ◌≤◌, ◌<◌}
use mathlib.Core.Path.{◌≡◌, refl, ap, sym, ◌∙◌}
use mathlib.Core.List.{List, [], ◌∷◌}
use mathlib.Core.Bool.{Bool, true, false, ◌&&◌, false≢true}
use native.Mathlib.Omega.{arith}
use borrow.Author.Tests.{le-leb, eq-eqb, ne_eqb, leb-true}
use lib.Dec.{leb, eqb}
use lib.ListN.{length}
use Rattle.shape.proofs.Bools.{both_true, second_fails}
use Rattle.shape.specs.declared.Piece.{Piece}
use Rattle.shape.specs.declared.Shape.{Shape}
use Rattle.shape.specs.Numbers.{integer}
use Rattle.shape.specs.Words.{pieces_of}
use Rattle.shape.specs.Questions.{is_float}
use Rattle.shape.proofs.Words.{length_pieces}
use Rattle.slots.specs.declared.Slot.{Slot}
use Rattle.slots.specs.Search.{counted, floats_in, found_of}
use Rattle.find.specs.Find.{found_if, floats_at, same_scalar, all_same, is_homogeneous, homogeneous}

-- a kind that isn't the integer's is a float's, and the other way round
pub float_kind : (k : ℕ) → (k ≡ integer → ⊥) → is_float k ≡ true
float_kind k h = rw (ne_eqb _ _ h)

pub kind_float : (k : ℕ) → is_float k ≡ true → k ≡ integer → ⊥
kind_float k e z = let f : is_float k ≡ false = rw (eq-eqb _ _ z) in let x : ◌≡◌ {A = ℕ} 0 1 = cc in omega arith

-- ---- float slots of one format

pub length_at : (format : ℕ) (ps : List Piece) → length (floats_at format ps) ≡ length ps
unfolding floats_at
length_at format [] = refl
length_at format (p ∷ ps) = ap suc (length_at format ps)

pub floats_at_lem : (format : ℕ) (ps : List Piece) → is_float format ≡ true → floats_in (floats_at format ps) ≡ length ps
unfolding floats_at floats_in
floats_at_lem format [] f = refl
floats_at_lem format (p ∷ ps) f = let h : floats_in (floats_at format ps) ≡ length ps = floats_at_lem format ps f in rw (f, h) (omega arith)

-- what the code makes of a test that holds where these slots are found, by their counts
pub then_found : (b : Bool) (ss : List Slot) (n k : ℕ) → (b ≡ true → length ss ≡ n) → (b ≡ true → floats_in ss ≡ k)
    → then_some b (counted n k) ≡ found_of (found_if b ss)
unfolding found_if found_of
then_found true ss n k l f = rw (l refl, f refl)
then_found false ss n k l f = refl

-- a test that fails finds nothing
none_found : (b : Bool) (ss : List Slot) → (b ≡ true → ⊥) → None ≡ found_of (found_if b ss)
unfolding found_if found_of
none_found true ss h = absurd (h refl)
none_found false ss h = refl

-- ---- the test

-- what a homogeneous shape has
pub record Fields (limit : ℕ) (shape : Shape) (first : Piece) (ps : List Piece) : Type 0 where
  pub float : is_float first.kind ≡ true
  pub few : length ps ≤ limit
  pub same : all_same first ps ≡ true
  pub fills : eqb (first.size * length ps) shape.size ≡ true

pub fields : (limit : ℕ) (shape : Shape) (first : Piece) (ps : List Piece) → is_homogeneous limit shape first ps ≡ true → Fields limit shape first ps
unfolding is_homogeneous
fields limit shape first ps e =
    let a = both_true _ (eqb (first.size * length ps) shape.size) e in
    let b = both_true _ (all_same first ps) a.0 in
    let c = both_true (is_float first.kind) (leb (length ps) limit) b.0 in
    record { float = c.0; few = leb-true _ _ c.1; same = b.1; fills = a.1 }

same_self : (p : Piece) → same_scalar p p ≡ true
same_self p = rw (eq-eqb p.kind p.kind refl, eq-eqb p.size p.size refl, eq-eqb p.align p.align refl)

module _ (limit : ℕ) (shape : Shape) (ws : List ℕ) where
  pub homogeneous_none : pieces_of ws ≡ [] → None ≡ found_of (homogeneous limit shape (pieces_of ws))
  unfolding homogeneous found_of
  homogeneous_none h = rw h

  pub homogeneous_many : limit < length ws / 4 → None ≡ found_of (homogeneous limit shape (pieces_of ws))
  unfolding homogeneous found_of
  homogeneous_many l = go (pieces_of ws) (length_pieces ws)
    where
      go : (ps : List Piece) → length ps ≡ length ws / 4 → None ≡ found_of (homogeneous limit shape ps)
      go [] n = refl
      go (p ∷ ps) n = none_found _ _ (λ t. let f = (fields limit shape p (p ∷ ps) t).few in omega arith)

  module _ (l : length ws / 4 ≤ limit) (p : Piece) (rest : List Piece) (e : pieces_of ws ≡ p ∷ rest) where
    start : homogeneous limit shape (pieces_of ws) ≡ found_if (is_homogeneous limit shape p (pieces_of ws)) (floats_at p.kind (pieces_of ws))
    unfolding homogeneous
    start = rw e

    module _ (k : Bool) (ek : k ≡ is_float p.kind) where
      pub homogeneous_integer : k ≡ false → None ≡ found_of (homogeneous limit shape (pieces_of ws))
      homogeneous_integer n = rw start (none_found _ _ (λ t. false≢true (sym n ∙ ek ∙ (fields limit shape p (pieces_of ws) t).float)))

      module _ (n : k ≡ true) (f : Bool) (ef : f ≡ eqb (p.size * (length ws / 4)) shape.size) where
        -- the test, once the format and the count have passed
        opened : homogeneous limit shape (pieces_of ws) ≡ found_if (all_same p rest && f) (floats_at p.kind (pieces_of ws))
        unfolding is_homogeneous all_same
        opened =
            let s : all_same p (pieces_of ws) ≡ all_same p rest = rw (e, same_self p) in
            rw (start, ← ek, n, length_pieces, le-leb _ _ l, s, ef)

        pub homogeneous_size : f ≡ false → None ≡ found_of (homogeneous limit shape (pieces_of ws))
        unfolding found_if found_of
        homogeneous_size h = rw (opened, second_fails (all_same p rest) f h)

        module _ (h : f ≡ true) (left : List Piece) (inv : all_same p rest ≡ all_same p left) where
          pub homogeneous_mixed : (q : Piece) (qs : List Piece) → left ≡ q ∷ qs → same_scalar p q ≡ false → None ≡ found_of (homogeneous limit shape (pieces_of ws))
          unfolding found_if found_of all_same
          homogeneous_mixed q qs eq g = rw (opened, inv, eq, g)

          pub homogeneous_found : left ≡ [] → Some (counted (length ws / 4) (length ws / 4)) ≡ found_of (homogeneous limit shape (pieces_of ws))
          unfolding found_if found_of all_same
          homogeneous_found g = rw (opened, inv, g, h, floats_at_lem p.kind (pieces_of ws) (sym ek ∙ n), length_at, length_pieces)

-- a turn of the loop
pub same_turn : (p : Piece) (total : Bool) (left : List Piece) (q : Piece) (qs : List Piece) → total ≡ all_same p left → left ≡ q ∷ qs
    → same_scalar p q ≡ true → total ≡ all_same p qs
unfolding all_same
same_turn p total left q qs inv e g = rw (inv, e, g)
