-- The laws of the refusals: the first of two answers decides where it is a refusal.
use Prim.Native.Nat.{ℕ, zero, suc, ◌≤◌, max}
use mathlib.Core.Path.{◌≡◌, refl}
use mathlib.Core.List.{List}
use mathlib.Core.Bool.{Bool, true, false, ◌||◌}
use native.Mathlib.Omega.{arith}
use borrow.Author.Tests.{lt-ltb, le-ltb, ltb-true, ltb-false}
use lib.Dec.{ltb}
use Rattle.shape.specs.declared.Piece.{Piece}
use Rattle.shape.specs.declared.refusals.Refusal.{Refusal}
use Rattle.shape.specs.Lists.{any}
use Rattle.shape.specs.declared.Shape.{Shape}
use Rattle.shape.specs.Numbers.{accepted, bad_extent, most_offset, most_align}
use Rattle.shape.specs.Words.{pieces_of}
use Rattle.shape.specs.Refusals.{number_of}
use Rattle.shape.proofs.Refused.{number_refuses}
use Rattle.checks.specs.Check.{refuse, or_else, unless_refused, pieces_refusal, is_past, extent_refusal, list_refusal, shape_refusal}

-- the first of two answers decides where it is a refusal
pub else_first : (n rest : ℕ) → (n ≡ accepted → ⊥) → n ≡ or_else n rest
else_first zero rest h = absurd (h refl)
else_first (suc n) rest h = refl

pub else_number : (r : Refusal) (rest : ℕ) → number_of r ≡ or_else (number_of r) rest
else_number r rest = else_first (number_of r) rest (number_refuses r)

-- what a refusal leaves: the buffer as it was
pub left_alone : (n : ℕ) (new old : List ℕ) → (n ≡ accepted → ⊥) → old ≡ unless_refused n new old
left_alone zero new old h = absurd (h refl)
left_alone (suc n) new old h = refl

pub number_leaves : (r : Refusal) (new old : List ℕ) → old ≡ unless_refused (number_of r) new old
number_leaves r new old = left_alone (number_of r) new old (number_refuses r)

-- and how answers in a row are grouped makes no difference
pub else_regroup : (a b rest : ℕ) → or_else a (or_else b rest) ≡ or_else (or_else a b) rest
else_regroup zero b rest = refl
else_regroup (suc a) b rest = refl

-- pieces that are left and are to end inside a size, where those before them reach so far
abbrev pub reaching : ℕ → ℕ → List Piece → ℕ
reaching size reach ps = or_else (pieces_refusal ps) (refuse (ltb size reach || any (is_past size) ps) bad_extent accepted)

-- the further of two ends is past the size where one of them is
pub further : (size a b : ℕ) (rest : Bool) → (ltb size a || (ltb size b || rest)) ≡ (ltb size (max a b) || rest)
further size a b rest = go (ltb size a) refl (ltb size b) refl
  where
    go : (x : Bool) → ltb size a ≡ x → (y : Bool) → ltb size b ≡ y → (x || (y || rest)) ≡ (ltb size (max a b) || rest)
    go true ex y ey = rw (lt-ltb size (max a b) (omega (arith, ltb-true size a ex)))
    go false ex true ey = rw (lt-ltb size (max a b) (omega (arith, ltb-true size b ey)))
    go false ex false ey = rw (le-ltb size (max a b) (omega (arith, ltb-false size a ex, ltb-false size b ey)))

-- a shape whose list, size and alignment pass is refused for its pieces, or for where they end
pub shape_pieces : (shape : Shape) (ws : List ℕ) (list : ℕ) → list ≡ list_refusal ws → list ≡ accepted
    → shape.size ≤ most_offset → shape.align ≤ most_align
    → (r : ℕ) → r ≡ or_else (pieces_refusal (pieces_of ws)) (extent_refusal shape.size (pieces_of ws)) → r ≡ shape_refusal shape ws
unfolding shape_refusal
shape_pieces shape ws list el z s a r er = rw (← el, z, le-ltb _ _ s, le-ltb _ _ a, er)
