-- The laws of what an argument after the dots finds and spends: what is passed over for an even start is one that is left, what is spent behind it
-- counts it, and the code's test of an ignored way is the definition's.
use Prim.Native.Nat.{ℕ, ◌+◌, ◌*◌, ◌-◌, ◌%◌, ◌≤◌, min}
use mathlib.Core.Path.{◌≡◌, refl}
use mathlib.Core.Bool.{Bool, true, false, ◌&&◌, cond}
use native.Mathlib.Omega.{arith}
use borrow.Author.Tests.{eq-eqb, ne_eqb, eqb-true, eqb-false}
use lib.Dec.{eqb, leb}
use denote.Enum.Bare.{sameb}
use Rattle.shape.specs.Numbers.{most_word}
use Rattle.shape.specs.Arithmetic.{plus}
use Rattle.describe.specs.declared.Banks.{Banks}
use Rattle.describe.specs.declared.Dots.{Dots}
use Rattle.spend.specs.declared.Decision.{Decision}
use Rattle.spend.specs.declared.Left.{Left}
use Rattle.spend.specs.declared.Way.{Way}
use Rattle.spend.specs.declared.Way.TheVariants.{Ignore, Direct, Pieces, Reference, Memory}
use Rattle.spend.specs.Ways.{spends}
use Rattle.spend.specs.contracts.Way.{the_type}
use Rattle.spend_scalar.specs.Spending.{skip_of}
use Rattle.after_dots.specs.AfterDots.{is_pair, skipped_for, is_ignored, spent_behind}

-- ---- an even start

-- a word less than the alignment is a word exactly where two words are the alignment
pub a_pair : (w size align n : ℕ) → n ≡ align - w → (eqb n w && leb size align) ≡ is_pair w size align
a_pair w size align n en = go (eqb n w) refl
  where
    go : (b : Bool) → eqb n w ≡ b → (b && leb size align) ≡ is_pair w size align
    go true e = let two : align ≡ 2 * w = omega (arith, eqb-true n w e) in rw (two, eq-eqb (2 * w) (2 * w) refl)
    go false e = let other : align ≡ 2 * w → ⊥ = λ (two : align ≡ 2 * w). eqb-false n w e (omega arith) in rw (ne_eqb align (2 * w) other)

module _ (dots : Dots) (B : Banks) (left : Left) (size align : ℕ) where
  pub skipped_fits : skipped_for dots B left size align ≤ left.integer
  unfolding skipped_for skip_of
  skipped_fits = go ((dots.starts_even && is_pair B.integer_width size align) && eqb ((B.integer - left.integer) % 2) 1)
    where
      go : (b : Bool) → cond b (min 1 left.integer) 0 ≤ left.integer
      go true = omega arith
      go false = omega arith

-- ---- what it spends

module _ (I skipped : ℕ) (d : Decision) (ignored : Bool) (ei : ignored ≡ is_ignored d.way) where
  pub behind_passed : ignored ≡ false → (passed : ℕ) → passed ≡ plus skipped d.spent.integers_passed → (n : ℕ) → n ≡ min passed I → I ≤ most_word
      → spends n d.spent.integers_given d.spent.floats_passed d.spent.floats_given ≡ spent_behind I skipped d
  behind_passed h passed ep n en fits =
      let same : n ≡ min (skipped + d.spent.integers_passed) I = omega arith in
      rw (same, ← ei, h)

pub told_ignored : (way : Way) → sameb the_type way Ignore ≡ is_ignored way
told_ignored Ignore = refl
told_ignored Direct = refl
told_ignored Pieces = refl
told_ignored Reference = refl
told_ignored Memory = refl
