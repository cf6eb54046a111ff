-- The laws of a scalar's spending, of two lines of the definitions: what is passed over for an even start, and a float that falls to the integers.
use Prim.Native.Nat.{ℕ, ◌%◌, ◌≤◌, min}
use mathlib.Core.Path.{◌≡◌}
use mathlib.Core.Bool.{Bool, true, ◌&&◌}
use native.Mathlib.Omega.{arith}
use borrow.Author.Tests.{eq-eqb}
use lib.Dec.{eqb}
use Rattle.describe.specs.declared.Scalars.{Scalars}
use Rattle.spend.specs.declared.Left.{Left}
use Rattle.spend.specs.declared.Decision.{Decision}
use Rattle.spend.specs.Spending.{want_of, direct}
use Rattle.spend_scalar.specs.Spending.{skip_of, narrow_float}

-- ---- passed over for an even start

pub skips : (even : Bool) (used left : ℕ) → (even && eqb (used % 2) 1) ≡ true → (n : ℕ) → n ≡ min 1 left → n ≡ skip_of even used left
unfolding skip_of
skips even used left h n en = rw (en, h)

-- ---- a float that a float register holds

module _ (S : Scalars) (left : Left) (size width : ℕ) (r : Decision) (h : left.float ≤ 0) where
  none_left : left.float ≡ 0
  none_left = omega arith

  pub narrow_falls : S.float_falls_to_integers ≡ true → (want : ℕ) → want ≡ want_of size width → r ≡ direct 0 (min want left.integer) 0 0
      → r ≡ narrow_float S left (want_of size width)
  narrow_falls f want ew er = rw (er, ew, f, eq-eqb left.float 0 none_left)
