-- The laws of rounding up, and of sums, products and roundings that stay within 64 bits.
use Prim.Native.Nat.{ℕ, suc, ◌+◌, ◌-◌, ◌*◌, ◌/◌, ◌%◌, ◌≤◌, ◌<◌, min, max}
use mathlib.Core.Path.{◌≡◌, refl, ap, sym, ◌∙◌}
use mathlib.Core.Bool.{Bool, true, false}
use mathlib.Core.Logic.{◌⊎◌, inl, inr, ⊎_elim}
use native.Mathlib.Omega.{arith}
use native.Mathlib.Nat.{div-add-mod', div-mul-le_self, mod-lt, suc-mul, mul-le-mul_right, add-mul, add-mul-div_right}
use borrow.Author.Tests.{ltb-true, ltb-false}
use lib.Arith.{digits_div}
use lib.Dec.{ltb}
use Rattle.shape.specs.Numbers.{most_word}
use Rattle.shape.specs.Arithmetic.{times, round_up, rounded}

module _ (n a : ℕ) (p : 0 < a) where
  pub over_less : n % a < a
  over_less = mod-lt n p

  pub round_exact : n % a ≡ 0 → n ≡ round_up n a
  unfolding round_up
  round_exact z =
      let d : n / a * a + n % a ≡ n = div-add-mod' n a in
      let e : n + (a - 1) ≡ n / a * a + (a - 1) = omega arith in
      let k : (n / a * a + (a - 1)) / a ≡ n / a = digits_div (n / a) {m = a} {r = a - 1} (omega arith) in
      rw (e, k) (omega arith)

  pub round_over : (n % a ≡ 0 → ⊥) → n + (a - n % a) ≡ round_up n a
  unfolding round_up
  round_over z =
      let l : n % a < a = over_less in
      let d : n / a * a + n % a ≡ n = div-add-mod' n a in
      let m : suc (n / a) * a ≡ n / a * a + a = suc-mul (n / a) a in
      let e : n + (a - 1) ≡ suc (n / a) * a + (n % a - 1) = omega arith in
      let k : (suc (n / a) * a + (n % a - 1)) / a ≡ suc (n / a) = digits_div (suc (n / a)) {m = a} {r = n % a - 1} (omega arith) in
      rw (e, k) (omega arith)

  pub round_least : n ≤ round_up n a
  unfolding round_up
  round_least = omega (arith, div-add-mod' (n + (a - 1)) a, mod-lt (n + (a - 1)) p)

  pub round_bound : round_up n a < n + a
  unfolding round_up
  round_bound = omega (arith, div-mul-le_self (n + (a - 1)) a)

  -- a multiple of `a` beside what is rounded stays as it is
  pub round_beside : (k : ℕ) → round_up (k * a + n) a ≡ k * a + round_up n a
  unfolding round_up
  round_beside k =
      let e : k * a + n + (a - 1) ≡ n + (a - 1) + k * a = omega arith in
      rw (e, add-mul-div_right (n + (a - 1)) k p, add-mul ((n + (a - 1)) / a) k a) (omega arith)

module _ (a : ℕ) (p : 0 < a) where
  pub round_zero : round_up 0 a ≡ 0
  round_zero = let z : 0 % a ≡ 0 = omega (arith, div-add-mod' 0 a) in sym (round_exact 0 a p z)

  -- a multiple is its own next one
  pub round_times : (k : ℕ) → round_up (k * a) a ≡ k * a
  round_times k =
      let e : k * a ≡ k * a + 0 = omega arith in
      ap (λ (n : ℕ). round_up n a) e ∙ round_beside 0 a p k ∙ rw round_zero (sym e)

  pub round_again : (n : ℕ) → round_up (round_up n a) a ≡ round_up n a
  unfolding round_up
  round_again n = round_times ((n + (a - 1)) / a)

-- ---- as `round_up` has it

module _ (n a step : ℕ) (es : step ≡ max a 1) where
  pub rounds_exact : n ≤ most_word → n % step ≡ 0 → n ≡ rounded n a
  rounds_exact w z = let e : n ≡ round_up n step = round_exact n step (omega arith) z in rw (← es, ← e) (omega arith)

  pub rounds_over : (n % step ≡ 0 → ⊥) → (r : ℕ) → r ≡ min (n + (step - n % step)) most_word → r ≡ rounded n a
  rounds_over z r er = rw (← es, ← round_over n step (omega arith) z) er

-- where the multiple is within 64 bits, that is what `round_up` answers
pub round_within : (n a r : ℕ) → r ≡ rounded n a → n + max a 1 ≤ most_word → r ≡ round_up n (max a 1)
round_within n a r er h = er ∙ omega (arith, round_bound n (max a 1) (omega arith))

-- ---- as `product` has it

pub product_none : (a b : ℕ) → b ≡ 0 → 0 ≡ times a b
product_none a b h = rw h (omega arith)

module _ (a b : ℕ) (nz : b ≡ 0 → ⊥) where
  pub product_past : most_word / b < a → most_word ≡ times a b
  product_past h =
      let m : suc (most_word / b) * b ≤ a * b = mul-le-mul_right b h in
      let s : suc (most_word / b) * b ≡ most_word / b * b + b = suc-mul (most_word / b) b in
      omega (arith, div-add-mod' most_word b, mod-lt most_word {m = b} (omega arith))

  pub product_fits : a ≤ most_word / b → a * b ≤ most_word
  product_fits h = let m : a * b ≤ most_word / b * b = mul-le-mul_right b h in omega (arith, div-mul-le_self most_word b)

  pub product_is : a ≤ most_word / b → a * b ≡ times a b
  product_is h = let m : a * b ≤ most_word = product_fits h in omega arith

-- ---- what was held to 64 bits before

pub at_most : (x y : ℕ) → (x ≤ y) ⊎ (y < x)
at_most x y = go (ltb y x) refl
  where
    go : (b : Bool) → ltb y x ≡ b → (x ≤ y) ⊎ (y < x)
    go true e = inr (ltb-true y x e)
    go false e = inl (ltb-false y x e)

pub round_sat : (x a : ℕ) → 0 < a → min (round_up (min x most_word) a) most_word ≡ min (round_up x a) most_word
round_sat x a p = ⊎_elim
    (λ (h : x ≤ most_word). let e : min x most_word ≡ x = omega arith in rw e)
    (λ (h : most_word < x). omega (arith, round_least (min x most_word) a p, round_least x a p))
    (at_most x most_word)
