-- The digits of a number, one by one, and a number behind its mark.
use Prim.Native.Nat.{ℕ, zero, suc, ◌+◌, ◌-◌, ◌/◌, ◌%◌, ◌≤◌, ◌<◌}
use mathlib.Core.Path.{◌≡◌, refl}
use mathlib.Core.List.{List, [], ◌∷◌, ◌++◌}
use mathlib.Core.Bool.{Bool, true, false, cond}
use native.Mathlib.Omega.{arith}
use borrow.Author.Tests.{lt-ltb, le-ltb, le-leb, lt-leb}
use lib.Dec.{ltb}
use lib.ListN.{length, length-append}
use Rattle.text.specs.Text.{Put}
use Rattle.text.specs.Numbers.{digit_of, decimal_in, decimal, most_digits, part, most_part, number_end, number_written}
use Rattle.text.proofs.Putting.{put_then, put_nothing}

bound_by : (b : Bool) (k n : ℕ) → length (decimal_in k (n / 10)) ≤ k
    → length (cond b (digit_of n ∷ []) (decimal_in k (n / 10) ++ (digit_of (n % 10) ∷ []))) ≤ suc k
bound_by true k n h = omega arith
bound_by false k n h = simp length-append (omega arith)

pub digits_bound : (k n : ℕ) → length (decimal_in k n) ≤ k
unfolding decimal_in
digits_bound zero n = omega arith
digits_bound (suc k) n = bound_by (ltb n 10) k n (digits_bound k (n / 10))

pub digits_none : (o : List ℕ) (at k n : ℕ) → at + k ≤ length o → k ≡ 0 → Put o at (decimal_in k n) at o
unfolding decimal_in
digits_none o at k n h e = rw e (put_nothing o at (omega arith))

module _ (o : List ℕ) (at : ℕ) where
  last : (k n r : ℕ) (p : List ℕ) → n < 10 → Put o at (digit_of n ∷ []) r p → Put o at (decimal_in (suc k) n) r p
  unfolding decimal_in
  last k n r p h x = rw (lt-ltb _ _ h) x

  further : (k n : ℕ) (r : ℕ) (p : List ℕ) (t : ℕ) (q : List ℕ) → 10 ≤ n → Put o at (decimal_in k (n / 10)) r p → Put p r (digit_of (n % 10) ∷ []) t q
      → Put o at (decimal_in (suc k) n) t q
  unfolding decimal_in
  further k n r p t q h x y = rw (le-ltb _ _ h) (put_then x y)

  pub digits_last : (k n r : ℕ) (p : List ℕ) (b : ℕ) → (k ≡ 0 → ⊥) → n < 10 → b ≡ digit_of n → Put o at (b ∷ []) r p → Put o at (decimal_in k n) r p
  digits_last zero n r p b z h e x = absurd (z refl)
  digits_last (suc k) n r p b z h e x = last k n r p h (rw e at x)

  pub digits_further : (k n r : ℕ) (p : List ℕ) (t : ℕ) (q : List ℕ) (b : ℕ) → (k ≡ 0 → ⊥) → 10 ≤ n → Put o at (decimal_in (k - 1) (n / 10)) r p
      → b ≡ digit_of (n % 10) → Put p r (b ∷ []) t q → Put o at (decimal_in k n) t q
  digits_further zero n r p t q b z h x e y = absurd (z refl)
  digits_further (suc k) n r p t q b z h x e y =
      let i : suc k - 1 ≡ k = omega arith in further k n r p t q h (rw i at x) (rw e at y)

-- the digits of a number that has one
pub decimal_one_digit : (o : List ℕ) (at n r : ℕ) (p : List ℕ) (b : ℕ) → n < 10 → b ≡ digit_of n → Put o at (b ∷ []) r p → Put o at (decimal n) r p
decimal_one_digit o at n r p b h e x = last o at 19 n r p h (rw e at x)

-- ---- a number behind its mark

pub part_bound : (mark n : ℕ) → length (part mark n) ≤ most_part
part_bound mark n = let h : length (decimal n) ≤ most_digits = digits_bound most_digits n in omega arith

module _ (out : List ℕ) (at mark n : ℕ) where
  pub number_left_out : length out < at + most_part → (at ≡ number_end (length out) at mark n) × (out ≡ number_written out at mark n)
  unfolding number_end number_written
  number_left_out h = (rw (lt-leb _ _ h), rw (lt-leb _ _ h))

  module _ (long : most_part ≤ length out) (early : at ≤ length out - most_part) (r : ℕ) (p : List ℕ) (t : ℕ) (q : List ℕ)
      (x : Put out at (mark ∷ []) r p) (y : Put p r (decimal n) t q) where
    both : Put out at (part mark n) t q
    both = put_then x y

    pub number_end_lem : t ≡ number_end (length out) at mark n
    unfolding number_end
    number_end_lem = rw (le-leb (at + most_part) (length out) (omega arith)) both.ends

    pub number_written_lem : q ≡ number_written out at mark n
    unfolding number_written
    number_written_lem = rw (le-leb (at + most_part) (length out) (omega arith)) both.put

  -- what is appended where there is room
  module _ (room : at + most_part ≤ length out) (r : ℕ) (e : r ≡ number_end (length out) at mark n) where
    ends : r ≡ at + length (part mark n)
    unfolding number_end
    ends = rw (le-leb (at + most_part) (length out) room) at e

    pub number_within : r ≤ at + most_part
    number_within = let k = part_bound mark n in omega (arith, ends)

    pub number_put : (p : List ℕ) → p ≡ number_written out at mark n → Put out at (part mark n) r p
    unfolding number_written
    number_put p w =
        let k = part_bound mark n in
        record { ends = ends; put = rw (le-leb (at + most_part) (length out) room) at w; fits = omega arith }
