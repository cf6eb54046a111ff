-- The printed digits of a number give the number back, so no two numbers are printed alike.
use Prim.Native.Nat.{ℕ, zero, suc, ◌+◌, ◌-◌, ◌*◌, ◌/◌, ◌%◌, ◌<◌}
use mathlib.Core.Path.{◌≡◌, refl, sym, ap, ◌∙◌}
use mathlib.Core.List.{List, [], ◌∷◌, ◌++◌}
use mathlib.Core.Bool.{Bool, true, false, cond}
use native.Mathlib.Omega.{arith}
use lib.Dec.{ltb}
use Rattle.text.specs.Numbers.{digit_of, decimal_in, decimal, most_digits}

-- a text of digits, read from the left behind the number that was read before
unfoldable pub read_behind : ℕ → List ℕ → ℕ
read_behind n [] = n
read_behind n (d ∷ ds) = read_behind (n * 10 + (d - digit_of 0)) ds

abbrev pub read : List ℕ → ℕ
read text = read_behind 0 text

-- how many numbers so many digits can say
unfoldable tens : ℕ → ℕ
tens zero = 1
tens (suc k) = tens k * 10

read_append : (n : ℕ) (xs ys : List ℕ) → read_behind n (xs ++ ys) ≡ read_behind (read_behind n xs) ys
unfolding read_behind
read_append n [] ys = refl
read_append n (x ∷ xs) ys = read_append (n * 10 + (x - digit_of 0)) xs ys

-- the last digit, and those before it
read_by : (b : Bool) (k n : ℕ) → read (decimal_in k (n / 10)) ≡ n / 10
    → read (cond b (digit_of n ∷ []) (decimal_in k (n / 10) ++ (digit_of (n % 10) ∷ []))) ≡ n
unfolding read_behind
read_by true k n e = omega arith
read_by false k n e = read_append 0 (decimal_in k (n / 10)) (digit_of (n % 10) ∷ []) ∙ rw e (omega arith)

read_digits : (k n : ℕ) → n < tens k → read (decimal_in k n) ≡ n
unfolding decimal_in tens read_behind
read_digits zero n h = omega arith
read_digits (suc k) n h =
    let i : n / 10 < tens k = omega arith in read_by (ltb n 10) k n (read_digits k (n / 10) i)

-- a number of 64 bits is read back from its digits
pub decimal_back : (n : ℕ) → n < 18446744073709551616 → read (decimal n) ≡ n
unfolding tens
decimal_back n h =
    let all : tens most_digits ≡ 100000000000000000000 = refl in read_digits most_digits n (omega arith)

-- so two numbers with the same digits are the same
pub decimal_one : (m n : ℕ) → m < 18446744073709551616 → n < 18446744073709551616 → decimal m ≡ decimal n → m ≡ n
decimal_one m n h k e = sym (decimal_back m h) ∙ ap read e ∙ decimal_back n k
