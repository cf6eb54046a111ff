-- The last arm of a `match` on the numbers below n: what stands past the end of a list of n is its default.
use mathlib.Core.Path.{◌≡◌, sym}
use mathlib.Core.List.{List}
use Prim.Native.Nat.{ℕ, zero, suc, ◌≤◌}
use native.Mathlib.Omega.{arith}
use lib.ListN.{length, get_or, get_or-eq_default}

-- The number is none of those below n.
abbrev pub NoneOf : ℕ → ℕ → Type 0
NoneOf zero code = Unit
NoneOf (suc n) code = NoneOf n code × (code ≡ n → ⊥)

pub none_below : (n code : ℕ) → NoneOf n code → n ≤ code
none_below zero code h = omega arith
none_below (suc n) code h = let l : n ≤ code = none_below n code h.0 in let ne : code ≡ n → ⊥ = h.1 in omega arith

pub past_end : {A : Type 0} (xs : List A) (code : ℕ) (a : A) → NoneOf (length xs) code → a ≡ get_or xs code a
past_end xs code a h = sym (get_or-eq_default xs a (none_below (length xs) code h))
