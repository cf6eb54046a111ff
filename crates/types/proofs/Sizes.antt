-- The laws of a type's size and alignment, and of numbers that stay within 64 bits.
use Prim.Native.Nat.{ℕ, zero, suc, ◌+◌, ◌-◌, ◌*◌, ◌/◌, ◌≤◌, ◌<◌, min, max}
use mathlib.Core.Path.{◌≡◌, refl, ap, sym, ◌∙◌}
use mathlib.Core.Logic.{⊎_elim}
use native.Mathlib.Nat.{mul_assoc, suc-mul, zero-mul}
use native.Mathlib.Omega.{arith}
use borrow.Author.Tests.{lt-ltb, le-ltb}
use lib.Dec.{ltb}
use Rattle.shape.specs.Numbers.{most_word, most_offset}
use Rattle.shape.specs.Arithmetic.{round_up}
use Rattle.shape.proofs.Rounding.{round_least, round_beside, round_zero, round_again, at_most}
use Rattle.types.specs.Tree.{Tree, Forest, leaf, group, array, empty, child, align_of, largest_in, reach, last_reach, size_of, furthest_in, reach_of, takes_of}

pub max_regroup : (a b c : ℕ) → max (max a b) c ≡ max a (max b c)
max_regroup a b c = omega arith

-- ---- within 64 bits

-- a product of what was held to a limit is held to it, as the product is
pub times_sat : (n x w : ℕ) → min (n * min x w) w ≡ min (n * x) w
times_sat zero x w = rw (zero-mul x, zero-mul (min x w))
times_sat (suc n) x w = ⊎_elim
    (λ (h : x ≤ w). let e : min x w ≡ x = omega arith in rw e)
    (λ (h : w < x). omega (arith, suc-mul n x, suc-mul n (min x w)))
    (at_most x w)

pub limit_sat : (x : ℕ) → ltb most_offset (min x most_word) ≡ ltb most_offset x
limit_sat x = ⊎_elim
    (λ (h : x ≤ most_offset). le-ltb most_offset (min x most_word) (omega arith) ∙ sym (le-ltb most_offset x h))
    (λ (h : most_offset < x). lt-ltb most_offset (min x most_word) (omega arith) ∙ sym (lt-ltb most_offset x h))
    (at_most x most_offset)

-- ---- alignments and sizes

mutual
  unfolding align_of

  pub align_some : (t : Tree) → 1 ≤ align_of t
  align_some (leaf s) = omega arith
  align_some (group f) = largest_some f
  align_some (array t n) = align_some t

  pub largest_some : (f : Forest) → 1 ≤ largest_in f
  largest_some empty = omega arith
  largest_some (child o t f) = let h : 1 ≤ largest_in f = largest_some f in omega arith

-- every size is its reach rounded up
pub size_reach : (t : Tree) → size_of t ≡ round_up (reach_of t) (align_of t)
unfolding size_of align_of reach
size_reach (leaf s) = refl
size_reach (group f) = sym (round_again (largest_in f) (largest_some f) (furthest_in f))
size_reach (array t n) = sym (round_again (align_of t) (align_some t) (last_reach (size_of t) (reach_of t) n))

pub reach_size : (t : Tree) → reach_of t ≤ size_of t
reach_size t = let e : size_of t ≡ round_up (reach_of t) (align_of t) = size_reach t in omega (arith, round_least (reach_of t) (align_of t) (align_some t))

pub takes_reach : (t : Tree) → takes_of t ≤ reach_of t
unfolding takes_of reach
takes_reach (leaf s) = omega arith
takes_reach (group f) = omega arith
takes_reach (array t n) = omega arith

-- so many elements, a rounded size apart, have so many rounded sizes
module _ (t : Tree) where
  size_multiple : (n : ℕ) → n * size_of t ≡ n * ((reach_of t + (align_of t - 1)) / align_of t) * align_of t
  unfolding round_up
  size_multiple n = ap (λ (s : ℕ). n * s) (size_reach t) ∙ sym (mul_assoc n ((reach_of t + (align_of t - 1)) / align_of t) (align_of t))

  pub array_size : (n : ℕ) → size_of (array t n) ≡ n * size_of t
  unfolding size_of last_reach
  array_size zero = round_zero (align_of t) (align_some t) ∙ sym (zero-mul (size_of t))
  array_size (suc n) =
      let k : ℕ = n * ((reach_of t + (align_of t - 1)) / align_of t) in
      let s : suc n * size_of t ≡ n * size_of t + size_of t = suc-mul n (size_of t) in
      rw (size_multiple n) (round_beside (reach_of t) (align_of t) (align_some t) k ∙ rw (← size_reach t, ← size_multiple n) (sym s))
