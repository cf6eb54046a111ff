-- A readable type (REFERENCE 4.5): a scalar, members at their offsets, or so many of one type. Its alignment, its size, its levels and how many
-- leaves it has. Assumes nothing of limits: these are numbers of any size.
use Rattle.std.specs.Prelude.{ℕ, zero, suc, ◌+◌, ◌*◌, max}
use Rattle.shape.specs.declared.Scalar.{Scalar}
use Rattle.shape.specs.Arithmetic.{round_up}

mutual
  pub data Tree : Type 0 where
    leaf : Scalar → Tree
    group : Forest → Tree
    array : Tree → ℕ → Tree

  pub data Forest : Type 0 where
    empty : Forest
    child : ℕ → Tree → Forest → Forest

-- the largest alignment: 0 or none is 1. An array of 0 has its element's
unfoldable mutual
  pub align_of : Tree → ℕ
  align_of (leaf s) = max s.align 1
  align_of (group f) = largest_in f
  align_of (array t n) = align_of t

  pub largest_in : Forest → ℕ
  largest_in empty = 1
  largest_in (child o t f) = max (align_of t) (largest_in f)

-- how far a type of this size reaches as a member: a scalar as far as itself, where 0 counts as 1; any other to the end of its size
unfoldable pub reach : Tree → ℕ → ℕ
reach (leaf s) size = max s.size 1
reach (group f) size = size
reach (array t n) size = size

-- how far so many elements reach, a size apart
unfoldable pub last_reach : ℕ → ℕ → ℕ → ℕ
last_reach size one zero = 0
last_reach size one (suc n) = n * size + one

-- the furthest end, 0 if there is none, rounded up to the largest alignment
unfoldable mutual
  pub size_of : Tree → ℕ
  size_of (leaf s) = round_up (max s.size 1) (max s.align 1)
  size_of (group f) = round_up (furthest_in f) (largest_in f)
  size_of (array t n) = round_up (last_reach (size_of t) (reach t (size_of t)) n) (align_of t)

  pub furthest_in : Forest → ℕ
  furthest_in empty = 0
  furthest_in (child o t f) = max (o + reach t (size_of t)) (furthest_in f)

abbrev pub reach_of : Tree → ℕ
reach_of t = reach t (size_of t)

-- how far a member moves the next one on: a scalar by its own size, any other by its rounded one
unfoldable pub takes_of : Tree → ℕ
takes_of (leaf s) = s.size
takes_of (group f) = size_of (group f)
takes_of (array t n) = size_of (array t n)

-- a scalar is one level, and what has members or elements one more than the deepest of them. An array of 0 has its element's
unfoldable mutual
  pub levels_of : Tree → ℕ
  levels_of (leaf s) = 1
  levels_of (group f) = suc (levels_in f)
  levels_of (array t n) = suc (levels_of t)

  pub levels_in : Forest → ℕ
  levels_in empty = 0
  levels_in (child o t f) = max (levels_of t) (levels_in f)

unfoldable mutual
  pub leaves_of : Tree → ℕ
  leaves_of (leaf s) = 1
  leaves_of (group f) = leaves_in f
  leaves_of (array t n) = n * leaves_of t

  pub leaves_in : Forest → ℕ
  leaves_in empty = 0
  leaves_in (child o t f) = leaves_of t + leaves_in f
