-- The leaves of a readable type (REFERENCE 4.5). A path is the numbers of the members and elements from the root down, and a leaf is where one ends at a
-- scalar. Each leaf's piece is its scalar at the sum of the offsets on its path.
use Rattle.std.specs.Prelude.{ℕ, zero, suc, ◌+◌, ◌*◌, ◌<◌, ◌≡◌, Bool, true, false, ◌&&◌, ltb, length, get_or}
use mathlib.Core.List.{List, [], ◌∷◌, ◌++◌, map, Memᴰ}
use Rattle.std.proofs.Math.Option.Option.{some}
use Rattle.std.proofs.Math.ListN.{get_elem?}
use Rattle.shape.specs.declared.Piece.{Piece}
use Rattle.shape.specs.declared.Scalar.{Scalar}
use Rattle.shape.specs.Words.{piece, scalar}
use Rattle.types.specs.Tree.{Tree, Forest, leaf, group, array, empty, child, size_of}

-- whether a path ends at a scalar
unfoldable mutual
  pub ends_at_scalar : Tree → List ℕ → Bool
  ends_at_scalar (leaf s) [] = true
  ends_at_scalar (leaf s) (i ∷ p) = false
  ends_at_scalar (group f) [] = false
  ends_at_scalar (group f) (i ∷ p) = child_ends f i p
  ends_at_scalar (array t n) [] = false
  ends_at_scalar (array t n) (i ∷ p) = ltb i n && ends_at_scalar t p

  pub child_ends : Forest → ℕ → List ℕ → Bool
  child_ends empty i p = false
  child_ends (child o t f) zero p = ends_at_scalar t p
  child_ends (child o t f) (suc i) p = child_ends f i p

-- the scalar at the end of a path; all zeros where there is none
unfoldable mutual
  pub scalar_at_end : Tree → List ℕ → Scalar
  scalar_at_end (leaf s) p = s
  scalar_at_end (group f) [] = scalar 0 0 0
  scalar_at_end (group f) (i ∷ p) = child_scalar f i p
  scalar_at_end (array t n) [] = scalar 0 0 0
  scalar_at_end (array t n) (i ∷ p) = scalar_at_end t p

  pub child_scalar : Forest → ℕ → List ℕ → Scalar
  child_scalar empty i p = scalar 0 0 0
  child_scalar (child o t f) zero p = scalar_at_end t p
  child_scalar (child o t f) (suc i) p = child_scalar f i p

-- the sum of the offsets on a path: a member's own, and of an element as many rounded sizes as stand before it
unfoldable mutual
  pub offset_at : Tree → List ℕ → ℕ
  offset_at (leaf s) p = 0
  offset_at (group f) [] = 0
  offset_at (group f) (i ∷ p) = child_offset f i p
  offset_at (array t n) [] = 0
  offset_at (array t n) (i ∷ p) = i * size_of t + offset_at t p

  pub child_offset : Forest → ℕ → List ℕ → ℕ
  child_offset empty i p = 0
  child_offset (child o t f) zero p = o + offset_at t p
  child_offset (child o t f) (suc i) p = child_offset f i p

-- ---- the leaf paths, from the first member and the first element on

-- each path one step longer
abbrev pub under : ℕ → List (List ℕ) → List (List ℕ)
under i ps = map (λ (p : List ℕ). i ∷ p) ps

-- those of n elements, numbered from i on, each with the same paths inside
unfoldable pub element_paths : List (List ℕ) → ℕ → ℕ → List (List ℕ)
element_paths ps i zero = []
element_paths ps i (suc n) = under i ps ++ element_paths ps (suc i) n

-- a forest's children are numbered from i on
unfoldable mutual
  pub leaf_paths : Tree → List (List ℕ)
  leaf_paths (leaf s) = [] ∷ []
  leaf_paths (group f) = forest_paths f 0
  leaf_paths (array t n) = element_paths (leaf_paths t) 0 n

  pub forest_paths : Forest → ℕ → List (List ℕ)
  forest_paths empty i = []
  forest_paths (child o t f) i = under i (leaf_paths t) ++ forest_paths f (suc i)

-- ---- pieces

abbrev pub piece_of : Scalar → ℕ → Piece
piece_of s o = piece s.kind s.size s.align o

abbrev pub leaf_piece : Tree → List ℕ → Piece
leaf_piece t p = piece_of (scalar_at_end t p) (offset_at t p)

-- one piece for each leaf path, in order
abbrev pub leaf_pieces : Tree → List Piece
leaf_pieces t = map (leaf_piece t) (leaf_paths t)

-- ---- each leaf, one piece

-- these pieces are, in order, one for each leaf of the type
pub record EachLeaf (t : Tree) (ps : List Piece) : Type 0 where
  -- a path is listed exactly where it ends at a scalar
  pub ends : (p : List ℕ) → Memᴰ p (leaf_paths t) → ends_at_scalar t p ≡ true
  pub listed : (p : List ℕ) → ends_at_scalar t p ≡ true → Memᴰ p (leaf_paths t)
  -- and none is listed twice
  pub once : (i j : ℕ) → i < j → j < length (leaf_paths t) → get_or (leaf_paths t) i [] ≡ get_or (leaf_paths t) j [] → ⊥
  -- there are as many pieces as paths, and piece k is the scalar at path k, its kind, size and alignment, at the sum of the offsets on that path
  pub as_many : length ps ≡ length (leaf_paths t)
  pub piece_at : (k : ℕ) → k < length (leaf_paths t) → get_elem? ps k ≡ some (leaf_piece t (get_or (leaf_paths t) k []))
