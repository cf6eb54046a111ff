-- The pieces of a type, depth first, from a place on: one for each leaf path, its scalar at the sum of its parents' offsets.
use Prim.Native.Nat.{ℕ, zero, suc, ◌+◌, ◌*◌}
use mathlib.Core.Path.{◌≡◌, refl, ap, sym, ◌∙◌}
use mathlib.Core.List.{List, [], ◌∷◌, ◌++◌, map}
use native.Mathlib.Nat.{zero-add, suc-mul, zero-mul}
use native.Mathlib.Omega.{arith}
use lib.ListN.{length, length-append, length-map}
use Rattle.shape.specs.declared.Piece.{Piece}
use Rattle.types.specs.Tree.{Tree, Forest, leaf, group, array, empty, child, size_of, leaves_of, leaves_in}
use Rattle.flatten.specs.Leaves.{offset_at, child_offset, scalar_at_end, child_scalar, under, element_paths, leaf_paths, forest_paths, piece_of, leaf_piece, leaf_pieces}

-- n elements' pieces, a size apart
unfoldable pub element_pieces : (ℕ → List Piece) → ℕ → ℕ → ℕ → List Piece
element_pieces g size base zero = []
element_pieces g size base (suc n) = g base ++ element_pieces g size (base + size) n

unfoldable mutual
  pub tree_pieces : Tree → ℕ → List Piece
  tree_pieces (leaf s) base = piece_of s base ∷ []
  tree_pieces (group f) base = forest_pieces f base
  tree_pieces (array t n) base = element_pieces (tree_pieces t) (size_of t) base n

  pub forest_pieces : Forest → ℕ → List Piece
  forest_pieces empty base = []
  forest_pieces (child o t f) base = tree_pieces t (base + o) ++ forest_pieces f base

-- ---- as many as there are leaves

elements_count : (g : ℕ → List Piece) (size k : ℕ) → ((b : ℕ) → length (g b) ≡ k) → (n base : ℕ) → length (element_pieces g size base n) ≡ n * k
unfolding element_pieces
elements_count g size k h zero base = sym (zero-mul k)
elements_count g size k h (suc n) base =
    let r : length (element_pieces g size (base + size) n) ≡ n * k = elements_count g size k h n (base + size) in
    let b : length (g base) ≡ k = h base in
    length-append (g base) (element_pieces g size (base + size) n) ∙ omega (arith, suc-mul n k)

mutual
  unfolding tree_pieces leaves_of

  pub pieces_count : (t : Tree) (base : ℕ) → length (tree_pieces t base) ≡ leaves_of t
  pieces_count (leaf s) base = refl
  pieces_count (group f) base = forest_count f base
  pieces_count (array t n) base = elements_count (tree_pieces t) (size_of t) (leaves_of t) (pieces_count t) n base

  forest_count : (f : Forest) (base : ℕ) → length (forest_pieces f base) ≡ leaves_in f
  forest_count empty base = refl
  forest_count (child o t f) base =
      let a : length (tree_pieces t (base + o)) ≡ leaves_of t = pieces_count t (base + o) in
      let b : length (forest_pieces f base) ≡ leaves_in f = forest_count f base in
      length-append (tree_pieces t (base + o)) (forest_pieces f base) ∙ omega arith

no_length : (ps : List Piece) → length ps ≡ 0 → ps ≡ []
no_length [] h = refl
no_length (p ∷ ps) h = absurd (omega arith)

pub no_leaves : (t : Tree) (base : ℕ) → leaves_of t ≡ 0 → tree_pieces t base ≡ []
no_leaves t base h = no_length (tree_pieces t base) (pieces_count t base ∙ h)

-- ---- one for each leaf path

each_append : (g : List ℕ → Piece) (ps qs : List (List ℕ)) → map g (ps ++ qs) ≡ map g ps ++ map g qs
each_append g [] qs = refl
each_append g (p ∷ ps) qs = ap (λ (l : List Piece). g p ∷ l) (each_append g ps qs)

each_under : (g : List ℕ → Piece) (i : ℕ) (ps : List (List ℕ)) → map g (under i ps) ≡ map (λ p. g (i ∷ p)) ps
each_under g i [] = refl
each_under g i (p ∷ ps) = ap (λ (l : List Piece). g (i ∷ p) ∷ l) (each_under g i ps)

-- a first child's paths, and then the others
each_child : (g : List ℕ → Piece) (i : ℕ) (ps qs : List (List ℕ)) (here rest : List Piece) → here ≡ map (λ p. g (i ∷ p)) ps → rest ≡ map g qs
    → here ++ rest ≡ map g (under i ps ++ qs)
each_child g i ps qs here rest ea eb = rw (ea, eb) (sym (each_append g (under i ps) qs ∙ rw (each_under g i ps)))

-- the piece at the end of a path, from a place on
abbrev piece_from : Tree → ℕ → List ℕ → Piece
piece_from t base p = piece_of (scalar_at_end t p) (base + offset_at t p)

-- elements from number j on
elements_each : (t : Tree) (g : List ℕ → Piece)
    → ((base : ℕ) (k : List ℕ → Piece) → ((p : List ℕ) → k p ≡ piece_from t base p) → tree_pieces t base ≡ map k (leaf_paths t))
    → (n j base : ℕ) → ((i : ℕ) (p : List ℕ) → g ((j + i) ∷ p) ≡ piece_of (scalar_at_end t p) (base + (i * size_of t + offset_at t p)))
    → element_pieces (tree_pieces t) (size_of t) base n ≡ map g (element_paths (leaf_paths t) j n)
unfolding element_pieces element_paths
elements_each t g one zero j base h = refl
elements_each t g one (suc n) j base h =
    let z : j ≡ j + 0 = omega arith in
    let a = one base (λ p. g (j ∷ p))
    (λ p. ap (λ (k : ℕ). g (k ∷ p)) z ∙ h 0 p ∙ ap (λ (k : ℕ). piece_of (scalar_at_end t p) (base + k)) (rw (zero-mul (size_of t)) (zero-add (offset_at t p)))) in
    let b = elements_each t g one n (suc j) (base + size_of t)
    (λ i p. ap (λ (k : ℕ). g (k ∷ p)) (omega arith) ∙ h (suc i) p
    ∙ ap (λ (k : ℕ). piece_of (scalar_at_end t p) k) (omega (arith, suc-mul i (size_of t)))) in
    each_child g j (leaf_paths t) (element_paths (leaf_paths t) (suc j) n) _ _ a b

mutual
  unfolding tree_pieces leaf_paths scalar_at_end offset_at

  tree_each : (t : Tree) (base : ℕ) (g : List ℕ → Piece) → ((p : List ℕ) → g p ≡ piece_from t base p) → tree_pieces t base ≡ map g (leaf_paths t)
  tree_each (leaf s) base g h = let z : base + 0 ≡ base = omega arith in rw (h [], z)
  tree_each (group f) base g h = forest_each f 0 base g (λ i p. rw zero-add (h (i ∷ p)))
  tree_each (array t n) base g h = elements_each t g (λ b k q. tree_each t b k q) n 0 base (λ i p. rw zero-add (h (i ∷ p)))

  -- children from number j on
  forest_each : (f : Forest) (j base : ℕ) (g : List ℕ → Piece) → ((i : ℕ) (p : List ℕ) → g ((j + i) ∷ p) ≡ piece_of (child_scalar f i p) (base + child_offset f i p))
      → forest_pieces f base ≡ map g (forest_paths f j)
  forest_each empty j base g h = refl
  forest_each (child o t f) j base g h =
      let z : j ≡ j + 0 = omega arith in
      let a : tree_pieces t (base + o) ≡ map (λ p. g (j ∷ p)) (leaf_paths t) =
      tree_each t (base + o) (λ p. g (j ∷ p)) (λ p. ap (λ (k : ℕ). g (k ∷ p)) z ∙ h 0 p ∙ ap (λ (k : ℕ). piece_of (scalar_at_end t p) k) (omega arith)) in
      let b : forest_pieces f base ≡ map g (forest_paths f (suc j)) =
      forest_each f (suc j) base g (λ i p. ap (λ (k : ℕ). g (k ∷ p)) (omega arith) ∙ h (suc i) p) in
      each_child g j (leaf_paths t) (forest_paths f (suc j)) _ _ a b

pub each_leaf : (t : Tree) → tree_pieces t 0 ≡ leaf_pieces t
each_leaf t = tree_each t 0 (leaf_piece t) (λ p. ap (λ (k : ℕ). piece_of (scalar_at_end t p) k) (sym (zero-add (offset_at t p))))

-- as many leaves are counted as there are leaf paths
pub leaves_counted : (t : Tree) → length (leaf_paths t) ≡ leaves_of t
leaves_counted t = sym (length-map (leaf_paths t) (leaf_piece t)) ∙ ap length (sym (each_leaf t)) ∙ pieces_count t 0

pub length_leaves : (t : Tree) → length (leaf_pieces t) ≡ leaves_of t
length_leaves t = length-map (leaf_paths t) (leaf_piece t) ∙ leaves_counted t
