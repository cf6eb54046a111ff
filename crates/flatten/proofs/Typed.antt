-- The pieces that are written of an entry are those of its type, where the table has the rows of the entries' types and nothing passes 64 bits: a part
-- of a type ends no later than the type.
use Prim.Native.Nat.{ℕ, zero, suc, ◌+◌, ◌*◌, ◌≤◌, ◌<◌, max}
use mathlib.Core.Path.{◌≡◌, refl, ap, sym, ◌∙◌}
use mathlib.Core.Bool.{Bool, true, false}
use mathlib.Core.List.{List, [], ◌∷◌, ◌++◌}
use mathlib.Core.Logic.{⊎_elim}
use native.Mathlib.Nat.{suc-mul}
use native.Mathlib.Omega.{arith}
use borrow.Author.Tests.{lt-ltb, le-ltb, ltb-true}
use lib.Dec.{ltb}
use Rattle.shape.specs.declared.Piece.{Piece}
use Rattle.shape.specs.Lists.{every}
use Rattle.shape.specs.Numbers.{most_word}
use Rattle.shape.specs.Arithmetic.{plus, rounded}
use Rattle.shape.proofs.Bools.{both_true}
use Rattle.shape.proofs.Rounding.{round_least, at_most}
use Rattle.types.specs.declared.Row.{Row}
use Rattle.types.specs.Entries.{Meaning, one, several, repeated, meaning_at, referred, refers_back}
use Rattle.types.specs.Tree.{Tree, leaf, group, array, align_of, reach, last_reach, size_of, furthest_in, reach_of, takes_of, levels_of, levels_in, leaves_of}
use Rattle.types.specs.Trees.{offset_from, laid_out, tree_of, type_at}
use Rattle.types.specs.Table.{row_at, counted, row_of_tree, place_from, Measured}
use Rattle.types.proofs.Types.{own_type}
use Rattle.types.proofs.Sizes.{align_some, largest_some, size_reach, takes_reach, array_size}
use Rattle.flatten.specs.Writing.{if_leaves, over_members, over_elements, step_of, spread, entry_pieces}
use Rattle.flatten.proofs.Pieces.{element_pieces, tree_pieces, forest_pieces, no_leaves}

some_level : (t : Tree) → 1 ≤ levels_of t
unfolding levels_of
some_level (leaf s) = omega arith
some_level (group f) = omega arith
some_level (array t n) = omega arith

-- what has no leaf isn't looked into, and has no piece
where_leaves : (t : Tree) (base : ℕ) (ps : List Piece) → ps ≡ tree_pieces t base → if_leaves (counted (leaves_of t)) ps ≡ tree_pieces t base
where_leaves t base ps e = ⊎_elim
    (λ (h : leaves_of t ≤ 0). rw (le-ltb 0 (counted (leaves_of t)) (omega arith)) (sym (no_leaves t base (omega arith))))
    (λ (h : 0 < leaves_of t). rw (lt-ltb 0 (counted (leaves_of t)) (omega arith)) e)
    (at_most (leaves_of t) 0)

-- a place that is within 64 bits
place_is : (overlaid : Bool) (end a : ℕ) → 1 ≤ a → offset_from overlaid end a ≤ most_word → place_from overlaid end a ≡ offset_from overlaid end a
place_is true end a p h = refl
place_is false end a p h = let m : max a 1 ≡ a = omega arith in rw m (omega arith)

-- elements: `wide` is how far one reaches
module _ (g k : ℕ → List Piece) (size wide base : ℕ) (same : (b : ℕ) → b + wide ≤ most_word → g b ≡ k b) where
  elements_typed : (n end : ℕ) → base + end + last_reach size wide n ≤ most_word → over_elements g size base end n ≡ element_pieces k size (base + end) n
  unfolding over_elements element_pieces last_reach
  elements_typed zero end h = refl
  elements_typed (suc zero) end h =
      let p : plus base end ≡ base + end = omega arith in
      rw (p, same (base + end) (omega arith))
  elements_typed (suc (suc n)) end h =
      let m : suc n * size ≡ n * size + size = suc-mul n size in
      let p : plus base end ≡ base + end = omega arith in
      let q : plus end size ≡ end + size = omega arith in
      let a : base + (end + size) ≡ base + end + size = omega arith in
      let rest : over_elements g size base (end + size) (suc n) ≡ element_pieces k size (base + (end + size)) (suc n) = elements_typed (suc n) (end + size) (omega arith) in
      let here : g (base + end) ≡ k (base + end) = same (base + end) (omega arith) in
      rw (p, q, here) (ap (λ (ps : List Piece). k (base + end) ++ ps) (rest ∙ ap (λ (b : ℕ). element_pieces k size b (suc n)) a))

-- an entry that refers to earlier ones, of which what is written is right
module _ (tb : List ℕ) (T : ℕ → Tree) (e levels : ℕ) (is : (m : ℕ) → m < e → row_at tb m ≡ row_of_tree (T m)) (f : ℕ → ℕ → List Piece)
    (right : (m base : ℕ) → m < e → levels_of (T m) ≤ levels → base + reach_of (T m) ≤ most_word → f m base ≡ tree_pieces (T m) base) where
  members_typed : (overlaid : Bool) (base : ℕ) (l : List ℕ) (end : ℕ) → every (λ m. ltb m e) l ≡ true → levels_in (laid_out T overlaid end l) ≤ levels
      → base + furthest_in (laid_out T overlaid end l) ≤ most_word → over_members f tb overlaid base end l ≡ forest_pieces (laid_out T overlaid end l) base
  unfolding over_members laid_out tree_pieces every levels_of size_of
  members_typed overlaid base [] end back deep h = refl
  members_typed overlaid base (m ∷ l) end back deep h =
      let both = both_true (ltb m e) (every (λ m. ltb m e) l) back in
      let lt : m < e = ltb-true m e both.0 in
      let t : Tree = T m in
      let o : ℕ = offset_from overlaid end (align_of t) in
      let r : row_at tb m ≡ row_of_tree t = is m lt in
      let rt : (row_at tb m).takes ≡ takes_of t = ap (λ (q : Row). q.takes) r in
      let ra : (row_at tb m).align ≡ align_of t = ap (λ (q : Row). q.align) r in
      let rl : (row_at tb m).leaves ≡ counted (leaves_of t) = ap (λ (q : Row). q.leaves) r in
      let p : place_from overlaid end (align_of t) ≡ o = place_is overlaid end (align_of t) (align_some t) (omega arith) in
      let b : plus base o ≡ base + o = omega arith in
      let n : plus o (takes_of t) ≡ o + takes_of t = omega (arith, takes_reach t) in
      let here = where_leaves t (base + o) (f m (base + o)) (right m (base + o) lt (omega arith) (omega arith)) in
      let rest = members_typed overlaid base l (o + takes_of t) both.1 (omega arith) (omega arith) in
      rw (rt, ra, rl, p, b, n, here, rest)

  repeated_typed : (m n base : ℕ) → m < e → levels_of (array (T m) n) ≤ suc levels → base + reach_of (array (T m) n) ≤ most_word
      → over_elements (f m) (step_of tb m) base 0 n ≡ tree_pieces (array (T m) n) base
  unfolding over_elements tree_pieces element_pieces levels_of size_of reach last_reach
  repeated_typed m zero base lt deep h = refl
  repeated_typed m (suc n) base lt deep h =
      let t : Tree = T m in
      let a : max (align_of t) 1 ≡ align_of t = omega (arith, align_some t) in
      let z : base + 0 ≡ base = omega arith in
      let far : last_reach (size_of t) (reach_of t) (suc n) ≤ reach_of (array t (suc n)) = round_least (last_reach (size_of t) (reach_of t) (suc n)) (align_of t) (align_some t) in
      let w : size_of t ≤ reach_of (array t (suc n)) = omega (arith, array_size t (suc n), suc-mul n (size_of t)) in
      let s : step_of tb m ≡ size_of t = ap (λ (q : Row). rounded q.reach q.align) (is m lt) ∙ rw (a, ← size_reach t) (omega arith) in
      ap (λ (st : ℕ). over_elements (f m) st base 0 (suc n)) s ∙ (elements_typed (f m) (tree_pieces t) (size_of t) (reach_of t) base (λ b q. right m b lt (omega arith) q) (suc n) 0 (omega arith)
      ∙ ap (λ (b : ℕ). element_pieces (tree_pieces t) (size_of t) b (suc n)) z)

  spread_typed : (x : Meaning) → refers_back e x ≡ true → levels_of (tree_of T x) ≤ suc levels → (base : ℕ) → base + reach_of (tree_of T x) ≤ most_word
      → spread f tb x base ≡ tree_pieces (tree_of T x) base
  unfolding spread tree_of tree_pieces referred every levels_of reach size_of
  spread_typed (one s) back deep base h = refl
  spread_typed (several overlaid l) back deep base h =
      let r : furthest_in (laid_out T overlaid 0 l) ≤ size_of (group (laid_out T overlaid 0 l)) = round_least (furthest_in (laid_out T overlaid 0 l)) _ (largest_some (laid_out T overlaid 0 l)) in
      members_typed overlaid base l 0 back (omega arith) (omega arith)
  spread_typed (repeated m n) back deep base h = repeated_typed m n base (ltb-true m e (both_true (ltb m e) true back).0) deep h

module _ (ts ms tb : List ℕ) (n : ℕ) (M : Measured ts ms tb n) (back : (e : ℕ) → e < n → refers_back e (meaning_at ts ms e) ≡ true) where
  pub entry_typed : (levels e base : ℕ) → e < n → levels_of (type_at ts ms e) ≤ levels → base + reach_of (type_at ts ms e) ≤ most_word
      → entry_pieces ts ms tb levels e base ≡ tree_pieces (type_at ts ms e) base
  unfolding entry_pieces
  entry_typed zero e base lt deep h = absurd (omega (arith, some_level (type_at ts ms e)))
  entry_typed (suc levels) e base lt deep h =
      let t : type_at ts ms e ≡ tree_of (type_at ts ms) (meaning_at ts ms e) = own_type ts ms e (back e lt) in
      spread_typed tb (type_at ts ms) e levels (λ m q. M.row_is m (omega arith)) (entry_pieces ts ms tb levels) (λ m b q. entry_typed levels m b (omega arith))
      (meaning_at ts ms e) (back e lt) (rw t at deep) base (rw t at h)
      ∙ ap (λ (k : Tree). tree_pieces k base) (sym t)
