-- What is flattened passes the checks of a shape: its pieces, with its size and its alignment, are refused by no operation for themselves.
use Prim.Native.Nat.{ℕ, zero, suc, ◌+◌, ◌*◌, ◌%◌, ◌≤◌, max}
use mathlib.Core.Path.{◌≡◌, refl, ◌∙◌}
use mathlib.Core.Bool.{true, false}
use mathlib.Core.List.{List, [], ◌∷◌, ◌++◌}
use native.Mathlib.Nat.{suc-mul}
use native.Mathlib.Omega.{arith}
use borrow.Author.Tests.{le-ltb, eqb-true}
use lib.ListN.{length}
use Rattle.shape.specs.declared.Piece.{Piece}
use Rattle.shape.specs.declared.Scalar.{Scalar}
use Rattle.shape.specs.declared.Shape.{Shape}
use Rattle.shape.specs.Lists.{any}
use Rattle.shape.specs.Numbers.{quad, accepted, most_size, most_offset, most_align, most_pieces}
use Rattle.shape.proofs.Bools.{both_true, both_false}
use Rattle.shape.proofs.Rounding.{round_least}
use Rattle.checks.specs.Check.{scalar_refusal, piece_refusal, pieces_refusal, is_past, extent_refusal, list_refusal, shape_refusal, Passes}
use Rattle.checks.proofs.Accepted.{else_none, fits, after_all}
use Rattle.layouts.specs.Members.{pieces_words}
use Rattle.layouts.proofs.Members.{length_words, pieces_back}
use Rattle.types.specs.Tree.{Tree, Forest, leaf, group, array, empty, child, align_of, largest_in, reach, last_reach, size_of, furthest_in, reach_of, leaves_of}
use Rattle.types.specs.Trees.{wanted, types_refusal}
use Rattle.types.proofs.Sizes.{align_some, largest_some, reach_size}
use Rattle.types.proofs.Limits.{scalars_fit, forest_fits, align_within, wanted_size, wanted_fits}
use Rattle.flatten.specs.Leaves.{piece_of, leaf_pieces}
use Rattle.flatten.proofs.Pieces.{element_pieces, tree_pieces, forest_pieces, each_leaf, length_leaves}

module _ (size : ℕ) (limit : size ≤ most_offset) where
  -- pieces that pass, each by itself, and of which none ends past the size
  record Passing (ps : List Piece) : Type 0 where
    pass : pieces_refusal ps ≡ accepted
    inside : any (is_past size) ps ≡ false

  none_passing : Passing []
  unfolding pieces_refusal any
  none_passing = record { pass = refl; inside = refl }

  append_passing : (ps qs : List Piece) → Passing ps → Passing qs → Passing (ps ++ qs)
  unfolding pieces_refusal any
  append_passing [] qs a b = b
  append_passing (p ∷ ps) qs a b =
      let x = else_none (piece_refusal p) (pieces_refusal ps) a.pass in
      let y = both_false (is_past size p) (any (is_past size) ps) a.inside in
      let rest = append_passing ps qs (record { pass = x.1; inside = y.1 }) b in
      record { pass = rw x.0 rest.pass; inside = rw y.0 rest.inside }

  leaf_passing : (s : Scalar) → scalar_refusal s ≡ accepted → (base : ℕ) → base + max s.size 1 ≤ size → Passing (piece_of s base ∷ [])
  unfolding pieces_refusal piece_refusal any
  leaf_passing s ok base h =
      let f = fits s ok in
      record {
        pass = rw (le-ltb quad s.kind f.kind≤, le-ltb most_size s.size f.size≤, le-ltb most_offset base (omega arith), le-ltb most_align s.align f.align≤);
        inside = rw (le-ltb size (base + s.size) (omega arith));
      }

  -- elements: `wide` is how far one reaches
  elements_passing : (g : ℕ → List Piece) (step wide : ℕ) → ((base : ℕ) → base + wide ≤ size → Passing (g base))
      → (n base : ℕ) → base + last_reach step wide n ≤ size → Passing (element_pieces g step base n)
  unfolding element_pieces last_reach
  elements_passing g step wide one zero base h = none_passing
  elements_passing g step wide one (suc zero) base h = append_passing (g base) [] (one base (omega arith)) none_passing
  elements_passing g step wide one (suc (suc n)) base h =
      let m : suc n * step ≡ n * step + step = suc-mul n step in
      append_passing (g base) (element_pieces g step (base + step) (suc n)) (one base (omega arith))
      (elements_passing g step wide one (suc n) (base + step) (omega arith))

  mutual
    unfolding tree_pieces scalars_fit reach size_of

    tree_passing : (t : Tree) → scalars_fit t ≡ true → (base : ℕ) → base + reach_of t ≤ size → Passing (tree_pieces t base)
    tree_passing (leaf s) fit base h = leaf_passing s (eqb-true _ _ fit) base h
    tree_passing (group f) fit base h = forest_passing f fit base (omega (arith, round_least (furthest_in f) (largest_in f) (largest_some f)))
    tree_passing (array t n) fit base h =
        elements_passing (tree_pieces t) (size_of t) (reach_of t) (tree_passing t fit) n base
        (omega (arith, round_least (last_reach (size_of t) (reach_of t) n) (align_of t) (align_some t)))

    forest_passing : (f : Forest) → forest_fits f ≡ true → (base : ℕ) → base + furthest_in f ≤ size → Passing (forest_pieces f base)
    forest_passing empty fit base h = none_passing
    forest_passing (child o t f) fit base h =
        let b = both_true (scalars_fit t) (forest_fits f) fit in
        append_passing (tree_pieces t (base + o)) (forest_pieces f base) (tree_passing t b.0 (base + o) (omega arith)) (forest_passing f b.1 base (omega arith))

-- ---- the type wanted

module _ (ts ms : List ℕ) (ok : types_refusal ts ms ≡ accepted) (few : leaves_of (wanted ts ms) ≤ most_pieces) where
  passing : Passing (size_of (wanted ts ms)) (wanted_size ts ms ok) (leaf_pieces (wanted ts ms))
  passing =
      rw (← each_leaf (wanted ts ms))
      (tree_passing (size_of (wanted ts ms)) (wanted_size ts ms ok) (wanted ts ms) (wanted_fits ts ms ok) 0 (omega (arith, reach_size (wanted ts ms))))

  list_passes : list_refusal (pieces_words (leaf_pieces (wanted ts ms))) ≡ accepted
  unfolding list_refusal
  list_passes =
      let w : length (pieces_words (leaf_pieces (wanted ts ms))) ≡ 4 * length (leaf_pieces (wanted ts ms)) = length_words (leaf_pieces (wanted ts ms)) in
      let n : length (leaf_pieces (wanted ts ms)) ≡ leaves_of (wanted ts ms) = length_leaves (wanted ts ms) in
      rw (pieces_back (leaf_pieces (wanted ts ms)), le-ltb 0 (length (pieces_words (leaf_pieces (wanted ts ms))) % 4) (omega arith), le-ltb most_pieces (length (leaf_pieces (wanted ts ms))) (omega arith))

  module _ (shape : Shape) (es : shape.size ≡ size_of (wanted ts ms)) (ea : shape.align ≡ align_of (wanted ts ms)) where
    pub wanted_passes : Passes shape (pieces_words (leaf_pieces (wanted ts ms)))
    wanted_passes =
        record {
          list = list_passes;
          size≤ = omega (arith, wanted_size ts ms ok);
          align≤ = omega (arith, align_within (wanted ts ms) (wanted_fits ts ms ok));
          pieces = rw (pieces_back (leaf_pieces (wanted ts ms))) passing.pass;
        }

    pub shape_passes : shape_refusal shape (pieces_words (leaf_pieces (wanted ts ms))) ≡ accepted
    unfolding extent_refusal
    shape_passes = after_all shape _ wanted_passes ∙ rw (pieces_back (leaf_pieces (wanted ts ms)), es, passing.inside)
