-- A record of scalars is flattened to what `pieces` makes of them, with the size and the alignment that `record` finds.
use Prim.Native.Nat.{ℕ, ◌+◌, ◌-◌, ◌≤◌, max}
use mathlib.Core.Path.{◌≡◌, refl, ap, sym, ◌∙◌}
use mathlib.Core.Bool.{true, false}
use mathlib.Core.List.{List, [], ◌∷◌}
use native.Mathlib.Nat.{zero-add}
use native.Mathlib.Omega.{arith}
use borrow.Author.Tests.{ltb-true, eqb-true}
use lib.Dec.{ltb}
use Rattle.shape.specs.declared.Scalar.{Scalar}
use Rattle.shape.specs.Lists.{every}
use Rattle.shape.specs.Numbers.{accepted, most_word}
use Rattle.shape.specs.Arithmetic.{round_up}
use Rattle.shape.proofs.Bools.{both_true}
use Rattle.shape.proofs.Rounding.{round_least}
use Rattle.checks.specs.Check.{scalar_refusal}
use Rattle.layouts.specs.Record.{max_of, largest_align, furthest_end}
use Rattle.layouts.specs.Members.{scalars_refusal, placed}
use Rattle.types.specs.Entries.{meaning_at, referred, refers_back}
use Rattle.types.specs.Tree.{Tree, Forest, leaf, group, empty, child, align_of, largest_in, reach, size_of, furthest_in, takes_of}
use Rattle.types.specs.Trees.{laid_out, tree_of, type_at, entries, wanted, types_refusal}
use Rattle.types.proofs.Types.{own_type}
use Rattle.types.proofs.Sizes.{largest_some}
use Rattle.types.proofs.Limits.{Accepted, accepted_lists, scalars_fit, forest_fits, wanted_size, wanted_fits}
use Rattle.flatten.specs.Leaves.{leaf_pieces}
use Rattle.flatten.specs.Records.{AreScalars, none, next, IsRecordOf}
use Rattle.flatten.proofs.Pieces.{tree_pieces, forest_pieces, each_leaf}

-- scalars, each behind the one before
unfoldable in_row : ℕ → List Scalar → Forest
in_row end [] = empty
in_row end (s ∷ ss) = child (round_up end (max s.align 1)) (leaf s) (in_row (round_up end (max s.align 1) + s.size) ss)

pieces_placed : (ss : List Scalar) (end : ℕ) → forest_pieces (in_row end ss) 0 ≡ placed end ss
unfolding in_row tree_pieces placed
pieces_placed [] end = refl
pieces_placed (s ∷ ss) end =
    let o : ℕ = round_up end (max s.align 1) in
    rw (zero-add o, pieces_placed ss (o + s.size))

largest_placed : (ss : List Scalar) (end : ℕ) → largest_in (in_row end ss) ≡ max (largest_align (placed end ss)) 1
unfolding in_row align_of placed max_of
largest_placed [] end = refl
largest_placed (s ∷ ss) end =
    let h = largest_placed ss (round_up end (max s.align 1) + s.size) in
    omega (arith, h)

furthest_placed : (ss : List Scalar) (end : ℕ) → furthest_in (in_row end ss) ≤ most_word → furthest_end (placed end ss) ≡ furthest_in (in_row end ss)
unfolding in_row size_of reach placed max_of
furthest_placed [] end h = refl
furthest_placed (s ∷ ss) end h =
    let r = furthest_placed ss (round_up end (max s.align 1) + s.size) (omega arith) in
    omega (arith, r)

row_fits : (ss : List Scalar) (end : ℕ) → forest_fits (in_row end ss) ≡ true → scalars_refusal ss ≡ accepted
unfolding in_row scalars_fit scalars_refusal
row_fits [] end h = refl
row_fits (s ∷ ss) end h =
    let b = both_true (scalars_fit (leaf s)) (forest_fits (in_row (round_up end (max s.align 1) + s.size) ss)) h in
    let z : scalar_refusal s ≡ accepted = eqb-true _ _ b.0 in
    rw (z, row_fits ss (round_up end (max s.align 1) + s.size) b.1)

module _ (ts ms : List ℕ) (ok : types_refusal ts ms ≡ accepted) (ss : List Scalar) (is : IsRecordOf ts ms ss) where
  lists : Accepted ts ms
  lists = accepted_lists ts ms ok

  row_is : (l : List ℕ) (xs : List Scalar) (end : ℕ) → every (λ m. ltb m (entries ts - 1)) l ≡ true → AreScalars ts ms l xs
      → laid_out (type_at ts ms) false end l ≡ in_row end xs
  unfolding laid_out in_row every tree_of align_of takes_of
  row_is _ _ end back none = refl
  row_is _ _ end back (next m l s xs e more) =
      let b = both_true (ltb m (entries ts - 1)) (every (λ m. ltb m (entries ts - 1)) l) back in
      let lt = ltb-true m (entries ts - 1) b.0 in
      let t : type_at ts ms m ≡ leaf s = own_type ts ms m (lists.back m (omega (arith, lt))) ∙ rw e in
      rw (t, row_is l xs (round_up end (max s.align 1) + s.size) b.1 more)

  wanted_is : wanted ts ms ≡ group (in_row 0 ss)
  unfolding tree_of referred every
  wanted_is =
      let back : refers_back (entries ts - 1) (meaning_at ts ms (entries ts - 1)) ≡ true = lists.back (entries ts - 1) (omega (arith, lists.some)) in
      own_type ts ms (entries ts - 1) back ∙ rw is.is_record (ap group (row_is is.members ss 0 (rw is.is_record at back) is.are_scalars))

  pub scalars_pieces : leaf_pieces (wanted ts ms) ≡ placed 0 ss
  unfolding tree_pieces
  scalars_pieces = sym (each_leaf (wanted ts ms)) ∙ ap (λ (t : Tree). tree_pieces t 0) wanted_is ∙ pieces_placed ss 0

  pub scalars_align : align_of (wanted ts ms) ≡ max (largest_align (placed 0 ss)) 1
  unfolding align_of
  scalars_align = ap align_of wanted_is ∙ largest_placed ss 0

  pub scalars_size : size_of (wanted ts ms) ≡ round_up (furthest_end (placed 0 ss)) (max (largest_align (placed 0 ss)) 1)
  unfolding size_of
  scalars_size =
      let z : size_of (wanted ts ms) ≡ round_up (furthest_in (in_row 0 ss)) (largest_in (in_row 0 ss)) = ap size_of wanted_is in
      let f : furthest_in (in_row 0 ss) ≤ most_word =
      omega (arith, z, wanted_size ts ms ok, round_least (furthest_in (in_row 0 ss)) (largest_in (in_row 0 ss)) (largest_some (in_row 0 ss))) in
      z ∙ rw (furthest_placed ss 0 f, largest_placed ss 0)

  pub scalars_pass : scalars_refusal ss ≡ accepted
  unfolding scalars_fit
  scalars_pass = row_fits ss 0 (rw wanted_is at (wanted_fits ts ms ok))
