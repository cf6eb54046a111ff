-- What `flatten` answers and leaves in the buffer, by the tests that led there.
use Prim.Native.Nat.{ℕ, zero, suc, ◌-◌, ◌/◌, ◌≤◌, ◌<◌, min, max}
use mathlib.Core.Path.{◌≡◌, refl, ap, sym, ◌∙◌}
use mathlib.Core.List.{List, []}
use native.Mathlib.Omega.{arith}
use borrow.Author.Tests.{lt-ltb, le-ltb}
use lib.ListN.{length}
use Rattle.shape.specs.Numbers.{accepted, no_room, most_pieces}
use Rattle.shape.specs.Arithmetic.{rounded}
use Rattle.shape.specs.Words.{put_at}
use Rattle.shape.proofs.Put.{put_none}
use Rattle.checks.specs.Check.{unless_refused}
use Rattle.shape.specs.declared.refusals.Refusal.{Refusal}
use Rattle.shape.specs.declared.refusals.Refusal.TheVariants.{NoRoom}
use Rattle.shape.specs.Refusals.{number_of}
use Rattle.shape.proofs.Refused.{number_refuses}
use Rattle.std.specs.Prelude.{Ok}
use Rattle.checks.proofs.Check.{else_number, left_alone}
use Rattle.layouts.specs.Members.{pieces_words}
use Rattle.types.specs.declared.Row.{Row}
use Rattle.types.specs.Entries.{most_levels}
use Rattle.types.specs.Tree.{Tree, align_of, size_of, leaves_of}
use Rattle.types.specs.Trees.{entries, wanted, types_refusal}
use Rattle.types.specs.Table.{row_at, counted, row_of_tree, filled, table_refusal, measure_refusal, Measured}
use Rattle.types.proofs.Answering.{measure_types, measured}
use Rattle.types.proofs.Sizes.{align_some, size_reach, reach_size}
use Rattle.types.proofs.Limits.{Accepted, accepted_lists, wanted_size}
use Rattle.flatten.specs.declared.Flattened.{Flattened}
use Rattle.flatten.specs.Flattened.{flattened, row_told, room_refusal, flatten_refusal, or_flattened, flatten_answer, flatten_written}
use Rattle.flatten.specs.Leaves.{leaf_pieces}
use Rattle.flatten.specs.Writing.{entry_pieces, pour_words}
use Rattle.flatten.proofs.Pieces.{no_leaves, each_leaf, length_leaves}
use Rattle.flatten.proofs.Pour.{pour_fits}
use Rattle.flatten.proofs.Typed.{entry_typed}

-- ---- a refusal: zeros beside it, and the buffer as it was

zeros : (n : ℕ) (t : Tree) → (n ≡ accepted → ⊥) → flattened n 0 0 0 ≡ or_flattened n t
zeros zero t h = absurd (h refl)
zeros (suc n) t h = refl

module _ (ts ms out : List ℕ) (n : ℕ) (en : n ≡ flatten_refusal ts ms out) (h : n ≡ accepted → ⊥) where
  refused_left : out ≡ flatten_written ts ms out
  unfolding flatten_written
  refused_left = left_alone (flatten_refusal ts ms out) _ out (λ (z : flatten_refusal ts ms out ≡ accepted). h (en ∙ z))

module _ (ts ms out : List ℕ) where
  -- what is answered, and the buffer that is left
  abbrev pub IsDone : Flattened → List ℕ → Type 0
  IsDone r after = (r ≡ flatten_answer ts ms out) × (after ≡ flatten_written ts ms out)

  refused : (r : Refusal) → number_of r ≡ flatten_refusal ts ms out → IsDone (flattened (number_of r) 0 0 0) out
  unfolding flatten_answer
  refused r e = (
    zeros (number_of r) (wanted ts ms) (number_refuses r) ∙ ap (λ (k : ℕ). or_flattened k (wanted ts ms)) e,
    refused_left ts ms out (number_of r) e (number_refuses r),
  )

-- ---- by what `measure` answered

module _ (ts ms out tb : List ℕ) (long : min (length ts) 4096 ≤ length tb) where
  of_types : (q : ℕ) → q ≡ measure_refusal ts ms tb → q ≡ types_refusal ts ms
  of_types q eq = eq ∙ measure_types ts ms tb long

  pub types_refused : (r : Refusal) → number_of r ≡ measure_refusal ts ms tb → IsDone ts ms out (flattened (number_of r) 0 0 0) out
  unfolding flatten_refusal
  types_refused r e = refused ts ms out r (rw (← of_types _ e) (else_number r _))

  module _ (fine : accepted ≡ measure_refusal ts ms tb) where
    pub some_entry : 1 ≤ entries ts
    some_entry = (accepted_lists ts ms (sym (of_types accepted fine))).some

    module _ (vs : List ℕ) (ev : vs ≡ unless_refused (table_refusal ts ms tb) (filled ts ms tb 0 (entries ts)) tb)
        (row : Row) (er : row ≡ row_at vs (entries ts - 1)) where
      ok : types_refusal ts ms ≡ accepted
      ok = sym (of_types accepted fine)

      lists : Accepted ts ms
      lists = accepted_lists ts ms ok

      rows : Measured ts ms vs (entries ts)
      rows = measured ts ms tb long ok vs ev

      row_is : row ≡ row_of_tree (wanted ts ms)
      row_is = er ∙ rows.row_is (entries ts - 1) (omega (arith, lists.some))

      leaves_are : row.leaves ≡ counted (leaves_of (wanted ts ms))
      leaves_are = ap (λ (k : Row). k.leaves) row_is

      by_room : (n : ℕ) → n ≡ room_refusal (leaves_of (wanted ts ms)) out → n ≡ flatten_refusal ts ms out
      unfolding flatten_refusal
      by_room n en = rw ok en

      many : most_pieces < row.leaves → no_room ≡ flatten_refusal ts ms out
      unfolding room_refusal
      many h = by_room no_room (rw (lt-ltb most_pieces (leaves_of (wanted ts ms)) (omega (arith, leaves_are))))

      pub many_refused : most_pieces < row.leaves → IsDone ts ms out (flattened no_room 0 0 0) out
      many_refused h = refused ts ms out NoRoom (many h)

      module _ (few : row.leaves ≤ most_pieces) where
        all_counted : row.leaves ≡ leaves_of (wanted ts ms)
        all_counted = omega (arith, leaves_are)

        short : length out / 4 < row.leaves → no_room ≡ flatten_refusal ts ms out
        unfolding room_refusal
        short h =
            by_room no_room (rw (le-ltb most_pieces (leaves_of (wanted ts ms)) (omega (arith, all_counted)), lt-ltb (length out / 4) (leaves_of (wanted ts ms)) (omega (arith, all_counted))))

        pub short_refused : length out / 4 < row.leaves → IsDone ts ms out (flattened no_room 0 0 0) out
        short_refused h = refused ts ms out NoRoom (short h)

        module _ (room : row.leaves ≤ length out / 4) where
          taken : flatten_refusal ts ms out ≡ accepted
          unfolding room_refusal
          taken =
              sym (by_room accepted (rw (le-ltb most_pieces (leaves_of (wanted ts ms)) (omega (arith, all_counted)), le-ltb (length out / 4) (leaves_of (wanted ts ms)) (omega (arith, all_counted)))))

          size_is : rounded row.reach row.align ≡ size_of (wanted ts ms)
          size_is =
              let a : max (align_of (wanted ts ms)) 1 ≡ align_of (wanted ts ms) = omega (arith, align_some (wanted ts ms)) in
              ap (λ (k : Row). rounded k.reach k.align) row_is ∙ rw (a, ← size_reach (wanted ts ms)) (omega (arith, wanted_size ts ms ok))

          answered : row_told (Ok row) ≡ flatten_answer ts ms out
          unfolding flatten_answer
          answered = rw (taken, all_counted, size_is, ap (λ (k : Row). k.align) row_is)

          written_so : (us : List ℕ) → us ≡ put_at out 0 (pieces_words (leaf_pieces (wanted ts ms))) → us ≡ flatten_written ts ms out
          unfolding flatten_written
          written_so us e = rw taken e

          pub none_written : row.leaves ≡ 0 → IsDone ts ms out (row_told (Ok row)) out
          unfolding pieces_words
          none_written h =
              let n : leaf_pieces (wanted ts ms) ≡ [] = sym (each_leaf (wanted ts ms)) ∙ no_leaves (wanted ts ms) 0 (sym all_counted ∙ h) in
              (answered, written_so out (rw n (sym (put_none out 0 (omega arith)))))

          pub all_written : (us : List ℕ) → us ≡ pour_words (entry_pieces ts ms vs most_levels (entries ts - 1) 0) out 0 → IsDone ts ms out (row_told (Ok row)) us
          all_written us e =
              let typed = entry_typed ts ms vs (entries ts) rows lists.back most_levels (entries ts - 1) 0 (omega (arith, lists.some)) lists.levels
              (omega (arith, reach_size (wanted ts ms), wanted_size ts ms ok)) in
              let l : length (leaf_pieces (wanted ts ms)) ≡ leaves_of (wanted ts ms) = length_leaves (wanted ts ms) in
              (answered, written_so us (e ∙ rw (typed, each_leaf (wanted ts ms)) (pour_fits (leaf_pieces (wanted ts ms)) out 0 (omega (arith, all_counted)))))
