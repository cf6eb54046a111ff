-- The rows that fill the table are those of the entries' types, and what is refused of them is what is refused of the types.
use Prim.Native.Nat.{ℕ, zero, suc, ◌+◌, ◌*◌, ◌≤◌, ◌<◌, min, max}
use mathlib.Core.Path.{◌≡◌, refl, ap, sym, ◌∙◌}
use mathlib.Core.Bool.{Bool, true, false, ◌&&◌}
use mathlib.Core.List.{List, [], ◌∷◌}
use mathlib.Core.Logic.{⊎_elim}
use native.Mathlib.Nat.{eq-or-lt_of_le}
use native.Mathlib.Omega.{arith}
use borrow.Author.Tests.{ltb-true, ltb-false, eqb-true, eqb-false}
use lib.Dec.{ltb, eqb}
use lib.ListN.{length}
use Rattle.shape.specs.declared.Scalar.{Scalar}
use Rattle.shape.specs.Lists.{every}
use Rattle.shape.specs.Numbers.{accepted, bad_size, most_word, most_offset}
use Rattle.shape.specs.Arithmetic.{round_up, plus, times, rounded}
use Rattle.shape.proofs.Rounding.{round_sat}
use Rattle.shape.specs.Words.{scalar, piece_words}
use Rattle.shape.proofs.Bools.{both_true}
use Rattle.shape.proofs.Put.{length_put}
use Rattle.shape.proofs.Stored.{piece_stored, piece_kept}
use Rattle.checks.specs.Check.{refuse}
use Rattle.checks.proofs.Accepted.{refuse_none}
use Rattle.types.specs.declared.Row.{Row}
use Rattle.types.specs.Entries.{most_elements, union_kind, array_kind, entry_at, members_from, one, several, repeated, has_members, meaning_at, referred, refers_back}
use Rattle.types.specs.Tree.{Tree, Forest, leaf, group, array, align_of, largest_in, size_of, furthest_in, reach, reach_of, takes_of, leaves_of, leaves_in}
use Rattle.types.specs.Trees.{offset_from, laid_out, tree_of, type_at, size_refusal, tree_refusal, trees_refusal}
use Rattle.types.specs.Table.{row, row_from, row_piece, row_at, put_row, counted, row_of_tree, place_from, members_row, elements_row, row_of, entry_refusal, row_here, refusal_here, filled_refusal, filled, Measured}
use Rattle.types.proofs.Reading.{means_several, means_repeated, means_one}
use Rattle.types.proofs.Types.{own_type}
use Rattle.types.proofs.Sizes.{max_regroup, times_sat, limit_sat, align_some, largest_some, size_reach, array_size}

-- ---- a row from the rows before, in numbers that stay within 64 bits

-- the row of what has members or elements, as far as 64 bits go
abbrev held_row : ℕ → ℕ → ℕ → Row
held_row size align leaves = row (min size most_word) (min size most_word) align (counted leaves)

module _ (tb : List ℕ) (T : ℕ → Tree) (e : ℕ) (is : (m : ℕ) → m < e → row_at tb m ≡ row_of_tree (T m)) where
  place_held : (overlaid : Bool) (end E a : ℕ) → end ≡ min E most_word → 1 ≤ a → place_from overlaid end a ≡ min (offset_from overlaid E a) most_word
  place_held true end E a h p = omega arith
  place_held false end E a h p = let m : max a 1 ≡ a = omega arith in rw (m, h) (round_sat E a p)

  members_held : (overlaid : Bool) (l : List ℕ) → every (λ m. ltb m e) l ≡ true → (end E far F align leaves L : ℕ)
      → end ≡ min E most_word → far ≡ min F most_word → 1 ≤ align → leaves ≡ counted L
      → members_row tb overlaid end far align leaves l
      ≡ held_row (round_up (max F (furthest_in (laid_out T overlaid E l))) (max align (largest_in (laid_out T overlaid E l)))) (max align (largest_in (laid_out T overlaid E l)))
      (L + leaves_in (laid_out T overlaid E l))
  unfolding members_row laid_out every size_of align_of leaves_of
  members_held overlaid [] h end E far F align leaves L ee ef ea el =
      let m : max align 1 ≡ align = omega arith in
      let z : max F 0 ≡ F = omega arith in
      let r : rounded far align ≡ min (round_up F align) most_word = rw (m, ef) (round_sat F align ea) in
      rw (r, m, z) (ap (λ (n : ℕ). row (min (round_up F align) most_word) (min (round_up F align) most_word) align n) (omega arith))
  members_held overlaid (m ∷ l) h end E far F align leaves L ee ef ea el =
      let both = both_true (ltb m e) (every (λ m. ltb m e) l) h in
      let t : Tree = T m in
      let r : row_at tb m ≡ row_of_tree t = is m (ltb-true m e both.0) in
      let O : ℕ = offset_from overlaid E (align_of t) in
      let p : place_from overlaid end (align_of t) ≡ min O most_word = place_held overlaid end E (align_of t) ee (align_some t) in
      let rest = members_held overlaid l both.1
      (plus (place_from overlaid end (align_of t)) (takes_of t)) (O + takes_of t)
      (max far (plus (place_from overlaid end (align_of t)) (reach_of t))) (max F (O + reach_of t))
      (max align (align_of t)) (counted (plus leaves (counted (leaves_of t)))) (L + leaves_of t)
      (omega arith) (omega arith) (omega arith) (omega arith) in
      let f : Forest = laid_out T overlaid (O + takes_of t) l in
      let a : max (max F (O + reach_of t)) (furthest_in f) ≡ max F (max (O + reach_of t) (furthest_in f)) = max_regroup F (O + reach_of t) (furthest_in f) in
      let b : max (max align (align_of t)) (largest_in f) ≡ max align (max (align_of t) (largest_in f)) = max_regroup align (align_of t) (largest_in f) in
      let c : L + leaves_of t + leaves_in f ≡ L + (leaves_of t + leaves_in f) = omega arith in
      let rt : (row_at tb m).takes ≡ takes_of t = ap (λ (q : Row). q.takes) r in
      let rr : (row_at tb m).reach ≡ reach_of t = ap (λ (q : Row). q.reach) r in
      let ra : (row_at tb m).align ≡ align_of t = ap (λ (q : Row). q.align) r in
      let rl : (row_at tb m).leaves ≡ counted (leaves_of t) = ap (λ (q : Row). q.leaves) r in
      rw (rt, rr, ra, rl) (rest ∙ rw (a, b, c))

  several_held : (overlaid : Bool) (l : List ℕ) → every (λ m. ltb m e) l ≡ true
      → members_row tb overlaid 0 0 1 0 l ≡ held_row (size_of (group (laid_out T overlaid 0 l))) (align_of (group (laid_out T overlaid 0 l))) (leaves_of (group (laid_out T overlaid 0 l)))
  unfolding size_of align_of leaves_of
  several_held overlaid l h =
      let f : Forest = laid_out T overlaid 0 l in
      let a : max 0 (furthest_in f) ≡ furthest_in f = omega arith in
      let b : max 1 (largest_in f) ≡ largest_in f = omega (arith, largest_some f) in
      let c : 0 + leaves_in f ≡ leaves_in f = omega arith in
      members_held overlaid l h 0 0 0 0 1 0 0 (omega arith) (omega arith) (omega arith) (omega arith) ∙ rw (a, b, c)

  repeated_held : (m n : ℕ) → m < e
      → elements_row (row_at tb m) n ≡ held_row (size_of (array (T m) n)) (align_of (array (T m) n)) (leaves_of (array (T m) n))
  unfolding align_of leaves_of
  repeated_held m n lt =
      let t : Tree = T m in
      let a : max (align_of t) 1 ≡ align_of t = omega (arith, align_some t) in
      let s : rounded (reach_of t) (align_of t) ≡ min (size_of t) most_word = rw a (ap (λ (k : ℕ). min k most_word) (sym (size_reach t))) in
      let z : times n (rounded (reach_of t) (align_of t)) ≡ min (size_of (array t n)) most_word = rw (s, array_size t n) (times_sat n (size_of t) most_word) in
      let l : min (n * counted (leaves_of t)) 1025 ≡ min (n * leaves_of t) 1025 = times_sat n (leaves_of t) 1025 in
      let k : counted (times n (counted (leaves_of t))) ≡ counted (n * leaves_of t) = omega arith in
      ap (λ (q : Row). elements_row q n) (is m lt) ∙ rw (z, k)

-- ---- what is refused of an entry with its row is what is refused of its type, and the row of what isn't refused is its type's

size_held : (size : ℕ) → size_refusal (min size most_word) ≡ size_refusal size
size_held size = rw (limit_sat size)

size_ok : (size : ℕ) → size_refusal size ≡ accepted → min size most_word ≡ size
size_ok size h = let l = ltb-false most_offset size (refuse_none (ltb most_offset size) 4 accepted h).0 in omega (arith, l)

module _ (ts ms tb : List ℕ) (e : ℕ) where
  -- what is to be shown of entry e
  record Fits : Type 0 where
    refusal : refusal_here ts ms tb e ≡ tree_refusal (type_at ts ms e)
    row_is : tree_refusal (type_at ts ms e) ≡ accepted → row_here ts ms tb e ≡ row_of_tree (type_at ts ms e)

  group_fits : (f : Forest) → type_at ts ms e ≡ group f → row_here ts ms tb e ≡ held_row (size_of (group f)) (align_of (group f)) (leaves_of (group f))
      → refusal_here ts ms tb e ≡ size_refusal (row_here ts ms tb e).reach → Fits
  unfolding tree_refusal takes_of reach
  group_fits f te re q =
      let s : ℕ = size_of (group f) in
      record {
        refusal = q ∙ ap (λ (r : Row). size_refusal r.reach) re ∙ size_held s ∙ sym (ap tree_refusal te);
        row_is = λ ok. let m : min s most_word ≡ s = size_ok s (sym (ap tree_refusal te) ∙ ok) in re ∙ rw m (sym (ap row_of_tree te));
      }

  array_fits : (t : Tree) (n : ℕ) → type_at ts ms e ≡ array t n → row_here ts ms tb e ≡ held_row (size_of (array t n)) (align_of (array t n)) (leaves_of (array t n))
      → refusal_here ts ms tb e ≡ refuse (ltb most_elements n) bad_size (size_refusal (row_here ts ms tb e).reach) → Fits
  unfolding tree_refusal takes_of reach
  array_fits t n te re q =
      let s : ℕ = size_of (array t n) in
      record {
        refusal =
            q ∙ ap (λ (r : Row). refuse (ltb most_elements n) bad_size (size_refusal r.reach)) re
            ∙ ap (λ (k : ℕ). refuse (ltb most_elements n) bad_size k) (size_held s) ∙ sym (ap tree_refusal te);
        row_is = λ ok.
            let z = refuse_none (ltb most_elements n) 4 (size_refusal s) (sym (ap tree_refusal te) ∙ ok) in
            let m : min s most_word ≡ s = size_ok s z.1 in
            re ∙ rw m (sym (ap row_of_tree te));
      }

  module _ (M : Measured ts ms tb e) (back : refers_back e (meaning_at ts ms e) ≡ true) where
    fits_by : (b a : Bool) → has_members (entry_at ts e).kind ≡ b → eqb (entry_at ts e).kind array_kind ≡ a → Fits
    unfolding tree_of row_of entry_refusal referred every tree_refusal takes_of reach size_of align_of leaves_of
    fits_by true a eb ea =
        let overlaid : Bool = eqb (entry_at ts e).kind union_kind in
        let l : List ℕ = members_from ms (entry_at ts e).second (entry_at ts e).third in
        let means : meaning_at ts ms e ≡ several overlaid l = means_several ms (entry_at ts e) _ refl eb in
        let here : every (λ m. ltb m e) l ≡ true = rw means at back in
        group_fits (laid_out (type_at ts ms) overlaid 0 l) (own_type ts ms e back ∙ rw means)
        (rw means (several_held tb (type_at ts ms) e M.row_is overlaid l here)) (rw eb)
    fits_by false true eb ea =
        let m : ℕ = (entry_at ts e).second in
        let n : ℕ = (entry_at ts e).third in
        let means : meaning_at ts ms e ≡ repeated m n = means_repeated ms (entry_at ts e) _ refl eb (eqb-true _ _ ea) in
        let here : (ltb m e && true) ≡ true = rw means at back in
        array_fits (type_at ts ms m) n (own_type ts ms e back ∙ rw means)
        (rw means (repeated_held tb (type_at ts ms) e M.row_is m n (ltb-true m e (both_true (ltb m e) true here).0))) (rw (eb, ea))
    fits_by false false eb ea =
        let s : Scalar = scalar (entry_at ts e).kind (entry_at ts e).second (entry_at ts e).third in
        let means : meaning_at ts ms e ≡ one s = means_one ms (entry_at ts e) _ refl eb (eqb-false _ _ ea) in
        let te : type_at ts ms e ≡ leaf s = own_type ts ms e back ∙ rw means in
        record { refusal = rw (eb, ea) (sym (ap tree_refusal te)); row_is = λ ok. rw means (sym (ap row_of_tree te)) }

    entry_fits : Fits
    entry_fits = fits_by _ _ refl refl

  -- the row written, those before it are right and it is too
  measured_next : Measured ts ms tb e → (r : Row) → r ≡ row_of_tree (type_at ts ms e) → 4 * e + 4 ≤ length tb → Measured ts ms (put_row tb e r) (e + 1)
  measured_next M r er fits = record {
    row_is = λ m h. ⊎_elim
        (λ (q : m ≡ e). rw q (ap row_from (piece_stored tb (4 * e) (row_piece r) fits) ∙ er))
        (λ (q : m < e). ap row_from (piece_kept tb (4 * e) (row_piece r) fits (4 * m) (omega arith)) ∙ M.row_is m q)
        (eq-or-lt_of_le {n = m} {m = e} (omega arith));
  }

-- ---- all rows

module _ (ts ms : List ℕ) (n : ℕ) (back : (e : ℕ) → e < n → refers_back e (meaning_at ts ms e) ≡ true) where
  -- what so many entries from e on come to
  record Filled (e k : ℕ) (tb : List ℕ) : Type 0 where
    refusal : filled_refusal ts ms tb e k ≡ trees_refusal ts ms e k
    measured : trees_refusal ts ms e k ≡ accepted → Measured ts ms (filled ts ms tb e k) n

  one_filled : (e k : ℕ) (tb : List ℕ) (q : ℕ) → tree_refusal (type_at ts ms e) ≡ q → Fits ts ms tb e
      → (q ≡ accepted → Filled (e + 1) k (put_row tb e (row_here ts ms tb e))) → Filled e (suc k) tb
  unfolding filled_refusal filled trees_refusal
  one_filled e k tb zero z fits rest =
      let here : refusal_here ts ms tb e ≡ 0 = fits.refusal ∙ z in
      record { refusal = rw (here, z) (rest refl).refusal; measured = rw (here, z) (rest refl).measured }
  one_filled e k tb (suc q) z fits rest =
      let here : refusal_here ts ms tb e ≡ suc q = fits.refusal ∙ z in
      record { refusal = rw (here, z); measured = rw z (λ ok. absurd (omega arith)) }

  fills : (k e : ℕ) (tb : List ℕ) → e + k ≡ n → 4 * n ≤ length tb → Measured ts ms tb e → Filled e k tb
  unfolding filled_refusal filled trees_refusal
  fills zero e tb q h M = record { refusal = refl; measured = λ ok. record { row_is = λ m l. M.row_is m (omega arith) } }
  fills (suc k) e tb q h M =
      let fit = entry_fits ts ms tb e M (back e (omega arith)) in
      let room : 4 * e + 4 ≤ length tb = omega arith in
      let long : length (put_row tb e (row_here ts ms tb e)) ≡ length tb = length_put tb (4 * e) (piece_words (row_piece (row_here ts ms tb e))) room in
      one_filled e k tb (tree_refusal (type_at ts ms e)) refl fit
      (λ ok. fills k (e + 1) (put_row tb e (row_here ts ms tb e)) (omega arith) (omega arith)
      (measured_next ts ms tb e M (row_here ts ms tb e) (fit.row_is ok) room))

  pub fill_right : (tb : List ℕ) → 4 * n ≤ length tb → filled_refusal ts ms tb 0 n ≡ trees_refusal ts ms 0 n
  fill_right tb h = (fills n 0 tb (omega arith) h (record { row_is = λ m l. absurd (omega arith) })).refusal

  pub fill_measured : (tb : List ℕ) → 4 * n ≤ length tb → trees_refusal ts ms 0 n ≡ accepted → Measured ts ms (filled ts ms tb 0 n) n
  fill_measured tb h ok = (fills n 0 tb (omega arith) h (record { row_is = λ m l. absurd (omega arith) })).measured ok
