-- Description 1 is AAPCS64 on the aggregates of the domain: an argument goes to the same registers, to the stack, or by the address of a copy, and
-- leaves the same registers; a result comes back in the same registers or through x8.
use Prim.Native.Nat.{ℕ, zero, suc, ◌+◌, ◌-◌, ◌/◌, ◌≤◌, ◌<◌}
use mathlib.Core.Path.{◌≡◌, refl, ◌∙◌}
use mathlib.Core.List.{List, [], ◌∷◌}
use mathlib.Core.Bool.{true, false}
use mathlib.Core.Option.Option.{some}
use native.Mathlib.Omega.{arith}
use native.Mathlib.Decide.{dec_le}
use lib.Dec.{leb}
use lib.ListN.{length}
use borrow.Author.Tests.{leb-true, le-leb, lt-leb, lt-ltb, le-ltb}
use Rattle.shape.proofs.Bools.{both_true}
use Rattle.shape.specs.declared.Arg.TheVariants.{Aggregate}
use Rattle.shape.specs.declared.Piece.{Piece}
use Rattle.shape.specs.declared.Shape.{Shape}
use Rattle.shape.specs.Lists.{every}
use Rattle.slots.specs.declared.Slot.{Slot}
use Rattle.slots.specs.Search.{floats_in}
use Rattle.slots.specs.Cut.{up_to, part_of, cut}
use Rattle.slots.proofs.Cut.{length_cut}
use Rattle.abis.specs.Abis.{described, descriptions}
use Rattle.classify.specs.Pass.{reference}
use Rattle.classify.specs.Classify.{passed, counts, call, argument, returns}
use Rattle.aapcs64.specs.Aapcs64.{Composite, addressable, count, doublewords, member_parts, word_parts, x, registers, stack, copy, copy_on_stack, state, passing, parameter, stage_c, stage_a, is_hfa, result}
use Rattle.aapcs64.specs.Reading.{composite, most_align, most_natural, state_of, parts_of, reads, reads_passed, reads_result, reads_returned}
use Rattle.aapcs64.specs.Domain.{Domain}
use Rattle.aapcs64.proofs.Enough.{Enough, enough}
use Rattle.aapcs64.proofs.Hfa.{Vectors, Others, Agreed, vectors, others, agreement}
use Rattle.aapcs64.proofs.Row.{spent, argument_found, argument_small, argument_large, returns_found, returns_small, returns_large}

-- ---- the natural alignment

few_aligns : (ps : List Piece) → every (λ (p : Piece). leb p.align 8) ps ≡ true → most_align ps ≤ 8
unfolding every most_align
few_aligns [] e = omega arith
few_aligns (p ∷ ps) e =
    let a = both_true (leb p.align 8) _ e in
    let h : p.align ≤ 8 = leb-true _ _ a.0 in
    omega (arith, few_aligns ps a.1)

narrow : (shape : Shape) (ps : List Piece) (natural : ℕ) → Enough shape ps → natural ≤ most_natural shape ps → natural ≤ 8
narrow shape ps natural d h = omega (arith, d.shape_align, few_aligns ps d.aligns)

-- ---- sixteen bytes are one or two doublewords

run_floats : (n size : ℕ) → n ≤ 2 → floats_in (up_to n (part_of size 8)) ≡ 0
unfolding floats_in up_to
run_floats zero size h = refl
run_floats (suc zero) size h = refl
run_floats (suc (suc zero)) size h = refl
run_floats (suc (suc (suc n))) size h = absurd (omega arith)

run_parts : (n size N S : ℕ) → n ≤ 2 → parts_of N S (up_to n (part_of size 8)) ≡ word_parts N size 0 n
unfolding parts_of up_to word_parts
run_parts zero size N S h = refl
run_parts (suc zero) size N S h = refl
run_parts (suc (suc zero)) size N S h = refl
run_parts (suc (suc (suc n))) size N S h = absurd (omega arith)

module _ (size : ℕ) (h : size ≤ 16) where
  words : length (cut size 8) ≡ (size + 7) / 8
  words = length_cut size 8

  no_floats : floats_in (cut size 8) ≡ 0
  unfolding cut
  no_floats = run_floats ((size + 7) / 8) size (omega arith)

  in_x : (N S : ℕ) → parts_of N S (cut size 8) ≡ word_parts N size 0 ((size + 7) / 8)
  unfolding cut
  in_x N S = run_parts ((size + 7) / 8) size N S (omega arith)

-- ---- the standard's rules, each where it applies

module _ (N S : ℕ) (c : Composite) where
  module _ (t : is_hfa c ≡ true) where
    by_c2 : S + count c ≤ 8 → parameter (state N S) c ≡ passing (registers (member_parts S (addressable c.members))) (state N (S + count c))
    unfolding parameter stage_c
    by_c2 h = rw (t, le-leb (S + count c) 8 h)

    by_c3 : 8 < S + count c → parameter (state N S) c ≡ passing stack (state N 8)
    unfolding parameter stage_c
    by_c3 h = rw (t, lt-leb (S + count c) 8 h)

  module _ (t : is_hfa c ≡ false) where
    module _ (h : 16 < c.size) where
      by_c9 : N < 8 → parameter (state N S) c ≡ passing (copy (x N)) (state (N + 1) S)
      unfolding parameter stage_c
      by_c9 l = rw (t, lt-ltb 16 c.size h, lt-ltb N 8 l)

      by_c17 : 8 ≤ N → parameter (state N S) c ≡ passing copy_on_stack (state 8 S)
      unfolding parameter stage_c
      by_c17 l = rw (t, lt-ltb 16 c.size h, le-ltb N 8 l)

    module _ (h : c.size ≤ 16) (n : c.natural ≤ 8) where
      by_c12 : N + doublewords c ≤ 8
          → parameter (state N S) c ≡ passing (registers (word_parts N c.size 0 (doublewords c))) (state (N + doublewords c) S)
      unfolding parameter stage_c
      by_c12 l = rw (t, le-ltb 16 c.size h, le-leb c.natural 8 n, le-leb (N + doublewords c) 8 l)

      by_c15 : 8 < N + doublewords c → parameter (state N S) c ≡ passing stack (state 8 S)
      unfolding parameter stage_c
      by_c15 l = rw (t, le-ltb 16 c.size h, le-leb c.natural 8 n, lt-leb (N + doublewords c) 8 l)

-- ---- what the description's answers say

used : (left n : ℕ) → left ≤ 8 → n ≤ left → 8 - (left - n) ≡ 8 - left + n
used left n h l = omega arith

module _ (I F : ℕ) (h_i : I ≤ 8) (h_f : F ≤ 8) where
  module _ (i f : ℕ) (ss : List Slot) (ei : length ss - floats_in ss ≡ i) (ef : floats_in ss ≡ f) where
    reads_fits : i ≤ I → f ≤ F
        → reads_passed (counts I F) (spent I F ss) ≡ some (passing (registers (parts_of (8 - I) (8 - F) ss)) (state (8 - I + i) (8 - F + f)))
    unfolding reads
    reads_fits li lf = rw (ei, ef, le-leb i I li, le-leb f F lf, used I i h_i li, used F f h_f lf)

    reads_no_floats : i ≤ I → F < f → reads_passed (counts I F) (spent I F ss) ≡ some (passing stack (state (8 - I) 8))
    unfolding reads
    reads_no_floats li lf = rw (ei, ef, le-leb i I li, lt-leb f F lf, le-ltb I i li, lt-ltb F f lf)

    reads_no_integers : I < i → f ≤ F → reads_passed (counts I F) (spent I F ss) ≡ some (passing stack (state 8 (8 - F)))
    unfolding reads
    reads_no_integers li lf = rw (ei, ef, lt-leb i I li, lt-ltb I i li, le-ltb F f lf)

  reads_copy : 0 < I → reads_passed (counts I F) (passed reference (counts (I - 1) F)) ≡ some (passing (copy (x (8 - I))) (state (8 - I + 1) (8 - F)))
  unfolding reads
  reads_copy l = rw (lt-ltb (I - 1) I (omega arith), used I 1 h_i l)

  reads_copy_short : I ≤ 0 → reads_passed (counts I F) (passed reference (counts (I - 1) F)) ≡ some (passing copy_on_stack (state 8 (8 - F)))
  unfolding reads
  reads_copy_short l =
      let a : 8 - (I - 1) ≡ 8 = omega arith in
      rw (le-ltb (I - 1) I (omega arith), a)

-- ---- arguments

module _ (shape : Shape) (ps : List Piece) (d : Enough shape ps) (natural : ℕ) (n : natural ≤ most_natural shape ps) where
  abbrev c : Composite
  c = composite natural shape ps

  module _ (I F : ℕ) (h_i : I ≤ 8) (h_f : F ≤ 8) where
    abbrev Same : Type 0
    Same =
        reads_passed (counts I F) (argument (described 1) (counts I F) (Aggregate shape) ps)
        ≡ some (parameter (state (8 - I) (8 - F)) c)

    in_vectors : Vectors natural shape ps → Same
    in_vectors f = rw (argument_found shape ps d.some I F f.slots f.finds) (go (dec_le (count c) F))
      where
        i : length f.slots - floats_in f.slots ≡ 0
        i = omega (arith, f.floats, f.all)

        go : Dec (count c ≤ F) → reads_passed (counts I F) (spent I F f.slots) ≡ some (parameter (state (8 - I) (8 - F)) c)
        go (yes l) =
            let a : 8 - I + 0 ≡ 8 - I = omega arith in
            reads_fits I F h_i h_f 0 (count c) f.slots i f.floats (omega arith) l
            ∙ rw (f.parts, a, by_c2 (8 - I) (8 - F) c f.test (omega arith))
        go (no l) =
            reads_no_floats I F h_i h_f 0 (count c) f.slots i f.floats (omega arith) (omega arith)
            ∙ rw (by_c3 (8 - I) (8 - F) c f.test (omega arith))

    in_words : Others natural shape ps → shape.size ≤ 16 → Same
    in_words o h = rw (argument_small shape ps d.some I F o.finds h) (go (dec_le (doublewords c) I))
      where
        i : length (cut shape.size 8) - floats_in (cut shape.size 8) ≡ doublewords c
        i = omega (arith, words shape.size h, no_floats shape.size h)

        small : natural ≤ 8
        small = narrow shape ps natural d n

        go : Dec (doublewords c ≤ I)
            → reads_passed (counts I F) (spent I F (cut shape.size 8)) ≡ some (parameter (state (8 - I) (8 - F)) c)
        go (yes l) =
            let a : 8 - F + 0 ≡ 8 - F = omega arith in
            reads_fits I F h_i h_f (doublewords c) 0 (cut shape.size 8) i (no_floats shape.size h) l (omega arith)
            ∙ rw (in_x shape.size h (8 - I) (8 - F), a, by_c12 (8 - I) (8 - F) c o.test h small (omega arith))
        go (no l) =
            reads_no_integers I F h_i h_f (doublewords c) 0 (cut shape.size 8) i (no_floats shape.size h) (omega arith) (omega arith)
            ∙ rw (by_c15 (8 - I) (8 - F) c o.test h small (omega arith))

    by_copy : Others natural shape ps → 16 < shape.size → Same
    by_copy o h = rw (argument_large shape ps d.some I F o.finds h) (go (dec_le I 0))
      where
        go : Dec (I ≤ 0) → reads_passed (counts I F) (passed reference (counts (I - 1) F)) ≡ some (parameter (state (8 - I) (8 - F)) c)
        go (yes l) = reads_copy_short I F h_i h_f l ∙ rw (by_c17 (8 - I) (8 - F) c o.test h (omega arith))
        go (no l) = reads_copy I F h_i h_f (omega arith) ∙ rw (by_c9 (8 - I) (8 - F) c o.test h (omega arith))

    pub argument_agrees : Same
    argument_agrees = go (agreement natural shape ps d) (dec_le shape.size 16)
      where
        go : Agreed natural shape ps → Dec (shape.size ≤ 16) → Same
        go (vectors f) size = in_vectors f
        go (others o) (yes h) = in_words o h
        go (others o) (no h) = by_copy o (omega arith)

  -- ---- results

  module _ (I F : ℕ) where
    abbrev SameResult : Type 0
    SameResult =
        reads_returned (described 1).return_pointer (returns (described 1) (counts I F) (Aggregate shape) ps)
        ≡ some (result (state (8 - I) (8 - F)) c)

    pub returns_agrees : SameResult
    unfolding reads_result result described descriptions
    returns_agrees = go (agreement natural shape ps d) (dec_le shape.size 16)
      where
        small : natural ≤ 8
        small = narrow shape ps natural d n

        go : Agreed natural shape ps → Dec (shape.size ≤ 16) → SameResult
        go (vectors f) size =
            rw (returns_found shape ps d.some I F f.slots f.finds, f.parts, by_c2 0 0 c f.test (omega (arith, f.few)))
        go (others o) (yes h) =
            rw (returns_small shape ps d.some I F o.finds h, in_x shape.size h 0 0, by_c12 0 0 c o.test h small (omega arith))
        go (others o) (no h) =
            rw (returns_large shape ps d.some I F o.finds (omega arith), by_c9 0 0 c o.test (omega arith) (omega arith))

-- ---- the domain

module _ (shape : Shape) (ps : List Piece) (natural I F : ℕ) where
  pub argument_is_aapcs64 : Domain shape ps → natural ≤ most_natural shape ps → I ≤ 8 → F ≤ 8
      → reads_passed (counts I F) (argument (described 1) (counts I F) (Aggregate shape) ps)
      ≡ some (parameter (state (8 - I) (8 - F)) (composite natural shape ps))
  argument_is_aapcs64 d n h_i h_f = argument_agrees shape ps (enough shape ps d) natural n I F h_i h_f

  pub returns_is_aapcs64 : Domain shape ps → natural ≤ most_natural shape ps
      → reads_returned (described 1).return_pointer (returns (described 1) (counts I F) (Aggregate shape) ps)
      ≡ some (result (state (8 - I) (8 - F)) (composite natural shape ps))
  returns_is_aapcs64 d n = returns_agrees shape ps (enough shape ps d) natural n I F

-- a fresh call is stage A
pub fresh_is_stage_a : state_of (call (described 1)) ≡ stage_a
unfolding described descriptions
fresh_is_stage_a = refl
