-- On RISC-V's own descriptions a register is passed over for an even start and for nothing else: no line for a scalar and no rule passes over any, and behind
-- the dots what was left out before the decision is passed over, unless the value is ignored. So it is over a history.
use Prim.Native.Nat.{ℕ, zero, suc, ◌+◌, ◌-◌, ◌%◌, ◌≤◌, ◌<◌, min}
use mathlib.Core.Path.{◌≡◌, refl, sym, subst, ◌∙◌}
use mathlib.Core.List.{List}
use mathlib.Core.Bool.{Bool, true, false, ◌&&◌, cond, not, and-false}
use mathlib.Core.Option.Option.{some}
use native.Mathlib.Omega.{arith}
use borrow.Author.Tests.{eqb-true, eqb-false}
use lib.Dec.{eqb, leb}
use lib.ListN.{take, get_elem?}
use Rattle.std.specs.Prelude.{Some, None}
use Rattle.shape.specs.declared.Arg as args
use Rattle.shape.specs.declared.Piece.{Piece}
use Rattle.shape.specs.declared.Scalar.{Scalar}
use Rattle.shape.specs.declared.Shape.{Shape}
use Rattle.shape.specs.Numbers.{accepted}
use Rattle.shape.specs.Words.{pieces_of}
use Rattle.describe.specs.declared.Variadic.TheVariants.{UnnamedIntegersEven}
use Rattle.describe.specs.declared.Short.TheVariants.{TryNextRule, Split}
use Rattle.describe.specs.Dots.{dots_of}
use Rattle.describe.specs.Description.{Description, terms_of}
use Rattle.abis.specs.Abis.{riscv_with, described, description_count}
use Rattle.abis.specs.Apart.{is_riscv_psabi}
use Rattle.abis.proofs.Apart.{riscv_known, riscv_described}
use Rattle.spend.specs.declared.Left.{Left}
use Rattle.spend.specs.declared.Decision.{Decision}
use Rattle.spend.specs.declared.Wanted.{Wanted}
use Rattle.spend.specs.declared.Way.{Way}
use Rattle.spend.specs.declared.Way.TheVariants.{Ignore, Direct, Pieces, Reference, Memory}
use Rattle.spend.specs.Ways.{way_number, spends, in_pieces, cut_slots}
use Rattle.spend.specs.Spending.{as_far_as, memory, in_slots, when_short}
use Rattle.spend_scalar.specs.Spending.{skip_of, scalar_argument, scalar_return}
use Rattle.after_dots.specs.AfterDots.{is_pair, skipped_for, settled_for}
use Rattle.after_dots.proofs.AfterDots.{skipped_fits}
use Rattle.classify.specs.declared.Call.{Call}
use Rattle.classify.specs.declared.Answer.{Answer}
use Rattle.classify.specs.Pass.{way_of}
use Rattle.classify.specs.Classify.{is_aligned_pair}
use Rattle.classify.specs.Spending.{by_rules, scalar_by, aggregate_by, return_choice, argument_choice, variadic_argument_choice}
use Rattle.classify.specs.Answers.{row_refusal, call_refusal_by, refusal_by, Account, returns_account, argument_account, variadic_argument_account, answer_to, variadic_answer_by, returns_answer_by, argument_answer_by, variadic_argument_answer_by}
use Rattle.classify.proofs.Agree.{variadic_argument_agrees}
use Rattle.classify.proofs.Accepted.{sound, unmarked, by_cases}
use Rattle.ledger.specs.Ledger.{Operation, mark, return, argument, variadic_argument, answer_by, answers_by, fresh_call, history, integers, floats, passed_over, call_after, run_at, InPassedOver}
use Rattle.ledger.specs.EvenStart.{wants_even, travels, used, even_start, EvenStart}
use Rattle.ledger.proofs.Registers.{run_first, run_counts}
use Rattle.ledger.proofs.Ledger.{prefix, all_fair, last_accepted, answer_at, fresh_accepted, fresh_row, answers_on_row}
use Rattle.ledger.proofs.Decided.{IfDecided, scalar_so, argument_so, return_so}

-- ---- what is decided passes over nothing

abbrev PassesNone : Decision → Type 0
PassesNone d = (d.spent.integers_passed ≡ 0) × (d.spent.floats_passed ≡ 0)

module _ (left : Left) where
  found_slots : (slots : Wanted) → IfDecided PassesNone (in_slots false false left TryNextRule slots)
  unfolding in_slots when_short
  found_slots slots = go (leb (slots.count - slots.floats) left.integer && leb slots.floats left.float)
    where
      go : (fits : Bool) → IfDecided PassesNone (cond fits (Some (in_pieces slots (spends 0 (slots.count - slots.floats) 0 slots.floats))) None)
      go true = (refl, refl)
      go false = tt

  cut_slots_lem : (slots : Wanted) → IfDecided PassesNone (in_slots false false left Split slots)
  unfolding in_slots when_short
  cut_slots_lem slots = go (leb i left.integer && leb slots.floats left.float) (eqb left.integer 0)
    where
      i : ℕ
      i = slots.count - slots.floats

      go : (fits none : Bool)
          → IfDecided PassesNone
          (cond fits (Some (in_pieces slots (spends 0 i 0 slots.floats)))
          (Some (cond none (memory 0 0 0 0) (as_far_as left slots i slots.floats))))
      go true none = (refl, refl)
      go false true = (refl, refl)
      go false false = (refl, refl)

module _ (name : List ℕ) (float_registers float_width : ℕ) where
  abbrev D : Description
  D = riscv_with name float_registers float_width

  scalar_none : (left : Left) (s : Scalar) → PassesNone (scalar_argument D.banks D.scalars left s)
  scalar_none left s = scalar_so name float_registers float_width PassesNone left s (refl, refl) (λ _. (refl, refl)) (refl, refl)

  aggregate_none : (left : Left) (shape : Shape) (ps : List Piece) → PassesNone (by_rules (terms_of D) false left D.arguments shape ps).decision
  aggregate_none left shape ps =
      argument_so name float_registers float_width PassesNone left shape ps (refl, refl) (found_slots left) (cut_slots_lem left (cut_slots shape.size 8)) (refl, refl)

  return_none : (left : Left) (arg : args.Arg) (ps : List Piece) → PassesNone (return_choice D left arg ps).decision
  unfolding return_choice scalar_by aggregate_by settled_for scalar_return
  return_none left args.TheVariants.Void ps = (refl, refl)
  return_none left (args.TheVariants.Scalar s) ps = (refl, refl)
  return_none left (args.TheVariants.Aggregate shape) ps = return_so name float_registers float_width PassesNone left shape ps (refl, refl) (λ slots. (refl, refl)) (refl, refl)

  argument_none : (left : Left) (arg : args.Arg) (ps : List Piece) → PassesNone (argument_choice D left arg ps).decision
  unfolding argument_choice scalar_by aggregate_by settled_for
  argument_none left args.TheVariants.Void ps = (refl, refl)
  argument_none left (args.TheVariants.Scalar s) ps = scalar_none left s
  argument_none left (args.TheVariants.Aggregate shape) ps = aggregate_none left shape ps

  -- ---- behind the dots: one, where the value travels and is an aligned pair, and an odd number is used

  module _ (left : Left) (few : left.integer ≤ 8) where
    abbrev Starts : Bool → Decision → Type 0
    Starts paired d =
        (d.spent.integers_passed ≡ cond (not (eqb (way_number d.way) (way_number Ignore)) && (paired && eqb ((8 - left.integer) % 2) 1)) 1 0) × (d.spent.floats_passed ≡ 0)

    -- before an odd one there is one left
    one_left : (paired odd : Bool) → eqb ((8 - left.integer) % 2) 1 ≡ odd → cond (paired && odd) (min 1 left.integer) 0 ≡ cond (paired && odd) 1 0
    one_left false odd e = refl
    one_left true false e = refl
    one_left true true e = let o : (8 - left.integer) % 2 ≡ 1 = eqb-true _ _ e in omega (arith, o)

    settled_starts : (paired : Bool) (n : ℕ) → n ≡ cond (paired && eqb ((8 - left.integer) % 2) 1) 1 0 → n ≤ left.integer → (d : Decision) → PassesNone d
        → Starts paired (settled_for (dots_of UnnamedIntegersEven) left.integer n d)
    unfolding settled_for
    settled_starts paired n e fits d none = go d.way refl
      where
        passed : min (n + d.spent.integers_passed) left.integer ≡ cond (paired && eqb ((8 - left.integer) % 2) 1) 1 0
        passed = let z : min (n + d.spent.integers_passed) left.integer ≡ n = omega (arith, none.0, fits) in z ∙ e

        go : (w : Way) → d.way ≡ w → Starts paired (settled_for (dots_of UnnamedIntegersEven) left.integer n d)
        go Ignore ew = rw ew (refl, refl)
        go Direct ew = rw ew (passed, none.1)
        go Pieces ew = rw ew (passed, none.1)
        go Reference ew = rw ew (passed, none.1)
        go Memory ew = rw ew (passed, none.1)

    -- what is left out before the decision
    module _ (size align : ℕ) where
      abbrev skipped : ℕ
      skipped = skipped_for (dots_of UnnamedIntegersEven) D.banks left size align

      skipped_is : skipped ≡ cond (is_pair 8 size align && eqb ((8 - left.integer) % 2) 1) 1 0
      unfolding skipped_for skip_of
      skipped_is = one_left (is_pair 8 size align) _ refl

    variadic_starts : (arg : args.Arg) (ps : List Piece) → Starts (is_aligned_pair D arg) (variadic_argument_choice D left arg ps).decision
    unfolding variadic_argument_choice scalar_by aggregate_by
    variadic_starts args.TheVariants.Void ps = (refl, refl)
    variadic_starts (args.TheVariants.Scalar s) ps =
        settled_starts (is_aligned_pair D (args.TheVariants.Scalar s)) (skipped s.size s.align) (skipped_is s.size s.align) (skipped_fits (dots_of UnnamedIntegersEven) D.banks left s.size s.align) _ (scalar_none _ s)
    variadic_starts (args.TheVariants.Aggregate shape) ps =
        settled_starts (is_aligned_pair D (args.TheVariants.Aggregate shape)) (skipped shape.size shape.align) (skipped_is shape.size shape.align) (skipped_fits (dots_of UnnamedIntegersEven) D.banks left shape.size shape.align) _ (aggregate_none _ shape ps)

  -- ---- an operation

  module _ (source : ℕ) (c : Call) (good : call_refusal_by source D c ≡ accepted) where
    abbrev Passes : Operation → Answer → Type 0
    Passes op a = (passed_over integers a ≡ even_start D op c a) × (passed_over floats a ≡ 0)

    answered : (op : Operation) (checks : ℕ) (account : Account) (out : List ℕ)
        → (account.spent.integers_passed ≡ cond (not (eqb (way_number (way_of account.passed.pass)) (way_number Ignore)) && (wants_even D op && eqb (used D c % 2) 1)) 1 0)
        × (account.spent.floats_passed ≡ 0)
        → Passes op (answer_to checks c account out)
    answered op checks account out h = by_cases checks c account out (λ (a : Answer) (words : List ℕ). Passes op a) (λ n e. (refl, refl)) (λ z room s. h)

    operation_passes : (op : Operation) → Passes op (answer_by source D op c)
    unfolding variadic_answer_by returns_answer_by argument_answer_by variadic_argument_answer_by returns_account argument_account variadic_argument_account
    operation_passes mark = rw good (refl, refl)
    operation_passes (return arg words out) =
        let none = return_none c.left arg (pieces_of words) in
        answered (return arg words out) (refusal_by source D c arg words) _ out (rw and-false none.0, none.1)
    operation_passes (argument arg words out) =
        let none = argument_none c.left arg (pieces_of words) in
        answered (argument arg words out) (refusal_by source D c arg words) _ out (rw and-false none.0, none.1)
    operation_passes (variadic_argument arg words out) =
        let s = (sound source D c good).1 in
        let agrees = variadic_argument_agrees D c.left arg (pieces_of words) (λ e. unmarked D c s refl) in
        answered (variadic_argument arg words out) (refusal_by source D c arg words) _ out (rw agrees.way (variadic_starts c.left s.integers arg (pieces_of words)))

-- ---- a history

-- what each operation on a call that passes the checks passes over
abbrev AllPass : ℕ → Description → Type 0
AllPass source D =
    (c : Call) → call_refusal_by source D c ≡ accepted → (op : Operation)
    → (passed_over integers (answer_by source D op c) ≡ even_start D op c (answer_by source D op c)) × (passed_over floats (answer_by source D op c) ≡ 0)

module _ (source : ℕ) (D : Description) (all : AllPass source D) (c : Call) (good : call_refusal_by source D c ≡ accepted) (ops : List Operation) where
  abbrev past : List Answer
  past = answers_by source D c ops

  abbrev before : ℕ → Call
  before k = call_after c (take k past)

  good_before : (k : ℕ) → call_refusal_by source D (before k) ≡ accepted
  good_before k = rw (prefix k source D c ops) (last_accepted source D c (answers_by source D c (take k ops)) good (all_fair source D c good (take k ops))).1

  module _ (k : ℕ) (op : Operation) (e : get_elem? ops k ≡ some op) (a : Answer) (x : get_elem? past k ≡ some a) where
    passes_so : (passed_over integers a ≡ even_start D op (before k) a) × (passed_over floats a ≡ 0)
    passes_so = rw (answer_at source D c ops k op e a x) (all (before k) (good_before k) op)

    first_is : (run_at integers D.banks c past k).first ≡ used D (before k)
    first_is = run_first integers source D c past k a x

    passes_are : (run_at integers D.banks c past k).passes ≡ even_start D op (before k) a
    passes_are = (run_counts integers source D c past k a x).0 ∙ passes_so.0

    part : even_start D op (before k) a ≡ 1 → InPassedOver (run_at integers D.banks c past k) (used D (before k))
    part one = (omega (arith, first_is), omega (arith, first_is, passes_are, one))

    from_even : travels a ≡ true → wants_even D op ≡ true → ((run_at integers D.banks c past k).first + (run_at integers D.banks c past k).passes) % 2 ≡ 0
    from_even t w = rw (first_is, passes_are, t, w) (go (used D (before k)) (eqb (used D (before k) % 2) 1) refl)
      where
        go : (n : ℕ) (odd : Bool) → eqb (n % 2) 1 ≡ odd → (n + cond odd 1 0) % 2 ≡ 0
        go n true o = let z : n % 2 ≡ 1 = eqb-true _ _ o in omega (arith, z)
        go n false o = even n (eqb-false _ _ o)
          where
            below : (r : ℕ) → (r ≡ 1 → ⊥) → r < 2 → r ≡ 0
            below zero z l = refl
            below (suc zero) z l = absurd (z refl)
            below (suc (suc r)) z l = absurd (omega arith)

            even : (n : ℕ) → (n % 2 ≡ 1 → ⊥) → (n + 0) % 2 ≡ 0
            even n z = let r : n % 2 ≡ 0 = below (n % 2) z (omega arith) in omega (arith, r)

  all_even : EvenStart D c ops past
  all_even =
      record {
        passes = λ k op e a x. (passes_so k op e a x).0;
        passes_no_float = λ k op e a x. (passes_so k op e a x).1;
        in_part = part;
        begins_even = from_even;
      }

-- ---- the rows of RISC-V's own book, from a fresh call

pub even_start_lem : (d : ℕ) → is_riscv_psabi d ≡ true → (ops : List Operation) → EvenStart (described d) (fresh_call d) ops (history d ops)
even_start_lem d is ops =
    let known : d < description_count = riscv_known d is in
    let D : Description = described d in
    rw (answers_on_row d (fresh_call d) (fresh_row d known) (fresh_accepted d known) ops)
    (all_even (row_refusal d) D
    (subst (AllPass (row_refusal d)) (sym (riscv_described d is)) (operation_passes D.name D.banks.float D.banks.float_width (row_refusal d)))
    (fresh_call d) (fresh_accepted d known) ops)
