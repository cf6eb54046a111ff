-- On RISC-V's own descriptions nothing is on the stack while an integer register is left: an operation that has bytes there leaves none, since what was
-- decided spends them all (AllSpent.antt), and so it stays over a history.
use Prim.Native.Nat.{ℕ, zero, suc, ◌+◌, ◌*◌, ◌/◌, ◌%◌, ◌<◌}
use mathlib.Core.Path.{◌≡◌, refl, sym, ap, subst, ◌∙◌}
use mathlib.Core.List.{List, [], ◌∷◌}
use mathlib.Core.Bool.{Bool, true, false}
use mathlib.Core.Option.Option.{some}
use native.Mathlib.Omega.{arith}
use native.Mathlib.Nat.{mod-eq_of_lt}
use lib.ListN.{length, take, get_elem?}
use Rattle.shape.specs.declared.Arg as args
use Rattle.shape.specs.declared.Piece.{Piece}
use Rattle.shape.specs.Numbers.{accepted}
use Rattle.shape.specs.Arithmetic.{round_up}
use Rattle.shape.specs.Words.{pieces_of}
use Rattle.slots.specs.declared.Slot.{Slot}
use Rattle.describe.specs.declared.Dots.{Dots}
use Rattle.describe.specs.declared.Rule.{Rule}
use Rattle.describe.specs.declared.Variadic.TheVariants.{UnnamedIntegersEven}
use Rattle.describe.specs.Dots.{as_fixed, dots_of}
use Rattle.describe.specs.Description.{Description, terms_of}
use Rattle.abis.specs.Abis.{riscv_with, described, description_count}
use Rattle.abis.specs.Apart.{is_riscv_psabi}
use Rattle.abis.proofs.Apart.{riscv_known, riscv_described}
use Rattle.spend.specs.declared.Left.{Left}
use Rattle.spend.specs.declared.Decision.{Decision}
use Rattle.stack_place.specs.Stacked.{Placed}
use Rattle.stack_place.specs.Stacked as places
use Rattle.classify.specs.declared.Call.{Call}
use Rattle.classify.specs.declared.Answer.{Answer}
use Rattle.classify.specs.Pass.{way_of, pass_slots}
use Rattle.classify.specs.Classify.{Passed}
use Rattle.classify.proofs.Agree.{Agrees, argument_agrees, returns_agrees, variadic_argument_agrees}
use Rattle.classify.specs.Stacking.{bytes_for, stacked_of}
use Rattle.classify.specs.Answers.{row_refusal, call_refusal_by, refusal_by, Account, returns_account, argument_account, variadic_argument_account, answer_to, variadic_answer_by, returns_answer_by, argument_answer_by, variadic_argument_answer_by}
use Rattle.classify.proofs.Accepted.{sound, unmarked, by_cases}
use Rattle.ledger.specs.Ledger.{Operation, mark, return, argument, variadic_argument, answer_by, answers_by, fresh_call, history, integers, left_in, given, range_of, call_after, rounding_by}
use Rattle.ledger.specs.LastRegister.{LastRegister}
use Rattle.ledger.proofs.Fair.{fair, even}
use Rattle.ledger.proofs.Ledger.{prefix, fresh_is, fresh_accepted, fresh_row, answers_on_row}
use Rattle.ledger.proofs.AllSpent.{Spends, bytes_left, return_choice_lem, argument_choice_lem, variadic_choice}

-- ---- an operation: bytes that stand there leave no integer register

module _ (name : List ℕ) (float_registers float_width : ℕ) where
  abbrev D : Description
  D = riscv_with name float_registers float_width

  there : (stack length rounding : ℕ) → 0 < (places.behind stack length rounding).stacked.bytes → 0 < length
  unfolding places.behind
  there stack zero rounding h = h
  there stack (suc n) rounding h = omega arith

  -- a length is so many words, so that there are bytes
  some_bytes : (n : ℕ) → 0 < (n + 7) / 8 * 8 → 0 < n
  some_bytes n h = omega (arith, h)

  module _ (returning : Bool) (dots : Dots) (plain_area : dots.emptied ≡ false) (rules : List Rule) (c : Call) (arg : args.Arg) (ps : List Piece)
      (p : Passed) (d : Decision) (ss : List Slot) (agrees : Agrees c.left p d ss) (spends_so : Spends c.left d (bytes_left name float_registers float_width returning arg d)) where
    abbrev placed : Placed
    placed = stacked_of (terms_of D) rules returning dots c.stack arg ps (way_of p.pass) d.spent (length (pass_slots p.pass))

    leaves_none : 0 < placed.stacked.bytes → p.left.integer ≡ 0
    unfolding stacked_of round_up
    leaves_none h =
        let some : 0 < bytes_for (terms_of D) returning arg (way_of p.pass) d.spent (length (pass_slots p.pass)) = some_bytes _ (there _ _ _ h) in
        let k = spends_so (rw (agrees.way, agrees.count) at some) in
        omega (arith, k, ap (λ (l : Left). l.integer) agrees.left_is, agrees.integers)

  module _ (source : ℕ) (c : Call) (good : call_refusal_by source D c ≡ accepted) where
    abbrev LeavesNone : Answer → Type 0
    LeavesNone a = 0 < (range_of a).bytes → left_in integers a.next ≡ 0

    answered : (checks : ℕ) (account : Account) (out : List ℕ) → (0 < account.placed.stacked.bytes → account.passed.left.integer ≡ 0) → LeavesNone (answer_to checks c account out)
    answered checks account out h =
        by_cases checks c account out (λ (a : Answer) (words : List ℕ). LeavesNone a) (λ n e x. absurd (omega (arith, x))) (λ z room s. h)

    pub operation_leaves_none : (op : Operation) → LeavesNone (answer_by source D op c)
    unfolding variadic_answer_by returns_answer_by argument_answer_by variadic_argument_answer_by returns_account argument_account variadic_argument_account
    operation_leaves_none mark = rw good (λ x. absurd (omega (arith, x)))
    operation_leaves_none (return arg words out) =
        answered (refusal_by source D c arg words) _ out
        (leaves_none true as_fixed refl D.returns c arg (pieces_of words) _ _ _ (returns_agrees D c.left arg (pieces_of words)) (return_choice_lem name float_registers float_width c.left arg (pieces_of words)))
    operation_leaves_none (argument arg words out) =
        answered (refusal_by source D c arg words) _ out
        (leaves_none false as_fixed refl D.arguments c arg (pieces_of words) _ _ _ (argument_agrees D c.left arg (pieces_of words)) (argument_choice_lem name float_registers float_width c.left arg (pieces_of words)))
    operation_leaves_none (variadic_argument arg words out) =
        answered (refusal_by source D c arg words) _ out
        (leaves_none false (dots_of UnnamedIntegersEven) refl D.arguments c arg (pieces_of words) _ _ _
        (variadic_argument_agrees D c.left arg (pieces_of words) (λ e. unmarked D c (sound source D c good).1 refl)) (variadic_choice name float_registers float_width c.left arg (pieces_of words)))

-- what stands there first stands at 0: its place is a multiple of its rounding, with less padding before it than that
first_at : (source : ℕ) (D : Description) (c : Call) (op : Operation) → c.stack ≡ 0 → 0 < (range_of (answer_by source D op c)).bytes → (range_of (answer_by source D op c)).at ≡ 0
first_at source D c op e h =
    let m = even source D c op in
    small _ (rounding_by D op c) (m.at_multiple h) (omega (arith, m.little_padding h, e))
  where
    small : (n r : ℕ) → n % r ≡ 0 → n < r → n ≡ 0
    small n r z l = sym (mod-eq_of_lt l) ∙ z

-- ---- a history: the offset is 0 while an integer register is left

module _ (source : ℕ) (D : Description) (is_one : (c : Call) → call_refusal_by source D c ≡ accepted → (op : Operation) → 0 < (range_of (answer_by source D op c)).bytes → left_in integers (answer_by source D op c).next ≡ 0) where
  abbrev NoneBehind : Call → Type 0
  NoneBehind c = 0 < c.stack → left_in integers c ≡ 0

  step : (c : Call) → call_refusal_by source D c ≡ accepted → NoneBehind c → (op : Operation) → NoneBehind (answer_by source D op c).next
  step c good none op = go (range_of (answer_by source D op c)).bytes refl
    where
      go : (n : ℕ) → (range_of (answer_by source D op c)).bytes ≡ n → NoneBehind (answer_by source D op c).next
      go zero e h =
          let f = fair source D c good op in
          let before = none (omega (arith, h, (f.nowhere_stays e).1)) in
          omega (arith, f.adds_up integers, before)
      go (suc n) e h = is_one c good op (omega (arith, e))

  pub all_behind : (c : Call) → call_refusal_by source D c ≡ accepted → NoneBehind c → (ops : List Operation) → LastRegister c (answers_by source D c ops)
  unfolding answers_by call_after
  all_behind c good none [] =
      record { none_behind = none; leaves_none = λ k a e. absurd (let z : ◌≡◌ {A = ℕ} 0 1 = cc in omega arith); split_at_zero = λ k a e. absurd (let z : ◌≡◌ {A = ℕ} 0 1 = cc in omega arith) }
  all_behind c good none (op ∷ ops) =
      let f = fair source D c good op in
      let later = all_behind (answer_by source D op c).next f.acceptable (step c good none op) ops in
      record { none_behind = later.none_behind; leaves_none = here_or_later later; split_at_zero = split_or_later later }
    where
      here_or_later : LastRegister (answer_by source D op c).next (answers_by source D (answer_by source D op c).next ops)
          → (k : ℕ) (a : Answer) → get_elem? (answer_by source D op c ∷ answers_by source D (answer_by source D op c).next ops) k ≡ some a → 0 < (range_of a).bytes → left_in integers a.next ≡ 0
      here_or_later later zero a e = let q : answer_by source D op c ≡ a = cc in rw (← q) (is_one c good op)
      here_or_later later (suc k) a e = later.leaves_none k a e

      at_zero : 0 < (range_of (answer_by source D op c)).bytes → 0 < given integers (answer_by source D op c) → (range_of (answer_by source D op c)).at ≡ 0
      at_zero h g = go c.stack refl
        where
          go : (n : ℕ) → c.stack ≡ n → (range_of (answer_by source D op c)).at ≡ 0
          go zero e = first_at source D c op e h
          go (suc n) e = absurd (omega (arith, none (omega (arith, e)), (fair source D c good op).adds_up integers, g))

      split_or_later : LastRegister (answer_by source D op c).next (answers_by source D (answer_by source D op c).next ops)
          → (k : ℕ) (a : Answer) → get_elem? (answer_by source D op c ∷ answers_by source D (answer_by source D op c).next ops) k ≡ some a → 0 < (range_of a).bytes → 0 < given integers a → (range_of a).at ≡ 0
      split_or_later later zero a e = let q : answer_by source D op c ≡ a = cc in rw (← q) at_zero
      split_or_later later (suc k) a e = later.split_at_zero k a e

-- ---- the rows of RISC-V's own book, from a fresh call

leaves_none_by : (source : ℕ) (D : Description) (name : List ℕ) (f w : ℕ) → D ≡ riscv_with name f w → (c : Call) → call_refusal_by source D c ≡ accepted → (op : Operation)
    → 0 < (range_of (answer_by source D op c)).bytes → left_in integers (answer_by source D op c).next ≡ 0
leaves_none_by source D name f w e =
    subst
    (λ (X : Description). (c : Call) → call_refusal_by source X c ≡ accepted → (op : Operation) → 0 < (range_of (answer_by source X op c)).bytes → left_in integers (answer_by source X op c).next ≡ 0)
    (sym e) (operation_leaves_none name f w source)

pub last_register : (d : ℕ) → is_riscv_psabi d ≡ true → (ops : List Operation) (n : ℕ) → LastRegister (fresh_call d) (take n (history d ops))
last_register d is ops n =
    let known : d < description_count = riscv_known d is in
    let D : Description = described d in
    rw (answers_on_row d (fresh_call d) (fresh_row d known) (fresh_accepted d known) ops, prefix n (row_refusal d) D (fresh_call d) ops)
    (all_behind (row_refusal d) D (leaves_none_by (row_refusal d) D D.name D.banks.float D.banks.float_width (riscv_described d is)) (fresh_call d) (fresh_accepted d known)
    (rw (fresh_is d known) (λ h. absurd (omega (arith, h)))) (take n ops))
