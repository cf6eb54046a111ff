-- No answer has more than eight slots, and those that it has fit the buffer.
use Prim.Native.Nat.{ℕ, zero, suc, ◌/◌, ◌≤◌}
use mathlib.Core.Path.{◌≡◌}
use mathlib.Core.List.{List}
use mathlib.Core.Bool.{Bool, true, false, cond}
use native.Mathlib.Omega.{arith}
use lib.Dec.{leb}
use lib.ListN.{length}
use Rattle.shape.specs.Numbers.{accepted, bad_abi}
use Rattle.slots.specs.Words.{slot_size, most_slots}
use Rattle.abis.specs.Abis.{description_count}
use Rattle.classify.specs.declared.Call.{Call}
use Rattle.classify.specs.declared.Answer.{Answer}
use Rattle.classify.specs.Answers.{call_refusal, refusal_of, Account, slots_of, refused, done, or_answer, answer_to, fresh_answer, variadic_answer_by, returns_account, returns_answer_by, argument_account, argument_answer_by, variadic_argument_account, variadic_argument_answer_by, variadic_answer, returns_answer, argument_answer, variadic_argument_answer}
use Rattle.classify.proofs.Accepted.{by_cases}
use Rattle.classify.proofs.Eight.{eight}
use Rattle.sheet_records.specs.declared.known.Operation as operations
use Rattle.sheet_perform.specs.declared.State.{State}
use Rattle.sheet_perform.specs.Performing.{words_read, answer_of, performed}

record Few (answer : Answer) (slots : List ℕ) : Type 0 where
  at_most : answer.outcome.slots ≤ most_slots
  inside : answer.outcome.slots ≤ length slots / slot_size

few_refused : (c : Call) (n : ℕ) (slots : List ℕ) → Few (refused c n) slots
few_refused c n slots = record { at_most = omega arith; inside = omega arith }

few_answer : (checks : ℕ) (c : Call) (account : Account) (slots : List ℕ) → (checks ≡ accepted → length (slots_of account) ≤ most_slots)
    → Few (answer_to checks c account slots) slots
few_answer checks c account slots h =
    by_cases checks c account slots (λ (a : Answer) (words : List ℕ). Few a slots) (λ n e. few_refused c (suc n) slots)
    (λ z room stands. record { at_most = h z; inside = room })

few_fresh : (b : Bool) (c next : Call) (slots : List ℕ) → Few (cond b (refused c bad_abi) (done next)) slots
few_fresh true c next slots = few_refused c bad_abi slots
few_fresh false c next slots = few_refused next accepted slots

few_marked : (n : ℕ) (c next : Call) (slots : List ℕ) → Few (or_answer n c (done next)) slots
few_marked zero c next slots = few_refused next accepted slots
few_marked (suc n) c next slots = few_refused c (suc n) slots

few : (c : Call) (operation : operations.Operation) (ws slots : List ℕ) → Few (answer_of c operation ws slots) slots
unfolding answer_of fresh_answer variadic_answer_by returns_account returns_answer_by argument_account argument_answer_by variadic_argument_account variadic_argument_answer_by variadic_answer returns_answer argument_answer variadic_argument_answer call_refusal refusal_of
few c (operations.TheVariants.Fresh abi) ws slots = few_fresh (leb description_count abi) _ _ slots
few c operations.TheVariants.Mark ws slots = few_marked (call_refusal c) c _ slots
few c (operations.TheVariants.Return arg) ws slots = few_answer (refusal_of c arg ws) c _ slots (λ e. (eight c arg ws e).returned)
few c (operations.TheVariants.Argument arg) ws slots = few_answer (refusal_of c arg ws) c _ slots (λ e. (eight c arg ws e).passed_on)
few c (operations.TheVariants.VariadicArgument arg) ws slots = few_answer (refusal_of c arg ws) c _ slots (λ e. (eight c arg ws e).variadic_argument)

module _ (s : State) (operation : operations.Operation) (ps slots : List ℕ) where
  pub eight_slots : (performed s operation ps slots).answer.outcome.slots ≤ most_slots
  unfolding performed
  eight_slots = (few s.call operation (words_read s.reader ps) slots).at_most

  pub slots_fit : (performed s operation ps slots).answer.outcome.slots ≤ length slots / slot_size
  unfolding performed
  slots_fit = (few s.call operation (words_read s.reader ps) slots).inside
