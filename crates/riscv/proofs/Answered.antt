-- The same of the answers that the methods promise: where a call on one of these rows isn't refused, its way, its slots as they are written, what it
-- passes over and is given, how long it is on the stack, and the next call are the standard's. What isn't refused has no more registers left than its banks and isn't integers-only.
use Prim.Native.Nat.{ℕ, ◌≤◌}
use mathlib.Core.Path.{◌≡◌, refl, ap, subst, ◌∙◌}
use mathlib.Core.List.{List}
use mathlib.Core.Bool.{true, false}
use Rattle.shape.specs.declared.Arg.{Arg}
use Rattle.shape.specs.Numbers.{accepted}
use Rattle.shape.specs.Words.{pieces_of}
use Rattle.slots.proofs.Words.{read_back}
use Rattle.describe.specs.Description.{Description, terms_of}
use Rattle.describe.specs.Dots.{as_fixed, dots_of}
use Rattle.abis.specs.Abis.{described, riscv_with}
use Rattle.abis.specs.Apart.{is_riscv_psabi}
use Rattle.abis.proofs.Apart.{riscv_described}
use Rattle.spend.specs.declared.Left.{Left}
use Rattle.spend.specs.declared.Spent.{Spent}
use Rattle.spend.specs.Ways.{no_mark, left_after}
use Rattle.spend.proofs.Ways.{back}
use Rattle.classify.specs.declared.Call.{Call}
use Rattle.classify.specs.Pass.{way_of}
use Rattle.classify.specs.Answers.{row_refusal, refusal_of, Account, slots_of, returns_account, argument_account, variadic_argument_account, answer_to, written_to, returns_answer_by, returns_written_by, argument_answer_by, argument_written_by, variadic_argument_answer_by, variadic_argument_written_by, returns_answer, returns_written, argument_answer, argument_written, variadic_argument_answer, variadic_argument_written}
use Rattle.classify.proofs.Agree.{returns_agrees, argument_agrees, variadic_argument_agrees}
use Rattle.classify.proofs.Stacking.{stacked_stands}
use Rattle.classify.proofs.Accepted.{Sound, sound, call_checked, unmarked, accepted_so}
use Rattle.riscv.specs.Reading.{Asked, as_named, as_unnamed, as_result, reads_passed_by, answered, Says}
use Rattle.riscv.specs.Domain.{WithVoid}
use Rattle.riscv.proofs.Enough.{enough}
use Rattle.riscv.proofs.Lengths.{length_on}
use Rattle.riscv.proofs.Rows.{is_riscv, length_is_riscv}

-- a call on such a row that passes its check
record Good (c : Call) : Type 0 where
  integers : c.left.integer ≤ 8
  floats : c.left.float ≤ (described c.abi).banks.float
  no_mark_is : c.left.integers_only ≡ no_mark

good : (c : Call) → is_riscv_psabi c.abi ≡ true → Sound (described c.abi) c → Good c
good c row s =
    let D : Description = riscv_with (described c.abi).name (described c.abi).banks.float (described c.abi).banks.float_width in
    let z : Sound D c = subst (λ (D : Description). Sound D c) (riscv_described c.abi row) s in
    record { integers = z.integers; floats = z.floats; no_mark_is = unmarked D c z refl }

module _ (c : Call) (row : is_riscv_psabi c.abi ≡ true) (arg : Arg) (ws out : List ℕ) (d : WithVoid arg (pieces_of ws)) where
  abbrev D : Description
  D = described c.abi

  -- what is said of an account is said of the accepted answer
  says : (asked : Asked) (account : Account) → (answer_to (refusal_of c arg ws) c account out).outcome.refusal ≡ accepted
      → reads_passed_by asked D.banks arg c.left account.passed account.spent ≡ answered asked D c.left arg (pieces_of ws)
      → (account.placed.refusal ≡ accepted → account.placed.stacked.bytes ≡ length_on asked D c.left arg (pieces_of ws))
      → (c.left.integers_only ≡ no_mark → account.passed.left.integers_only ≡ no_mark)
      → Says asked c arg (pieces_of ws) (answer_to (refusal_of c arg ws) c account out) (written_to (refusal_of c arg ws) account out)
  unfolding refusal_of
  says asked account ok reads_so length_so unmarked_so =
      let so = accepted_so (refusal_of c arg ws) c account out ok in
      let s = (sound (row_refusal c.abi) D c (call_checked (row_refusal c.abi) D c arg ws so.checks_pass)).1 in
      let k = good c row s in
      let I : ℕ = c.left.integer in
      let F : ℕ = c.left.float in
      let e = enough arg (pieces_of ws) d in
      rw (so.answer, so.words_are)
      (record {
        travels =
            rw (back (way_of account.passed.pass), read_back (slots_of account) out so.room)
            (reads_so ∙ rw k.no_mark_is (is_riscv c.abi row I F k.integers k.floats arg (pieces_of ws) e asked));
        stacked = length_so so.stands ∙ rw k.no_mark_is (length_is_riscv c.abi row I F k.integers k.floats arg (pieces_of ws) e asked);
        same_abi = refl;
        unmarked = unmarked_so k.no_mark_is;
      })

  abbrev keeps_mark : (spent : Spent) (after : Left) → after ≡ left_after c.left spent → c.left.integers_only ≡ no_mark → after.integers_only ≡ no_mark
  keeps_mark spent after e m = ap (λ (l : Left). l.integers_only) e ∙ m

  pub argument_says : (argument_answer c arg ws out).outcome.refusal ≡ accepted
      → Says as_named c arg (pieces_of ws) (argument_answer c arg ws out) (argument_written c arg ws out)
  unfolding argument_answer argument_written argument_answer_by argument_written_by argument_account refusal_of
  argument_says ok =
      says as_named (argument_account D c arg (pieces_of ws)) ok refl (stacked_stands (terms_of D) _ false as_fixed c.stack arg (pieces_of ws) _ _ _).whole
      (keeps_mark _ _ (argument_agrees D c.left arg (pieces_of ws)).left_is)

  pub variadic_says : (variadic_argument_answer c arg ws out).outcome.refusal ≡ accepted
      → Says as_unnamed c arg (pieces_of ws) (variadic_argument_answer c arg ws out) (variadic_argument_written c arg ws out)
  unfolding variadic_argument_answer variadic_argument_written variadic_argument_answer_by variadic_argument_written_by variadic_argument_account refusal_of
  variadic_says ok =
      says as_unnamed (variadic_argument_account D c arg (pieces_of ws)) ok refl (stacked_stands (terms_of D) _ false (dots_of D.variadic) c.stack arg (pieces_of ws) _ _ _).whole
      (λ m. keeps_mark _ _ (variadic_argument_agrees D c.left arg (pieces_of ws) (λ e. m)).left_is m)

  pub result_says : (returns_answer c arg ws out).outcome.refusal ≡ accepted
      → Says as_result c arg (pieces_of ws) (returns_answer c arg ws out) (returns_written c arg ws out)
  unfolding returns_answer returns_written returns_answer_by returns_written_by returns_account refusal_of
  result_says ok =
      says as_result (returns_account D c arg (pieces_of ws)) ok refl (stacked_stands (terms_of D) _ true as_fixed c.stack arg (pieces_of ws) _ _ _).whole
      (keeps_mark _ _ (returns_agrees D c.left arg (pieces_of ws)).left_is)
