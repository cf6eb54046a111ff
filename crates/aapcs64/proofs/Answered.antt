-- The same of the answers that the methods promise: where a call on description 1 isn't refused, its way, its slots as they are written and the next
-- call are the standard's. What isn't refused has no more than eight registers left of each bank and isn't integers-only.
use Prim.Native.Nat.{ℕ, ◌≤◌}
use mathlib.Core.Path.{◌≡◌, refl, subst}
use mathlib.Core.List.{List}
use mathlib.Core.Option.Option.{some}
use lib.ListN.{length}
use Rattle.shape.specs.declared.Arg.TheVariants.{Aggregate}
use Rattle.shape.specs.declared.Shape.{Shape}
use Rattle.shape.specs.Numbers.{accepted}
use Rattle.shape.specs.Words.{pieces_of}
use Rattle.slots.specs.declared.Slot.{Slot}
use Rattle.slots.specs.Words.{written}
use Rattle.abis.specs.Abis.{described, descriptions}
use Rattle.spend.specs.declared.Left.{Left}
use Rattle.spend.specs.declared.Way.{Way}
use Rattle.spend.specs.Ways.{no_mark, way_from}
use Rattle.spend.proofs.Ways.{back}
use Rattle.classify.specs.declared.Call.{Call}
use Rattle.classify.specs.declared.Answer.{Answer}
use Rattle.classify.specs.Pass.{way_of}
use Rattle.classify.specs.Answers.{row_refusal, refusal_of, Account, slots_of, argument_account, returns_account, answer_to, written_to, argument_answer_by, argument_written_by, returns_answer_by, returns_written_by, argument_answer, argument_written, returns_answer, returns_written}
use Rattle.classify.proofs.Accepted.{Sound, sound, call_checked, unmarked, accepted_so}
use Rattle.aapcs64.specs.Aapcs64.{parameter, result}
use Rattle.aapcs64.specs.Reading.{composite, most_natural, state_of, reads, reads_result}
use Rattle.aapcs64.specs.Domain.{Domain}
use Rattle.aapcs64.proofs.Agrees.{argument_is_aapcs64, returns_is_aapcs64}

-- a call on description 1 that passes its check
record Good (c : Call) : Type 0 where
  integers : c.left.integer ≤ 8
  floats : c.left.float ≤ 8
  no_mark_is : c.left.integers_only ≡ no_mark

good : (c : Call) → c.abi ≡ 1 → Sound (described c.abi) c → Good c
unfolding described descriptions
good c abi s =
    let z : Sound (described 1) c = subst (λ (n : ℕ). Sound (described n) c) abi s in
    record { integers = z.integers; floats = z.floats; no_mark_is = unmarked (described 1) c z refl }

-- ---- the answers

-- an answer beside the slots at the front of the buffer, of which something is said
pub record Answers (a : Answer) (out buffer : List ℕ) (says : List Slot → Type 0) : Type 0 where
  pub slots : List Slot
  pub count : a.outcome.slots ≡ length slots
  pub in_buffer : buffer ≡ written slots out
  pub description : a.next.abi ≡ 1
  pub standard : says slots

module _ (c : Call) (abi : c.abi ≡ 1) (shape : Shape) (ws out : List ℕ) where
  -- what is said of the Rust's pass is said of an accepted answer
  answered : (account : Account) (says : Way → List Slot → Left → Type 0)
      → (answer_to (refusal_of c (Aggregate shape) ws) c account out).outcome.refusal ≡ accepted
      → (Good c → says (way_of account.passed.pass) (slots_of account) account.passed.left)
      → Answers (answer_to (refusal_of c (Aggregate shape) ws) c account out) out (written_to (refusal_of c (Aggregate shape) ws) account out)
      (λ (slots : List Slot). says (way_from (answer_to (refusal_of c (Aggregate shape) ws) c account out).outcome.way) slots (answer_to (refusal_of c (Aggregate shape) ws) c account out).next.left)
  unfolding refusal_of
  answered account says ok standard =
      let a = accepted_so (refusal_of c (Aggregate shape) ws) c account out ok in
      let s = (sound (row_refusal c.abi) (described c.abi) c (call_checked (row_refusal c.abi) (described c.abi) c (Aggregate shape) ws a.checks_pass)).1 in
      rw (a.answer, a.words_are)
      (record {
        slots = slots_of account;
        count = refl;
        in_buffer = refl;
        description = abi;
        standard = rw (back (way_of account.passed.pass)) (standard (good c abi s));
      })

module _ (c : Call) (abi : c.abi ≡ 1) (shape : Shape) (ws out : List ℕ) (d : Domain shape (pieces_of ws)) (natural : ℕ) (n : natural ≤ most_natural shape (pieces_of ws)) where
  pub argument_answered : (argument_answer c (Aggregate shape) ws out).outcome.refusal ≡ accepted
      → Answers (argument_answer c (Aggregate shape) ws out) out (argument_written c (Aggregate shape) ws out)
      (λ (slots : List Slot).
      reads c.left (way_from (argument_answer c (Aggregate shape) ws out).outcome.way) slots (argument_answer c (Aggregate shape) ws out).next.left
      ≡ some (parameter (state_of c.left) (composite natural shape (pieces_of ws))))
  unfolding argument_answer argument_written argument_answer_by argument_written_by argument_account refusal_of
  argument_answered ok =
      answered c abi shape ws out (argument_account (described c.abi) c (Aggregate shape) (pieces_of ws))
      (λ (way : Way) (slots : List Slot) (after : Left). reads c.left way slots after ≡ some (parameter (state_of c.left) (composite natural shape (pieces_of ws)))) ok
      (λ k. rw (abi, k.no_mark_is) (argument_is_aapcs64 shape (pieces_of ws) natural c.left.integer c.left.float d n k.integers k.floats))

  pub returns_answered : (returns_answer c (Aggregate shape) ws out).outcome.refusal ≡ accepted
      → Answers (returns_answer c (Aggregate shape) ws out) out (returns_written c (Aggregate shape) ws out)
      (λ (slots : List Slot).
      reads_result (described 1).return_pointer (way_from (returns_answer c (Aggregate shape) ws out).outcome.way) slots (returns_answer c (Aggregate shape) ws out).next.left
      ≡ some (result (state_of c.left) (composite natural shape (pieces_of ws))))
  unfolding returns_answer returns_written returns_answer_by returns_written_by returns_account refusal_of
  returns_answered ok =
      answered c abi shape ws out (returns_account (described c.abi) c (Aggregate shape) (pieces_of ws))
      (λ (way : Way) (slots : List Slot) (after : Left). reads_result (described 1).return_pointer way slots after ≡ some (result (state_of c.left) (composite natural shape (pieces_of ws)))) ok
      (λ k. rw (abi, k.no_mark_is) (returns_is_aapcs64 shape (pieces_of ws) natural c.left.integer c.left.float d n))
