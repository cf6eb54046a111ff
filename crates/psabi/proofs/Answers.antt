-- The operations themselves: an accepted argument or return on description 0 whose shape is of the domain hands back the psABI's answer, read off
-- its way, its next call and the words of the buffer. The words give back the slots, and an accepted call keeps within its banks.
use Prim.Native.Nat.{ℕ, ◌/◌, ◌≤◌}
use mathlib.Core.Path.{◌≡◌, refl, ap, subst, ◌∙◌}
use mathlib.Core.List.{List}
use mathlib.Core.Option.Option.{some}
use lib.ListN.{length}
use Rattle.shape.specs.declared.Arg.TheVariants.{Aggregate}
use Rattle.shape.specs.declared.Shape.{Shape}
use Rattle.shape.specs.Words.{pieces_of}
use Rattle.slots.specs.Words.{slot_size, written, slots_read}
use Rattle.slots.proofs.Words.{read_back}
use Rattle.abis.specs.Abis.{described, descriptions}
use Rattle.spend.specs.Ways.{no_mark}
use Rattle.spend.proofs.Ways.{back}
use Rattle.classify.specs.declared.Call.{Call}
use Rattle.classify.specs.declared.Answer.{Answer}
use Rattle.classify.specs.Pass.{Pass, ignore, direct, pieces, reference, memory, way_of, pass_slots}
use Rattle.classify.specs.Classify.{Passed}
use Rattle.classify.specs.Answers.{row_refusal, refusal_of, Account, slots_of, argument_account, returns_account, accepted_answer, answer_to, written_to, argument_answer_by, argument_written_by, returns_answer_by, returns_written_by, argument_answer, argument_written, returns_answer, returns_written}
use Rattle.classify.proofs.Accepted as accepted
use Rattle.classify.proofs.Accepted.{Sound}
use Rattle.psabi.specs.Psabi.{Free, Travels, psabi_argument, psabi_result}
use Rattle.psabi.specs.Domain.{Domain}
use Rattle.psabi.specs.Reading.{standing, results, pass_from, free_at, read_pass, read_in, answer_read}
use Rattle.psabi.proofs.Clauses.{above_0}
use Rattle.psabi.proofs.RowZero.{argument_is_psabi, result_is_psabi, argument_stays, result_stays}

-- ---- a way and its slots, read back from the answer and the words

pass_back : (p : Pass) (out : List ℕ) → length (pass_slots p) ≤ length out / slot_size
    → pass_from (way_of p) (slots_read (length (pass_slots p)) (written (pass_slots p) out)) ≡ p
pass_back ignore out h = refl
pass_back direct out h = refl
pass_back (pieces ss) out h = ap pieces (read_back ss out h)
pass_back reference out h = refl
pass_back memory out h = refl

-- ---- an answer that is no refusal

read_accepted : (from : Free) (c : Call) (account : Account) (out : List ℕ) → length (slots_of account) ≤ length out / slot_size
    → answer_read from c (accepted_answer c account) (written (slots_of account) out) ≡ read_in from c.left account.passed
read_accepted from c account out h =
    let p : Passed = account.passed in
    rw (back (way_of p.pass))
    (ap (λ (q : Pass). read_pass from (free_at c) q (standing p.left.integer p.left.float)) (pass_back p.pass out h))

-- a call of description 0 that is not refused: within its banks, and without the mark
record Kept (c : Call) : Type 0 where
  integer≤ : c.left.integer ≤ 6
  float≤ : c.left.float ≤ 8
  unmarked : c.left.integers_only ≡ no_mark

kept : (c : Call) → c.abi ≡ 0 → Sound (described c.abi) c → Kept c
unfolding described descriptions
kept c e s =
    let z : Sound (described 0) c = subst (λ (n : ℕ). Sound (described n) c) e s in
    record { integer≤ = z.integers; float≤ = z.floats; unmarked = accepted.unmarked (described 0) c z refl }

-- ---- the operations

-- an answer and a buffer that say how a value travels by the psABI, and hand back a call of the same description, still without the mark
pub record Says (from : Free) (c : Call) (a : Answer) (out : List ℕ) (t : Travels) : Type 0 where
  pub travels : answer_read from c a out ≡ some t
  pub same_abi : a.next.abi ≡ 0
  pub unmarked : a.next.left.integers_only ≡ no_mark

module _ (c : Call) (shape : Shape) (ws out : List ℕ) (e : c.abi ≡ 0) (d : Domain shape (pieces_of ws)) where
  -- what the operation does to a call, read in the psABI's words, whatever the operation
  says : (from : Free) (account : Account) (t : Travels) → (answer_to (refusal_of c (Aggregate shape) ws) c account out).outcome.refusal ≡ 0
      → (Kept c → (read_in from c.left account.passed ≡ some t) × (account.passed.left.integers_only ≡ no_mark))
      → Says from c (answer_to (refusal_of c (Aggregate shape) ws) c account out) (written_to (refusal_of c (Aggregate shape) ws) account out) t
  unfolding refusal_of
  says from account t h agrees =
      let a = accepted.accepted_so (refusal_of c (Aggregate shape) ws) c account out h in
      let s = (accepted.sound (row_refusal c.abi) (described c.abi) c (accepted.call_checked (row_refusal c.abi) (described c.abi) c (Aggregate shape) ws a.checks_pass)).1 in
      let k = agrees (kept c e s) in
      rw (a.answer, a.words_are)
      (record { travels = read_accepted from c account out a.room ∙ k.0; same_abi = e; unmarked = k.1 })

  pub argument_says : (argument_answer c (Aggregate shape) ws out).outcome.refusal ≡ 0
      → Says (free_at c) c (argument_answer c (Aggregate shape) ws out) (argument_written c (Aggregate shape) ws out) (psabi_argument (free_at c) shape.size (pieces_of ws))
  unfolding argument_answer argument_written argument_answer_by argument_written_by argument_account refusal_of
  argument_says h =
      says (free_at c) (argument_account (described c.abi) c (Aggregate shape) (pieces_of ws)) _ h
      (λ k.
      rw (e, k.unmarked) (
        argument_is_psabi shape (pieces_of ws) d c.left.integer c.left.float k.integer≤ k.float≤,
        (argument_stays c.left.integer c.left.float shape (pieces_of ws) (above_0 d)).unmarked,
      ))

  pub result_says : (returns_answer c (Aggregate shape) ws out).outcome.refusal ≡ 0
      → Says results c (returns_answer c (Aggregate shape) ws out) (returns_written c (Aggregate shape) ws out) (psabi_result (free_at c) shape.size (pieces_of ws))
  unfolding returns_answer returns_written returns_answer_by returns_written_by returns_account refusal_of
  result_says h =
      says results (returns_account (described c.abi) c (Aggregate shape) (pieces_of ws)) _ h
      (λ k.
      rw (e, k.unmarked) (
        result_is_psabi shape (pieces_of ws) d c.left.integer c.left.float k.integer≤ k.float≤,
        (result_stays c.left.integer c.left.float shape (pieces_of ws) (above_0 d)).unmarked,
      ))
