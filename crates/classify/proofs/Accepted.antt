-- An operation is refused, and then its call and its buffer are as they were; or it is accepted, and then nothing refuses it, its slots have room,
-- and its answer is the accepted one. A call is accepted where what it has left is sound. Each case split stands here alone.
use Prim.Native.Nat.{ℕ, zero, suc, ◌/◌, ◌≤◌}
use mathlib.Core.Path.{◌≡◌, refl, sym, subst}
use mathlib.Core.List.{List}
use mathlib.Core.Bool.{Bool, true, false, ◌&&◌, ◌||◌, not}
use native.Mathlib.Omega.{arith}
use borrow.Author.Tests.{le-ltb, ltb-false, eqb-true}
use lib.Dec.{T, eqb, ltb}
use lib.ListN.{length}
use Rattle.shape.proofs.Bools.{both_false}
use Rattle.shape.specs.declared.Arg.{Arg}
use Rattle.shape.specs.Numbers.{accepted}
use Rattle.checks.proofs.Accepted.{refuse_none, else_none}
use Rattle.checks.specs.Check.{unless_refused}
use Rattle.slots.specs.Words.{slot_size, written}
use Rattle.describe.specs.declared.Variadic.{Variadic}
use Rattle.describe.specs.declared.Variadic.TheVariants.{SameAsFixed, AlwaysMemory, BothBanks, IntegersOnly, UnnamedIntegers, UnnamedIntegersEven}
use Rattle.describe.specs.Description.{Description, terms_of}
use Rattle.describe.specs.Dots.{dots_of}
use Rattle.spend.specs.Ways.{no_mark, marked}
use Rattle.stack_place.specs.Stacked.{most_stack}
use Rattle.classify.specs.declared.Call.{Call}
use Rattle.classify.specs.declared.Answer.{Answer}
use Rattle.classify.specs.Classify.{is_integers_only}
use Rattle.classify.specs.Answers.{is_bad_call, state_refusal, arg_refusal, checked, call_refusal_by, refusal_by, room_refusal, Account, slots_of, refused, accepted_answer, or_answer, whole_refusal, answer_to, written_to}

-- ---- an answer

module _ (checks : ℕ) (c : Call) (account : Account) (out : List ℕ) where
  -- what is said of an answer and the buffer beside it: of each refusal, and of the accepted answer where nothing refuses it
  pub by_cases : (P : Answer → List ℕ → Type 0)
      → ((n : ℕ) → whole_refusal checks account out ≡ suc n → P (refused c (suc n)) out)
      → (checks ≡ accepted → length (slots_of account) ≤ length out / slot_size → account.placed.refusal ≡ accepted
      → P (accepted_answer c account) (written (slots_of account) out))
      → P (answer_to checks c account out) (written_to checks account out)
  unfolding answer_to written_to
  by_cases P when_refused when_accepted = go (whole_refusal checks account out) refl
    where
      go : (n : ℕ) → whole_refusal checks account out ≡ n → P (or_answer n c (accepted_answer c account)) (unless_refused n (written (slots_of account) out) out)
      go zero e =
          let both = else_none checks _ e in
          let rooms = else_none (room_refusal (length (slots_of account)) out) _ both.1 in
          when_accepted both.0 (ltb-false _ _ (refuse_none (ltb (length out / slot_size) (length (slots_of account))) 6 _ rooms.0).0) rooms.1
      go (suc n) e = when_refused n e

  pub record Accepted (a : Answer) (words : List ℕ) : Type 0 where
    pub checks_pass : checks ≡ accepted
    pub room : length (slots_of account) ≤ length out / slot_size
    pub stands : account.placed.refusal ≡ accepted
    pub answer : a ≡ accepted_answer c account
    pub words_are : words ≡ written (slots_of account) out

  pub accepted_so : (answer_to checks c account out).outcome.refusal ≡ accepted → Accepted (answer_to checks c account out) (written_to checks account out)
  accepted_so =
      by_cases (λ (a : Answer) (words : List ℕ). a.outcome.refusal ≡ accepted → Accepted a words)
      (λ n e z. absurd (omega arith))
      (λ z h p x. record { checks_pass = z; room = h; stands = p; answer = refl; words_are = refl })

  pub accepted_where : checks ≡ accepted → length (slots_of account) ≤ length out / slot_size → account.placed.refusal ≡ accepted
      → Accepted (answer_to checks c account out) (written_to checks account out)
  unfolding answer_to written_to
  accepted_where z h p = record { checks_pass = z; room = h; stands = p; answer = rw (z, le-ltb _ _ h, p); words_are = rw (z, le-ltb _ _ h, p) }

-- ---- a call

-- no count is above its bank's start and no offset above the limit, and the mark is set only where the description uses it
pub record Sound (D : Description) (c : Call) : Type 0 where
  pub integers : c.left.integer ≤ D.banks.integer
  pub floats : c.left.float ≤ D.banks.float
  pub stack_within : c.stack ≤ most_stack
  pub mark_used : marked c.left && not (is_integers_only D.variadic) ≡ false

module _ (source : ℕ) (D : Description) (c : Call) where
  pub sound : call_refusal_by source D c ≡ accepted → (source ≡ accepted) × Sound D c
  unfolding call_refusal_by state_refusal
  sound z =
      let both = else_none source _ z in
      let good = (refuse_none (is_bad_call (terms_of D) c) 1 accepted both.1).0 in
      let counts_rest = both_false (ltb D.banks.integer c.left.integer || ltb D.banks.float c.left.float) _ good in
      let counts = both_false (ltb D.banks.integer c.left.integer) (ltb D.banks.float c.left.float) counts_rest.0 in
      let stack_mark = both_false (ltb most_stack c.stack) _ counts_rest.1 in (
        both.0,
        record { integers = ltb-false _ _ counts.0; floats = ltb-false _ _ counts.1; stack_within = ltb-false _ _ stack_mark.0; mark_used = stack_mark.1 },
      )

  pub sound_accepted : source ≡ accepted → Sound D c → call_refusal_by source D c ≡ accepted
  unfolding call_refusal_by state_refusal
  sound_accepted z s = rw (z, le-ltb _ _ s.integers, le-ltb _ _ s.floats, le-ltb _ _ s.stack_within, s.mark_used)

  -- the checks of a call are among those of an operation
  pub call_checked : (arg : Arg) (ws : List ℕ) → refusal_by source D c arg ws ≡ accepted → call_refusal_by source D c ≡ accepted
  unfolding refusal_by call_refusal_by checked
  call_checked arg ws z =
      let both = else_none source _ z in
      rw (both.0, (else_none (state_refusal (terms_of D) c) (arg_refusal arg ws) both.1).0)

pub unmarked : (D : Description) (c : Call) → Sound D c → is_integers_only D.variadic ≡ false → c.left.integers_only ≡ no_mark
unmarked D c s e = go (eqb c.left.integers_only no_mark) refl (rw e at s.mark_used)
  where
    go : (b : Bool) → eqb c.left.integers_only no_mark ≡ b → not b && true ≡ false → c.left.integers_only ≡ no_mark
    go true t x = eqb-true _ _ t
    go false t x = absurd (subst T x tt)

-- a description whose unnamed arguments alone go in integers marks no call
pub alone_unmarked : (v : Variadic) → (dots_of v).integers_only ≡ true → is_integers_only v ≡ false
alone_unmarked SameAsFixed e = refl
alone_unmarked AlwaysMemory e = refl
alone_unmarked BothBanks e = refl
alone_unmarked IntegersOnly e = absurd (subst T (sym e) tt)
alone_unmarked UnnamedIntegers e = refl
alone_unmarked UnnamedIntegersEven e = refl
