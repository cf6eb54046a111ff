-- One operation on a call that passes its checks: in each bank what it passes over, is given and leaves adds up to what was left before, its bytes on the
-- stack stand behind the call's offset, the call that it hands back passes the checks again, and a refused one does nothing. It holds because the Rust and
-- the rules agree.
use Prim.Native.Nat.{ℕ, zero, suc, ◌+◌, ◌%◌, ◌≤◌, ◌<◌}
use mathlib.Core.Path.{◌≡◌, refl, sym, subst}
use mathlib.Core.List.{List}
use mathlib.Core.Bool.{Bool, true, false}
use native.Mathlib.Omega.{arith}
use lib.Dec.{T}
use Rattle.shape.specs.Numbers.{accepted}
use Rattle.shape.specs.Words.{pieces_of}
use Rattle.slots.specs.declared.Slot.{Slot}
use Rattle.describe.specs.Description.{Description}
use Rattle.describe.specs.Dots.{as_fixed, dots_of}
use Rattle.spend.specs.declared.Decision.{Decision}
use Rattle.stack_place.specs.Stacked.{Placed}
use Rattle.stack_place.specs.Stacked.{stands}
use Rattle.stack_place.proofs.Standing.{Stands}
use Rattle.classify.specs.declared.Call.{Call}
use Rattle.classify.specs.declared.Answer.{Answer}
use Rattle.classify.specs.Classify.{Passed, is_integers_only, variadic}
use Rattle.classify.specs.Answers.{call_with, call_refusal_by, refusal_by, Account, returns_account, argument_account, variadic_argument_account, refused, done, or_answer, accepted_answer, answer_to, variadic_answer_by, returns_answer_by, argument_answer_by, variadic_argument_answer_by}
use Rattle.classify.proofs.Agree.{Agrees, argument_agrees, returns_agrees, variadic_argument_agrees}
use Rattle.classify.proofs.Accepted.{Sound, sound, sound_accepted, unmarked, alone_unmarked, by_cases}
use Rattle.classify.proofs.Stacking.{stacked_stands}
use Rattle.ledger.specs.Ledger.{Operation, mark, return, argument, variadic_argument, answer_by, is_refused, Bank, integers, floats, left_in, passed_over, given, range_end, range_of, rounding_by}

pub record Fair (source : ℕ) (D : Description) (c : Call) (a : Answer) : Type 0 where
  pub same_abi : a.next.abi ≡ c.abi
  pub adds_up : (b : Bank) → passed_over b a + given b a + left_in b a.next ≡ left_in b c
  pub acceptable : call_refusal_by source D a.next ≡ accepted
  pub refused_is_empty : is_refused a ≡ true → (b : Bank) → (passed_over b a ≡ 0) × (given b a ≡ 0)
  pub refused_keeps_call : is_refused a ≡ true → a.next ≡ c
  pub stands_behind : 0 < (range_of a).bytes → c.stack ≤ (range_of a).at
  pub hands_on_end : 0 < (range_of a).bytes → a.next.stack ≡ range_end (range_of a)
  pub nowhere_stays : (range_of a).bytes ≡ 0 → ((range_of a).at ≡ 0) × (a.next.stack ≡ c.stack)
  pub refused_is_nowhere : is_refused a ≡ true → range_of a ≡ stands 0 0

-- its bytes on the stack begin at a multiple of their rounding, with less padding before them than that
pub record Even (D : Description) (op : Operation) (c : Call) (a : Answer) : Type 0 where
  pub at_multiple : 0 < (range_of a).bytes → (range_of a).at % rounding_by D op c ≡ 0
  pub little_padding : 0 < (range_of a).bytes → (range_of a).at < c.stack + rounding_by D op c

module _ (source : ℕ) (D : Description) (c : Call) (good : call_refusal_by source D c ≡ accepted) where
  here : (source ≡ accepted) × Sound D c
  here = sound source D c good

  fair_refused : (n : ℕ) → Fair source D c (refused c n)
  fair_refused n =
      record {
        same_abi = refl;
        adds_up = elim [ integers ↦ omega arith | floats ↦ omega arith ];
        acceptable = good;
        refused_is_empty = λ e. elim [ integers ↦ (refl, refl) | floats ↦ (refl, refl) ];
        refused_keeps_call = λ e. refl;
        stands_behind = λ x. absurd (omega arith);
        hands_on_end = λ x. absurd (omega arith);
        nowhere_stays = λ x. (refl, refl);
        refused_is_nowhere = λ e. refl;
      }

  module _ (p : Passed) (d : Decision) (ss : List Slot) (agrees : Agrees c.left p d ss) (placed : Placed) (bytes rounding : ℕ)
      (placing : Stands c.stack bytes rounding placed) where
    abbrev account : Account
    account = record { passed = p; spent = d.spent; placed = placed }

    fair_accepted : Fair source D c (accepted_answer c account)
    fair_accepted =
        let s = here.1 in
        record {
          same_abi = refl;
          adds_up = elim [ integers ↦ rw agrees.left_is (omega (arith, agrees.integers)) | floats ↦ rw agrees.left_is (omega (arith, agrees.floats)) ];
          acceptable = rw agrees.left_is
              (sound_accepted source D _ here.0
              (record { integers = omega (arith, s.integers); floats = omega (arith, s.floats); stack_within = placing.within s.stack_within; mark_used = s.mark_used }));
          refused_is_empty = λ e. absurd (subst T (sym e) tt);
          refused_keeps_call = λ e. absurd (subst T (sym e) tt);
          stands_behind = placing.starts_behind;
          hands_on_end = placing.goes_on;
          nowhere_stays = placing.stays;
          refused_is_nowhere = λ e. absurd (subst T (sym e) tt);
        }

    fair_answer : (checks : ℕ) (out : List ℕ) → Fair source D c (answer_to checks c account out)
    fair_answer checks out =
        by_cases checks c account out (λ (a : Answer) (words : List ℕ). Fair source D c a) (λ n e. fair_refused (suc n)) (λ z h s. fair_accepted)

  -- the mark is set where the description uses it, or stays as it was
  marked_left : (uses : Bool) → is_integers_only D.variadic ≡ uses → Sound D (call_with c.abi (variadic D c.left) c.stack)
  marked_left true e = let s = here.1 in rw e (record { integers = s.integers; floats = s.floats; stack_within = s.stack_within; mark_used = rw e })
  marked_left false e = let s = here.1 in rw e (record { integers = s.integers; floats = s.floats; stack_within = s.stack_within; mark_used = s.mark_used })

  same_counts : (b : Bank) (uses : Bool) → is_integers_only D.variadic ≡ uses → 0 + 0 + left_in b (call_with c.abi (variadic D c.left) c.stack) ≡ left_in b c
  same_counts integers true e = rw e (omega arith)
  same_counts integers false e = rw e (omega arith)
  same_counts floats true e = rw e (omega arith)
  same_counts floats false e = rw e (omega arith)

  fair_mark : Fair source D c (variadic_answer_by source D c)
  unfolding variadic_answer_by
  fair_mark =
      rw good
      (record {
        same_abi = refl;
        adds_up = elim [ integers ↦ same_counts integers _ refl | floats ↦ same_counts floats _ refl ];
        acceptable = sound_accepted source D _ here.0 (marked_left _ refl);
        refused_is_empty = λ e. absurd (subst T (sym e) tt);
        refused_keeps_call = λ e. absurd (subst T (sym e) tt);
        stands_behind = λ x. absurd (omega arith);
        hands_on_end = λ x. absurd (omega arith);
        nowhere_stays = λ x. (refl, refl);
        refused_is_nowhere = λ e. absurd (subst T (sym e) tt);
      })

  pub fair : (op : Operation) → Fair source D c (answer_by source D op c)
  unfolding returns_answer_by argument_answer_by variadic_argument_answer_by returns_account argument_account variadic_argument_account
  fair mark = fair_mark
  fair (return arg words out) =
      fair_answer _ _ _ (returns_agrees D c.left arg (pieces_of words)) _ _ _ (stacked_stands _ _ true as_fixed c.stack arg (pieces_of words) _ _ _)
      (refusal_by source D c arg words) out
  fair (argument arg words out) =
      fair_answer _ _ _ (argument_agrees D c.left arg (pieces_of words)) _ _ _ (stacked_stands _ _ false as_fixed c.stack arg (pieces_of words) _ _ _)
      (refusal_by source D c arg words) out
  fair (variadic_argument arg words out) =
      fair_answer _ _ _ (variadic_argument_agrees D c.left arg (pieces_of words) (λ e. unmarked D c here.1 (alone_unmarked D.variadic e))) _ _ _
      (stacked_stands _ _ false (dots_of D.variadic) c.stack arg (pieces_of words) _ _ _) (refusal_by source D c arg words) out

-- whatever the call: a refused operation has no bytes there
module _ (source : ℕ) (D : Description) (c : Call) where
  even_refused : (op : Operation) (n : ℕ) → Even D op c (refused c n)
  even_refused op n = record { at_multiple = λ x. absurd (omega arith); little_padding = λ x. absurd (omega arith) }

  even_answer : (op : Operation) (checks : ℕ) (account : Account) (bytes : ℕ) → Stands c.stack bytes (rounding_by D op c) account.placed → (out : List ℕ)
      → Even D op c (answer_to checks c account out)
  even_answer op checks account bytes placing out =
      by_cases checks c account out (λ (a : Answer) (words : List ℕ). Even D op c a) (λ n e. even_refused op (suc n))
      (λ z h s. record { at_multiple = placing.at_multiple; little_padding = placing.little_padding })

  even_mark : (n : ℕ) (next : Call) → Even D mark c (or_answer n c (done next))
  even_mark zero next = record { at_multiple = λ x. absurd (omega arith); little_padding = λ x. absurd (omega arith) }
  even_mark (suc n) next = even_refused mark (suc n)

  pub even : (op : Operation) → Even D op c (answer_by source D op c)
  unfolding variadic_answer_by returns_answer_by argument_answer_by variadic_argument_answer_by returns_account argument_account variadic_argument_account
  even mark = even_mark (call_refusal_by source D c) _
  even (return arg words out) =
      even_answer (return arg words out) (refusal_by source D c arg words) _ _ (stacked_stands _ _ true as_fixed c.stack arg (pieces_of words) _ _ _) out
  even (argument arg words out) =
      even_answer (argument arg words out) (refusal_by source D c arg words) _ _ (stacked_stands _ _ false as_fixed c.stack arg (pieces_of words) _ _ _) out
  even (variadic_argument arg words out) =
      even_answer (variadic_argument arg words out) (refusal_by source D c arg words) _ _
      (stacked_stands _ _ false (dots_of D.variadic) c.stack arg (pieces_of words) _ _ _) out
