-- Which aggregates BAD_EXTENT refuses: no check before it answers it, nor does the check for room, so it is given just where its own check gives it.
use Prim.Native.Nat.{ℕ, zero, suc, ◌/◌}
use mathlib.Core.Path.{◌≡◌, refl, sym, ◌∙◌}
use mathlib.Core.Bool.{Bool, true, false, true≢false}
use mathlib.Core.List.{List}
use mathlib.Core.Logic.{⊎_elim}
use native.Mathlib.Omega.{arith}
use lib.Dec.{ltb}
use lib.ListN.{length}
use Rattle.shape.specs.declared.Arg.{Arg}
use Rattle.shape.specs.declared.Arg.TheVariants.{Aggregate}
use Rattle.shape.specs.declared.Piece.{Piece}
use Rattle.shape.specs.declared.Shape.{Shape}
use Rattle.shape.specs.Lists.{any}
use Rattle.shape.specs.Numbers.{accepted, bad_extent, no_room}
use Rattle.shape.specs.Words.{pieces_of}
use Rattle.checks.specs.Check.{refuse, or_else, is_past, extent_refusal, shape_refusal}
use Rattle.checks.proofs.Check.{else_regroup}
use Rattle.checks.proofs.Accepted.{refuse_none, else_none, else_other, past_only, past_always, inside_shape}
use Rattle.slots.specs.Words.{slot_size}
use Rattle.describe.specs.declared.Dots.{Dots}
use Rattle.describe.specs.declared.Rule.{Rule}
use Rattle.describe.specs.declared.Terms.{Terms}
use Rattle.describe.specs.Description.{terms_of}
use Rattle.abis.specs.Abis.{described}
use Rattle.spend.specs.declared.Spent.{Spent}
use Rattle.spend.specs.declared.Way.{Way}
use Rattle.classify.specs.declared.Call.{Call}
use Rattle.classify.specs.declared.Answer.{Answer}
use Rattle.classify.specs.Stacking.{stacked_of}
use Rattle.classify.specs.Answers.{state_refusal, arg_refusal, checked, row_refusal, call_refusal_by, call_refusal, refusal_by, refusal_of, Account, slots_of, returns_account, argument_account, variadic_argument_account, or_answer, or_align, accepted_answer, room_refusal, whole_refusal, answer_to, returns_answer_by, returns_answer, argument_answer_by, argument_answer, variadic_argument_answer_by, variadic_argument_answer, in_memory_answer_by, in_memory_answer}
use Rattle.classify.proofs.Stacking.{stacked_stands}
use Rattle.ledger.specs.Ledger.{Operation, answer_for}
use Rattle.demands.specs.Refusals.{mark_refusals, is_one_of}
use Rattle.demands.specs.Performed.{Takes}
use Rattle.demands.specs.Performed as by
use Rattle.demands.specs.Extent.{Extent}
use Rattle.demands.proofs.Refusing.{Within, call_within}

-- an answer out of some numbers is none that isn't among them
not_among : (numbers : List ℕ) (n m : ℕ) → Within numbers n → (m ≡ accepted → ⊥) → is_one_of numbers m ≡ false → n ≡ m → ⊥
not_among numbers zero m w h f e = h (sym e)
not_among numbers (suc n) m w h f e = true≢false (sym w ∙ rw e f)

call_otherwise : (c : Call) → call_refusal c ≡ bad_extent → ⊥
unfolding call_refusal is_one_of
call_otherwise c = not_among mark_refusals (call_refusal c) bad_extent (call_within (described c.abi) c) (λ x. omega arith) refl

stacked_otherwise : (T : Terms) (rules : List Rule) (returning : Bool) (dots : Dots) (stack : ℕ) (arg : Arg) (ps : List Piece) (way : Way) (spent : Spent) (slots : ℕ)
    → (stacked_of T rules returning dots stack arg ps way spent slots).refusal ≡ bad_extent → ⊥
stacked_otherwise T rules returning dots stack arg ps way spent slots h =
    ⊎_elim (λ (e : (stacked_of T rules returning dots stack arg ps way spent slots).refusal ≡ accepted). omega arith)
    (λ (e : (stacked_of T rules returning dots stack arg ps way spent slots).refusal ≡ no_room). omega arith)
    (stacked_stands T rules returning dots stack arg ps way spent slots).one_refusal

module _ (c : Call) (shape : Shape) (words : List ℕ) where
  -- the checks of the call, then those of the aggregate
  in_order : refusal_of c (Aggregate shape) words ≡ or_else (call_refusal c) (shape_refusal shape words)
  unfolding refusal_of refusal_by checked call_refusal call_refusal_by arg_refusal
  in_order = else_regroup (row_refusal c.abi) (state_refusal (terms_of (described c.abi)) c) (shape_refusal shape words)

  none_past : shape_refusal shape words ≡ accepted → any (is_past shape.size) (pieces_of words) ≡ false
  unfolding extent_refusal
  none_past z = (refuse_none (any (is_past shape.size) (pieces_of words)) 8 accepted (inside_shape shape words z)).0

  -- whatever is checked after them
  extent_before : (rest : ℕ) → (rest ≡ bad_extent → ⊥) → Extent c shape words (or_else (refusal_of c (Aggregate shape) words) rest)
  extent_before rest later =
      record {
        always = λ call past. rw (in_order, call, past_always shape words past) refl;
        only = λ e. let own = else_other (call_refusal c) _ bad_extent (λ h. absurd (call_otherwise c h)) (regrouped ∙ e) in
            (own.0, past_only shape words (before_rest (shape_refusal shape words) own.1));
        inside = λ e. none_past (else_none (shape_refusal shape words) rest (else_none (call_refusal c) _ (regrouped ∙ e)).1).0;
      }
    where
      regrouped : or_else (call_refusal c) (or_else (shape_refusal shape words) rest) ≡ or_else (refusal_of c (Aggregate shape) words) rest
      regrouped = rw in_order (else_regroup (call_refusal c) (shape_refusal shape words) rest)

      before_rest : (n : ℕ) → or_else n rest ≡ bad_extent → n ≡ bad_extent
      before_rest zero e = absurd (later e)
      before_rest (suc n) e = e

  -- an operation checks the room of its buffer after them
  answered : (account : Account) (out : List ℕ) → (account.placed.refusal ≡ bad_extent → ⊥) → Extent c shape words (answer_to (refusal_of c (Aggregate shape) words) c account out).outcome.refusal
  unfolding answer_to
  answered account out stack =
      rw (refusal_is (whole_refusal (refusal_of c (Aggregate shape) words) account out) c (accepted_answer c account) refl)
      (extent_before (or_else (room_refusal (length (slots_of account)) out) account.placed.refusal) (both (ltb (length out / slot_size) (length (slots_of account)))))
    where
      both : (b : Bool) → or_else (refuse b no_room accepted) account.placed.refusal ≡ bad_extent → ⊥
      both true e = omega arith
      both false e = stack e

      refusal_is : (n : ℕ) (c : Call) (rest : Answer) → rest.outcome.refusal ≡ accepted → (or_answer n c rest).outcome.refusal ≡ n
      refusal_is zero c rest e = e
      refusal_is (suc n) c rest e = refl

  pub operation_extent : (op : Operation) → Takes shape words op → Extent c shape words (answer_for op c).outcome.refusal
  unfolding refusal_of returns_answer returns_answer_by returns_account argument_answer argument_answer_by argument_account variadic_argument_answer variadic_argument_answer_by variadic_argument_account
  operation_extent _ (by.as_result out) = answered _ out (stacked_otherwise _ _ _ _ _ _ _ _ _ _)
  operation_extent _ (by.as_argument out) = answered _ out (stacked_otherwise _ _ _ _ _ _ _ _ _ _)
  operation_extent _ (by.as_variadic_argument out) = answered _ out (stacked_otherwise _ _ _ _ _ _ _ _ _ _)

  -- and in_memory checks nothing more
  pub in_memory_extent : Extent c shape words (in_memory_answer c shape words).refusal
  unfolding in_memory_answer in_memory_answer_by refusal_of
  in_memory_extent = rw (refusal_is (refusal_of c (Aggregate shape) words) _) (extent_before accepted (λ x. omega arith))
    where
      refusal_is : (n align : ℕ) → (or_align n align).refusal ≡ or_else n accepted
      refusal_is zero align = refl
      refusal_is (suc n) align = refl
