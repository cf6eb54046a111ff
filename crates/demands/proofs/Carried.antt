-- What a given register carries: nothing of what travels as Memory, on any description; and on those of fastcall the registers that an aggregate in
-- memory is counted against are passed over.
use Prim.Native.Nat.{ℕ, zero, suc, max}
use mathlib.Core.Path.{◌≡◌, refl, ap, ◌∙◌}
use mathlib.Core.List.{List}
use mathlib.Core.Bool.{Bool, true, false, ◌||◌, cond}
use native.Mathlib.Omega.{arith}
use borrow.Author.Tests.{eqb-false}
use lib.Dec.{eqb}
use lib.ListN.{length}
use Rattle.shape.specs.declared.Arg.{Arg}
use Rattle.shape.specs.declared.Arg.TheVariants.{Aggregate}
use Rattle.shape.specs.declared.Piece.{Piece}
use Rattle.shape.specs.declared.Shape.{Shape}
use Rattle.shape.specs.Arithmetic.{round_up}
use Rattle.shape.specs.Numbers.{accepted}
use Rattle.shape.proofs.Rounding.{round_least}
use Rattle.shape.specs.Words.{pieces_of}
use Rattle.slots.specs.declared.Slot.{Slot}
use Rattle.describe.specs.declared.Dots.{Dots}
use Rattle.describe.specs.declared.Rule.{Rule}
use Rattle.describe.specs.declared.Terms.{Terms}
use Rattle.describe.specs.Description.{Description, terms_of}
use Rattle.describe.specs.Dots.{as_fixed, dots_of}
use Rattle.abis.specs.Abis.{described}
use Rattle.abis.specs.Apart.{is_fastcall}
use Rattle.spend.specs.declared.Left.{Left}
use Rattle.spend.specs.declared.Spent.{Spent}
use Rattle.spend.specs.declared.Way as ways
use Rattle.spend.specs.declared.Decision.{Decision}
use Rattle.spend.specs.Ways.{way_number, plain, nothing}
use Rattle.spend.specs.Spending.{takes, want_of, memory}
use Rattle.stack_place.specs.Stacked.{Placed}
use Rattle.stack_place.specs.declared.Stacked.{Stacked}
use Rattle.stack_place.specs.Stacked.{stands, behind}
use Rattle.stack_place.proofs.Standing.{behind_accepted}
use Rattle.classify.specs.declared.Call.{Call}
use Rattle.classify.specs.declared.Answer.{Answer}
use Rattle.classify.specs.declared.Outcome.{Outcome}
use Rattle.classify.specs.Pass.{way_of, pass_slots}
use Rattle.classify.specs.Classify.{Passed}
use Rattle.classify.specs.Stacking.{stacked_of}
use Rattle.classify.specs.Spending.{argument_choice, variadic_argument_choice}
use Rattle.classify.specs.Answers.{call_refusal_by, row_refusal, refusal_of, done, or_answer, variadic_answer_by}
use Rattle.classify.proofs.Agree.{Agrees, argument_agrees}
use Rattle.classify.proofs.Operations.{agreed}
use Rattle.classify.proofs.Fastcall.{fastcall_decision, fixed_decision, variadic_decision, memory_stands, nothing_stands, variadic_fixed}
use Rattle.classify.proofs.Given.{AnswerUngiven, returns_ungiven, argument_ungiven, variadic_argument_ungiven}
use Rattle.ledger.specs.Ledger.{Operation, mark, return, argument, variadic_argument, answer_by, answer_for, Bank, integers, floats, given}
use Rattle.ledger.proofs.Ledger.{answer_on_row}
use Rattle.demands.specs.Rust.{rust_passes, AsDefined}
use Rattle.demands.specs.Performed.{Asks}
use Rattle.demands.specs.Performed as by
use Rattle.demands.specs.Fastcall.{fastcall_stands, fastcall_outcome}
use Rattle.demands.proofs.Answering.{operation_accepts, operation_as_defined}

-- ---- what travels as Memory

in_each_bank : (a : Answer) → AnswerUngiven a → a.outcome.way ≡ way_number ways.TheVariants.Memory → (b : Bank) → given b a ≡ 0
in_each_bank a h w integers = (h w).0
in_each_bank a h w floats = (h w).1

-- the mark has no value, and spends nothing
mark_ungiven : (source : ℕ) (D : Description) (c : Call) → AnswerUngiven (variadic_answer_by source D c)
unfolding variadic_answer_by
mark_ungiven source D c = go (call_refusal_by source D c) _
  where
    go : (n : ℕ) (next : Call) → AnswerUngiven (or_answer n c (done next))
    go zero next w = (refl, refl)
    go (suc n) next w = (refl, refl)

operation_ungiven : (source : ℕ) (D : Description) (op : Operation) (c : Call) → AnswerUngiven (answer_by source D op c)
operation_ungiven source D mark c = mark_ungiven source D c
operation_ungiven source D (return arg words out) c = returns_ungiven source D c arg words out
operation_ungiven source D (argument arg words out) c = argument_ungiven source D c arg words out
operation_ungiven source D (variadic_argument arg words out) c = variadic_argument_ungiven source D c arg words out

pub memory_is_given_nothing : (source : ℕ) (D : Description) (op : Operation) (c : Call) → (answer_by source D op c).outcome.way ≡ way_number ways.TheVariants.Memory
    → (b : Bank) → given b (answer_by source D op c) ≡ 0
memory_is_given_nothing source D op c = in_each_bank (answer_by source D op c) (operation_ungiven source D op c)

-- the answers of a call on a row
pub row_is_given_nothing : (op : Operation) (c : Call) → (answer_for op c).outcome.way ≡ way_number ways.TheVariants.Memory → (b : Bank) → given b (answer_for op c) ≡ 0
row_is_given_nothing op c = rw (answer_on_row c.abi c refl op) (memory_is_given_nothing (row_refusal c.abi) (described c.abi) op c)

-- ---- an aggregate argument of fastcall

-- an accepted answer has the numbers of the decision that the rules come to, and stands where the table says
outcome_of : Decision → Stacked → Outcome
outcome_of d stacked = record { refusal = accepted; way = way_number d.way; spent = d.spent; slots = d.count; stacked = stacked }

outcome_so : (c : Call) (out : List ℕ) (p : Passed) (d : Decision) (ss : List Slot) (placed : Placed) (a : Answer) (after : List ℕ) → AsDefined c out p d.spent placed a after → Agrees c.left p d ss
    → a.outcome ≡ outcome_of d placed.stacked
unfolding outcome_of
outcome_so c out p d ss placed a after r agrees =
    rw (← agrees.way, ← r.way, ← r.not_refused, ← agrees.count, ← r.count, ← r.by_the_rules, ← r.stands) refl

-- nothing of an empty one, and the bytes of any other
module _ (c : Call) (row : is_fastcall c.abi ≡ true) (shape : Shape) (ps : List Piece) (dots : Dots) (fixed : dots.emptied ≡ false) where
  abbrev D : Description
  D = described c.abi

  abbrev stood : Decision → Placed
  stood d = stacked_of (terms_of D) D.arguments false dots c.stack (Aggregate shape) ps d.way d.spent d.count

  in_memory : (spent : Spent) → (shape.size ≡ 0 → ⊥) → (stood (plain ways.TheVariants.Memory spent)).refusal ≡ accepted
      → (stood (plain ways.TheVariants.Memory spent)).stacked ≡ fastcall_stands shape c.stack
  in_memory spent some e =
      let is = memory_stands c.abi row c.left shape ps dots fixed c.stack spent 0 in
      let one : max (max shape.align 4) 1 ≡ max shape.align 4 = omega arith in
      let e' : (behind c.stack (round_up shape.size 4) (max shape.align 4)).refusal ≡ accepted = rw (is, one) at e in
      let there = behind_accepted c.stack (round_up shape.size 4) (max shape.align 4) (omega arith) e' (λ z. some (omega (arith, round_least shape.size 4 (omega arith)))) in
      rw (is, one, there) refl

  stands_so : ((stood (fastcall_decision shape 4 c.left.integer)).refusal ≡ accepted)
      → outcome_of (fastcall_decision shape 4 c.left.integer) (stood (fastcall_decision shape 4 c.left.integer)).stacked ≡ fastcall_outcome shape c.left.integer c.stack
  unfolding outcome_of fastcall_decision
  stands_so = go (eqb shape.size 0) (shape.complex || shape.floating) refl
    where
      decided : Bool → Bool → Decision
      decided empty floating =
          cond empty (plain ways.TheVariants.Ignore nothing) (cond floating (memory 0 0 0 0) (memory (takes (want_of shape.size 4) c.left.integer) 0 0 0))

      go : (empty floating : Bool) → eqb shape.size 0 ≡ empty → (stood (decided empty floating)).refusal ≡ accepted
          → outcome_of (decided empty floating) (stood (decided empty floating)).stacked
          ≡ cond empty (outcome_of (plain ways.TheVariants.Ignore nothing) (stands 0 0))
          (cond floating (outcome_of (memory 0 0 0 0) (fastcall_stands shape c.stack))
          (outcome_of (memory (takes (want_of shape.size 4) c.left.integer) 0 0 0) (fastcall_stands shape c.stack)))
      go true floating e z = ap (λ (p : Placed). outcome_of (plain ways.TheVariants.Ignore nothing) p.stacked) (nothing_stands c.abi row c.left shape ps dots fixed c.stack nothing 0)
      go false true e z = ap (outcome_of (memory 0 0 0 0)) (in_memory _ (eqb-false shape.size 0 e) z)
      go false false e z = ap (outcome_of (memory (takes (want_of shape.size 4) c.left.integer) 0 0 0)) (in_memory _ (eqb-false shape.size 0 e) z)

  -- by a decision, which is fastcall's
  outcome_is : (d : Decision) → d ≡ fastcall_decision shape 4 c.left.integer → (stood d).refusal ≡ accepted → outcome_of d (stood d).stacked ≡ fastcall_outcome shape c.left.integer c.stack
  outcome_is d e = rw e stands_so

-- the place of an answer, by its decision's way and slots
placed_so : (T : Terms) (rules : List Rule) (dots : Dots) (stack : ℕ) (arg : Arg) (ps : List Piece) (left : Left) (p : Passed) (d : Decision) (ss : List Slot) → Agrees left p d ss
    → stacked_of T rules false dots stack arg ps (way_of p.pass) d.spent (length (pass_slots p.pass)) ≡ stacked_of T rules false dots stack arg ps d.way d.spent d.count
placed_so T rules dots stack arg ps left p d ss agrees = rw (agrees.way, agrees.count) refl

pub fastcall_aggregate : (c : Call) → is_fastcall c.abi ≡ true → (shape : Shape) (op : Operation) → Asks (Aggregate shape) op → (answer_for op c).outcome.refusal ≡ accepted
    → (answer_for op c).outcome ≡ fastcall_outcome shape c.left.integer c.stack
unfolding refusal_of
fastcall_aggregate c row shape _ (by.as_fixed words out) z =
    let op : Operation = argument (Aggregate shape) words out in
    let D : Description = described c.abi in
    let ps : List Piece = pieces_of words in
    let d : Decision = (argument_choice D c.left (Aggregate shape) ps).decision in
    let accepts = operation_accepts op c z in
    let agrees = argument_agrees D c.left (Aggregate shape) ps in
    let same = placed_so (terms_of D) D.arguments as_fixed c.stack (Aggregate shape) ps c.left (rust_passes op c) d _ agrees in
    outcome_so c out (rust_passes op c) d _ _ _ _ (operation_as_defined op c accepts) agrees
    ∙ rw same (outcome_is c row shape ps as_fixed refl d (fixed_decision c.abi row c.left shape ps) (rw same at accepts.2))
fastcall_aggregate c row shape _ (by.as_variadic words out) z =
    let op : Operation = variadic_argument (Aggregate shape) words out in
    let D : Description = described c.abi in
    let ps : List Piece = pieces_of words in
    let d : Decision = (variadic_argument_choice D c.left (Aggregate shape) ps).decision in
    let accepts = operation_accepts op c z in
    let agrees = agreed (row_refusal c.abi) D c (Aggregate shape) words accepts.0 in
    let same = placed_so (terms_of D) D.arguments (dots_of D.variadic) c.stack (Aggregate shape) ps c.left (rust_passes op c) d _ agrees in
    outcome_so c out (rust_passes op c) d _ _ _ _ (operation_as_defined op c accepts) agrees
    ∙ rw same
    (outcome_is c row shape ps (dots_of D.variadic) (variadic_fixed c.abi row c.left shape ps) d (variadic_decision c.abi row c.left shape ps) (rw same at accepts.2))
