-- The stack: nothing of an accepted argument is lost, and offsets past the limit are refused.
use Prim.Native.Nat.{ℕ, ◌+◌, ◌*◌, ◌-◌, ◌/◌, ◌≤◌, ◌<◌}
use mathlib.Core.Path.{◌≡◌, refl, ap₂, ◌∙◌}
use mathlib.Core.Bool.{Bool, true, false, ◌||◌, cond}
use mathlib.Core.List.{List}
use mathlib.Core.Logic.{inl, inr}
use native.Mathlib.Nat.{add-mul, mul_comm, mul-le-mul_left}
use native.Mathlib.Omega.{arith}
use borrow.Author.Tests.{lt-ltb, ltb-true, eqb-false}
use lib.Dec.{eqb, ltb}
use lib.ListN.{length}
use Rattle.shape.specs.declared.Arg.{Arg}
use Rattle.shape.specs.declared.Arg.TheVariants.{Void, Scalar, Aggregate}
use Rattle.shape.specs.declared.Shape.{Shape}
use Rattle.shape.specs.Numbers.{accepted, bad_call, no_room}
use Rattle.shape.specs.Words.{pieces_of}
use Rattle.checks.specs.Check.{refuse, or_else}
use Rattle.slots.specs.Words.{slot_size}
use Rattle.describe.specs.declared.Dots.{Dots}
use Rattle.describe.specs.declared.Rule.{Rule}
use Rattle.describe.specs.declared.Terms.{Terms}
use Rattle.describe.specs.Description.{Description, terms_of}
use Rattle.describe.specs.Dots.{as_fixed, dots_of}
use Rattle.abis.specs.Abis.{described, description_count}
use Rattle.spend.specs.declared.Spent.{Spent}
use Rattle.spend.specs.declared.Way.{Way}
use Rattle.spend.specs.declared.Way.TheVariants.{Ignore, Direct, Pieces, Reference, Memory}
use Rattle.spend.specs.Ways.{way_from}
use Rattle.spend.proofs.Ways.{back}
use Rattle.stack_place.specs.Stacked.{most_stack}
use Rattle.stack_place.proofs.Standing.{length_least}
use Rattle.classify.specs.declared.Call.{Call}
use Rattle.classify.specs.declared.Answer.{Answer}
use Rattle.classify.specs.Pass.{way_of, pass_slots}
use Rattle.classify.specs.Classify.{Passed}
use Rattle.classify.specs.Stacking.{area_of, bytes_for}
use Rattle.classify.specs.Answers as answers
use Rattle.classify.specs.Answers.{state_refusal, Account, account_of, slots_of, or_answer, answer_to}
use Rattle.classify.proofs.Accepted.{accepted_so}
use Rattle.classify.proofs.Stacking.{stacked_stands}
use Rattle.classify.proofs.Steps.{row_there}
use Rattle.ledger.specs.Ledger.{Operation, mark, return, argument, variadic_argument, answer_by, answer_for, range_of}
use Rattle.ledger.proofs.Ledger.{answer_on_row}
use Rattle.demands.specs.Performed.{Asks}
use Rattle.demands.specs.Performed as by
use Rattle.demands.specs.Rust.{table_places, Passes}
use Rattle.demands.specs.Lost.{HasAddress, Holds, SlotsHeld, NothingLost}

-- ---- nothing is lost

-- by the bytes that the table has go there
module _ (T : Terms) (a : Answer) (spent : Spent) (es : a.outcome.spent ≡ spent) where
  abbrev w : ℕ
  w = T.banks.integer_width

  address : (b : Bool) → eqb spent.integers_given 0 ≡ b → cond b w 0 ≤ (range_of a).bytes → HasAddress w a
  address true e h = inr h
  address false e h = inl (rw es (omega (arith, eqb-false spent.integers_given 0 e)))

  held : (size : ℕ) (b : Bool) → ltb 0 spent.floats_given ≡ b → cond b 0 (size - w * spent.integers_given) ≤ (range_of a).bytes → Holds size w a
  held size true e h = inl (rw es (ltb-true _ _ e))
  held size false e h = inr (rw es (omega arith))

  slots_held : w * (a.outcome.slots - spent.integers_given - spent.floats_given) ≤ (range_of a).bytes → SlotsHeld w a
  slots_held h =
      let n : ℕ = a.outcome.slots in
      let g : ℕ = spent.integers_given + spent.floats_given in
      let beyond : ℕ = n - spent.integers_given - spent.floats_given in
      let split : w * (g + beyond) ≡ w * g + w * beyond = mul_comm w (g + beyond) ∙ add-mul g beyond w ∙ ap₂ ◌+◌ (mul_comm g w) (mul_comm beyond w) in
      let most : w * n ≤ w * (g + beyond) = mul-le-mul_left w (omega arith) in
      rw es (omega arith)

  held_by : (arg : Arg) (way : Way) → bytes_for T false arg way spent a.outcome.slots ≤ (range_of a).bytes → NothingLost arg way w a
  held_by Void way h = tt
  held_by (Scalar s) Ignore h = tt
  held_by (Scalar s) Direct h = held s.size _ refl h
  held_by (Scalar s) Pieces h = held s.size _ refl h
  held_by (Scalar s) Reference h = address _ refl h
  held_by (Scalar s) Memory h = h
  held_by (Aggregate shape) Ignore h = tt
  held_by (Aggregate shape) Direct h = h
  held_by (Aggregate shape) Pieces h = slots_held h
  held_by (Aggregate shape) Reference h = address _ refl h
  held_by (Aggregate shape) Memory h = h

-- of an answer that is accepted
answer_held : (checks : ℕ) (T : Terms) (rules : List Rule) (dots : Dots) (c : Call) (arg : Arg) (words out : List ℕ) (p : Passed) (spent : Spent)
    → (answer_to checks c (account_of T rules false dots c arg (pieces_of words) p spent) out).outcome.refusal ≡ accepted
    → NothingLost arg (way_from (answer_to checks c (account_of T rules false dots c arg (pieces_of words) p spent) out).outcome.way) T.banks.integer_width
    (answer_to checks c (account_of T rules false dots c arg (pieces_of words) p spent) out)
answer_held checks T rules dots c arg words out p spent z =
    let account : Account = account_of T rules false dots c arg (pieces_of words) p spent in
    let a = accepted_so checks c account out z in
    let stands = stacked_stands T rules false dots c.stack arg (pieces_of words) (way_of p.pass) spent (length (pass_slots p.pass)) in
    rw (a.answer, back (way_of p.pass))
    (held_by T (answers.accepted_answer c account) spent refl arg (way_of p.pass)
    (omega (arith, stands.whole a.stands, length_least (area_of T dots) (bytes_for T false arg (way_of p.pass) spent (length (pass_slots p.pass))))))

pub nothing_is_lost : (source : ℕ) (D : Description) (arg : Arg) (op : Operation) → Asks arg op → (c : Call) → (answer_by source D op c).outcome.refusal ≡ accepted
    → NothingLost arg (way_from (answer_by source D op c).outcome.way) D.banks.integer_width (answer_by source D op c)
unfolding answers.argument_answer_by answers.argument_account answers.variadic_argument_answer_by answers.variadic_argument_account
nothing_is_lost source D arg _ (by.as_fixed words out) c z = answer_held _ (terms_of D) D.arguments as_fixed c arg words out _ _ z
nothing_is_lost source D arg _ (by.as_variadic words out) c z = answer_held _ (terms_of D) D.arguments (dots_of D.variadic) c arg words out _ _ z

pub row_loses_nothing : (c : Call) (arg : Arg) (op : Operation) → Asks arg op → (answer_for op c).outcome.refusal ≡ accepted
    → NothingLost arg (way_from (answer_for op c).outcome.way) (described c.abi).banks.integer_width (answer_for op c)
row_loses_nothing c arg op asks = rw (answer_on_row c.abi c refl op) (nothing_is_lost (answers.row_refusal c.abi) (described c.abi) arg op asks c)

-- ---- offsets past the limit

module _ (c : Call) (known : c.abi < description_count) (far : most_stack < c.stack) where
  bad_offset : state_refusal (terms_of (described c.abi)) c ≡ bad_call
  unfolding state_refusal
  bad_offset =
      rw (lt-ltb most_stack c.stack far) (go (ltb (described c.abi).banks.integer c.left.integer || ltb (described c.abi).banks.float c.left.float))
    where
      go : (b : Bool) → refuse (b || true) bad_call accepted ≡ bad_call
      go true = refl
      go false = refl

  pub offset_past_limit : (op : Operation) → (answer_for op c).outcome.refusal ≡ bad_call
  unfolding answers.variadic_answer answers.variadic_answer_by answers.call_refusal_by answers.returns_answer answers.returns_answer_by answers.argument_answer answers.argument_answer_by answers.variadic_argument_answer answers.variadic_argument_answer_by answers.refusal_by answers.checked answer_to
  offset_past_limit mark = rw (row_there c.abi known, bad_offset) refl
  offset_past_limit (return arg words out) = rw (row_there c.abi known, bad_offset) refl
  offset_past_limit (argument arg words out) = rw (row_there c.abi known, bad_offset) refl
  offset_past_limit (variadic_argument arg words out) = rw (row_there c.abi known, bad_offset) refl

  pub in_memory_past_limit : (shape : Shape) (words : List ℕ) → (answers.in_memory_answer c shape words).refusal ≡ bad_call
  unfolding answers.in_memory_answer answers.in_memory_answer_by answers.refusal_by answers.checked
  in_memory_past_limit shape words = rw (row_there c.abi known, bad_offset) refl

-- ---- a stack that is full

answer_full : (checks : ℕ) (c : Call) (account : Account) (out : List ℕ) → checks ≡ accepted → account.placed.refusal ≡ no_room → (answer_to checks c account out).outcome.refusal ≡ no_room
unfolding answer_to
answer_full checks c account out z full = rw (z, full) (go (ltb (length out / slot_size) (length (slots_of account))))
  where
    go : (b : Bool) → (or_answer (or_else (refuse b no_room accepted) no_room) c (answers.accepted_answer c account)).outcome.refusal ≡ no_room
    go true = refl
    go false = refl

pub stack_is_full : (op : Operation) (c : Call) → Passes op c → (table_places op c).refusal ≡ no_room → (answer_for op c).outcome.refusal ≡ no_room
unfolding answers.refusal_of answers.returns_answer answers.returns_answer_by answers.returns_account answers.argument_answer answers.argument_answer_by answers.argument_account answers.variadic_argument_answer answers.variadic_argument_answer_by answers.variadic_argument_account
stack_is_full mark c z full = absurd (omega arith)
stack_is_full (return arg words out) c z full = answer_full _ c _ out z full
stack_is_full (argument arg words out) c z full = answer_full _ c _ out z full
stack_is_full (variadic_argument arg words out) c z full = answer_full _ c _ out z full
