-- Whichever function performed an operation, it answered and left what the definitions of that operation say.
use Prim.Native.Nat.{ℕ, ◌≤◌, ◌<◌}
use mathlib.Core.Path.{◌≡◌, refl, ◌∙◌}
use mathlib.Core.Bool.{true, false, cond}
use mathlib.Core.List.{List, []}
use mathlib.Core.Option.Option.{some}
use lib.Dec.{eqb}
use lib.ListN.{take, get_elem?}
use Rattle.shape.specs.declared.Arg.{Arg}
use Rattle.shape.specs.declared.Arg.TheVariants.{Aggregate}
use Rattle.shape.specs.declared.Shape.{Shape}
use Rattle.shape.specs.Numbers.{accepted, bad_call, no_room}
use Rattle.shape.specs.Words.{pieces_of}
use Rattle.abis.specs.Apart.{rust_count, is_riscv_psabi}
use Rattle.abis.proofs.Apart.{nothing_beyond, riscv_known}
use Rattle.abis.specs.Abis.{described, description_count}
use Rattle.abis.specs.Apart.{is_fastcall}
use Rattle.spend.specs.declared.Way.TheVariants.{Memory}
use Rattle.spend.specs.Ways.{way_number, way_from, marked}
use Rattle.stack_place.specs.Stacked.{most_stack}
use Rattle.classify.specs.declared.Call.{Call}
use Rattle.classify.specs.declared.Answer.{Answer}
use Rattle.classify.specs.declared.Outcome.{Outcome}
use Rattle.classify.specs.Pass.{way_of}
use Rattle.classify.specs.Classify as rust
use Rattle.classify.specs.Answers.{Leaves, unmarked, call_with, done, fresh_answer}
use Rattle.classify.proofs.Operations.{by_void}
use Rattle.ledger.specs.Ledger.{Operation, mark, return, argument, variadic_argument, buffer_of, answer_for, written_for, answers_from, history, Bank, given, Ledger, Rounded}
use Rattle.ledger.specs.Twelve.{Entry, twelve, call_on, expected}
use Rattle.ledger.specs.LastRegister.{LastRegister}
use Rattle.ledger.specs.EvenStart.{EvenStart}
use Rattle.ledger.proofs.LastRegister.{last_register}
use Rattle.ledger.proofs.EvenStart.{even_start_lem}
use Rattle.ledger.proofs.Ledger.{ledger, rounded}
use Rattle.ledger.proofs.Twelve.{call_of_twelve}
use Rattle.bridge.specs.Lent.{Lends}
use Rattle.psabi.specs.Domain as psabi
use Rattle.psabi.specs.Psabi.{psabi_argument, psabi_result}
use Rattle.psabi.specs.Reading.{free_at, results}
use Rattle.psabi.proofs.Answers as row_0
use Rattle.aapcs64.specs.Domain as aapcs64
use Rattle.aapcs64.specs.Reading.{most_natural}
use Rattle.aapcs64.proofs.Answered as row_1
use Rattle.riscv.specs.Domain as riscv
use Rattle.riscv.specs.Reading.{Asked, as_named, as_unnamed, as_result, Says as SaysRiscv}
use Rattle.riscv.proofs.Answered as rows_30_to_32
use Rattle.demands.specs.Refusals.{number_refusals, refusals_of, IsRefusal, Refused}
use Rattle.demands.specs.Rust.{rust_passes, rules_spend, table_places, Passes, Accepts, AsDefined, AsRust}
use Rattle.demands.specs.Standards.{SaysArgument, SaysResult}
use Rattle.demands.specs.Fastcall.{fastcall_outcome}
use Rattle.demands.specs.Extent.{Extent}
use Rattle.demands.specs.Lost.{NothingLost}
use Rattle.demands.proofs.Refusing.{operation_refused, fresh_refused}
use Rattle.demands.proofs.Answering.{operation_accepts, operation_as_defined, operation_way, fresh_as_described, fresh_is_unmarked, mark_marks}
use Rattle.demands.proofs.Ending.{operation_extent}
use Rattle.demands.proofs.Carried.{row_is_given_nothing, fastcall_aggregate}
use Rattle.demands.proofs.Placed.{row_loses_nothing, offset_past_limit, stack_is_full}
use Rattle.demands.specs.Performed as by
use Rattle.demands.specs.Performed.{Started, Asks, Takes, Performed, AllPerformed, leaving}

-- ---- an operation

-- what the definitions say of an operation on a call
abbrev pub Defined : Call → Operation → Answer → List ℕ → Type 0
Defined c op a after = Leaves (answer_for op c) (written_for op c) a after

-- of a lent call
lent : (a : Answer) (words : List ℕ) (r : Outcome) (next : Call) (after : List ℕ) → Lends a words r next after → Leaves a words (leaving next r) after
lent a words r next after p = record { answers = rw (p.outcome, p.call) refl; writes = p.writes }

-- an equation between the words at exit and those that are spoken of
at : (a : Answer) (words : List ℕ) (r : Answer) (exit after : List ℕ) → exit ≡ after → Leaves a words r exit → Leaves a words r after
at a words r exit after e p = rw (← e) p

pub performed_defined : (c : Call) (op : Operation) (a : Answer) (after : List ℕ) → Performed c op a after → Defined c op a after
performed_defined c _ _ _ (by.variadic κs a m) = record { answers = m.1; writes = refl }
performed_defined c _ _ _ (by.returns κs arg w o a after m) = at _ _ a _ after m.1 m.2
performed_defined c _ _ _ (by.argument κs arg w o a after m) = at _ _ a _ after m.1 m.2
performed_defined c _ _ _ (by.variadic_argument κs arg w o a after m) = at _ _ a _ after m.1 m.2
performed_defined c _ _ _ (by.returns_nothing κs out a m) = by_void true false c _ [] out a refl m.1
performed_defined c _ _ _ (by.argument_nothing κs out a m) = by_void false false c _ [] out a refl m.1
performed_defined c _ _ _ (by.variadic_argument_nothing κs out a m) = by_void false true c _ [] out a refl m.1
performed_defined c _ _ _ (by.returns_scalar κs s o a after m) = at _ _ a _ after m.1 m.2
performed_defined c _ _ _ (by.argument_scalar κs s o a after m) = at _ _ a _ after m.1 m.2
performed_defined c _ _ _ (by.variadic_argument_scalar κs s o a after m) = at _ _ a _ after m.1 m.2
performed_defined c _ _ _ (by.returns_aggregate κs shape w o a after m) = at _ _ a _ after m.1 m.2
performed_defined c _ _ _ (by.argument_aggregate κs shape w o a after m) = at _ _ a _ after m.1 m.2
performed_defined c _ _ _ (by.variadic_argument_aggregate κs shape w o a after m) = at _ _ a _ after m.1 m.2
performed_defined c _ _ _ (by.barkpaddle_variadic κs a m) = record { answers = m.1; writes = refl }
performed_defined c _ _ _ (by.barkpaddle_return_void κs o a after m) = at _ _ a _ after m.1 m.2
performed_defined c _ _ _ (by.barkpaddle_return_scalar κs kind size align o a after m) = at _ _ a _ after m.1 m.2
performed_defined c _ _ _ (by.barkpaddle_return_aggregate κs size align complex floating w o a after m) = at _ _ a _ after m.1 m.2
performed_defined c _ _ _ (by.barkpaddle_argument_void κs o a after m) = at _ _ a _ after m.1 m.2
performed_defined c _ _ _ (by.barkpaddle_argument_scalar κs kind size align o a after m) = at _ _ a _ after m.1 m.2
performed_defined c _ _ _ (by.barkpaddle_argument_aggregate κs size align complex floating w o a after m) = at _ _ a _ after m.1 m.2
performed_defined c _ _ _ (by.barkpaddle_variadic_argument_void κs o a after m) = at _ _ a _ after m.1 m.2
performed_defined c _ _ _ (by.barkpaddle_variadic_argument_scalar κs kind size align o a after m) = at _ _ a _ after m.1 m.2
performed_defined c _ _ _ (by.barkpaddle_variadic_argument_aggregate κs size align complex floating w o a after m) = at _ _ a _ after m.1 m.2
performed_defined c _ _ _ (by.barkpaddle_bridge_variadic κs b r e same m) = rw (← same) (record { answers = rw (m.0, m.1) refl; writes = refl })
performed_defined c _ _ _ (by.barkpaddle_bridge_returns κs b what w o r e same m) = rw (← same) (lent _ _ r _ _ m)
performed_defined c _ _ _ (by.barkpaddle_bridge_argument κs b what w o r e same m) = rw (← same) (lent _ _ r _ _ m)
performed_defined c _ _ _ (by.barkpaddle_bridge_variadic_argument κs b what w o r e same m) = rw (← same) (lent _ _ r _ _ m)

-- what holds of the definitions' answer and words holds of this function's
by_definition : (c : Call) (op : Operation) (a : Answer) (after : List ℕ) → Performed c op a after → (P : Answer → List ℕ → Type 0) → P (answer_for op c) (written_for op c) → P a after
by_definition c op a after p P h = let d = performed_defined c op a after p in rw (d.answers, d.writes) h

module _ (c : Call) (op : Operation) (a : Answer) (after : List ℕ) (p : Performed c op a after) where
  pub performed_refused : IsRefusal a.outcome.refusal → Refused (refusals_of op) c (buffer_of op) a after
  performed_refused = by_definition c op a after p (λ a after. IsRefusal a.outcome.refusal → Refused (refusals_of op) c (buffer_of op) a after) (operation_refused op c)

  pub performed_extent : (shape : Shape) (words : List ℕ) → Takes shape words op → Extent c shape words a.outcome.refusal
  performed_extent shape words takes =
      by_definition c op a after p (λ a after. Extent c shape words a.outcome.refusal) (operation_extent c shape words op takes)

  pub performed_accepts : a.outcome.refusal ≡ accepted → Accepts op c
  performed_accepts = by_definition c op a after p (λ a after. a.outcome.refusal ≡ accepted → Accepts op c) (operation_accepts op c)

  pub performed_as_defined : Accepts op c → AsDefined c (buffer_of op) (rust_passes op c) (rules_spend op c) (table_places op c) a after
  performed_as_defined z = by_definition c op a after p (AsDefined c (buffer_of op) (rust_passes op c) (rules_spend op c) (table_places op c)) (operation_as_defined op c z)

  pub performed_as_rust : c.abi < rust_count → Accepts op c → AsRust c (buffer_of op) (rust_passes op c) (rules_spend op c) (table_places op c) a after
  performed_as_rust rusts z = record { nothing_beyond = nothing_beyond c.abi rusts; as_defined = performed_as_defined z }

  pub performed_way : a.outcome.way ≡ cond (eqb a.outcome.refusal accepted) (way_number (way_of (rust_passes op c).pass)) 0
  performed_way =
      by_definition c op a after p (λ a after. a.outcome.way ≡ cond (eqb a.outcome.refusal accepted) (way_number (way_of (rust_passes op c).pass)) 0) (operation_way op c)

  pub performed_memory_is_given_nothing : a.outcome.way ≡ way_number Memory → (b : Bank) → given b a ≡ 0
  performed_memory_is_given_nothing =
      by_definition c op a after p (λ a after. a.outcome.way ≡ way_number Memory → (b : Bank) → given b a ≡ 0) (row_is_given_nothing op c)

  pub performed_fastcall_aggregate : is_fastcall c.abi ≡ true → (shape : Shape) → Asks (Aggregate shape) op → a.outcome.refusal ≡ accepted
      → a.outcome ≡ fastcall_outcome shape c.left.integer c.stack
  performed_fastcall_aggregate row shape asks =
      by_definition c op a after p (λ a after. a.outcome.refusal ≡ accepted → a.outcome ≡ fastcall_outcome shape c.left.integer c.stack) (fastcall_aggregate c row shape op asks)

-- the stack
module _ (c : Call) (op : Operation) (a : Answer) (after : List ℕ) (p : Performed c op a after) where
  pub performed_nothing_is_lost : (arg : Arg) → Asks arg op → a.outcome.refusal ≡ accepted → NothingLost arg (way_from a.outcome.way) (described c.abi).banks.integer_width a
  performed_nothing_is_lost arg asks =
      by_definition c op a after p (λ a after. a.outcome.refusal ≡ accepted → NothingLost arg (way_from a.outcome.way) (described c.abi).banks.integer_width a) (row_loses_nothing c arg op asks)

  pub performed_offset_past_limit : c.abi < description_count → most_stack < c.stack → a.outcome.refusal ≡ bad_call
  performed_offset_past_limit known far = by_definition c op a after p (λ a after. a.outcome.refusal ≡ bad_call) (offset_past_limit c known far op)

  pub performed_stack_is_full : Passes op c → (table_places op c).refusal ≡ no_room → a.outcome.refusal ≡ no_room
  performed_stack_is_full z full = by_definition c op a after p (λ a after. a.outcome.refusal ≡ no_room) (stack_is_full op c z full)

pub performed_mark_marks : (c : Call) (a : Answer) (after : List ℕ) → Performed c mark a after → Accepts mark c
    → marked a.next.left ≡ rust.is_integers_only (described c.abi).variadic
performed_mark_marks c a after p z =
    by_definition c mark a after p (λ a after. marked a.next.left ≡ rust.is_integers_only (described c.abi).variadic) (mark_marks c z)

-- the standards, of aggregates
module _ (c : Call) (shape : Shape) (words out : List ℕ) (a : Answer) (after : List ℕ) where
  module _ (e : c.abi ≡ 0) (d : psabi.Domain shape (pieces_of words)) where
    pub argument_psabi : Performed c (argument (Aggregate shape) words out) a after → a.outcome.refusal ≡ accepted
        → row_0.Says (free_at c) c a after (psabi_argument (free_at c) shape.size (pieces_of words))
    argument_psabi p =
        by_definition c (argument (Aggregate shape) words out) a after p
        (λ a after. a.outcome.refusal ≡ accepted → row_0.Says (free_at c) c a after (psabi_argument (free_at c) shape.size (pieces_of words)))
        (row_0.argument_says c shape words out e d)

    pub result_psabi : Performed c (return (Aggregate shape) words out) a after → a.outcome.refusal ≡ accepted
        → row_0.Says results c a after (psabi_result (free_at c) shape.size (pieces_of words))
    result_psabi p =
        by_definition c (return (Aggregate shape) words out) a after p
        (λ a after. a.outcome.refusal ≡ accepted → row_0.Says results c a after (psabi_result (free_at c) shape.size (pieces_of words)))
        (row_0.result_says c shape words out e d)

  module _ (e : c.abi ≡ 1) (d : aapcs64.Domain shape (pieces_of words)) (natural : ℕ) (n : natural ≤ most_natural shape (pieces_of words)) where
    pub argument_aapcs64 : Performed c (argument (Aggregate shape) words out) a after → a.outcome.refusal ≡ accepted → SaysArgument c shape words natural a out after
    argument_aapcs64 p =
        by_definition c (argument (Aggregate shape) words out) a after p (λ a after. a.outcome.refusal ≡ accepted → SaysArgument c shape words natural a out after)
        (row_1.argument_answered c e shape words out d natural n)

    pub result_aapcs64 : Performed c (return (Aggregate shape) words out) a after → a.outcome.refusal ≡ accepted → SaysResult c shape words natural a out after
    result_aapcs64 p =
        by_definition c (return (Aggregate shape) words out) a after p (λ a after. a.outcome.refusal ≡ accepted → SaysResult c shape words natural a out after)
        (row_1.returns_answered c e shape words out d natural n)

-- and of any values
module _ (c : Call) (arg : Arg) (words out : List ℕ) (a : Answer) (after : List ℕ) (row : is_riscv_psabi c.abi ≡ true) (d : riscv.WithVoid arg (pieces_of words)) where
  abbrev IfAccepted : Asked → Answer → List ℕ → Type 0
  IfAccepted asked a after = a.outcome.refusal ≡ accepted → SaysRiscv asked c arg (pieces_of words) a after

  pub argument_riscv : Performed c (argument arg words out) a after → IfAccepted as_named a after
  argument_riscv p = by_definition c (argument arg words out) a after p (IfAccepted as_named) (rows_30_to_32.argument_says c row arg words out d)

  pub variadic_argument_riscv : Performed c (variadic_argument arg words out) a after → IfAccepted as_unnamed a after
  variadic_argument_riscv p = by_definition c (variadic_argument arg words out) a after p (IfAccepted as_unnamed) (rows_30_to_32.variadic_says c row arg words out d)

  pub result_riscv : Performed c (return arg words out) a after → IfAccepted as_result a after
  result_riscv p = by_definition c (return arg words out) a after p (IfAccepted as_result) (rows_30_to_32.result_says c row arg words out d)

-- ---- a call, and a history on it

pub started_defined : (d : ℕ) (a : Answer) → Started d a → a ≡ fresh_answer d
started_defined d a (by.fresh κs m) = m.1
started_defined d a (by.barkpaddle_fresh κs m) = m.1

pub started_refused : (d : ℕ) (a : Answer) → Started d a → IsRefusal a.outcome.refusal → Refused number_refusals (unmarked 0 0 0) [] a []
started_refused d a s = rw (started_defined d a s) (fresh_refused d)

pub started_as_described : (d : ℕ) (a : Answer) → Started d a → d < description_count → a ≡ done (call_with d (rust.call (described d)) 0)
started_as_described d a s h = started_defined d a s ∙ fresh_as_described d h

pub started_is_unmarked : (d : ℕ) (a : Answer) → Started d a → marked a.next.left ≡ false
started_is_unmarked d a s = rw (started_defined d a s) (fresh_is_unmarked d)

all_defined : (c : Call) (ops : List Operation) (past : List Answer) → AllPerformed c ops past → past ≡ answers_from c ops
unfolding answers_from
all_defined _ _ _ (by.none c) = refl
all_defined _ _ _ (by.next c op a after ops past p rest) =
    rw (all_defined a.next ops past rest, (performed_defined c op a after p).answers)

pub ledger_performed : (d : ℕ) → d < description_count → (first : Answer) → Started d first → (ops : List Operation) (past : List Answer)
    → AllPerformed first.next ops past → (past ≡ history d ops) × ((n : ℕ) → Ledger d (take n past))
ledger_performed d known first s ops past p =
    let same : past ≡ history d ops = rw (all_defined first.next ops past p, started_defined d first s) refl in
    (same, λ n. rw same (ledger d known ops n))

pub rounded_performed : (d : ℕ) → d < description_count → (first : Answer) → Started d first → (ops : List Operation) (past : List Answer)
    → AllPerformed first.next ops past → Rounded d ops past
rounded_performed d known first s ops past p = rw (ledger_performed d known first s ops past p).0 (rounded d known ops)

pub last_register_performed : (d : ℕ) → is_riscv_psabi d ≡ true → (first : Answer) → Started d first → (ops : List Operation) (past : List Answer)
    → AllPerformed first.next ops past → (n : ℕ) → LastRegister first.next (take n past)
last_register_performed d is first s ops past p n =
    rw ((ledger_performed d (riscv_known d is) first s ops past p).0, started_defined d first s) (last_register d is ops n)

pub even_start_performed : (d : ℕ) → is_riscv_psabi d ≡ true → (first : Answer) → Started d first → (ops : List Operation) (past : List Answer)
    → AllPerformed first.next ops past → EvenStart (described d) first.next ops past
even_start_performed d is first s ops past p =
    rw ((ledger_performed d (riscv_known d is) first s ops past p).0, started_defined d first s) (even_start_lem d is ops)

-- ---- the table of twelve calls

pub performed_twelve_calls : (n : ℕ) (e : Entry) → get_elem? twelve n ≡ some e → (a : Answer) (after : List ℕ) → Performed (call_on e) e.asked a after → (a, after) ≡ expected e
performed_twelve_calls n e here a after p = by_definition (call_on e) e.asked a after p (λ a after. (a, after) ≡ expected e) (call_of_twelve n e here)
