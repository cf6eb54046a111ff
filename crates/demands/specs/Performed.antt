-- Every function that starts a call or performs an operation on one, in one place: what it means that an answer, and the words of the buffer
-- afterwards, meet the contract of such a function, as the checker reads it. A method takes the call and the value; an exported entry takes both in
-- numbers; an entry of a bridge is lent the call and updates it where it stands.
use Rattle.std.specs.Prelude.{ℕ, ◌≡◌, List, [], ◌∷◌}
use contract.Lifetimes.{Lfts}
use Rattle.std.specs.Borrow.{Bor, MutBor}
use denote.Triple.Clauses.{AtExit}
use Rattle.shape.specs.declared.Arg.{Arg}
use Rattle.shape.specs.declared.Arg.TheVariants.{Void, Scalar, Aggregate}
use Rattle.shape.specs.declared.Scalar as scalars
use Rattle.shape.specs.declared.Shape.{Shape}
use Rattle.classify.specs.declared.Call.{Call}
use Rattle.classify.specs.declared.Answer.{Answer}
use Rattle.classify.specs.declared.Outcome.{Outcome}
use Rattle.classify.proofs.Call.fresh.Reads as call_fresh
use Rattle.classify.proofs.Call.variadic.Reads as call_variadic
use Rattle.classify.proofs.Call.nothing.Reads as call_nothing
use Rattle.classify.proofs.Call.returns.Reads as call_returns
use Rattle.classify.proofs.Call.returns_scalar.Reads as call_returns_scalar
use Rattle.classify.proofs.Call.returns_aggregate.Reads as call_returns_aggregate
use Rattle.classify.proofs.Call.argument.Reads as call_argument
use Rattle.classify.proofs.Call.argument_scalar.Reads as call_argument_scalar
use Rattle.classify.proofs.Call.argument_aggregate.Reads as call_argument_aggregate
use Rattle.classify.proofs.Call.variadic_argument.Reads as call_variadic_argument
use Rattle.classify.proofs.Call.variadic_argument_scalar.Reads as call_variadic_argument_scalar
use Rattle.classify.proofs.Call.variadic_argument_aggregate.Reads as call_variadic_argument_aggregate
use Rattle.ledger.specs.Ledger as asks
use Rattle.ledger.specs.Ledger.{Operation}
use Rattle.export_numbers.specs.Numbers.{void_arg, scalar_from, aggregate_from}
use Rattle.export_arguments.proofs.barkpaddle_fresh.Reads as entry_fresh
use Rattle.export_arguments.proofs.barkpaddle_variadic.Reads as entry_variadic
use Rattle.export_arguments.proofs.barkpaddle_argument_void.Reads as entry_argument_void
use Rattle.export_arguments.proofs.barkpaddle_argument_scalar.Reads as entry_argument_scalar
use Rattle.export_arguments.proofs.barkpaddle_argument_aggregate.Reads as entry_argument_aggregate
use Rattle.export_returns.proofs.barkpaddle_return_void.Reads as entry_return_void
use Rattle.export_returns.proofs.barkpaddle_return_scalar.Reads as entry_return_scalar
use Rattle.export_returns.proofs.barkpaddle_return_aggregate.Reads as entry_return_aggregate
use Rattle.export_variadic.proofs.barkpaddle_variadic_argument_void.Reads as entry_variadic_argument_void
use Rattle.export_variadic.proofs.barkpaddle_variadic_argument_scalar.Reads as entry_variadic_argument_scalar
use Rattle.export_variadic.proofs.barkpaddle_variadic_argument_aggregate.Reads as entry_variadic_argument_aggregate
use Rattle.bridge.specs.declared.What.{What}
use Rattle.bridge.specs.Lent.{arg_of}
use Rattle.bridge.specs.contracts.barkpaddle_bridge_variadic as on_mark
use Rattle.bridge.specs.contracts.barkpaddle_bridge_argument as on_value
use Rattle.bridge.proofs.Promised.{Marks, Returns, Passes, PassesVariadic}

-- an answer that meets a contract, and the words that stand behind its last lent reference at exit
abbrev pub Met : {A R S : Type 0} → (A → R → S → Type 0) → (S → List ℕ) → A → R → List ℕ → Type 0
Met {S} Post last a r after = (s : S) × (last s ≡ after) × Post a r s

-- one that lends nothing to write to
abbrev pub MetAlone : {A R S : Type 0} → (A → R → S → Type 0) → A → R → Type 0
MetAlone {S} Post a r = (s : S) × Post a r s

-- the numbers of a call, as an exported entry is handed them before whatever else it takes
abbrev pub handed : {A : Type 0} → Call → A → ℕ × (ℕ × (ℕ × (ℕ × (ℕ × A))))
handed c rest = (c.abi, (c.left.integer, (c.left.float, (c.left.integers_only, (c.stack, rest)))))

-- what an operation on a lent call answers, with the call that stands there afterwards
abbrev pub leaving : Call → Outcome → Answer
leaving next outcome = record { next = next; outcome = outcome }

-- ---- a call is started

pub data Started (d : ℕ) (a : Answer) : Type 0 where
  fresh : (κs : Lfts 0) → MetAlone (call_fresh.Post κs) (d, tt) a → Started d a
  barkpaddle_fresh : (κs : Lfts 0) → MetAlone (entry_fresh.Post κs) (d, tt) a → Started d a

-- ---- what asks about an argument: the operation on a fixed one, or on one after the dots

pub data Asks (arg : Arg) : Operation → Type 0 where
  as_fixed : (words out : List ℕ) → Asks arg (asks.argument arg words out)
  as_variadic : (words out : List ℕ) → Asks arg (asks.variadic_argument arg words out)

-- ---- what takes an aggregate with these pieces: a return, a fixed argument, or one after the dots

pub data Takes (shape : Shape) (words : List ℕ) : Operation → Type 0 where
  as_result : (out : List ℕ) → Takes shape words (asks.return (Aggregate shape) words out)
  as_argument : (out : List ℕ) → Takes shape words (asks.argument (Aggregate shape) words out)
  as_variadic_argument : (out : List ℕ) → Takes shape words (asks.variadic_argument (Aggregate shape) words out)

-- ---- an operation is performed: on which call, what it is, the answer, and the words of the buffer afterwards

pub data Performed (c : Call) : Operation → Answer → List ℕ → Type 0 where
  -- the methods of a call
  variadic : (κs : Lfts 0) (a : Answer) → MetAlone (call_variadic.Post κs) (c, tt) a → Performed c asks.mark a []
  returns : (κs : Lfts 2) (arg : Arg) (w : Bor (List ℕ)) (o : MutBor (List ℕ)) (a : Answer) (after : List ℕ)
      → Met (call_returns.Post κs) (λ s. s.1.1.1.0.now) (c, (arg, (w, (o, tt)))) a after → Performed c (asks.return arg w.now o.now) a after
  argument : (κs : Lfts 2) (arg : Arg) (w : Bor (List ℕ)) (o : MutBor (List ℕ)) (a : Answer) (after : List ℕ)
      → Met (call_argument.Post κs) (λ s. s.1.1.1.0.now) (c, (arg, (w, (o, tt)))) a after → Performed c (asks.argument arg w.now o.now) a after
  variadic_argument : (κs : Lfts 2) (arg : Arg) (w : Bor (List ℕ)) (o : MutBor (List ℕ)) (a : Answer) (after : List ℕ)
      → Met (call_variadic_argument.Post κs) (λ s. s.1.1.1.0.now) (c, (arg, (w, (o, tt)))) a after → Performed c (asks.variadic_argument arg w.now o.now) a after
  -- those of a value whose form is known: nothing is lent where nothing travels
  returns_nothing : (κs : Lfts 0) (out : List ℕ) (a : Answer) → MetAlone (call_nothing.Post κs) (c, tt) a → Performed c (asks.return Void [] out) a out
  argument_nothing : (κs : Lfts 0) (out : List ℕ) (a : Answer) → MetAlone (call_nothing.Post κs) (c, tt) a → Performed c (asks.argument Void [] out) a out
  variadic_argument_nothing : (κs : Lfts 0) (out : List ℕ) (a : Answer) → MetAlone (call_nothing.Post κs) (c, tt) a → Performed c (asks.variadic_argument Void [] out) a out
  returns_scalar : (κs : Lfts 1) (s : scalars.Scalar) (o : MutBor (List ℕ)) (a : Answer) (after : List ℕ)
      → Met (call_returns_scalar.Post κs) (λ s. s.1.1.0.now) (c, (s, (o, tt))) a after → Performed c (asks.return (Scalar s) [] o.now) a after
  argument_scalar : (κs : Lfts 1) (s : scalars.Scalar) (o : MutBor (List ℕ)) (a : Answer) (after : List ℕ)
      → Met (call_argument_scalar.Post κs) (λ s. s.1.1.0.now) (c, (s, (o, tt))) a after → Performed c (asks.argument (Scalar s) [] o.now) a after
  variadic_argument_scalar : (κs : Lfts 1) (s : scalars.Scalar) (o : MutBor (List ℕ)) (a : Answer) (after : List ℕ)
      → Met (call_variadic_argument_scalar.Post κs) (λ s. s.1.1.0.now) (c, (s, (o, tt))) a after → Performed c (asks.variadic_argument (Scalar s) [] o.now) a after
  returns_aggregate : (κs : Lfts 2) (shape : Shape) (w : Bor (List ℕ)) (o : MutBor (List ℕ)) (a : Answer) (after : List ℕ)
      → Met (call_returns_aggregate.Post κs) (λ s. s.1.1.1.0.now) (c, (shape, (w, (o, tt)))) a after → Performed c (asks.return (Aggregate shape) w.now o.now) a after
  argument_aggregate : (κs : Lfts 2) (shape : Shape) (w : Bor (List ℕ)) (o : MutBor (List ℕ)) (a : Answer) (after : List ℕ)
      → Met (call_argument_aggregate.Post κs) (λ s. s.1.1.1.0.now) (c, (shape, (w, (o, tt)))) a after → Performed c (asks.argument (Aggregate shape) w.now o.now) a after
  variadic_argument_aggregate : (κs : Lfts 2) (shape : Shape) (w : Bor (List ℕ)) (o : MutBor (List ℕ)) (a : Answer) (after : List ℕ)
      → Met (call_variadic_argument_aggregate.Post κs) (λ s. s.1.1.1.0.now) (c, (shape, (w, (o, tt)))) a after → Performed c (asks.variadic_argument (Aggregate shape) w.now o.now) a after
  -- the exported entries, which are handed the call's five numbers and the value's
  barkpaddle_variadic : (κs : Lfts 0) (a : Answer) → MetAlone (entry_variadic.Post κs) (handed c tt) a → Performed c asks.mark a []
  barkpaddle_return_void : (κs : Lfts 1) (o : MutBor (List ℕ)) (a : Answer) (after : List ℕ)
      → Met (entry_return_void.Post κs) (λ s. s.1.1.1.1.1.0.now) (handed c (o, tt)) a after → Performed c (asks.return void_arg [] o.now) a after
  barkpaddle_return_scalar : (κs : Lfts 1) (kind size align : ℕ) (o : MutBor (List ℕ)) (a : Answer) (after : List ℕ)
      → Met (entry_return_scalar.Post κs) (λ s. s.1.1.1.1.1.1.1.1.0.now) (handed c (kind, (size, (align, (o, tt))))) a after
      → Performed c (asks.return (scalar_from kind size align) [] o.now) a after
  barkpaddle_return_aggregate : (κs : Lfts 2) (size align complex floating : ℕ) (w : Bor (List ℕ)) (o : MutBor (List ℕ)) (a : Answer) (after : List ℕ)
      → Met (entry_return_aggregate.Post κs) (λ s. s.1.1.1.1.1.1.1.1.1.1.0.now) (handed c (size, (align, (complex, (floating, (w, (o, tt))))))) a after
      → Performed c (asks.return (aggregate_from size align complex floating) w.now o.now) a after
  barkpaddle_argument_void : (κs : Lfts 1) (o : MutBor (List ℕ)) (a : Answer) (after : List ℕ)
      → Met (entry_argument_void.Post κs) (λ s. s.1.1.1.1.1.0.now) (handed c (o, tt)) a after → Performed c (asks.argument void_arg [] o.now) a after
  barkpaddle_argument_scalar : (κs : Lfts 1) (kind size align : ℕ) (o : MutBor (List ℕ)) (a : Answer) (after : List ℕ)
      → Met (entry_argument_scalar.Post κs) (λ s. s.1.1.1.1.1.1.1.1.0.now) (handed c (kind, (size, (align, (o, tt))))) a after
      → Performed c (asks.argument (scalar_from kind size align) [] o.now) a after
  barkpaddle_argument_aggregate : (κs : Lfts 2) (size align complex floating : ℕ) (w : Bor (List ℕ)) (o : MutBor (List ℕ)) (a : Answer) (after : List ℕ)
      → Met (entry_argument_aggregate.Post κs) (λ s. s.1.1.1.1.1.1.1.1.1.1.0.now) (handed c (size, (align, (complex, (floating, (w, (o, tt))))))) a after
      → Performed c (asks.argument (aggregate_from size align complex floating) w.now o.now) a after
  barkpaddle_variadic_argument_void : (κs : Lfts 1) (o : MutBor (List ℕ)) (a : Answer) (after : List ℕ)
      → Met (entry_variadic_argument_void.Post κs) (λ s. s.1.1.1.1.1.0.now) (handed c (o, tt)) a after → Performed c (asks.variadic_argument void_arg [] o.now) a after
  barkpaddle_variadic_argument_scalar : (κs : Lfts 1) (kind size align : ℕ) (o : MutBor (List ℕ)) (a : Answer) (after : List ℕ)
      → Met (entry_variadic_argument_scalar.Post κs) (λ s. s.1.1.1.1.1.1.1.1.0.now) (handed c (kind, (size, (align, (o, tt))))) a after
      → Performed c (asks.variadic_argument (scalar_from kind size align) [] o.now) a after
  barkpaddle_variadic_argument_aggregate : (κs : Lfts 2) (size align complex floating : ℕ) (w : Bor (List ℕ)) (o : MutBor (List ℕ)) (a : Answer) (after : List ℕ)
      → Met (entry_variadic_argument_aggregate.Post κs) (λ s. s.1.1.1.1.1.1.1.1.1.1.0.now) (handed c (size, (align, (complex, (floating, (w, (o, tt))))))) a after
      → Performed c (asks.variadic_argument (aggregate_from size align complex floating) w.now o.now) a after
  -- the entries of a bridge: `c` stands behind the call's reference before, and the answer's next call afterwards
  barkpaddle_bridge_variadic : (κs : Lfts 1) (b : MutBor Call) (r : Outcome) (e : AtExit on_mark.ended κs)
      → b.now ≡ c → Marks κs (b, tt) r e → Performed c asks.mark (leaving e.0.now r) []
  barkpaddle_bridge_returns : (κs : Lfts 3) (b : MutBor Call) (what : What) (w : Bor (List ℕ)) (o : MutBor (List ℕ)) (r : Outcome) (e : AtExit on_value.ended κs)
      → b.now ≡ c → Returns κs (b, (what, (w, (o, tt)))) r e → Performed c (asks.return (arg_of what) w.now o.now) (leaving e.0.now r) e.1.1.1.0.now
  barkpaddle_bridge_argument : (κs : Lfts 3) (b : MutBor Call) (what : What) (w : Bor (List ℕ)) (o : MutBor (List ℕ)) (r : Outcome) (e : AtExit on_value.ended κs)
      → b.now ≡ c → Passes κs (b, (what, (w, (o, tt)))) r e → Performed c (asks.argument (arg_of what) w.now o.now) (leaving e.0.now r) e.1.1.1.0.now
  barkpaddle_bridge_variadic_argument : (κs : Lfts 3) (b : MutBor Call) (what : What) (w : Bor (List ℕ)) (o : MutBor (List ℕ)) (r : Outcome) (e : AtExit on_value.ended κs)
      → b.now ≡ c → PassesVariadic κs (b, (what, (w, (o, tt)))) r e
      → Performed c (asks.variadic_argument (arg_of what) w.now o.now) (leaving e.0.now r) e.1.1.1.0.now

-- ---- a history: operations, each performed by any of these functions on the call that the one before handed back or left where it stands

pub data AllPerformed : Call → List Operation → List Answer → Type 0 where
  none : (c : Call) → AllPerformed c [] []
  next : (c : Call) (op : Operation) (a : Answer) (after : List ℕ) (ops : List Operation) (past : List Answer)
      → Performed c op a after → AllPerformed a.next ops past → AllPerformed c (op ∷ ops) (a ∷ past)
