-- What it means that an accepted operation is answered as is defined, and as the Rust answers; and the Rust's `record`, whose parts stand in crate layouts.
use Rattle.std.specs.Prelude.{ℕ, ◌/◌, ◌≤◌, ◌≡◌, true, false, List, [], ◌∷◌, length}
use Rattle.shape.specs.declared.Piece.{Piece}
use Rattle.shape.specs.Numbers.{accepted}
use Rattle.shape.specs.Words.{pieces_of}
use Rattle.slots.specs.Words.{slot_size, written}
use Rattle.shape.specs.Arithmetic.{round_up}
use Rattle.layouts.specs.Record.{largest_align, furthest_end}
use Rattle.describe.specs.Description.{terms_of}
use Rattle.describe.specs.Dots.{as_fixed, dots_of}
use Rattle.abis.specs.Abis.{described}
use Rattle.abis.specs.Apart.{is_beyond_rust}
use Rattle.spend.specs.declared.Spent.{Spent}
use Rattle.spend.specs.Ways.{nothing, way_number}
use Rattle.stack_place.specs.Stacked.{Placed}
use Rattle.stack_place.specs.Stacked.{nowhere}
use Rattle.classify.specs.declared.Call.{Call}
use Rattle.classify.specs.declared.Answer.{Answer}
use Rattle.classify.specs.Pass.{ignore, way_of, pass_slots}
use Rattle.classify.specs.Classify as rust
use Rattle.classify.specs.Classify.{Passed, passed}
use Rattle.classify.specs.Spending as rules
use Rattle.classify.specs.Stacking.{stacked_of}
use Rattle.classify.specs.Answers.{call_with, call_refusal, refusal_of}
use Rattle.ledger.specs.Ledger.{Operation, mark, return, argument, variadic_argument, buffer_of}

-- how an operation's value is passed, and what it leaves, as the Rust has it where the description is the Rust's; the mark has no value, and changes the call alone
abbrev pub rust_passes : Operation → Call → Passed
rust_passes mark c = passed ignore (rust.variadic (described c.abi) c.left)
rust_passes (return arg words out) c = rust.returns (described c.abi) c.left arg (pieces_of words)
rust_passes (argument arg words out) c = rust.argument (described c.abi) c.left arg (pieces_of words)
rust_passes (variadic_argument arg words out) c = rust.variadic_argument (described c.abi) c.left arg (pieces_of words)

-- what the rules have it pass over and be given
abbrev pub rules_spend : Operation → Call → Spent
rules_spend mark c = nothing
rules_spend (return arg words out) c = (rules.return_choice (described c.abi) c.left arg (pieces_of words)).decision.spent
rules_spend (argument arg words out) c = (rules.argument_choice (described c.abi) c.left arg (pieces_of words)).decision.spent
rules_spend (variadic_argument arg words out) c = (rules.variadic_argument_choice (described c.abi) c.left arg (pieces_of words)).decision.spent

-- where it stands on the stack, and the next offset, by the table of REFERENCE 9.9; the mark puts nothing there
abbrev pub table_places : Operation → Call → Placed
table_places mark c = nowhere c.stack
table_places (return arg words out) c =
    stacked_of (terms_of (described c.abi)) (described c.abi).returns true as_fixed c.stack arg (pieces_of words)
    (way_of (rust_passes (return arg words out) c).pass) (rules_spend (return arg words out) c) (length (pass_slots (rust_passes (return arg words out) c).pass))
table_places (argument arg words out) c =
    stacked_of (terms_of (described c.abi)) (described c.abi).arguments false as_fixed c.stack arg (pieces_of words)
    (way_of (rust_passes (argument arg words out) c).pass) (rules_spend (argument arg words out) c) (length (pass_slots (rust_passes (argument arg words out) c).pass))
table_places (variadic_argument arg words out) c =
    stacked_of (terms_of (described c.abi)) (described c.abi).arguments false (dots_of (described c.abi).variadic) c.stack arg (pieces_of words)
    (way_of (rust_passes (variadic_argument arg words out) c).pass) (rules_spend (variadic_argument arg words out) c)
    (length (pass_slots (rust_passes (variadic_argument arg words out) c).pass))

-- its checks pass (REFERENCE 3)
abbrev pub Passes : Operation → Call → Type 0
Passes mark c = call_refusal c ≡ accepted
Passes (return arg words out) c = refusal_of c arg words ≡ accepted
Passes (argument arg words out) c = refusal_of c arg words ≡ accepted
Passes (variadic_argument arg words out) c = refusal_of c arg words ≡ accepted

abbrev pub Fits : Operation → Call → Type 0
Fits op c = length (pass_slots (rust_passes op c).pass) ≤ length (buffer_of op) / slot_size

-- the next stack offset doesn't pass the limit
abbrev pub HasStack : Operation → Call → Type 0
HasStack op c = (table_places op c).refusal ≡ accepted

-- where nothing refuses it: its checks pass (REFERENCE 3), the slots of the Rust's pass have room, and so has the stack
abbrev pub Accepts : Operation → Call → Type 0
Accepts mark c = call_refusal c ≡ accepted
Accepts (return arg words out) c = (refusal_of c arg words ≡ accepted) × Fits (return arg words out) c × HasStack (return arg words out) c
Accepts (argument arg words out) c = (refusal_of c arg words ≡ accepted) × Fits (argument arg words out) c × HasStack (argument arg words out) c
Accepts (variadic_argument arg words out) c = (refusal_of c arg words ≡ accepted) × Fits (variadic_argument arg words out) c × HasStack (variadic_argument arg words out) c

-- the call and the words of the buffer before, the Rust's pass, what the rules spend, where the table has it stand, the answer, and the words afterwards
pub record AsDefined (c : Call) (out : List ℕ) (p : Passed) (spent : Spent) (placed : Placed) (a : Answer) (after : List ℕ) : Type 0 where
  pub not_refused : a.outcome.refusal ≡ accepted
  pub way : a.outcome.way ≡ way_number (way_of p.pass)
  pub count : a.outcome.slots ≡ length (pass_slots p.pass)
  pub slots : after ≡ written (pass_slots p.pass) out
  pub left : a.next ≡ call_with c.abi p.left placed.next
  pub by_the_rules : a.outcome.spent ≡ spent
  pub stands : a.outcome.stacked ≡ placed.stacked

-- the same on a description that says nothing which the Rust can't say: there the definitions are the Rust's
pub record AsRust (c : Call) (out : List ℕ) (p : Passed) (spent : Spent) (placed : Placed) (a : Answer) (after : List ℕ) : Type 0 where
  pub nothing_beyond : is_beyond_rust (described c.abi) ≡ false
  pub as_defined : AsDefined c out p spent placed a after

-- ---- the Rust's `record`

-- the largest alignment, or 1 of no pieces; and the furthest end, rounded up to it
abbrev pub record_align : List Piece → ℕ
record_align [] = 1
record_align (p ∷ ps) = largest_align (p ∷ ps)

abbrev pub record_size : List Piece → ℕ
record_size ps = round_up (furthest_end ps) (record_align ps)
