-- What each operation answers and what it leaves in the lent buffer (REFERENCE 3, 9): the refusals in their order, then how the value travels
-- and the counts left as the Rust has them (Classify.antt), what is passed over and given by the rules (Spending.antt), and where the value stands
-- on the stack (Stacking.antt). Each is said by a description and by what the description's source refuses; a call on one of the rows is the case of
-- the description of its number, and of BAD_ABI where there is none.
use Rattle.std.specs.Prelude.{ℕ, zero, suc, ◌/◌, ◌≡◌, List, Bool, true, false, ◌&&◌, ◌||◌, not, cond, leb, ltb, length, Result, Ok, Err}
use Rattle.shape.specs.declared.Arg as args
use Rattle.shape.specs.declared.Piece.{Piece}
use Rattle.shape.specs.declared.Shape.{Shape}
use Rattle.shape.specs.declared.refusals.Refusal.{Refusal}
use Rattle.shape.specs.Refusals.{number_of}
use Rattle.shape.specs.Numbers.{accepted, bad_abi, bad_call, no_room}
use Rattle.shape.specs.Words.{pieces_of}
use Rattle.checks.specs.Check.{refuse, or_else, unless_refused, scalar_refusal, shape_refusal}
use Rattle.slots.specs.declared.Slot.{Slot}
use Rattle.slots.specs.Words.{slot_size, written}
use Rattle.describe.specs.declared.Dots.{Dots}
use Rattle.describe.specs.declared.Rule.{Rule}
use Rattle.describe.specs.declared.Terms.{Terms}
use Rattle.describe.specs.Description.{Description, terms_of}
use Rattle.describe.specs.Dots.{as_fixed, dots_of}
use Rattle.abis.specs.Abis.{described, description_count}
use Rattle.spend.specs.declared.Left.{Left}
use Rattle.spend.specs.declared.Way as ways
use Rattle.spend.specs.declared.Spent.{Spent}
use Rattle.spend.specs.Ways as made
use Rattle.spend.specs.Ways.{marked, way_number}
use Rattle.stack_align.specs.InMemory.{in_memory}
use Rattle.stack_place.specs.declared.Stacked.{Stacked}
use Rattle.stack_place.specs.Stacked.{Placed}
use Rattle.stack_place.specs.Stacked.{most_stack, stands}
use Rattle.classify.specs.declared.Call.{Call}
use Rattle.classify.specs.declared.Answer.{Answer}
use Rattle.classify.specs.Pass.{way_of, pass_slots}
use Rattle.classify.specs.Classify.{Passed, counts, call, variadic, is_integers_only, returns, argument, variadic_argument}
use Rattle.classify.specs.Spending.{return_choice, argument_choice, variadic_argument_choice}
use Rattle.classify.specs.Stacking.{stacked_of}

-- ---- calls

abbrev pub call_with : ℕ → Left → ℕ → Call
call_with abi left stack = record { abi = abi; left = left; stack = stack }

-- without the mark, and with nothing on the stack
abbrev pub unmarked : ℕ → ℕ → ℕ → Call
unmarked abi i f = call_with abi (counts i f) 0

-- ---- refusals

-- a count left above its bank's start, a stack offset above the limit, or the integers-only mark on a description whose variadic functions don't
-- use it
abbrev pub is_bad_call : Terms → Call → Bool
is_bad_call T c =
    (ltb T.banks.integer c.left.integer || ltb T.banks.float c.left.float)
    || (ltb most_stack c.stack || (marked c.left && not (is_integers_only T.variadic)))

unfoldable pub state_refusal : Terms → Call → ℕ
state_refusal T c = refuse (is_bad_call T c) bad_call accepted

-- void has nothing to check
unfoldable pub arg_refusal : args.Arg → List ℕ → ℕ
arg_refusal args.TheVariants.Void ws = accepted
arg_refusal (args.TheVariants.Scalar s) ws = scalar_refusal s
arg_refusal (args.TheVariants.Aggregate shape) ws = shape_refusal shape ws

-- the checks of the call and of the value
unfoldable pub checked : Terms → Call → args.Arg → List ℕ → ℕ
checked T c arg ws = or_else (state_refusal T c) (arg_refusal arg ws)

-- the description's source refuses first
unfoldable pub call_refusal_by : ℕ → Description → Call → ℕ
call_refusal_by source D c = or_else source (state_refusal (terms_of D) c)

unfoldable pub refusal_by : ℕ → Description → Call → args.Arg → List ℕ → ℕ
refusal_by source D c arg ws = or_else source (checked (terms_of D) c arg ws)

-- BAD_ABI where no row has the number
unfoldable pub row_refusal : ℕ → ℕ
row_refusal abi = refuse (leb description_count abi) bad_abi accepted

unfoldable pub call_refusal : Call → ℕ
call_refusal c = call_refusal_by (row_refusal c.abi) (described c.abi) c

unfoldable pub refusal_of : Call → args.Arg → List ℕ → ℕ
refusal_of c arg ws = refusal_by (row_refusal c.abi) (described c.abi) c arg ws

-- NO_ROOM where so many slots don't all fit: a refusal of an operation after those of its checks
abbrev pub room_refusal : ℕ → List ℕ → ℕ
room_refusal count out = refuse (ltb (length out / slot_size) count) no_room accepted

-- ---- answers

-- what an operation comes to where nothing refuses it: how the value travels and what the Rust leaves, what the rules spend, and where it stands
pub record Account : Type 0 where
  pub passed : Passed
  pub spent : Spent
  pub placed : Placed

abbrev pub account_of : Terms → List Rule → Bool → Dots → Call → args.Arg → List Piece → Passed → Spent → Account
account_of T rules returning dots c arg ps p spent =
    record { passed = p; spent = spent; placed = stacked_of T rules returning dots c.stack arg ps (way_of p.pass) spent (length (pass_slots p.pass)) }

abbrev pub slots_of : Account → List Slot
slots_of account = pass_slots account.passed.pass

abbrev pub answered : Call → ℕ → ways.Way → Spent → ℕ → Stacked → Answer
answered next refusal way spent slots stacked =
    record { next = next; outcome = record { refusal = refusal; way = way_number way; spent = spent; slots = slots; stacked = stacked } }

-- a refusal comes with the call that was handed in, and every other number 0
abbrev pub refused : Call → ℕ → Answer
refused c refusal = answered c refusal ways.TheVariants.Ignore made.nothing 0 (stands 0 0)

-- nothing travels and nothing is spent
abbrev pub done : Call → Answer
done c = answered c accepted ways.TheVariants.Ignore made.nothing 0 (stands 0 0)

-- the call with what the Rust leaves and with the next stack offset, the Rust's way and how many slots it has, what the rules spend, and the
-- place on the stack
abbrev pub accepted_answer : Call → Account → Answer
accepted_answer c account =
    answered (call_with c.abi account.passed.left account.placed.next) accepted (way_of account.passed.pass) account.spent
    (length (slots_of account)) account.placed.stacked

-- the refusal, if there is one, or the answer
abbrev pub or_answer : ℕ → Call → Answer → Answer
or_answer zero c rest = rest
or_answer (suc n) c rest = refused c (suc n)

-- the refusal of an operation that its checks refuse so: NO_ROOM is judged by the slots that the value travels in, and last by its place on the
-- stack
abbrev pub whole_refusal : ℕ → Account → List ℕ → ℕ
whole_refusal checks account out = or_else checks (or_else (room_refusal (length (slots_of account)) out) account.placed.refusal)

unfoldable pub answer_to : ℕ → Call → Account → List ℕ → Answer
answer_to checks c account out = or_answer (whole_refusal checks account out) c (accepted_answer c account)

-- the slots stand at the front, and all later words are as they were
unfoldable pub written_to : ℕ → Account → List ℕ → List ℕ
written_to checks account out = unless_refused (whole_refusal checks account out) (written (slots_of account) out) out

-- what an operation leaves: its answer, and the words of the buffer
pub record Leaves (answer : Answer) (words : List ℕ) (r : Answer) (out : List ℕ) : Type 0 where
  pub answers : r ≡ answer
  pub writes : out ≡ words

-- ---- the operations, by a description and what its source refuses

unfoldable pub variadic_answer_by : ℕ → Description → Call → Answer
variadic_answer_by source D c = or_answer (call_refusal_by source D c) c (done (call_with c.abi (variadic D c.left) c.stack))

-- a void return or argument, on each operation
unfoldable pub void_answer_by : ℕ → Description → Call → Answer
void_answer_by source D c = or_answer (call_refusal_by source D c) c (done c)

-- what comes back, a fixed argument, and one after the dots
unfoldable pub returns_account : Description → Call → args.Arg → List Piece → Account
returns_account D c arg ps =
    account_of (terms_of D) D.returns true as_fixed c arg ps (returns D c.left arg ps) (return_choice D c.left arg ps).decision.spent

unfoldable pub argument_account : Description → Call → args.Arg → List Piece → Account
argument_account D c arg ps =
    account_of (terms_of D) D.arguments false as_fixed c arg ps (argument D c.left arg ps) (argument_choice D c.left arg ps).decision.spent

unfoldable pub variadic_argument_account : Description → Call → args.Arg → List Piece → Account
variadic_argument_account D c arg ps =
    account_of (terms_of D) D.arguments false (dots_of D.variadic) c arg ps (variadic_argument D c.left arg ps)
    (variadic_argument_choice D c.left arg ps).decision.spent

unfoldable pub returns_answer_by : ℕ → Description → Call → args.Arg → List ℕ → List ℕ → Answer
returns_answer_by source D c arg ws out = answer_to (refusal_by source D c arg ws) c (returns_account D c arg (pieces_of ws)) out

unfoldable pub returns_written_by : ℕ → Description → Call → args.Arg → List ℕ → List ℕ → List ℕ
returns_written_by source D c arg ws out = written_to (refusal_by source D c arg ws) (returns_account D c arg (pieces_of ws)) out

unfoldable pub argument_answer_by : ℕ → Description → Call → args.Arg → List ℕ → List ℕ → Answer
argument_answer_by source D c arg ws out = answer_to (refusal_by source D c arg ws) c (argument_account D c arg (pieces_of ws)) out

unfoldable pub argument_written_by : ℕ → Description → Call → args.Arg → List ℕ → List ℕ → List ℕ
argument_written_by source D c arg ws out = written_to (refusal_by source D c arg ws) (argument_account D c arg (pieces_of ws)) out

unfoldable pub variadic_argument_answer_by : ℕ → Description → Call → args.Arg → List ℕ → List ℕ → Answer
variadic_argument_answer_by source D c arg ws out = answer_to (refusal_by source D c arg ws) c (variadic_argument_account D c arg (pieces_of ws)) out

unfoldable pub variadic_argument_written_by : ℕ → Description → Call → args.Arg → List ℕ → List ℕ → List ℕ
variadic_argument_written_by source D c arg ws out = written_to (refusal_by source D c arg ws) (variadic_argument_account D c arg (pieces_of ws)) out

-- the alignment in the argument area, or a refusal of the call or of the shape
pub record InMemory : Type 0 where
  pub refusal : ℕ
  pub align : ℕ

-- what the code answers
abbrev pub memory_told : Result ℕ Refusal → InMemory
memory_told (Ok align) = record { refusal = accepted; align = align }
memory_told (Err refusal) = record { refusal = number_of refusal; align = 0 }

abbrev pub or_align : ℕ → ℕ → InMemory
or_align zero align = record { refusal = accepted; align = align }
or_align (suc n) align = record { refusal = suc n; align = 0 }

unfoldable pub in_memory_answer_by : ℕ → Description → Call → Shape → List ℕ → InMemory
in_memory_answer_by source D c shape ws = or_align (refusal_by source D c (args.TheVariants.Aggregate shape) ws) (in_memory D shape (pieces_of ws))

-- ---- the operations of a call on a row

-- a fresh call: all zeros where it is refused
unfoldable pub fresh_answer : ℕ → Answer
fresh_answer abi = cond (leb description_count abi) (refused (unmarked 0 0 0) bad_abi) (done (call_with abi (call (described abi)) 0))

unfoldable pub variadic_answer : Call → Answer
variadic_answer c = variadic_answer_by (row_refusal c.abi) (described c.abi) c

unfoldable pub void_answer : Call → Answer
void_answer c = void_answer_by (row_refusal c.abi) (described c.abi) c

unfoldable pub returns_answer : Call → args.Arg → List ℕ → List ℕ → Answer
returns_answer c = returns_answer_by (row_refusal c.abi) (described c.abi) c

unfoldable pub returns_written : Call → args.Arg → List ℕ → List ℕ → List ℕ
returns_written c = returns_written_by (row_refusal c.abi) (described c.abi) c

unfoldable pub argument_answer : Call → args.Arg → List ℕ → List ℕ → Answer
argument_answer c = argument_answer_by (row_refusal c.abi) (described c.abi) c

unfoldable pub argument_written : Call → args.Arg → List ℕ → List ℕ → List ℕ
argument_written c = argument_written_by (row_refusal c.abi) (described c.abi) c

unfoldable pub variadic_argument_answer : Call → args.Arg → List ℕ → List ℕ → Answer
variadic_argument_answer c = variadic_argument_answer_by (row_refusal c.abi) (described c.abi) c

unfoldable pub variadic_argument_written : Call → args.Arg → List ℕ → List ℕ → List ℕ
variadic_argument_written c = variadic_argument_written_by (row_refusal c.abi) (described c.abi) c

unfoldable pub in_memory_answer : Call → Shape → List ℕ → InMemory
in_memory_answer c = in_memory_answer_by (row_refusal c.abi) (described c.abi) c

-- what an operation of a call promises of its answer r and of the buffer, which held `out` and holds `after`
abbrev pub Returns : Call → args.Arg → List ℕ → List ℕ → Answer → List ℕ → Type 0
Returns c arg ws out r after = Leaves (returns_answer c arg ws out) (returns_written c arg ws out) r after

abbrev pub Passes : Call → args.Arg → List ℕ → List ℕ → Answer → List ℕ → Type 0
Passes c arg ws out r after = Leaves (argument_answer c arg ws out) (argument_written c arg ws out) r after

abbrev pub PassesVariadic : Call → args.Arg → List ℕ → List ℕ → Answer → List ℕ → Type 0
PassesVariadic c arg ws out r after = Leaves (variadic_argument_answer c arg ws out) (variadic_argument_written c arg ws out) r after
