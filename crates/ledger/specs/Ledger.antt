-- The ledger of a call's registers and of its stack (REFERENCE 10): every register of a bank is passed over by one operation, given to one, or left,
-- and no byte of the stack is two operations'. What is passed over and given is by the spending rules, and what is left is as the Rust counts it: the
-- ledger is where the two meet. It is said of any description, with what its source refuses, and of any call to begin with; a row's ledger is the case
-- of its description and its fresh call.
use Rattle.std.specs.Prelude.{ℕ, suc, ◌+◌, ◌-◌, ◌%◌, ◌≤◌, ◌<◌, ◌≡◌, List, [], ◌∷◌, map, Bool, true, false, cond, ltb, length, take, get_or}
use Rattle.std.proofs.Math.Option.Option.{some}
use Rattle.std.proofs.Math.ListN.{get_elem?}
use Rattle.shape.specs.declared.Arg as args
use Rattle.shape.specs.Numbers.{accepted}
use Rattle.shape.specs.Words.{pieces_of}
use Rattle.describe.specs.declared.Banks.{Banks}
use Rattle.describe.specs.Description.{Description, terms_of}
use Rattle.describe.specs.Dots.{as_fixed, dots_of}
use Rattle.abis.specs.Abis.{described}
use Rattle.spend.specs.Ways.{marked}
use Rattle.stack_place.specs.declared.Stacked.{Stacked}
use Rattle.stack_place.specs.Stacked.{most_stack, stands}
use Rattle.classify.specs.declared.Call.{Call}
use Rattle.classify.specs.declared.Answer.{Answer}
use Rattle.classify.specs.Pass.{way_of}
use Rattle.classify.specs.Classify as rust
use Rattle.classify.specs.Classify.{is_integers_only}
use Rattle.classify.specs.Stacking.{rounding_for}
use Rattle.classify.specs.Answers.{row_refusal, call_refusal_by, variadic_answer_by, returns_answer_by, argument_answer_by, variadic_argument_answer_by, fresh_answer, variadic_answer, returns_answer, returns_written, argument_answer, argument_written, variadic_argument_answer, variadic_argument_written}

-- ---- a history

-- an operation, with any inputs: the mark of a variadic function, or a value that comes back, is a fixed argument, or an argument after the
-- dots, with the words of its pieces and the lent slot buffer
pub data Operation : Type 0 where
  mark : Operation
  return : args.Arg → List ℕ → List ℕ → Operation
  argument : args.Arg → List ℕ → List ℕ → Operation
  variadic_argument : args.Arg → List ℕ → List ℕ → Operation

-- what it answers on a call, by a description and what its source refuses
abbrev pub answer_by : ℕ → Description → Operation → Call → Answer
answer_by source D mark c = variadic_answer_by source D c
answer_by source D (return arg words out) c = returns_answer_by source D c arg words out
answer_by source D (argument arg words out) c = argument_answer_by source D c arg words out
answer_by source D (variadic_argument arg words out) c = variadic_argument_answer_by source D c arg words out

-- and on a call on a row, as it is promised
abbrev pub answer_for : Operation → Call → Answer
answer_for mark c = variadic_answer c
answer_for (return arg words out) c = returns_answer c arg words out
answer_for (argument arg words out) c = argument_answer c arg words out
answer_for (variadic_argument arg words out) c = variadic_argument_answer c arg words out

-- the buffer that it is lent, none for the mark, and the words that it leaves there
abbrev pub buffer_of : Operation → List ℕ
buffer_of mark = []
buffer_of (return arg words out) = out
buffer_of (argument arg words out) = out
buffer_of (variadic_argument arg words out) = out

abbrev pub written_for : Operation → Call → List ℕ
written_for mark c = []
written_for (return arg words out) c = returns_written c arg words out
written_for (argument arg words out) c = argument_written c arg words out
written_for (variadic_argument arg words out) c = variadic_argument_written c arg words out

-- the answers to a list of operations, each performed on the call that the one before handed back
unfoldable pub answers_by : ℕ → Description → Call → List Operation → List Answer
answers_by source D c [] = []
answers_by source D c (op ∷ ops) = answer_by source D op c ∷ answers_by source D (answer_by source D op c).next ops

unfoldable pub answers_from : Call → List Operation → List Answer
answers_from c [] = []
answers_from c (op ∷ ops) = answer_for op c ∷ answers_from (answer_for op c).next ops

-- a history on a row starts with its fresh call
abbrev pub fresh_call : ℕ → Call
fresh_call d = (fresh_answer d).next

abbrev pub history : ℕ → List Operation → List Answer
history d ops = answers_from (fresh_call d) ops

-- the call that the last of some answers handed back; the one they started on if there is none
unfoldable pub call_after : Call → List Answer → Call
call_after c [] = c
call_after c (a ∷ past) = call_after a.next past

abbrev pub is_refused : Answer → Bool
is_refused a = ltb accepted a.outcome.refusal

-- ---- a bank's counts

pub data Bank : Type 0 where
  integers : Bank
  floats : Bank

abbrev pub start_of : Bank → Banks → ℕ
start_of integers banks = banks.integer
start_of floats banks = banks.float

abbrev pub left_in : Bank → Call → ℕ
left_in integers c = c.left.integer
left_in floats c = c.left.float

abbrev pub passed_over : Bank → Answer → ℕ
passed_over integers a = a.outcome.spent.integers_passed
passed_over floats a = a.outcome.spent.floats_passed

abbrev pub given : Bank → Answer → ℕ
given integers a = a.outcome.spent.integers_given
given floats a = a.outcome.spent.floats_given

unfoldable pub total : (Answer → ℕ) → List Answer → ℕ
total count [] = 0
total count (a ∷ past) = count a + total count past

-- ---- an operation's run of registers

-- registers from the first one up: so many are passed over, and then so many given
pub record Run : Type 0 where
  pub first : ℕ
  pub passes : ℕ
  pub gives : ℕ

-- where it ends: the register after its last one
abbrev pub run_end : Run → ℕ
run_end run = run.first + run.passes + run.gives

-- it begins with the next register: as many are left from there on as the call that the operation was performed on had left
abbrev pub run_of : Bank → Banks → Call → Answer → Run
run_of b banks c a = record { first = start_of b banks - left_in b c; passes = passed_over b a; gives = given b a }

unfoldable pub runs_from : Bank → Banks → Call → List Answer → List Run
runs_from b banks c [] = []
runs_from b banks c (a ∷ past) = run_of b banks c a ∷ runs_from b banks a.next past

abbrev pub no_run : Run
no_run = record { first = 0; passes = 0; gives = 0 }

-- the run of operation k of those performed from a call on, the first being 0; past the last one it is empty
abbrev pub run_at : Bank → Banks → Call → List Answer → ℕ → Run
run_at b banks c past k = get_or (runs_from b banks c past) k no_run

-- ---- the registers

-- a register, in a run, in its part that is passed over, in its part that is given
abbrev pub InRun : Run → ℕ → Type 0
InRun run r = (run.first ≤ r) × (r < run_end run)

abbrev pub InPassedOver : Run → ℕ → Type 0
InPassedOver run r = (run.first ≤ r) × (r < run.first + run.passes)

abbrev pub InGiven : Run → ℕ → Type 0
InGiven run r = (run.first + run.passes ≤ r) × (r < run_end run)

-- what has a register: operation k passed it over, or was given it, or it is left
pub data Holder : Type 0 where
  passed_over_by : ℕ → Holder
  given_to : ℕ → Holder
  left : Holder

-- where the operation after one begins
abbrev pub next_after : Bank → ℕ → Answer → ℕ
next_after b next a = next + passed_over b a + given b a

-- by the operations' counts alone, from operation k on, whose run begins at the register `next`
unfoldable pub holder_from : Bank → ℕ → ℕ → List Answer → ℕ → Holder
holder_from b k next [] r = left
holder_from b k next (a ∷ past) r =
    cond (ltb r (next + passed_over b a)) (passed_over_by k)
    (cond (ltb r (next + passed_over b a + given b a)) (given_to k) (holder_from b (suc k) (next_after b next a) past r))

abbrev pub holds : List Answer → Bank → ℕ → Holder
holds past b r = holder_from b 0 0 past r

-- by the runs, and for those left by the call that was handed back: the topmost registers, as many as it has left
abbrev pub Has : Bank → Banks → Call → List Answer → ℕ → Holder → Type 0
Has b banks c past r (passed_over_by k) = InPassedOver (run_at b banks c past k) r
Has b banks c past r (given_to k) = InGiven (run_at b banks c past k) r
Has b banks c past r left = start_of b banks - left_in b (call_after c past) ≤ r

-- ---- an operation's bytes on the stack

-- where they end; a byte among them
abbrev pub range_end : Stacked → ℕ
range_end range = range.at + range.bytes

abbrev pub InRange : Stacked → ℕ → Type 0
InRange range byte = (range.at ≤ byte) × (byte < range_end range)

abbrev pub range_of : Answer → Stacked
range_of a = a.outcome.stacked

-- those of operation k of those that were performed; past the last one there are none
abbrev pub range_at : List Answer → ℕ → Stacked
range_at past k = get_or (map range_of past) k (stands 0 0)

-- what the offset of an operation's value is rounded to (REFERENCE 9.9), on a call and by a description
abbrev pub rounding_by : Description → Operation → Call → ℕ
rounding_by D mark c = 1
rounding_by D (return arg words out) c =
    rounding_for (terms_of D) D.returns true as_fixed arg (pieces_of words) (way_of (rust.returns D c.left arg (pieces_of words)).pass)
rounding_by D (argument arg words out) c =
    rounding_for (terms_of D) D.arguments false as_fixed arg (pieces_of words) (way_of (rust.argument D c.left arg (pieces_of words)).pass)
rounding_by D (variadic_argument arg words out) c =
    rounding_for (terms_of D) D.arguments false (dots_of D.variadic) arg (pieces_of words) (way_of (rust.variadic_argument D c.left arg (pieces_of words)).pass)

-- ---- the ledger, `past` being the answers so far to operations from the call c on

pub record LedgerBy (source : ℕ) (D : Description) (c : Call) (past : List Answer) : Type 0 where
  -- given, passed over and left add up to the bank's start
  pub adds_up : (b : Bank) → total (given b) past + total (passed_over b) past + left_in b (call_after c past) ≡ start_of b D.banks
  -- the first run begins at register 0, and each other one where the one before it ended; none ends past the bank's start, and what is left
  -- begins where the last one ended
  pub begins_at_zero : (b : Bank) → 0 < length past → (run_at b D.banks c past 0).first ≡ 0
  pub begins_where_ended : (b : Bank) (k : ℕ) → suc k < length past → (run_at b D.banks c past (suc k)).first ≡ run_end (run_at b D.banks c past k)
  pub ends_within : (b : Bank) (k : ℕ) → run_end (run_at b D.banks c past k) ≤ start_of b D.banks
  pub left_from_end : (b : Bank) (k : ℕ) → suc k ≡ length past
      → run_end (run_at b D.banks c past k) ≡ start_of b D.banks - left_in b (call_after c past)
  -- no register is in two operations' runs, nor both passed over and given, nor one of them and left
  pub in_one_run : (b : Bank) (j k r : ℕ) → InRun (run_at b D.banks c past j) r → InRun (run_at b D.banks c past k) r → j ≡ k
  pub not_passed_over_and_given : (b : Bank) (j k r : ℕ) → InPassedOver (run_at b D.banks c past j) r → InGiven (run_at b D.banks c past k) r → ⊥
  pub not_passed_over_and_left : (b : Bank) (k r : ℕ) → InPassedOver (run_at b D.banks c past k) r → Has b D.banks c past r left → ⊥
  pub not_given_and_left : (b : Bank) (k r : ℕ) → InGiven (run_at b D.banks c past k) r → Has b D.banks c past r left → ⊥
  -- every register has one holder, and it is the one that the operations' counts say
  pub has_holder : (b : Bank) (r : ℕ) → r < start_of b D.banks → Has b D.banks c past r (holds past b r)
  pub has_no_other : (b : Bank) (r : ℕ) → r < start_of b D.banks → (h : Holder) → Has b D.banks c past r h → h ≡ holds past b r
  -- a refused operation has an empty run, and hands back the call that it was performed on
  pub refused_is_empty : (k : ℕ) (a : Answer) → get_elem? past k ≡ some a → is_refused a ≡ true
      → (b : Bank) → ((run_at b D.banks c past k).passes ≡ 0) × ((run_at b D.banks c past k).gives ≡ 0)
  pub refused_keeps_call : (k : ℕ) (a : Answer) → get_elem? past k ≡ some a → is_refused a ≡ true → a.next ≡ call_after c (take k past)
  -- the call handed back has the number that the first had, and passes the checks of the next operation: no count left is above the bank's
  -- start, it is marked only where the description uses the mark, and its offset is within the limit (`below_limit`)
  pub same_abi : (call_after c past).abi ≡ c.abi
  pub acceptable : call_refusal_by source D (call_after c past) ≡ accepted
  pub never_above : (b : Bank) → left_in b (call_after c past) ≤ start_of b D.banks
  pub marked_where_used : marked (call_after c past).left ≡ true → is_integers_only D.variadic ≡ true
  -- an operation with bytes for the stack has them from the offset of its call on, and hands on where they end; one with none has no place and leaves
  -- the offset, and so does a refused one
  pub stands_behind : (k : ℕ) (a : Answer) → get_elem? past k ≡ some a → 0 < (range_of a).bytes → (call_after c (take k past)).stack ≤ (range_of a).at
  pub hands_on_end : (k : ℕ) (a : Answer) → get_elem? past k ≡ some a → 0 < (range_of a).bytes → a.next.stack ≡ range_end (range_of a)
  pub nowhere_stays : (k : ℕ) (a : Answer) → get_elem? past k ≡ some a → (range_of a).bytes ≡ 0
      → ((range_of a).at ≡ 0) × (a.next.stack ≡ (call_after c (take k past)).stack)
  pub refused_is_nowhere : (k : ℕ) (a : Answer) → get_elem? past k ≡ some a → is_refused a ≡ true → range_of a ≡ stands 0 0
  -- the bytes of all are below the last offset, which is within the limit; those of a later operation are behind those of an earlier one; no byte is
  -- two operations'
  pub below_offset : (k : ℕ) → range_end (range_at past k) ≤ (call_after c past).stack
  pub below_limit : (call_after c past).stack ≤ most_stack
  pub in_order : (j k : ℕ) → j < k → 0 < (range_at past k).bytes → range_end (range_at past j) ≤ (range_at past k).at
  pub no_byte_twice : (j k byte : ℕ) → InRange (range_at past j) byte → InRange (range_at past k) byte → j ≡ k

-- the roundings of the operations `ops` from the call c on, of which `past` are the answers: bytes on the stack begin at a multiple of their rounding,
-- with less padding before them than that
pub record RoundedBy (D : Description) (c : Call) (ops : List Operation) (past : List Answer) : Type 0 where
  pub at_multiple : (k : ℕ) (op : Operation) → get_elem? ops k ≡ some op → (a : Answer) → get_elem? past k ≡ some a → 0 < (range_of a).bytes
      → (range_of a).at % rounding_by D op (call_after c (take k past)) ≡ 0
  pub little_padding : (k : ℕ) (op : Operation) → get_elem? ops k ≡ some op → (a : Answer) → get_elem? past k ≡ some a → 0 < (range_of a).bytes
      → (range_of a).at < (call_after c (take k past)).stack + rounding_by D op (call_after c (take k past))

-- the ledger of a history on a row, and its roundings
abbrev pub Ledger : ℕ → List Answer → Type 0
Ledger d past = LedgerBy (row_refusal d) (described d) (fresh_call d) past

abbrev pub Rounded : ℕ → List Operation → List Answer → Type 0
Rounded d ops past = RoundedBy (described d) (fresh_call d) ops past
