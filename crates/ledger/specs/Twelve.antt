-- The table of twelve calls (REFERENCE 9.8): what is asked of a call on a description, and the whole answer, in the table's order and numbers.
-- A call that names several cases has an entry for each.
use Rattle.std.specs.Prelude.{ℕ, ◌-◌, List, [], ◌∷◌, ◌++◌, false, length, replicate}
use Rattle.std.proofs.Math.Option.{Option}
use Rattle.std.proofs.Math.Option.Option.{none, some}
use Rattle.shape.specs.declared.Arg as args
use Rattle.shape.specs.Numbers.{accepted, integer, single, double, x87_extended}
use Rattle.shape.specs.Words.{scalar}
use Rattle.slots.specs.declared.Slot.{Slot}
use Rattle.slots.specs.Words.{slot, most_words, words_of}
use Rattle.abis.specs.Abis.{described}
use Rattle.spend.specs.declared.Way.{Way}
use Rattle.spend.specs.declared.Way.TheVariants.{Direct, Pieces, Reference, Memory}
use Rattle.spend.specs.declared.Spent.{Spent}
use Rattle.spend.specs.Ways.{spends}
use Rattle.stack_place.specs.Stacked.{stands}
use Rattle.classify.specs.declared.Call.{Call}
use Rattle.classify.specs.declared.Answer.{Answer}
use Rattle.classify.specs.Classify.{counts}
use Rattle.classify.specs.Answers.{call_with, unmarked, answered}
use Rattle.ledger.specs.Ledger.{Operation, return, argument, answer_for, written_for, integers, floats, start_of}

-- ---- what is asked

-- room for the most slots, all zeros
abbrev pub buffer : List ℕ
buffer = replicate most_words 0

-- the words of a piece at an offset
abbrev pub int4 : ℕ → List ℕ
int4 at = integer ∷ 4 ∷ 4 ∷ at ∷ []

abbrev pub int8 : ℕ → List ℕ
int8 at = integer ∷ 8 ∷ 8 ∷ at ∷ []

abbrev pub float4 : ℕ → List ℕ
float4 at = single ∷ 4 ∷ 4 ∷ at ∷ []

abbrev pub float8 : ℕ → List ℕ
float8 at = double ∷ 8 ∷ 8 ∷ at ∷ []

abbrev pub float16 : ℕ → List ℕ
float16 at = x87_extended ∷ 16 ∷ 16 ∷ at ∷ []

-- an aggregate of a size and an alignment, with these pieces, that comes back or is an argument; and an integer scalar that is one
abbrev pub plain_aggregate : ℕ → ℕ → args.Arg
plain_aggregate size align = args.TheVariants.Aggregate (record { size = size; align = align; complex = false; floating = false })

abbrev pub comes_back : ℕ → ℕ → List ℕ → Operation
comes_back size align words = return (plain_aggregate size align) words buffer

abbrev pub is_passed : ℕ → ℕ → List ℕ → Operation
is_passed size align words = argument (plain_aggregate size align) words buffer

abbrev pub integer_is_passed : ℕ → Operation
integer_is_passed size = argument (args.TheVariants.Scalar (scalar integer size size)) [] buffer

-- ---- what is answered

-- the way; integers and floats left; integers passed over and given; floats passed over and given; the stack offset behind it, which is also how many
-- bytes it has there, since each call's stack is empty before; the slots
pub record Line : Type 0 where
  pub way : Way
  pub integers_left : ℕ
  pub floats_left : ℕ
  pub spent : Spent
  pub stack : ℕ
  pub slots : List Slot

abbrev pub table_line : Way → ℕ → ℕ → ℕ → ℕ → ℕ → ℕ → ℕ → List Slot → Line
table_line way i f ip ig fp fg stack slots =
    record { way = way; integers_left = i; floats_left = f; spent = spends ip ig fp fg; stack = stack; slots = slots }

-- ---- the table

-- the call's number in the table, the description, the integers and floats left where they aren't fresh, what is asked, what is answered
pub record Entry : Type 0 where
  pub number : ℕ
  pub row : ℕ
  pub integers_left : Option ℕ
  pub floats_left : Option ℕ
  pub asked : Operation
  pub answer : Line

abbrev pub entry : ℕ → ℕ → Option ℕ → Option ℕ → Operation → Line → Entry
entry number row i f asked answer =
    record { number = number; row = row; integers_left = i; floats_left = f; asked = asked; answer = answer }

abbrev pub fresh : Option ℕ
fresh = none

abbrev pub twelve : List Entry
twelve =
    entry 1 0 fresh fresh (is_passed 16 8 (int8 0 ++ float8 8)) (table_line Pieces 5 7 0 1 0 1 0 (slot 0 0 8 ∷ slot 2 8 0 ∷ []))
    ∷ entry 2 0 (some 1) fresh (is_passed 16 8 (int8 0 ++ int8 8)) (table_line Memory 1 8 0 0 0 0 16 [])
    ∷ entry 3 0 (some 1) fresh (integer_is_passed 16) (table_line Direct 1 8 0 0 0 0 16 [])
    ∷ entry 4 0 fresh fresh (is_passed 16 16 (float16 0)) (table_line Memory 6 8 0 0 0 0 16 [])
    ∷ entry 4 0 fresh fresh (comes_back 16 16 (float16 0)) (table_line Pieces 6 8 0 0 0 0 0 (slot 3 0 0 ∷ []))
    ∷ entry 5 0 fresh fresh (is_passed 12 4 (float4 0 ++ float4 4 ++ float4 8)) (table_line Pieces 6 6 0 0 0 2 0 (slot 2 0 0 ∷ slot 1 8 0 ∷ []))
    ∷ entry 6 1 (some 7) fresh (integer_is_passed 16) (table_line Direct 4 8 1 2 0 0 0 [])
    ∷ entry 6 2 (some 7) fresh (integer_is_passed 16) (table_line Direct 5 8 0 2 0 0 0 [])
    ∷ entry 7 1 fresh fresh (is_passed 20 4 (float4 0 ++ float4 4 ++ float4 8 ++ float4 12 ++ float4 16)) (table_line Reference 7 8 0 1 0 0 0 [])
    ∷ entry 8 1 fresh (some 2) (is_passed 24 8 (float8 0 ++ float8 8 ++ float8 16)) (table_line Memory 8 0 0 0 2 0 24 [])
    ∷ entry 9 4 fresh fresh (is_passed 0 1 []) (table_line Reference 3 0 0 1 0 0 0 [])
    ∷ entry 10 4 (some 0) fresh (is_passed 8 8 (int8 0)) (table_line Pieces 0 0 0 0 0 0 8 (slot 0 0 8 ∷ []))
    ∷ entry 11 5 (some 2) (some 0) (is_passed 8 4 (float4 0 ++ int4 4)) (table_line Pieces 1 0 0 1 0 0 0 (slot 0 0 8 ∷ []))
    ∷ entry 12 9 (some 1) fresh (integer_is_passed 8) (table_line Direct 1 0 0 0 0 0 8 [])
    ∷ entry 12 9 (some 1) fresh (is_passed 8 4 (int4 0 ++ int4 4)) (table_line Memory 0 0 1 0 0 0 8 [])
    ∷ []

-- ---- an entry's answer, and the one that is expected: the answer and the words of the buffer

abbrev pub or_fresh : Option ℕ → ℕ → ℕ
or_fresh none start = start
or_fresh (some n) start = n

abbrev pub call_on : Entry → Call
call_on e =
    unmarked e.row (or_fresh e.integers_left (start_of integers (described e.row).banks)) (or_fresh e.floats_left (start_of floats (described e.row).banks))

abbrev pub answered_to : Entry → Answer × List ℕ
answered_to e = (answer_for e.asked (call_on e), written_for e.asked (call_on e))

-- the slots' words at the front of the buffer, and zeros after them
abbrev pub in_buffer : List ℕ → List ℕ
in_buffer words = words ++ replicate (most_words - length words) 0

abbrev pub expected : Entry → Answer × List ℕ
expected e = (
  answered (call_with e.row (counts e.answer.integers_left e.answer.floats_left) e.answer.stack) accepted
      e.answer.way e.answer.spent (length e.answer.slots) (stands 0 e.answer.stack),
  in_buffer (words_of e.answer.slots),
)
