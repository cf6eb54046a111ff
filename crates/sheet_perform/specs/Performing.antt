-- Operations to answers (REFERENCE 11): what an operation answers on the open call, and what is known afterwards.
use Rattle.std.specs.Prelude.{ℕ, List, take}
use Rattle.classify.specs.declared.Call.{Call}
use Rattle.classify.specs.declared.Answer.{Answer}
use Rattle.classify.specs.Answers.{unmarked, fresh_answer, variadic_answer, returns_answer, returns_written, argument_answer, argument_written, variadic_argument_answer, variadic_argument_written}
use Rattle.sheet_records.specs.declared.known.Reader.{Reader}
use Rattle.sheet_records.specs.declared.known.Operation as operations
use Rattle.sheet_records.specs.Known.{started_reader, reader_after}
use Rattle.sheet_perform.specs.declared.State.{State}
use Rattle.sheet_perform.specs.declared.Performed.{Performed}

-- before the first record no call is open and no piece is due
abbrev pub started : State
started = record { call = unmarked 0 0 0; reader = started_reader }

-- the words of the pieces that were read
abbrev pub words_read : Reader → List ℕ → List ℕ
words_read r ps = take r.due.words ps

unfoldable pub answer_of : Call → operations.Operation → List ℕ → List ℕ → Answer
answer_of c (operations.TheVariants.Fresh abi) ws slots = fresh_answer abi
answer_of c operations.TheVariants.Mark ws slots = variadic_answer c
answer_of c (operations.TheVariants.Return arg) ws slots = returns_answer c arg ws slots
answer_of c (operations.TheVariants.Argument arg) ws slots = argument_answer c arg ws slots
answer_of c (operations.TheVariants.VariadicArgument arg) ws slots = variadic_argument_answer c arg ws slots

-- the slot buffer afterwards
unfoldable pub slots_after : Call → operations.Operation → List ℕ → List ℕ → List ℕ
slots_after c (operations.TheVariants.Fresh abi) ws slots = slots
slots_after c operations.TheVariants.Mark ws slots = slots
slots_after c (operations.TheVariants.Return arg) ws slots = returns_written c arg ws slots
slots_after c (operations.TheVariants.Argument arg) ws slots = argument_written c arg ws slots
slots_after c (operations.TheVariants.VariadicArgument arg) ws slots = variadic_argument_written c arg ws slots

-- the operation on the open call, with the words that were read
abbrev pub answer_in : State → operations.Operation → List ℕ → List ℕ → Answer
answer_in s operation ps slots = answer_of s.call operation (words_read s.reader ps) slots

-- the next call, and what the reader knows then
abbrev pub followed : Reader → operations.Operation → Answer → Performed
followed r operation answer =
    record { next = record { call = answer.next; reader = reader_after r operation answer.outcome.refusal }; answer = answer }

unfoldable pub performed : State → operations.Operation → List ℕ → List ℕ → Performed
performed s operation ps slots = followed s.reader operation (answer_in s operation ps slots)

unfoldable pub performed_slots : State → operations.Operation → List ℕ → List ℕ → List ℕ
performed_slots s operation ps slots = slots_after s.call operation (words_read s.reader ps) slots
