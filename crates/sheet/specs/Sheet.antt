-- The sheet (REFERENCE 11): records of 48 bytes in, a line for each operation out.
use Rattle.std.specs.Prelude.{ℕ, zero, suc, ◌+◌, ◌*◌, ◌/◌, ◌≡◌, List, [], ◌∷◌, ◌++◌, Bool, ◌||◌, cond, leb, eqb, length, take, drop, replicate}
use Rattle.shape.specs.Numbers.{most_pieces}
use Rattle.shape.specs.Words.{piece_size, put_at}
use Rattle.slots.specs.Words.{most_words}
use Rattle.text.specs.Text.{bytes}
use Rattle.sheet_records.specs.declared.known.Reader.{Reader}
use Rattle.sheet_records.specs.declared.known.Operation as operations
use Rattle.sheet_records.specs.declared.Event as events
use Rattle.sheet_records.specs.declared.Reading.{Reading}
use Rattle.sheet_records.specs.Records.{record_size}
use Rattle.sheet_records.specs.Reading.{read_answer, read_pieces}
use Rattle.sheet_records.specs.Known.{act_of, stopped_reader}
use Rattle.sheet_lines.specs.Printing.{line, newline, longest}
use Rattle.sheet_perform.specs.declared.State.{State}
use Rattle.sheet.specs.declared.Step.{Step}
use Rattle.sheet.specs.declared.Steps.{Steps}
use Rattle.sheet_perform.specs.Performing.{started, performed, performed_slots}

-- ---- between two records

-- what stands there: the state, the words of pieces and those of slots
pub record Between : Type 0 where
  pub state : State
  pub pieces : List ℕ
  pub slots : List ℕ

-- the state with what the reader knows now
abbrev pub knowing : State → Reader → State
knowing s r = record { call = s.call; reader = r }

abbrev pub step_to : State → ℕ → Step
step_to s at = record { next = s; at = at }

-- ---- one record

abbrev pub stop_text : List ℕ
stop_text = bytes "stop" ++ (newline ∷ [])

-- the line of an event: an operation that isn't whole yet has none
unfoldable pub event_text : State → events.Event → List ℕ → List ℕ → List ℕ
event_text s events.TheVariants.More ps slots = []
event_text s events.TheVariants.Stop ps slots = stop_text
event_text s (events.TheVariants.Ready operation) ps slots =
    line (act_of operation) s.call.stack (performed s operation ps slots).answer (performed_slots s operation ps slots)

unfoldable pub event_state : State → events.Event → List ℕ → List ℕ → State
event_state s events.TheVariants.More ps slots = s
event_state s events.TheVariants.Stop ps slots = s
event_state s (events.TheVariants.Ready operation) ps slots = (performed s operation ps slots).next

unfoldable pub event_slots : State → events.Event → List ℕ → List ℕ → List ℕ
event_slots s events.TheVariants.More ps slots = slots
event_slots s events.TheVariants.Stop ps slots = slots
event_slots s (events.TheVariants.Ready operation) ps slots = performed_slots s operation ps slots

-- all that an operation that is ready leaves: the state and the end of its line, the slots and the text
pub record CarriedOut (s : State) (operation : operations.Operation) (ps slots out : List ℕ) (at : ℕ) (answer : Step) (slots' out' : List ℕ) : Type 0 where
  pub answers : answer ≡ step_to (event_state s (events.TheVariants.Ready operation) ps slots) (at + length (event_text s (events.TheVariants.Ready operation) ps slots))
  pub slots_left : slots' ≡ event_slots s (events.TheVariants.Ready operation) ps slots
  pub text_left : out' ≡ put_at out at (event_text s (events.TheVariants.Ready operation) ps slots)

abbrev pub reading_of : Between → List ℕ → Reading
reading_of b bytes = read_answer b.state.reader bytes (length b.pieces)

abbrev pub pieces_after : Between → List ℕ → List ℕ
pieces_after b bytes = read_pieces b.state.reader bytes b.pieces

-- the state in which the event is followed
abbrev pub state_read : Between → List ℕ → State
state_read b bytes = knowing b.state (reading_of b bytes).next

-- the text of a record, and what stands behind it
unfoldable pub text : Between → List ℕ → List ℕ
text b bytes = event_text (state_read b bytes) (reading_of b bytes).event (pieces_after b bytes) b.slots

unfoldable pub after_record : Between → List ℕ → Between
after_record b bytes =
    record {
      state = event_state (state_read b bytes) (reading_of b bytes).event (pieces_after b bytes) b.slots;
      pieces = pieces_after b bytes;
      slots = event_slots (state_read b bytes) (reading_of b bytes).event (pieces_after b bytes) b.slots;
    }

-- ---- a step: nothing is done where the longest line has no room from `at` on

abbrev pub between : State → List ℕ → List ℕ → Between
between s ps slots = record { state = s; pieces = ps; slots = slots }

unfoldable pub step_answer : State → List ℕ → List ℕ → List ℕ → ℕ → ℕ → Step
step_answer s bytes ps slots room at =
    cond (leb (at + longest) room)
    (step_to (after_record (between s ps slots) bytes).state (at + length (text (between s ps slots) bytes)))
    (step_to s at)

unfoldable pub step_pieces : State → List ℕ → List ℕ → List ℕ → ℕ → ℕ → List ℕ
step_pieces s bytes ps slots room at = cond (leb (at + longest) room) (after_record (between s ps slots) bytes).pieces ps

unfoldable pub step_slots : State → List ℕ → List ℕ → List ℕ → ℕ → ℕ → List ℕ
step_slots s bytes ps slots room at = cond (leb (at + longest) room) (after_record (between s ps slots) bytes).slots slots

unfoldable pub step_out : State → List ℕ → List ℕ → List ℕ → List ℕ → ℕ → List ℕ
step_out s bytes ps slots out at =
    cond (leb (at + longest) (length out)) (put_at out at (text (between s ps slots) bytes)) out

-- all that a step leaves: its answer, the words of pieces and of slots, and the text
pub record Stepped (s : State) (bytes ps slots out : List ℕ) (at : ℕ) (answer : Step) (pieces' slots' out' : List ℕ) : Type 0 where
  pub answers : answer ≡ step_answer s bytes ps slots (length out) at
  pub pieces_left : pieces' ≡ step_pieces s bytes ps slots (length out) at
  pub slots_left : slots' ≡ step_slots s bytes ps slots (length out) at
  pub text_left : out' ≡ step_out s bytes ps slots out at

-- ---- the end of the sheet

-- a piece that is still due is missing
unfoldable pub ended : State → Bool
ended s = s.reader.stopped || eqb s.reader.due.pieces 0

abbrev pub finish_text : State → List ℕ
finish_text s = cond (ended s) [] stop_text

abbrev pub finish_state : State → State
finish_state s = cond (ended s) s (knowing s (stopped_reader s.reader))

unfoldable pub finish_answer : State → ℕ → ℕ → Step
finish_answer s room at =
    cond (leb (at + longest) room) (step_to (finish_state s) (at + length (finish_text s))) (step_to s at)

unfoldable pub finish_out : State → List ℕ → ℕ → List ℕ
finish_out s out at = cond (leb (at + longest) (length out)) (put_at out at (finish_text s)) out

pub record Finished (s : State) (out : List ℕ) (at : ℕ) (answer : Step) (out' : List ℕ) : Type 0 where
  pub answers : answer ≡ finish_answer s (length out) at
  pub text_left : out' ≡ finish_out s out at

-- ---- many records

-- the lines of records one after the other, and what stands behind them
unfoldable pub texts : Between → List (List ℕ) → List ℕ
texts b [] = []
texts b (r ∷ rs) = text b r ++ texts (after_record b r) rs

unfoldable pub after_all : Between → List (List ℕ) → Between
after_all b [] = b
after_all b (r ∷ rs) = after_all (after_record b r) rs

-- the first so many records of some bytes
unfoldable pub records_in : ℕ → List ℕ → List (List ℕ)
records_in zero bytes = []
records_in (suc n) bytes = take record_size bytes ∷ records_in n (drop record_size bytes)

-- how many whole records there are
abbrev pub whole : List ℕ → ℕ
whole bytes = length bytes / record_size

-- how many of the first n records a text has room for, from `at` on
unfoldable pub taken : ℕ → Between → List ℕ → ℕ → ℕ → ℕ
taken zero b bytes room at = 0
taken (suc n) b bytes room at =
    cond (leb (at + longest) room)
    (suc (taken n (after_record b (take record_size bytes)) (drop record_size bytes) room (at + length (text b (take record_size bytes)))))
    0

-- the records that are taken of an input
abbrev pub taken_of : Between → List ℕ → ℕ → List (List ℕ)
taken_of b bytes room = records_in (taken (whole bytes) b bytes room 0) bytes

unfoldable pub steps_answer : State → List ℕ → List ℕ → List ℕ → ℕ → Steps
steps_answer s bytes ps slots room =
    record {
      next = (after_all (between s ps slots) (taken_of (between s ps slots) bytes room)).state;
      used = taken (whole bytes) (between s ps slots) bytes room 0 * record_size;
      at = length (texts (between s ps slots) (taken_of (between s ps slots) bytes room));
    }

unfoldable pub steps_pieces : State → List ℕ → List ℕ → List ℕ → ℕ → List ℕ
steps_pieces s bytes ps slots room = (after_all (between s ps slots) (taken_of (between s ps slots) bytes room)).pieces

unfoldable pub steps_slots : State → List ℕ → List ℕ → List ℕ → ℕ → List ℕ
steps_slots s bytes ps slots room = (after_all (between s ps slots) (taken_of (between s ps slots) bytes room)).slots

unfoldable pub steps_out : State → List ℕ → List ℕ → List ℕ → List ℕ → List ℕ
steps_out s bytes ps slots out =
    put_at out 0 (texts (between s ps slots) (taken_of (between s ps slots) bytes (length out)))

pub record Taken (s : State) (bytes ps slots out : List ℕ) (answer : Steps) (pieces' slots' out' : List ℕ) : Type 0 where
  pub answers : answer ≡ steps_answer s bytes ps slots (length out)
  pub pieces_left : pieces' ≡ steps_pieces s bytes ps slots (length out)
  pub slots_left : slots' ≡ steps_slots s bytes ps slots (length out)
  pub text_left : out' ≡ steps_out s bytes ps slots out

-- ---- a whole sheet

-- behind the whole records: bytes that are left are a short record, and otherwise a piece that is due is missing
unfoldable pub end_text : Between → List ℕ → List ℕ
end_text b [] = finish_text b.state
end_text b (x ∷ xs) = text b (x ∷ xs)

-- before the first record, with room for the most pieces and slots
unfoldable pub begin : Between
begin = between started (replicate (most_pieces * piece_size) 0) (replicate most_words 0)

-- a sheet's bytes to its lines' bytes
unfoldable pub sheet_text : List ℕ → List ℕ
sheet_text bytes =
    texts begin (records_in (whole bytes) bytes)
    ++ end_text (after_all begin (records_in (whole bytes) bytes)) (drop (whole bytes * record_size) bytes)
