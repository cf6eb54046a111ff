-- What a step and the end of a sheet leave.
use Prim.Native.Nat.{ℕ, ◌+◌, ◌≤◌}
use mathlib.Core.Path.{◌≡◌, refl, sym, ap, ◌∙◌}
use mathlib.Core.List.{List}
use mathlib.Core.Bool.{Bool, true, false, ◌||◌, not}
use native.Mathlib.Omega.{arith}
use borrow.Author.Tests.{leb-true, not-true, not-false}
use lib.Dec.{leb, eqb}
use lib.ListN.{length}
use Rattle.shape.specs.Words.{put_at}
use Rattle.shape.proofs.Put.{put_none}
use Rattle.text.specs.Text.{append_end}
use Rattle.sheet_records.specs.declared.known.Reader.{Reader}
use Rattle.sheet_records.specs.declared.known.Operation as operations
use Rattle.sheet_records.specs.declared.Event as events
use Rattle.sheet_records.specs.declared.Reading.{Reading}
use Rattle.sheet_records.specs.Reading.{came, read_answer, read_pieces}
use Rattle.sheet_records.specs.Known.{act_of, stopped_reader}
use Rattle.sheet_records.specs.declared.known.Act as acts
use Rattle.text.specs.Text.{Put}
use Rattle.sheet_lines.specs.Printing.{longest, line, Lined}
use Rattle.text.proofs.Putting.{append_put}
use Rattle.sheet_lines.proofs.LineLaws.{line_there}
use Rattle.sheet_perform.specs.declared.State.{State}
use Rattle.sheet.specs.declared.Step.{Step}
use Rattle.sheet_perform.specs.declared.Performed.{Performed}
use Rattle.sheet_perform.specs.Performing.{performed, performed_slots}
use Rattle.sheet.specs.Sheet.{stop_text, step_to, knowing, event_text, event_state, event_slots, text, after_record, step_answer, step_pieces, step_slots, step_out, CarriedOut, Stepped, ended, finish_answer, finish_out, Finished}
use Rattle.sheet.proofs.SlotLaws.{eight_slots, slots_fit}

-- room for a line
module _ (out : List ℕ) (at : ℕ) (b : Bool) (eb : b ≡ leb (at + longest) (length out)) where
  roomless : not b ≡ true → leb (at + longest) (length out) ≡ false
  roomless t = sym eb ∙ not-true b t

  module _ (t : not b ≡ false) where
    roomy : leb (at + longest) (length out) ≡ true
    roomy = sym eb ∙ not-false b t

    pub line_fits : at + longest ≤ length out
    line_fits = leb-true _ _ roomy

-- the text that says that the sheet stops
pub stop_put : (out : List ℕ) (at to : ℕ) (out' : List ℕ) → at + longest ≤ length out → to ≡ append_end (length out) at stop_text
    → out' ≡ put_at out at stop_text → Put out at stop_text to out'
stop_put out at to out' h et eo = append_put out at stop_text to out' (omega arith) et eo

-- ---- an operation that is ready

pub carried_out : (s : State) (op : operations.Operation) (ps slots out : List ℕ) (at : ℕ) → at + longest ≤ length out
    → (x : Performed) → x ≡ performed s op ps slots
    → (slots' : List ℕ) → slots' ≡ performed_slots s op ps slots → length slots' ≡ length slots → (act : acts.Act) → act ≡ act_of op
    → (to : ℕ) (out' : List ℕ) → Lined act s.call.stack x.answer slots' out at to out'
    → CarriedOut s op ps slots out at (step_to x.next to) slots' out'
unfolding event_state event_text event_slots
carried_out s op ps slots out at room x ex slots' es same act ew to out' l =
    let y : Put out at (line act s.call.stack x.answer slots') to out' =
    line_there act s.call.stack x.answer slots' out at to out' l room (rw ex (eight_slots s op ps slots)) (rw (ex, same) (slots_fit s op ps slots)) in
    record { answers = rw (y.ends, ex, es, ew); slots_left = es; text_left = y.put ∙ rw (ex, es, ew) }

-- ---- a step

module _ (s : State) (bs ps slots out : List ℕ) (at : ℕ) where
  -- what is left, by what came of the record
  left_by : (n : Reader) (ev : events.Event) → read_answer s.reader bs (length ps) ≡ came n ev → leb (at + longest) (length out) ≡ true
      → (answer : Step) (ps' slots' out' : List ℕ) → ps' ≡ read_pieces s.reader bs ps
      → answer ≡ step_to (event_state (knowing s n) ev ps' slots) (at + length (event_text (knowing s n) ev ps' slots))
      → slots' ≡ event_slots (knowing s n) ev ps' slots → out' ≡ put_at out at (event_text (knowing s n) ev ps' slots)
      → Stepped s bs ps slots out at answer ps' slots' out'
  unfolding step_answer step_pieces step_slots step_out text after_record
  left_by n ev er room answer ps' slots' out' ep ea es eo =
      record {
        answers = rw (ea, room, er, ep);
        pieces_left = rw (room, ep);
        slots_left = rw (es, room, er, ep);
        text_left = rw (eo, room, er, ep);
      }

  module _ (b : Bool) (eb : b ≡ leb (at + longest) (length out)) where
    pub step_roomless : not b ≡ true → Stepped s bs ps slots out at (step_to s at) ps slots out
    unfolding step_answer step_pieces step_slots step_out
    step_roomless t =
        let f = roomless out at b eb t in record { answers = rw f; pieces_left = rw f; slots_left = rw f; text_left = rw f }

    module _ (t : not b ≡ false) (x : Reading) (ex : x ≡ read_answer s.reader bs (length ps)) (ps' : List ℕ) (ep : ps' ≡ read_pieces s.reader bs ps) where
      reads : (ev : events.Event) → x.event ≡ ev → read_answer s.reader bs (length ps) ≡ came x.next ev
      reads ev e = sym ex ∙ ap (λ (v : events.Event). came x.next v) e

      pub step_more : x.event ≡ events.TheVariants.More → Stepped s bs ps slots out at (step_to (knowing s x.next) at) ps' slots out
      unfolding event_state event_text event_slots
      step_more e =
          let room : at + longest ≤ length out = line_fits out at b eb t in
          let z : at ≡ at + 0 = omega arith in
          left_by x.next events.TheVariants.More (reads _ e) (roomy out at b eb t) (step_to (knowing s x.next) at) ps' slots out ep
          (ap (step_to (knowing s x.next)) z) refl (sym (put_none out at (omega arith)))

      pub step_stop : x.event ≡ events.TheVariants.Stop → (to : ℕ) (out' : List ℕ) → Put out at stop_text to out'
          → Stepped s bs ps slots out at (step_to (knowing s x.next) to) ps' slots out'
      unfolding event_state event_text event_slots
      step_stop e to out' y =
          left_by x.next events.TheVariants.Stop (reads _ e) (roomy out at b eb t) (step_to (knowing s x.next) to) ps' slots out' ep
          (ap (step_to (knowing s x.next)) y.ends) refl y.put

      pub step_ready : (op : operations.Operation) → x.event ≡ events.TheVariants.Ready op → (answer : Step) (slots' out' : List ℕ)
          → CarriedOut (knowing s x.next) op ps' slots out at answer slots' out' → Stepped s bs ps slots out at answer ps' slots' out'
      step_ready op e answer slots' out' y =
          left_by x.next (events.TheVariants.Ready op) (reads _ e) (roomy out at b eb t) answer ps' slots' out' ep
          y.answers y.slots_left y.text_left

-- ---- the end

module _ (s : State) (out : List ℕ) (at : ℕ) (b : Bool) (eb : b ≡ leb (at + longest) (length out)) where
  pub finish_roomless : not b ≡ true → Finished s out at (step_to s at) out
  unfolding finish_answer finish_out
  finish_roomless t = let f = roomless out at b eb t in record { answers = rw f; text_left = rw f }

  module _ (t : not b ≡ false) where
    pub finish_nothing : s.reader.stopped || eqb s.reader.due.pieces 0 ≡ true → Finished s out at (step_to s at) out
    unfolding finish_answer finish_out ended
    finish_nothing u =
        let f = roomy out at b eb t in
        let room : at + longest ≤ length out = line_fits out at b eb t in
        let z : at ≡ at + 0 = omega arith in
        record { answers = rw (f, u) (ap (step_to s) z); text_left = rw (f, u) (sym (put_none out at (omega arith))) }

    pub finish_missing : s.reader.stopped || eqb s.reader.due.pieces 0 ≡ false → (r : Reader) → r ≡ stopped_reader s.reader
        → (to : ℕ) (out' : List ℕ) → Put out at stop_text to out' → Finished s out at (step_to (knowing s r) to) out'
    unfolding finish_answer finish_out ended
    finish_missing u r er to out' y =
        let f = roomy out at b eb t in record { answers = rw (y.ends, er, f, u); text_left = rw (y.put, f, u) }
