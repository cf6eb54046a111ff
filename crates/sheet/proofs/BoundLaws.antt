-- No text of a record is longer than the longest line.
use Prim.Native.Nat.{ℕ, ◌≤◌}
use mathlib.Core.List.{List}
use native.Mathlib.Omega.{arith}
use lib.ListN.{length}
use Rattle.sheet_records.specs.Known.{act_of}
use Rattle.sheet_records.specs.declared.Event as events
use Rattle.sheet_lines.specs.Printing.{longest}
use Rattle.sheet_lines.proofs.BoundLaws.{line_bound}
use Rattle.sheet_perform.specs.declared.State.{State}
use Rattle.sheet_perform.specs.Performing.{performed, performed_slots}
use Rattle.sheet.specs.Sheet.{Between, event_text, text}
use Rattle.sheet.proofs.SlotLaws.{eight_slots}

event_bound : (s : State) (ev : events.Event) (ps slots : List ℕ) → length (event_text s ev ps slots) ≤ longest
unfolding event_text
event_bound s events.TheVariants.More ps slots = omega arith
event_bound s events.TheVariants.Stop ps slots = omega arith
event_bound s (events.TheVariants.Ready operation) ps slots =
    line_bound (act_of operation) s.call.stack (performed s operation ps slots).answer (performed_slots s operation ps slots) (eight_slots s operation ps slots)

pub text_bound : (b : Between) (bytes : List ℕ) → length (text b bytes) ≤ longest
unfolding text
text_bound b bytes = event_bound _ _ _ _
