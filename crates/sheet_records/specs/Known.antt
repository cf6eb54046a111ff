-- What the reader knows between two records (REFERENCE 11): whether a call is open, whether the sheet has stopped, and the aggregate whose
-- pieces are due. The reader is the code's own.
use Rattle.std.specs.Prelude.{ℕ, Bool, true, false, eqb}
use Rattle.shape.specs.Numbers.{accepted}
use Rattle.shape.specs.declared.Shape.{Shape}
use Rattle.sheet_records.specs.declared.known.Due.{Due}
use Rattle.sheet_records.specs.declared.known.Reader.{Reader}
use Rattle.sheet_records.specs.declared.known.Operation as operations
use Rattle.sheet_records.specs.declared.known.Act as acts

abbrev pub due_of : ℕ → Shape → ℕ → ℕ → Due
due_of first shape pieces words = record { first = first; shape = shape; pieces = pieces; words = words }

abbrev pub shape_of : ℕ → ℕ → Bool → Bool → Shape
shape_of size align complex floating = record { size = size; align = align; complex = complex; floating = floating }

abbrev pub nothing_due : Due
nothing_due = due_of 0 (shape_of 0 0 false false) 0 0

-- before the first record no call is open and no piece is due
abbrev pub started_reader : Reader
started_reader = record { opened = false; stopped = false; due = nothing_due }

abbrev pub stopped_reader : Reader → Reader
stopped_reader s = record { opened = s.opened; stopped = true; due = s.due }

-- ---- an operation that was performed

-- what an operation is: a fresh call, the mark, or one on a value
unfoldable pub act_of : operations.Operation → acts.Act
act_of (operations.TheVariants.Fresh abi) = acts.TheVariants.Fresh
act_of operations.TheVariants.Mark = acts.TheVariants.Mark
act_of (operations.TheVariants.Return arg) = acts.TheVariants.Value
act_of (operations.TheVariants.Argument arg) = acts.TheVariants.Value
act_of (operations.TheVariants.VariadicArgument arg) = acts.TheVariants.Value

-- a fresh call takes the place of the open one, and a refused one closes it; any other operation leaves the call open, refused or not
abbrev pub open_after : Bool → acts.Act → ℕ → Bool
open_after opened acts.TheVariants.Fresh refusal = eqb refusal accepted
open_after opened acts.TheVariants.Mark refusal = opened
open_after opened acts.TheVariants.Value refusal = opened

abbrev pub reader_after : Reader → operations.Operation → ℕ → Reader
reader_after s operation refusal =
    record { opened = open_after s.opened (act_of operation) refusal; stopped = s.stopped; due = s.due }
