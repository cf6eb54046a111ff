-- Records to operations (REFERENCE 11): what comes of a record, and what stops a sheet.
use Rattle.std.specs.Prelude.{ℕ, ◌+◌, ◌-◌, ◌/◌, ◌%◌, List, ◌||◌, not, cond, leb, ltb, eqb, length}
use Rattle.shape.specs.Numbers.{form_void, form_scalar, form_aggregate, most_pieces}
use Rattle.shape.specs.Words.{piece_size, piece, put_at, piece_words}
use Rattle.shape.specs.declared.Arg as args
use Rattle.shape.specs.declared.Piece.{Piece}
use Rattle.shape.specs.declared.Shape.{Shape}
use Rattle.sheet_records.specs.declared.known.Due.{Due}
use Rattle.sheet_records.specs.declared.known.Reader.{Reader}
use Rattle.sheet_records.specs.declared.known.Operation as operations
use Rattle.sheet_records.specs.Known.{due_of, shape_of, nothing_due, stopped_reader}
use Rattle.sheet_records.specs.declared.records.Record.{Record}
use Rattle.sheet_records.specs.declared.Event as events
use Rattle.sheet_records.specs.declared.Reading.{Reading}
use Rattle.sheet_records.specs.Records.{record_size, record_of}

-- ---- what comes of a record

abbrev pub came : Reader → events.Event → Reading
came s event = record { next = s; event = event }

-- the same reader, but for the aggregate whose pieces are due
abbrev pub waiting : Reader → Due → Reader
waiting s due = record { opened = s.opened; stopped = s.stopped; due = due }

-- nothing is read behind a stop
abbrev pub stop : Reader → Reading
stop s = came (stopped_reader s) events.TheVariants.Stop

-- an operation without pieces
abbrev pub ready : Reader → operations.Operation → Reading
ready s operation = came (waiting s nothing_due) (events.TheVariants.Ready operation)

-- 2 a return, 3 an argument, 4 an argument after the dots
unfoldable pub operation_of : ℕ → args.Arg → operations.Operation
operation_of first arg =
    cond (eqb first 2) (operations.TheVariants.Return arg)
    (cond (eqb first 3) (operations.TheVariants.Argument arg) (operations.TheVariants.VariadicArgument arg))

-- ---- a piece

abbrev pub piece_of : Record → Piece
piece_of r = piece r.second r.third r.fourth r.fifth

-- one piece fewer is due; with the last one the operation is ready
unfoldable pub piece_read : Reader → Due → Reading
piece_read s due =
    cond (ltb 0 due.pieces) (came (waiting s due) events.TheVariants.More)
    (came (waiting s due) (events.TheVariants.Ready (operation_of due.first (args.TheVariants.Aggregate due.shape))))

abbrev pub one_read : Due → Due
one_read due = due_of due.first due.shape (due.pieces - 1) (due.words + piece_size)

-- any other record where a piece is due stops, and so does a piece that the buffer has no room for: 1,024 fit one of 4,096 words
unfoldable pub piece_answer : Reader → Record → ℕ → Reading
piece_answer s r room =
    cond (not (eqb r.first 5)) (stop s)
    (cond (not (leb (s.due.words + piece_size) room)) (stop s) (piece_read s (one_read s.due)))

unfoldable pub piece_put : Reader → Record → List ℕ → List ℕ
piece_put s r ps = cond (not (eqb r.first 5)) ps (put_at ps s.due.words (piece_words (piece_of r)))

-- ---- a record where no piece is due

-- flags: 1 complex plus 2 floating
abbrev pub flagged : Record → Shape
flagged r = shape_of r.third r.fourth (eqb (r.fifth % 2) 1) (eqb (r.fifth / 2 % 2) 1)

-- an aggregate of no pieces is ready at once
unfoldable pub aggregate_answer : Reader → Record → Reading
aggregate_answer s r =
    cond (eqb r.sixth 0) (ready s (operation_of r.first (args.TheVariants.Aggregate (flagged r))))
    (came (waiting s (due_of r.first (flagged r) r.sixth 0)) events.TheVariants.More)

abbrev pub scalar_of : Record → args.Arg
scalar_of r = args.TheVariants.Scalar (record { kind = r.third; size = r.fourth; align = r.fifth })

-- void, a scalar or an aggregate; another second word, a flag above 3 and more pieces than the most stop
unfoldable pub value_answer : Reader → Record → Reading
value_answer s r =
    cond (eqb r.second form_void) (ready s (operation_of r.first args.TheVariants.Void))
    (cond (eqb r.second form_scalar) (ready s (operation_of r.first (scalar_of r)))
    (cond ((ltb form_aggregate r.second || ltb 3 r.fifth) || ltb most_pieces r.sixth) (stop s) (aggregate_answer s r)))

-- 0 a fresh call, 1 the mark; a stray piece and an unknown first word stop, and so does any other operation where no call is open
unfoldable pub head_answer : Reader → Record → Reading
head_answer s r =
    cond (eqb r.first 0) (ready s (operations.TheVariants.Fresh r.second))
    (cond (ltb 4 r.first || not s.opened) (stop s)
    (cond (eqb r.first 1) (ready s operations.TheVariants.Mark) (value_answer s r)))

-- ---- any record

unfoldable pub whole_answer : Reader → Record → ℕ → Reading
whole_answer s r room = cond (ltb 0 s.due.pieces) (piece_answer s r room) (head_answer s r)

-- fewer bytes than a record has are a short record, which stops
unfoldable pub read_answer : Reader → List ℕ → ℕ → Reading
read_answer s bs room =
    cond s.stopped (came s events.TheVariants.More)
    (cond (ltb (length bs) record_size) (stop s) (whole_answer s (record_of bs) room))

-- the buffer afterwards: a piece that is due goes behind those before it
unfoldable pub read_pieces : Reader → List ℕ → List ℕ → List ℕ
read_pieces s bs ps =
    cond s.stopped ps
    (cond (ltb (length bs) record_size) ps (cond (ltb 0 s.due.pieces) (piece_put s (record_of bs) ps) ps))
