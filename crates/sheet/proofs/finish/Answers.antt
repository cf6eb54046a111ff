-- `finish` stops where a piece is still due.
use Rattle.sheet.proofs.StepLaws.{finish_roomless, finish_nothing, finish_missing, line_fits}
use Rattle.sheet.proofs.finish.Goals as goal

pub returns-then-not-has_room : goal.returns-then-not-has_room
returns-then-not-has_room c = search (finish_roomless)

pub returns-then-reader : goal.returns-then-reader
returns-then-reader c = search (finish_nothing)

pub put_stop-requires : goal.put_stop-requires
put_stop-requires c = search (line_fits)

pub returns : goal.returns
returns c = search (finish_missing)
