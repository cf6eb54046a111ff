-- `take_record` reads a record, performs the operation that it completes and prints its line.
use Rattle.sheet.proofs.StepLaws.{step_roomless, step_more, step_stop, step_ready, line_fits}
use Rattle.sheet.proofs.take_record.Goals as goal

-- behind three calls a search for what this law asks runs out of steps
pub returns-in-Ready : goal.returns-in-Ready
returns-in-Ready c =
    step_ready _ _ _ _ _ _ _ c.has_room.ensures c.if-not-has_room.false-raw _ c.read-reading.ensures.0 _ c.read-reading.ensures.1 _ c.in-Ready.is _ _ _ c.carry_out.ensures

pub returns-then-not-has_room : goal.returns-then-not-has_room
returns-then-not-has_room c = search (step_roomless)

pub put_stop-requires : goal.put_stop-requires
put_stop-requires c = search (line_fits)

pub carry_out-requires : goal.carry_out-requires
carry_out-requires c = search (line_fits)

pub returns-in-More : goal.returns-in-More
returns-in-More c = search (step_more)

pub returns-in-Stop : goal.returns-in-Stop
returns-in-Stop c = search (step_stop)
