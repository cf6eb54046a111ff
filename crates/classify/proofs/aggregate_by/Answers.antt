-- `aggregate_by` answers what decides the aggregate and where it stands, where nothing refuses it.
use Rattle.classify.proofs.Operations.{aggregate_short, aggregate_placed, aggregate_unplaced}
use Rattle.classify.proofs.aggregate_by.Goals as goal

pub returns-then-decision-room : goal.returns-then-decision-room
returns-then-decision-room c = search (aggregate_short)

pub returns-in-Ok : goal.returns-in-Ok
returns-in-Ok c = search (aggregate_placed, c.in-Ok.ensures)

pub returns-in-Err : goal.returns-in-Err
returns-in-Err c = search (aggregate_unplaced, c.in-Err.ensures)
