-- `scalar_by` answers what decides the scalar and where it stands, where nothing refuses it.
use Rattle.classify.proofs.Operations.{scalar_short, scalar_placed, scalar_unplaced}
use Rattle.classify.proofs.scalar_by.Goals as goal

pub returns-then-decision-room : goal.returns-then-decision-room
returns-then-decision-room c = search (scalar_short)

pub returns-in-Ok : goal.returns-in-Ok
returns-in-Ok c = search (scalar_placed, c.in-Ok.ensures)

pub returns-in-Err : goal.returns-in-Err
returns-in-Err c = search (scalar_unplaced, c.in-Err.ensures)
