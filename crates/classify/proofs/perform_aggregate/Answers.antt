-- `perform_aggregate` refuses what the checks refuse.
use Rattle.classify.proofs.Operations.{row_refused}
use Rattle.classify.proofs.perform_aggregate.Goals as goal

pub returns-in-Err : goal.returns-in-Err
returns-in-Err c = search (row_refused, c.in-Err.ensures)
