-- `nothing` refuses what the check of the call refuses.
use Rattle.classify.proofs.Steps.{void_refused}
use Rattle.classify.proofs.Call.nothing.Goals as goal

pub returns-in-Err : goal.returns-in-Err
returns-in-Err c = search (void_refused, c.in-Err.ensures)
