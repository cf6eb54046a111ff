-- `variadic` refuses what the check of the call refuses.
use Rattle.classify.proofs.Steps.{mark_refused}
use Rattle.classify.proofs.Call.variadic.Goals as goal

pub returns-in-Err : goal.returns-in-Err
returns-in-Err c = search (mark_refused, c.in-Err.ensures)
