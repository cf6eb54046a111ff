use Rattle.classify.proofs.Walking.{nothing_next, skipped_next, short_next, decided_here}
use Rattle.classify.proofs.apply.Goals as goal

pub loop-rules-preserved-in_default : goal.loop-rules-preserved-in_default
loop-rules-preserved-in_default c = search (nothing_next, c.in-Some.ensures.steps.0)

pub loop-rules-preserved-then-left-returning : goal.loop-rules-preserved-then-left-returning
loop-rules-preserved-then-left-returning c = search (skipped_next, c.in-Some.ensures.steps.0)

pub returns-in-Some-tried : goal.returns-in-Some-tried
returns-in-Some-tried c = search (decided_here, c.in-Some.ensures.steps.0, c.in-Some-tried.ensures)

pub loop-rules-preserved : goal.loop-rules-preserved
loop-rules-preserved c = search (short_next, c.in-Some.ensures.steps.0, c.in_default-tried.ensures)
