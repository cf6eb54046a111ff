use Rattle.stack_align.proofs.Aligned.{limit_none, limit_next, limit_here}
use Rattle.stack_align.proofs.homogeneous_limit.Goals as goal

pub loop-rules-preserved : goal.loop-rules-preserved
loop-rules-preserved c = limit_next _ _ c.loop-rules.invariant _ _ c.in-Some.ensures.steps.0 _ c.first_test.ensures c.in_default.not-Homogeneous

pub returns-in-Homogeneous : goal.returns-in-Homogeneous
returns-in-Homogeneous c =
    let i = rw c.into_iter-rules-iterator.ensures.into_iter_gives at c.loop-rules.invariant in
    limit_here _ _ i _ _ c.in-Some.ensures.steps.0 _ c.first_test.ensures _ c.in-Homogeneous.is

pub returns : goal.returns
returns c =
    let i = rw c.into_iter-rules-iterator.ensures.into_iter_gives at c.loop-rules.invariant in
    limit_none _ _ i c.in-None.ensures.steps.0.0
