use native.Mathlib.Omega.{arith}
use Rattle.types.proofs.Rows.{level_late, level_turn, level_end}
use Rattle.types.proofs.Lists.level_above.Goals as goal

pub returns-in_err-get : goal.returns-in_err-get
returns-in_err-get c =
    let late = c.in_err-get.ensures.lookup.3 in
    rw c.from_residual.ensures (level_late _ _ _ _ _ _ _ _ c.loop-i.invariant c.loop-i-test.true _ c.member.ensures late)

pub loop-i-preserved : goal.loop-i-preserved
loop-i-preserved c =
    let here = c.in_ok-get.ensures.lookup.3 in
    level_turn _ _ _ _ _ _ _ _ c.loop-i.invariant c.loop-i-test.true _ c.member.ensures here.0 _ (here.1 0) _ c.max-best.ensures

pub returns : goal.returns
returns c = (search (level_end), omega arith)
