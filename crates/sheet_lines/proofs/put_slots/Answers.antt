use native.Mathlib.Omega.{arith}
use Rattle.sheet_lines.proofs.PrintingLaws.{goes_next, goes_last}
use Rattle.sheet_lines.proofs.put_slots.Goals as goal

pub loop-i-preserved : goal.loop-i-preserved
loop-i-preserved c =
    let loop = c.loop-i in
    (omega arith, omega arith, goes_next _ _ _ _ _ _ _ loop.invariant.2 c.loop-i-test.true _ _ _ c.mark.ensures c.put_part-to.ensures.0)

pub returns : goal.returns
returns c = (goes_last _ _ _ _ _ _ _ c.loop-i.invariant.2 (omega arith) (omega arith), omega arith)
