use mathlib.Core.Path.{◌∙◌}
use Rattle.eightbytes.proofs.Marks.{mark_start, cover_end, cover_one, cover_turn}
use native.Mathlib.Omega.{arith}
use Rattle.eightbytes.proofs.mark.Goals as goal

pub returns-then-first-last : goal.returns-then-first-last
returns-then-first-last c =
    let a = c.args in
    cover_one a.classes.now _ _ _ _ c.if-first-last.true c.merge.ensures ∙ mark_start a.classes.now a.p _ _ c.end.ensures c.of-class.ensures

pub loop-at-preserved : goal.loop-at-preserved
loop-at-preserved c = search (cover_turn)

pub returns : goal.returns
returns c =
    let a = c.args in
    cover_end _ _ _ _ _ c.loop-at.invariant (omega arith) ∙ mark_start a.classes.now a.p _ _ c.end.ensures c.of-class.ensures
