use native.Mathlib.Omega.{arith}
use lib.ListN.{length-set}
use Rattle.types.proofs.Levels.{levels_late, levels_next, levels_more, levels_end, levels_all}
use Rattle.types.proofs.Lists.find_levels.Goals as goal

pub returns-in_default : goal.returns-in_default
returns-in_default c =
    let i = c.loop-e.invariant in
    (levels_late _ _ _ _ (omega arith) i.2 _ c.form.ensures (omega arith) i.1 c.in_default.ensures, tt)

pub loop-e-preserved : goal.loop-e-preserved
loop-e-preserved c =
    let i = c.loop-e.invariant in
    let s = c.in-Some.ensures in (
      simp length-set (omega arith),
      levels_next _ _ _ _ (omega arith) i.2 _ c.form.ensures (omega arith) i.1 _ s.0 s.1,
      levels_more _ _ _ _ (omega arith) i.2 _ c.form.ensures (omega arith) i.1 _ s.0 s.1 (omega arith),
    )

pub returns : goal.returns
returns c = (levels_end _ _ c.loop-e.levels _ (omega arith) c.loop-e.invariant.1, levels_all _ _ _ _ (omega arith) c.loop-e.invariant.2)
