-- `check_levels` answers the refusal of the references and of the levels.
use native.Mathlib.Omega.{arith}
use Rattle.std.proofs.lemmas.Result.{err_from_is_err_and}
use Rattle.types.proofs.Levels.{refers_badly, too_deep_for, deep_enough}
use Rattle.types.proofs.Lists.check_levels.Goals as goal

pub returns-in_err-find_levels : goal.returns-in_err-find_levels
returns-in_err-find_levels c =
    let p = err_from_is_err_and c.from_residual.result c.from_residual.ensures.1 in
    rw (p.1, p.2) (refers_badly _ _ _ c.in_err-find_levels.ensures.0)

pub returns-then-levels-entries-gt-MOST_LEVELS : goal.returns-then-levels-entries-gt-MOST_LEVELS
returns-then-levels-entries-gt-MOST_LEVELS c =
    too_deep_for _ _ _ c.in_ok-find_levels.ensures.0 c.in_ok-find_levels.ensures.1 (omega arith) (rw c.entries.ensures at c.if-levels-entries-gt-MOST_LEVELS.true)

pub returns : goal.returns
returns c = deep_enough _ _ _ c.in_ok-find_levels.ensures.0 c.in_ok-find_levels.ensures.1 (omega arith) (rw c.entries.ensures at c.if-levels-entries-gt-MOST_LEVELS.false)
