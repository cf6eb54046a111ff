use native.Mathlib.Omega.{arith}
use Rattle.std.proofs.lemmas.Result.{err_from_is_err_and}
use Rattle.types.proofs.Rows.{fill_refused, fill_next, fill_end}
use Rattle.types.proofs.Lists.fill.Goals as goal

pub returns-in_err-check_form : goal.returns-in_err-check_form
returns-in_err-check_form c =
    let p = err_from_is_err_and c.from_residual.result c.from_residual.ensures.1 in
    rw (p.1, p.2) (fill_refused _ _ _ _ (omega arith) _ c.form-form.ensures _ c.row_of-row.ensures _ c.loop-e.invariant.1 _ c.loop-e.invariant.2 _ c.in_err-check_form.ensures)

pub loop-e-preserved : goal.loop-e-preserved
loop-e-preserved c =
    let f = fill_next _ _ _ _ (omega arith) _ c.form-form.ensures _ c.row_of-row.ensures _ c.loop-e.invariant.1 _ c.loop-e.invariant.2 c.in_ok-check_form.ensures _ c.put_row.ensures in
    (omega arith, f.0, f.1)

pub returns : goal.returns
returns c = fill_end _ _ _ _ (omega arith) _ c.loop-e.invariant.1 _ c.loop-e.invariant.2
