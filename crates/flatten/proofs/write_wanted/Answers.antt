-- `write_wanted` answers and writes what its definitions say: each way out is one law of the tests that led there.
use native.Mathlib.Omega.{arith}
use Rattle.std.proofs.lemmas.Result.{err_from_is_err_and}
use Rattle.flatten.proofs.Answering.{types_refused, some_entry, many_refused, short_refused, none_written, all_written}
use Rattle.flatten.proofs.write_wanted.Goals as goal

pub returns-in_err-measure : goal.returns-in_err-measure
returns-in_err-measure c =
    let p = err_from_is_err_and c.from_residual.result c.from_residual.ensures.1 in
    rw (p.1, p.2) (types_refused _ _ _ _ c.requires _ c.in_err-measure.ensures.0)

pub overflow_sub-last : goal.overflow_sub-last
overflow_sub-last c = rw c.entries.ensures (some_entry _ _ c.args.out.now _ c.requires c.in_ok-measure.ensures.0)

pub returns-then-row : goal.returns-then-row
returns-then-row c = many_refused _ _ _ _ c.requires c.in_ok-measure.ensures.0 _ c.in_ok-measure.ensures.1 _ (rw c.entries.ensures at c.row_at-row.ensures) c.if-row.true

pub returns-then-row-out : goal.returns-then-row-out
returns-then-row-out c =
    short_refused _ _ _ _ c.requires c.in_ok-measure.ensures.0 _ c.in_ok-measure.ensures.1 _ (rw c.entries.ensures at c.row_at-row.ensures) c.if-row.false c.if-row-out.true

pub returns-else-row-gt0 : goal.returns-else-row-gt0
returns-else-row-gt0 c =
    none_written _ _ _ _ c.requires c.in_ok-measure.ensures.0 _ c.in_ok-measure.ensures.1 _ (rw c.entries.ensures at c.row_at-row.ensures) c.if-row.false c.if-row-out.false (omega arith)

pub returns-then-row-gt0 : goal.returns-then-row-gt0
returns-then-row-gt0 c =
    all_written _ _ _ _ c.requires c.in_ok-measure.ensures.0 _ c.in_ok-measure.ensures.1 _ (rw c.entries.ensures at c.row_at-row.ensures) c.if-row.false c.if-row-out.false _
    (rw c.entries.ensures at c.write_type.ensures.1)
