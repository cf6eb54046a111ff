-- `measure` fills the table and answers the refusal: each way out is one law of the tests that led there.
use Rattle.std.proofs.lemmas.Result.{err_from_is_err_and}
use Rattle.types.proofs.Answering.{lists_refused, references_refused, whole_enough, table_short, rows_filled}
use Rattle.types.proofs.Lists.measure.Goals as goal

pub returns-in_err-check_lengths : goal.returns-in_err-check_lengths
returns-in_err-check_lengths c =
    let p = err_from_is_err_and c.from_residual.result c.from_residual.ensures.1 in
    rw (p.1, p.2) (lists_refused _ _ _ _ c.in_err-check_lengths.ensures)

pub check_references-requires : goal.check_references-requires
check_references-requires c = whole_enough _ _ c.in_ok-check_lengths.ensures

pub returns-in_err-check_references : goal.returns-in_err-check_references
returns-in_err-check_references c =
    let p = err_from_is_err_and c.from_residual-in_err-check_references.result c.from_residual-in_err-check_references.ensures.1 in
    rw (p.1, p.2) (references_refused _ _ _ c.in_ok-check_lengths.ensures _ c.in_err-check_references.ensures)

pub returns-then-self-table : goal.returns-then-self-table
returns-then-self-table c = table_short _ _ _ c.in_ok-check_lengths.ensures c.in_ok-check_references.ensures c.if-self-table.true

pub returns : goal.returns
returns c = rows_filled _ _ _ c.in_ok-check_lengths.ensures c.in_ok-check_references.ensures c.if-self-table.false _ c.fill.ensures.0 _ c.fill.ensures.1
