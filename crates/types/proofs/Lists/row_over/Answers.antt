use Rattle.types.proofs.Rows.{row_turn, row_end}
use Rattle.types.proofs.Lists.row_over.Goals as goal

pub loop-i-preserved : goal.loop-i-preserved
loop-i-preserved c = search (row_turn)

pub returns : goal.returns
returns c = search (row_end)
