-- `put_counts` puts three pairs of counts.
use Rattle.sheet_lines.proofs.PrintingLaws.{counts_put}
use native.Mathlib.Omega.{arith}
use Rattle.sheet_lines.proofs.put_counts.Goals as goal

pub returns : goal.returns
returns c = (search (counts_put), omega arith)
