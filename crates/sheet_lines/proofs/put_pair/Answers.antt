-- `put_pair` puts two numbers.
use Rattle.sheet_lines.proofs.PrintingLaws.{pair_put}
use native.Mathlib.Omega.{arith}
use Rattle.sheet_lines.proofs.put_pair.Goals as goal

pub returns : goal.returns
returns c = (search (pair_put), omega arith)
