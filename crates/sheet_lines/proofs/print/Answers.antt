-- `print` puts the four parts of a line.
use Rattle.sheet_lines.proofs.PrintingLaws.{line_put}
use Rattle.sheet_lines.proofs.print.Goals as goal

pub returns : goal.returns
returns c = search (line_put)
