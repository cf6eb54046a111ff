-- `put_end` puts two offsets and a newline.
use Rattle.sheet_lines.proofs.PrintingLaws.{end_put}
use Rattle.sheet_lines.proofs.put_end.Goals as goal

pub returns : goal.returns
returns c = search (end_put)
