-- `put_text` appends a text that has room.
use Rattle.text.proofs.Putting.{append_put}
use Rattle.sheet_lines.proofs.writing.put_text.Goals as goal

pub returns : goal.returns
returns c = search (append_put)
