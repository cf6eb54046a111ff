-- `put_part` appends a number that has room.
use Rattle.text.proofs.Digits.{number_put, number_within}
use Rattle.sheet_lines.proofs.writing.put_part.Goals as goal

pub returns : goal.returns
returns c = (search (number_put), search (number_within))
