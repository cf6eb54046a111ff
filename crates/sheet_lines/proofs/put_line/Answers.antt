-- `put_line` prints where the line has room and its slots are there.
use Rattle.sheet_lines.proofs.LineLaws.{line_roomless, line_slotless, line_printed}
use Rattle.sheet_lines.proofs.put_line.Goals as goal

pub returns-then-not-has_room : goal.returns-then-not-has_room
returns-then-not-has_room c = search (line_roomless)

pub returns-then-not-are_there : goal.returns-then-not-are_there
returns-then-not-are_there c = search (line_slotless)

pub returns : goal.returns
returns c = search (line_printed)
