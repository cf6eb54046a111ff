-- `has_room` answers whether the slots fit: n of them do, or as many as there are.
use Rattle.slot_writing.proofs.Pair.{room_all}
use Rattle.slot_writing.proofs.classes.has_room.Goals as goal

pub returns-then-n-room : goal.returns-then-n-room
returns-then-n-room c = search (room_all)
