-- `put_eightbyte` writes the one slot of an eightbyte, or none, and counts its words.
use Rattle.slot_writing.proofs.Put.{put_nothing, next_same, put_own, next_own}
use Rattle.slot_writing.proofs.classes.put_eightbyte.Goals as goal

pub returns-then-eq : goal.returns-then-eq
returns-then-eq c = (search (next_same), search (put_nothing))

pub returns : goal.returns
returns c = (search (next_own), search (put_own))
