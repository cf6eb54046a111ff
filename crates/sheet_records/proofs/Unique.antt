-- No second answer, and no other words in the lent buffer, meet the promise of a public function.
use mathlib.Core.Path.{sym, ◌∙◌}
use contract.Lifetimes.{Lfts}
use Rattle.shape.proofs.OneAnswer.{OneAnswer, OneExit}
use Rattle.sheet_records.proofs.read.Reads as read
use Rattle.sheet_records.proofs.known.Reader.start.Reads as start
use Rattle.sheet_records.proofs.known.Reader.after.Reads as after
use Rattle.sheet_records.proofs.known.Reader.stop.Reads as stop
use Rattle.sheet_records.proofs.known.ActFromOperation.from.Reads as from

read_decides : (κs : Lfts 2) → OneAnswer (read.Post κs)
read_decides κs a r q s t p p' = p.0 ∙ sym p'.0

read_pieces : (κs : Lfts 2) → OneExit (read.Post κs) (λ s. s.1.1.0.now)
read_pieces κs a r q s t p p' = p.1 ∙ sym p'.1

start_decides : (κs : Lfts 0) → OneAnswer (start.Post κs)
start_decides κs a r q s t p p' = p ∙ sym p'

after_decides : (κs : Lfts 0) → OneAnswer (after.Post κs)
after_decides κs a r q s t p p' = p ∙ sym p'

stop_decides : (κs : Lfts 0) → OneAnswer (stop.Post κs)
stop_decides κs a r q s t p p' = p ∙ sym p'

from_decides : (κs : Lfts 0) → OneAnswer (from.Post κs)
from_decides κs a r q s t p p' = p ∙ sym p'
