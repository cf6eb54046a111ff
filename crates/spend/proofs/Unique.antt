-- No second answer meets the promise of a public function.
use mathlib.Core.Path.{sym, ◌∙◌}
use contract.Lifetimes.{Lfts}
use Rattle.shape.proofs.OneAnswer.{OneAnswer}
use Rattle.spend.proofs.Way.number.Reads as number
use Rattle.spend.proofs.WayFromU64.from.Reads as from
use Rattle.spend.proofs.travel.Reads as travel
use Rattle.spend.proofs.by_pointer.Reads as by_pointer
use Rattle.spend.proofs.registers.Reads as registers
use Rattle.spend.proofs.by_address.Reads as by_address
use Rattle.spend.proofs.Decision.plain.Reads as plain
use Rattle.spend.proofs.Decision.pieces.Reads as pieces
use Rattle.spend.proofs.Wanted.cut.Reads as cut
use Rattle.spend.proofs.Wanted.one.Reads as one
use Rattle.spend.proofs.Left.with_mark.Reads as with_mark
use Rattle.spend.proofs.Left.after.Reads as after

number_decides : (κs : Lfts 0) → OneAnswer (number.Post κs)
number_decides κs a r q s t p p' = p ∙ sym p'

from_decides : (κs : Lfts 0) → OneAnswer (from.Post κs)
from_decides κs a r q s t p p' = p ∙ sym p'

travel_decides : (κs : Lfts 0) → OneAnswer (travel.Post κs)
travel_decides κs a r q s t p p' = p ∙ sym p'

by_pointer_decides : (κs : Lfts 0) → OneAnswer (by_pointer.Post κs)
by_pointer_decides κs a r q s t p p' = p ∙ sym p'

registers_decides : (κs : Lfts 0) → OneAnswer (registers.Post κs)
registers_decides κs a r q s t p p' = p ∙ sym p'

by_address_decides : (κs : Lfts 0) → OneAnswer (by_address.Post κs)
by_address_decides κs a r q s t p p' = p ∙ sym p'

plain_decides : (κs : Lfts 0) → OneAnswer (plain.Post κs)
plain_decides κs a r q s t p p' = p ∙ sym p'

pieces_decides : (κs : Lfts 0) → OneAnswer (pieces.Post κs)
pieces_decides κs a r q s t p p' = p ∙ sym p'

cut_decides : (κs : Lfts 0) → OneAnswer (cut.Post κs)
cut_decides κs a r q s t p p' = p ∙ sym p'

one_decides : (κs : Lfts 0) → OneAnswer (one.Post κs)
one_decides κs a r q s t p p' = p ∙ sym p'

with_mark_decides : (κs : Lfts 0) → OneAnswer (with_mark.Post κs)
with_mark_decides κs a r q s t p p' = p ∙ sym p'

after_decides : (κs : Lfts 0) → OneAnswer (after.Post κs)
after_decides κs a r q s t p p' = p ∙ sym p'
