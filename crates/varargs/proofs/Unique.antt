-- No second answer meets the promise of a public function; of a reading no other bytes, offsets or refusal do.
use mathlib.Core.Path.{sym, ◌∙◌}
use contract.Lifetimes.{Lfts}
use Rattle.shape.proofs.OneAnswer.{OneAnswer, OneShown}
use Rattle.varargs.specs.Lists.{shown}
use Rattle.varargs.proofs.Lists.{told_decides, shown_decides}
use Rattle.varargs.proofs.Promised.{Reads}
use Rattle.varargs.proofs.find.Reads as find
use Rattle.varargs.proofs.Area.number.Reads as number
use Rattle.varargs.proofs.area_number.Reads as area_number

read_decides : (κs : Lfts 1) → OneShown (Reads κs) shown
read_decides κs a r q s t p p' = shown_decides a.1.1.0 r q (p ∙ sym p')

find_decides : (κs : Lfts 1) → OneAnswer (find.Post κs)
find_decides κs a r q s t p p' = told_decides a.1.1.0 r q (p ∙ sym p')

number_decides : (κs : Lfts 0) → OneAnswer (number.Post κs)
number_decides κs a r q s t p p' = p ∙ sym p'

area_number_decides : (κs : Lfts 0) → OneAnswer (area_number.Post κs)
area_number_decides κs a r q s t p p' = p ∙ sym p'
