-- No second answer meets the promise of a public function.
use mathlib.Core.Path.{◌≡◌, sym, ap₂, ◌∙◌}
use contract.Lifetimes.{Lfts}
use Rattle.shape.proofs.OneAnswer.{OneAnswer}
use Rattle.eightbytes.specs.declared.Classified.{Classified}
use Rattle.eightbytes.proofs.eightbytes.Reads as eightbytes
use Rattle.eightbytes.proofs.pieces.fits.Reads as fits
use Rattle.eightbytes.proofs.codes.ClassFromU8.from.Reads as from
use Rattle.eightbytes.proofs.codes.later.Reads as later_code
use Rattle.eightbytes.proofs.codes.mended.Reads as mended_code
use Rattle.eightbytes.proofs.codes.ArrayClass8Eight.classes.Reads as classes_of_classes
use Rattle.eightbytes.proofs.codes.ArrayU88Eight.classes.Reads as classes_of_codes
use Rattle.eightbytes.proofs.Class.of.Reads as class_of
use Rattle.eightbytes.proofs.Class.later.Reads as later
use Rattle.eightbytes.proofs.Class.mended.Reads as mended

-- an answer is its two parts
both : (r q : Classified) → r.found ≡ q.found → r.classes ≡ q.classes → r ≡ q
both r q e f = ap₂ {C = Classified} (λ x y. record { found = x; classes = y }) e f

eightbytes_decides : (κs : Lfts 1) → OneAnswer (eightbytes.Post κs)
eightbytes_decides κs a r q s t p p' = both r q (p.0 ∙ sym p'.0) (p.1 ∙ sym p'.1)

fits_decides : (κs : Lfts 0) → OneAnswer (fits.Post κs)
fits_decides κs a r q s t p p' = p ∙ sym p'

class_of_decides : (κs : Lfts 0) → OneAnswer (class_of.Post κs)
class_of_decides κs a r q s t p p' = p ∙ sym p'

later_decides : (κs : Lfts 0) → OneAnswer (later.Post κs)
later_decides κs a r q s t p p' = p ∙ sym p'

mended_decides : (κs : Lfts 0) → OneAnswer (mended.Post κs)
mended_decides κs a r q s t p p' = p ∙ sym p'

from_decides : (κs : Lfts 0) → OneAnswer (from.Post κs)
from_decides κs a r q s t p p' = p ∙ sym p'

later_code_decides : (κs : Lfts 0) → OneAnswer (later_code.Post κs)
later_code_decides κs a r q s t p p' = p ∙ sym p'

mended_code_decides : (κs : Lfts 0) → OneAnswer (mended_code.Post κs)
mended_code_decides κs a r q s t p p' = p ∙ sym p'

classes_of_classes_decides : (κs : Lfts 0) → OneAnswer (classes_of_classes.Post κs)
classes_of_classes_decides κs a r q s t p p' = p ∙ sym p'

classes_of_codes_decides : (κs : Lfts 0) → OneAnswer (classes_of_codes.Post κs)
classes_of_codes_decides κs a r q s t p p' = p ∙ sym p'
