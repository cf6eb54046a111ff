-- No second answer, and no other bytes in the lent buffer, meet the promise of a public function.
use mathlib.Core.Path.{sym, ◌∙◌}
use contract.Lifetimes.{Lfts}
use Rattle.shape.proofs.OneAnswer.{OneAnswer, OneExit}
use Rattle.attributes.proofs.asked.Reads as asked
use Rattle.attributes.proofs.attribute.Reads as attribute
use Rattle.attributes.proofs.spellings.write_attribute.Reads as write_attribute
use Rattle.attributes.proofs.asking.by_name.Reads as by_name

asked_decides : (κs : Lfts 1) → OneAnswer (asked.Post κs)
asked_decides κs a r q s t p p' = p ∙ sym p'

attribute_decides : (κs : Lfts 1) → OneAnswer (attribute.Post κs)
attribute_decides κs a r q s t p p' = p.0 ∙ sym p'.0

attribute_bytes : (κs : Lfts 1) → OneExit (attribute.Post κs) (λ s. s.1.0.now)
attribute_bytes κs a r q s t p p' = p.1 ∙ sym p'.1

write_attribute_decides : (κs : Lfts 1) → OneAnswer (write_attribute.Post κs)
write_attribute_decides κs a r q s t p p' = p.0 ∙ sym p'.0

write_attribute_bytes : (κs : Lfts 1) → OneExit (write_attribute.Post κs) (λ s. s.1.0.now)
write_attribute_bytes κs a r q s t p p' = p.1 ∙ sym p'.1

by_name_decides : (κs : Lfts 1) → OneAnswer (by_name.Post κs)
by_name_decides κs a r q s t p p' = p ∙ sym p'
