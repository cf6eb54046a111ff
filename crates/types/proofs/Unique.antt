-- No second answer, and no other words in a lent buffer, meet the promise of a public function.
use mathlib.Core.Path.{sym, ◌∙◌}
use contract.Lifetimes.{Lfts}
use Rattle.shape.proofs.Refused.{refusal_of_decides}
use Rattle.shape.proofs.OneAnswer.{OneAnswer, OneExit}
use Rattle.types.proofs.Lists.measure.Reads as measure
use Rattle.types.proofs.place.Reads as place
use Rattle.types.proofs.Lists.entries.Reads as entries
use Rattle.types.proofs.Lists.form.Reads as form
use Rattle.types.proofs.Lists.member.Reads as member
use Rattle.types.proofs.row_at.Reads as row_at

measure_decides : (κs : Lfts 2) → OneAnswer (measure.Post κs)
measure_decides κs a r q s t p p' = refusal_of_decides r q (p.0 ∙ sym p'.0)

measure_words : (κs : Lfts 2) → OneExit (measure.Post κs) (λ s. s.1.0.now)
measure_words κs a r q s t p p' = p.1 ∙ sym p'.1

entries_decides : (κs : Lfts 1) → OneAnswer (entries.Post κs)
entries_decides κs a r q s t p p' = p ∙ sym p'

form_decides : (κs : Lfts 1) → OneAnswer (form.Post κs)
form_decides κs a r q s t p p' = p ∙ sym p'

member_decides : (κs : Lfts 1) → OneAnswer (member.Post κs)
member_decides κs a r q s t p p' = p ∙ sym p'

place_decides : (κs : Lfts 0) → OneAnswer (place.Post κs)
place_decides κs a r q s t p p' = p ∙ sym p'

row_at_decides : (κs : Lfts 1) → OneAnswer (row_at.Post κs)
row_at_decides κs a r q s t p p' = p ∙ sym p'
