-- No second answer, and no other words in the lent buffer, meet the promise of a public function.
use mathlib.Core.Path.{sym, ◌∙◌}
use contract.Lifetimes.{Lfts}
use Rattle.shape.proofs.OneAnswer.{OneAnswer, OneExit}
use Rattle.sheet_perform.proofs.State.start.Reads as start
use Rattle.sheet_perform.proofs.State.perform.Reads as perform

start_decides : (κs : Lfts 0) → OneAnswer (start.Post κs)
start_decides κs a r q s t p p' = p ∙ sym p'

perform_decides : (κs : Lfts 2) → OneAnswer (perform.Post κs)
perform_decides κs a r q s t p p' = p.0 ∙ sym p'.0

perform_slots : (κs : Lfts 2) → OneExit (perform.Post κs) (λ s. s.1.1.1.0.now)
perform_slots κs a r q s t p p' = p.1 ∙ sym p'.1
