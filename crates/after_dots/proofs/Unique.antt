-- No second answer meets the promise of a public function.
use mathlib.Core.Path.{sym, ◌∙◌}
use contract.Lifetimes.{Lfts}
use Rattle.shape.proofs.OneAnswer.{OneAnswer}
use Rattle.after_dots.proofs.skipped.Reads as skipped
use Rattle.after_dots.proofs.left_for.Reads as left_for
use Rattle.after_dots.proofs.settled.Reads as settled

skipped_decides : (κs : Lfts 0) → OneAnswer (skipped.Post κs)
skipped_decides κs a r q s t p p' = p ∙ sym p'

left_for_decides : (κs : Lfts 0) → OneAnswer (left_for.Post κs)
left_for_decides κs a r q s t p p' = p ∙ sym p'

settled_decides : (κs : Lfts 0) → OneAnswer (settled.Post κs)
settled_decides κs a r q s t p p' = p ∙ sym p'
