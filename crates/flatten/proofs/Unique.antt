-- No second answer, and no other words in the lent buffer, meet the promise of the public function.
use mathlib.Core.Path.{sym, ◌∙◌}
use contract.Lifetimes.{Lfts}
use Rattle.shape.proofs.OneAnswer.{OneAnswer, OneExit}
use Rattle.flatten.proofs.flatten.Reads as flatten

flatten_decides : (κs : Lfts 3) → OneAnswer (flatten.Post κs)
flatten_decides κs a r q s t p p' = p.0 ∙ sym p'.0

flatten_words : (κs : Lfts 3) → OneExit (flatten.Post κs) (λ s. s.1.1.0.now)
flatten_words κs a r q s t p p' = p.1 ∙ sym p'.1
