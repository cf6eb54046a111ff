-- No second answer, and no other words in the lent ones, meet the promise of a public function.
use mathlib.Core.Path.{sym, ◌∙◌}
use contract.Lifetimes.{Lfts}
use Rattle.shape.proofs.OneAnswer.{OneAnswer, OneExit}
use Rattle.words.proofs.unpack.Reads as unpack
use Rattle.words.proofs.word_at.Reads as word_at

unpack_words : (κs : Lfts 2) → OneExit (unpack.Post κs) (λ s. s.1.0.now)
unpack_words κs a r q s t p p' = p ∙ sym p'

word_at_decides : (κs : Lfts 1) → OneAnswer (word_at.Post κs)
word_at_decides κs a r q s t p p' = p ∙ sym p'
