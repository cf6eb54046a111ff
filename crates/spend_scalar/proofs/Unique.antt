-- No second answer meets the promise of a public function.
use mathlib.Core.Path.{sym, ◌∙◌}
use contract.Lifetimes.{Lfts}
use Rattle.shape.proofs.OneAnswer.{OneAnswer}
use Rattle.spend_scalar.proofs.scalar_argument.Reads as scalar_argument
use Rattle.spend_scalar.proofs.skip.Reads as skip
use Rattle.spend_scalar.proofs.scalar_return.Reads as scalar_return

scalar_argument_decides : (κs : Lfts 0) → OneAnswer (scalar_argument.Post κs)
scalar_argument_decides κs a r q s t p p' = p ∙ sym p'

skip_decides : (κs : Lfts 0) → OneAnswer (skip.Post κs)
skip_decides κs a r q s t p p' = p ∙ sym p'

scalar_return_decides : (κs : Lfts 0) → OneAnswer (scalar_return.Post κs)
scalar_return_decides κs a r q s t p p' = p ∙ sym p'
