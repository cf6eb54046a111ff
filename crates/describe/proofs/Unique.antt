-- No second answer meets the promise of a public function.
use mathlib.Core.Path.{sym, ◌∙◌}
use contract.Lifetimes.{Lfts}
use Rattle.shape.proofs.OneAnswer.{OneAnswer}
use Rattle.describe.proofs.dots_of.Reads as dots_of
use Rattle.describe.proofs.as_fixed.Reads as as_fixed
use Rattle.describe.proofs.scalar_is_by_reference.Reads as scalar_is_by_reference
use Rattle.describe.proofs.scalar_returns_by_reference.Reads as scalar_returns_by_reference
use Rattle.describe.proofs.wide_integer_returns_in.Reads as wide_integer_returns_in

dots_of_decides : (κs : Lfts 0) → OneAnswer (dots_of.Post κs)
dots_of_decides κs a r q s t p p' = p ∙ sym p'

as_fixed_decides : (κs : Lfts 0) → OneAnswer (as_fixed.Post κs)
as_fixed_decides κs a r q s t p p' = p ∙ sym p'

scalar_is_by_reference_decides : (κs : Lfts 0) → OneAnswer (scalar_is_by_reference.Post κs)
scalar_is_by_reference_decides κs a r q s t p p' = p ∙ sym p'

scalar_returns_by_reference_decides : (κs : Lfts 0) → OneAnswer (scalar_returns_by_reference.Post κs)
scalar_returns_by_reference_decides κs a r q s t p p' = p ∙ sym p'

wide_integer_returns_in_decides : (κs : Lfts 0) → OneAnswer (wide_integer_returns_in.Post κs)
wide_integer_returns_in_decides κs a r q s t p p' = p ∙ sym p'
