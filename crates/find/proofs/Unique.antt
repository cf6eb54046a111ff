-- No second answer meets the promise of a public function.
use mathlib.Core.Path.{sym, ◌∙◌}
use contract.Lifetimes.{Lfts}
use Rattle.shape.proofs.OneAnswer.{OneAnswer}
use Rattle.find.proofs.alike.homogeneous.Reads as homogeneous
use Rattle.find.proofs.matches.Reads as matches
use Rattle.find.proofs.inside.float_pair.Reads as float_pair
use Rattle.find.proofs.inside.x87_stack.Reads as x87_stack
use Rattle.find.proofs.inside.lone_float.Reads as lone_float
use Rattle.find.proofs.inside.floating_mode.Reads as floating_mode
use Rattle.find.proofs.inside.complex_float.Reads as complex_float

matches_decides : (κs : Lfts 1) → OneAnswer (matches.Post κs)
matches_decides κs a r q s t p p' = p ∙ sym p'

homogeneous_decides : (κs : Lfts 1) → OneAnswer (homogeneous.Post κs)
homogeneous_decides κs a r q s t p p' = p ∙ sym p'

float_pair_decides : (κs : Lfts 1) → OneAnswer (float_pair.Post κs)
float_pair_decides κs a r q s t p p' = p ∙ sym p'

x87_stack_decides : (κs : Lfts 1) → OneAnswer (x87_stack.Post κs)
x87_stack_decides κs a r q s t p p' = p ∙ sym p'

lone_float_decides : (κs : Lfts 1) → OneAnswer (lone_float.Post κs)
lone_float_decides κs a r q s t p p' = p ∙ sym p'

floating_mode_decides : (κs : Lfts 0) → OneAnswer (floating_mode.Post κs)
floating_mode_decides κs a r q s t p p' = p ∙ sym p'

complex_float_decides : (κs : Lfts 1) → OneAnswer (complex_float.Post κs)
complex_float_decides κs a r q s t p p' = p ∙ sym p'
