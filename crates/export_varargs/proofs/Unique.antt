-- No second answer meets the promise of the exported function.
use mathlib.Core.Path.{sym, ◌∙◌}
use contract.Lifetimes.{Lfts}
use Rattle.shape.proofs.OneAnswer.{OneAnswer}
use Rattle.export_varargs.proofs.barkpaddle_read_scalar.Reads as read_scalar

read_scalar_decides : (κs : Lfts 1) → OneAnswer (read_scalar.Post κs)
read_scalar_decides κs a r q s t p p' = p ∙ sym p'
