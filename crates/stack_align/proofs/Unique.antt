-- No second answer meets the promise of the public function.
use mathlib.Core.Path.{sym, ◌∙◌}
use contract.Lifetimes.{Lfts}
use Rattle.shape.proofs.OneAnswer.{OneAnswer}
use Rattle.stack_align.proofs.in_memory.Reads as in_memory

in_memory_decides : (κs : Lfts 1) → OneAnswer (in_memory.Post κs)
in_memory_decides κs a r q s t p p' = p ∙ sym p'
