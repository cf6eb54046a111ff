-- No second answer meets the promise of a public function.
use mathlib.Core.Path.{sym, ◌∙◌}
use contract.Lifetimes.{Lfts}
use Rattle.shape.proofs.OneAnswer.{OneAnswer}
use Rattle.export_numbers.proofs.call_from.Reads as call_from
use Rattle.export_numbers.proofs.shape_from.Reads as shape_from
use Rattle.export_numbers.proofs.ToldFromResultU64Refusal.from.Reads as told_from

call_from_decides : (κs : Lfts 0) → OneAnswer (call_from.Post κs)
call_from_decides κs a r q s t p p' = p ∙ sym p'

shape_from_decides : (κs : Lfts 0) → OneAnswer (shape_from.Post κs)
shape_from_decides κs a r q s t p p' = p ∙ sym p'

told_from_decides : (κs : Lfts 0) → OneAnswer (told_from.Post κs)
told_from_decides κs a r q s t p p' = p ∙ sym p'
