-- No second answer meets the promise of a public function.
use mathlib.Core.Path.{sym, ◌∙◌}
use contract.Lifetimes.{Lfts}
use Rattle.shape.proofs.OneAnswer.{OneAnswer, OneExit}
use Rattle.text.proofs.Copy.{told_decides}
use Rattle.abis.proofs.Told.{told_yes_decides, told_format_decides}
use Rattle.abis.proofs.read.Reads as read
use Rattle.abis.proofs.row.Reads as row
use Rattle.abis.proofs.scalar_is_by_reference.Reads as scalar_is_by_reference
use Rattle.abis.proofs.scalar_returns_by_reference.Reads as scalar_returns_by_reference
use Rattle.abis.proofs.wide_integer_returns_in.Reads as wide_integer_returns_in
use Rattle.abis.proofs.name.Reads as name

read_decides : (κs : Lfts 0) → OneAnswer (read.Post κs)
read_decides κs a r q s t p p' = p ∙ sym p'

row_decides : (κs : Lfts 0) → OneAnswer (row.Post κs)
row_decides κs a r q s t p p' = p ∙ sym p'

scalar_is_by_reference_decides : (κs : Lfts 0) → OneAnswer (scalar_is_by_reference.Post κs)
scalar_is_by_reference_decides κs a r q s t p p' = told_yes_decides r q (p ∙ sym p')

scalar_returns_by_reference_decides : (κs : Lfts 0) → OneAnswer (scalar_returns_by_reference.Post κs)
scalar_returns_by_reference_decides κs a r q s t p p' = told_yes_decides r q (p ∙ sym p')

wide_integer_returns_in_decides : (κs : Lfts 0) → OneAnswer (wide_integer_returns_in.Post κs)
wide_integer_returns_in_decides κs a r q s t p p' = told_format_decides r q (p ∙ sym p')

name_decides : (κs : Lfts 1) → OneAnswer (name.Post κs)
name_decides κs a r q s t p p' = told_decides r q (p.0 ∙ sym p'.0)

name_bytes : (κs : Lfts 1) → OneExit (name.Post κs) (λ s. s.1.0.now)
name_bytes κs a r q s t p p' = p.1 ∙ sym p'.1
