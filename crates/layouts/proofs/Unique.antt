-- No second answer, and no other words in a lent buffer, meet the promise of a public function.
use mathlib.Core.Path.{sym, ◌∙◌}
use contract.Lifetimes.{Lfts}
use Rattle.shape.proofs.OneAnswer.{OneAnswer, OneExit}
use Rattle.layouts.proofs.Told.{placed_told_decides, record_told_decides}
use Rattle.layouts.proofs.pieces.Reads as pieces
use Rattle.layouts.proofs.record.Reads as record'

pieces_decides : (κs : Lfts 2) → OneAnswer (pieces.Post κs)
pieces_decides κs a r q s t p p' = placed_told_decides r q (p.0 ∙ sym p'.0)

pieces_words : (κs : Lfts 2) → OneExit (pieces.Post κs) (λ s. s.1.0.now)
pieces_words κs a r q s t p p' = p.1 ∙ sym p'.1

record_decides : (κs : Lfts 1) → OneAnswer (record'.Post κs)
record_decides κs a r q s t p p' = record_told_decides r q (p ∙ sym p')
