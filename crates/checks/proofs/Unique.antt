-- No second answer meets the promise of a public function.
use mathlib.Core.Path.{sym, ◌∙◌}
use contract.Lifetimes.{Lfts}
use Rattle.shape.proofs.OneAnswer.{OneAnswer}
use Rattle.shape.proofs.Refused.{refusal_of_decides}
use Rattle.checks.proofs.check_shape.Reads as check_shape
use Rattle.checks.proofs.check_list.Reads as check_list
use Rattle.checks.proofs.check_pieces.Reads as check_pieces
use Rattle.checks.proofs.check_piece.Reads as check_piece
use Rattle.checks.proofs.check_scalar.Reads as check_scalar

check_shape_decides : (κs : Lfts 1) → OneAnswer (check_shape.Post κs)
check_shape_decides κs a r q s t p p' = refusal_of_decides r q (p ∙ sym p')

check_list_decides : (κs : Lfts 1) → OneAnswer (check_list.Post κs)
check_list_decides κs a r q s t p p' = refusal_of_decides r q (p ∙ sym p')

check_pieces_decides : (κs : Lfts 1) → OneAnswer (check_pieces.Post κs)
check_pieces_decides κs a r q s t p p' = refusal_of_decides r q (p ∙ sym p')

check_piece_decides : (κs : Lfts 0) → OneAnswer (check_piece.Post κs)
check_piece_decides κs a r q s t p p' = refusal_of_decides r q (p ∙ sym p')

check_scalar_decides : (κs : Lfts 0) → OneAnswer (check_scalar.Post κs)
check_scalar_decides κs a r q s t p p' = refusal_of_decides r q (p ∙ sym p')
