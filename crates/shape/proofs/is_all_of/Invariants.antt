-- `is_all_of` answers whether there is a piece and all are of the kind. The invariant: whether the pieces that are left are decides for all.
use mathlib.Core.Path.{◌≡◌}
use Rattle.shape.specs.Words.{pieces_of, pieces_left}
use Rattle.shape.specs.Questions.{all_of}
use Rattle.shape.proofs.is_all_of.Given as goal

abbrev pub invariant-loop-piece : goal.invariant-loop-piece
invariant-loop-piece l = all_of l.kind (pieces_of l.words) ≡ all_of l.kind (pieces_left l.piece-iterator)
