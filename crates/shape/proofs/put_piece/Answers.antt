-- `put_piece` writes the words of a piece where they fit, and no other word.
use native.Mathlib.Omega.{arith}
use Rattle.shape.proofs.Put.{fitted_not, copied}
use Rattle.shape.proofs.put_piece.Goals as goal

pub returns-then-saturating_sub-lt-PIECE : goal.returns-then-saturating_sub-lt-PIECE
returns-then-saturating_sub-lt-PIECE c = fitted_not _ _ _ (omega arith)

pub returns : goal.returns
returns c = copied _ _ _ (omega arith) _ (omega arith) _ c.copy_from_slice.ensures.after
