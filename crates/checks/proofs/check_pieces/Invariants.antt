-- `check_pieces` answers the first refusal among the pieces. The invariant: what the pieces that are left decide is what all decide.
use mathlib.Core.Path.{◌≡◌}
use Rattle.shape.specs.Words.{pieces_of, pieces_left}
use Rattle.checks.specs.Check.{pieces_refusal}
use Rattle.checks.proofs.check_pieces.Given as goal

abbrev pub invariant-loop-piece : goal.invariant-loop-piece
invariant-loop-piece l = pieces_refusal (pieces_of l.words) ≡ pieces_refusal (pieces_left l.piece-iterator)
