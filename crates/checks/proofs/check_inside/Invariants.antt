-- `check_inside` answers the first refusal among the pieces, or that one ends past the size. The invariant: what the pieces that are left decide,
-- where those before them reach so far, is what all decide.
use mathlib.Core.Path.{◌≡◌}
use Rattle.shape.specs.Words.{pieces_of, pieces_left}
use Rattle.checks.specs.Check.{or_else, pieces_refusal, extent_refusal}
use Rattle.checks.proofs.Check.{reaching}
use Rattle.checks.proofs.check_inside.Given as goal

abbrev pub invariant-loop-p : goal.invariant-loop-p
invariant-loop-p l = or_else (pieces_refusal (pieces_of l.words)) (extent_refusal l.size (pieces_of l.words)) ≡ reaching l.size l.reach (pieces_left l.p-iterator)
