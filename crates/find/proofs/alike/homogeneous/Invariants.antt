-- `homogeneous` compares every piece behind the first with it. The invariant: whether those that are left are the same scalar decides.
use mathlib.Core.Path.{◌≡◌}
use Rattle.shape.specs.Words.{pieces_left}
use Rattle.find.specs.Find.{all_same}
use Rattle.find.proofs.alike.homogeneous.Given as goal

abbrev pub invariant-loop-p : goal.invariant-loop-p
invariant-loop-p l = all_same l.first (pieces_left l.initial.p-iterator) ≡ all_same l.first (pieces_left l.p-iterator)
