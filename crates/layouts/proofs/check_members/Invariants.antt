-- `check_members` answers the first refusal among the members. The invariant: what the scalars that are left decide is what all decide.
use mathlib.Core.Path.{◌≡◌}
use Rattle.shape.specs.Words.{scalars_left}
use Rattle.layouts.specs.Members.{scalars_refusal, members_refusal}
use Rattle.layouts.proofs.check_members.Given as goal

abbrev pub invariant-loop-s : goal.invariant-loop-s
invariant-loop-s l = members_refusal l.members ≡ scalars_refusal (scalars_left l.s-iterator)
