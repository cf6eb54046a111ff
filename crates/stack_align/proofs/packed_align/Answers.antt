-- `packed_align` answers the alignment in a packed area, by what was found.
use mathlib.Core.Path.{sym, ◌∙◌}
use Rattle.stack_align.proofs.Aligned.{packed_without, packed_homogeneous, packed_other, some_none}
use Rattle.stack_align.proofs.packed_align.Goals as goal
use Rattle.stack_align.proofs.packed_align.Goals.{in-Some, in-None}

pub returns-in-Some-found : goal.returns-in-Some-found
returns-in-Some-found c =
    elim c.match-homogeneous_limit.branch [
      | in-Some w ↦ packed_homogeneous _ _ _ _ _ (w.in-Some.ensures) _ (sym c.in-Some-found.is ∙ w.found-is ∙ w.homogeneous-found.ensures)
      | in-None w ↦ absurd (some_none _ (sym c.in-Some-found.is ∙ w.found-is))
    ]

pub returns-in-None-found : goal.returns-in-None-found
returns-in-None-found c =
    elim c.match-homogeneous_limit.branch [
      | in-Some w ↦ packed_other _ _ _ _ _ (w.in-Some.ensures) _ c.max.ensures (sym c.in-None-found.is ∙ w.found-is ∙ w.homogeneous-found.ensures)
      | in-None w ↦ packed_without _ _ _ _ _ c.max.ensures (w.in-None.ensures)
    ]
