-- `homogeneous_limit` answers the first such limit of a list. The invariant: the rules that are left decide it.
use mathlib.Core.Path.{◌≡◌}
use Rattle.rows.specs.Row.{listed}
use Rattle.stack_align.specs.Limits.{list_limit}
use Rattle.stack_align.proofs.homogeneous_limit.Given as goal

abbrev pub invariant-loop-rules : goal.invariant-loop-rules
invariant-loop-rules l = list_limit (listed l.initial.rules-iterator) ≡ list_limit (listed l.rules-iterator)
