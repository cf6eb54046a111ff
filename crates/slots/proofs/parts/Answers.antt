-- `parts` counts the parts of a size: the quotient, rounded up, is the length of the cut.
use mathlib.Core.Path.{◌∙◌}
use Rattle.slots.proofs.Cut.{length_ceil}
use Rattle.slots.proofs.parts.Goals as goal

pub returns : goal.returns
returns c = c.div_ceil.ensures ∙ length_ceil _ _ _ c.max.ensures
