-- `two_members` finds two pieces: one at least a float, and each fits a register.
use mathlib.Core.Path.{◌∙◌}
use Rattle.find.proofs.Tests.{members}
use Rattle.find.proofs.inside.two_members.Goals as goal

pub returns : goal.returns
returns c = c.then_some.ensures ∙ search (members)
