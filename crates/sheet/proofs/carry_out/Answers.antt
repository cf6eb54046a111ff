-- `carry_out` performs an operation and prints its line.
use Rattle.sheet.proofs.StepLaws.{carried_out}
use Rattle.sheet.proofs.carry_out.Goals as goal

pub returns : goal.returns
returns c = search (carried_out)
