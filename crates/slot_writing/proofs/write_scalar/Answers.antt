-- `write_scalar` writes the slots of a scalar.
use Rattle.slot_writing.proofs.Writing.{scalar_one}
use Rattle.slot_writing.proofs.write_scalar.Goals as goal

pub returns-in-One : goal.returns-in-One
returns-in-One c = search (scalar_one)
