-- `put_rest` puts the slots, or the number of the refusal.
use Rattle.sheet_lines.proofs.PrintingLaws.{rest_refused, rest_slots}
use Prim.Native.Nat.{◌*◌}
use native.Mathlib.Omega.{arith}
use lib.ListN.{length-take}
use Rattle.slots.specs.Words.{slot_size}
use Rattle.sheet_lines.proofs.put_rest.Goals as goal

pub returns-then-outcome-ne-ACCEPTED : goal.returns-then-outcome-ne-ACCEPTED
returns-then-outcome-ne-ACCEPTED c = (search (rest_refused), omega arith)

pub returns : goal.returns
returns c = (search (rest_slots), omega (arith, length-take (c.args.outcome.slots * slot_size) c.args.slots.now))
