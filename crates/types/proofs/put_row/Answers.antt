-- `put_row` writes a row's words.
use native.Mathlib.Omega.{arith}
use Rattle.shape.proofs.Put.{copied}
use Rattle.types.proofs.put_row.Goals as goal

pub returns : goal.returns
returns c = (copied _ _ _ (omega arith) _ (omega arith) _ c.copy_from_slice.ensures.after).1
