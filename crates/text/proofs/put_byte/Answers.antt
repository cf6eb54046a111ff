-- `put_byte` stores a byte.
use Rattle.text.proofs.Putting.{put_one}
use native.Mathlib.Omega.{arith}
use Rattle.text.proofs.put_byte.Goals as goal

pub returns : goal.returns
returns c = put_one _ _ _ (omega arith)
