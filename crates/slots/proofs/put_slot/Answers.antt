-- `put_slot` writes the words of a slot where they fit, and no other word.
use Rattle.shape.proofs.Put.{put_short}
use Rattle.slots.proofs.Words.{put_part}
use native.Mathlib.Omega.{arith}
use Rattle.slots.proofs.put_slot.Goals as goal

pub returns-then-saturating_sub-lt-SLOT : goal.returns-then-saturating_sub-lt-SLOT
returns-then-saturating_sub-lt-SLOT c = put_short _ _ _ (omega arith)

pub returns : goal.returns
returns c = put_part _ _ _ _ _ c.copy_from_slice.ensures.after (omega arith) (omega arith)
