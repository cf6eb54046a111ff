-- `put_classes` writes the slots that classes stand for where all of them fit. The invariant: the slots that are left, put behind those before, make the whole.
use Prim.Native.Nat.{◌+◌, ◌≤◌}
use mathlib.Core.Path.{◌≡◌}
use lib.ListN.{length}
use Rattle.shape.specs.Words.{put_at}
use Rattle.slots.specs.Words.{words_of, written}
use Rattle.eightbytes.specs.Eightbytes.{slots_of_eight}
use Rattle.slot_writing.proofs.Put.{left}
use Rattle.slot_writing.proofs.classes.put_classes.Given as goal

abbrev pub invariant-loop-i : goal.invariant-loop-i
invariant-loop-i l = (length l.out ≡ length l.initial.out) × (l.at + length (words_of (left l.size l.classes l.n l.i)) ≤ length l.out)
    × (written (slots_of_eight l.size l.classes) l.initial.out ≡ put_at l.out l.at (words_of (left l.size l.classes l.n l.i)))
