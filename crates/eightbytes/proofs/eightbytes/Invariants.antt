-- `eightbytes` answers the search. The invariant: the classes as they are, and the pieces that are left, decide the classes of all.
use Prim.Native.Nat.{◌-◌}
use mathlib.Core.Path.{◌≡◌}
use lib.ListN.{length, take, drop, replicate}
use Rattle.shape.specs.Words.{pieces_of, pieces_left}
use Rattle.eightbytes.specs.Class.{None}
use Rattle.eightbytes.specs.Eightbytes.{classes_after}
use Rattle.eightbytes.proofs.eightbytes.Given as goal

abbrev pub invariant-loop-p : goal.invariant-loop-p
invariant-loop-p l = (length l.classes ≡ 8) × (drop l.n l.classes ≡ replicate (8 - l.n) None)
    × (classes_after (replicate l.n None) (pieces_of l.words) ≡ classes_after (take l.n l.classes) (pieces_left l.p-iterator))
