-- `mark` merges a piece's class into each eightbyte that it reaches into. The invariant: what is left to cover, from the classes as they are, gives what the whole gives.
use Prim.Native.Nat.{◌+◌, ◌-◌}
use mathlib.Core.Path.{◌≡◌}
use Rattle.eightbytes.specs.Eightbytes.{cover}
use Rattle.eightbytes.proofs.mark.Given as goal

abbrev pub invariant-loop-at : goal.invariant-loop-at
invariant-loop-at l = cover l.classes l.at l.class (l.last + 1 - l.at) ≡ cover l.initial.classes l.initial.at l.initial.class (l.last + 1 - l.initial.at)
