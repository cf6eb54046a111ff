-- `integer_slots` writes the cut of a size where all of it fits. The invariant: the parts before `i` stand at the front, and all later words are as they were.
use mathlib.Core.Path.{◌≡◌}
use Rattle.slots.specs.Words.{words_of}
use Rattle.slots.specs.Cut.{up_to, part_of}
use Rattle.slots.proofs.Words.{over}
use Rattle.slots.proofs.integer_slots.Given as goal

abbrev pub invariant-loop-i : goal.invariant-loop-i
invariant-loop-i l = l.out ≡ over (words_of (up_to l.i (part_of l.size l.w))) l.initial.out
