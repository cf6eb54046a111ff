-- `pieces` writes the placed members. The invariant: the buffer once the members that are left are written is the one that is promised.
use Rattle.shape.specs.Words.{scalars_left}
use Rattle.layouts.specs.Members.{pieces_written}
use Rattle.layouts.proofs.Members.{Writing}
use Rattle.layouts.proofs.pieces.Given as goal

abbrev pub invariant-loop-s : goal.invariant-loop-s
invariant-loop-s l = Writing (pieces_written l.members l.initial.out) l.to l.end (scalars_left l.s-iterator) l.out
