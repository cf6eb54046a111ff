-- `apply` answers the first rule that decides. The invariant: the rules that are left decide what all decide, and end with one that decides; so
-- there is no way past their end.
use Rattle.shape.specs.Words.{pieces_of}
use Rattle.classify.proofs.Walking.{Remaining}
use Rattle.classify.proofs.apply.Given as goal

abbrev pub invariant-loop-rules : goal.invariant-loop-rules
invariant-loop-rules l = Remaining l.terms l.fn.list l.returning l.left l.shape (pieces_of l.words) l.rules-iterator
