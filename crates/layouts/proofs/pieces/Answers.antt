use Rattle.std.proofs.Common.{rules}
use Rattle.layouts.proofs.Members.{pieces_same, pieces_start, written_end, next_near, next_written}
use native.Mathlib.Omega.{arith}
use Rattle.layouts.proofs.pieces.Goals as goal

pub returns-in_err-check_members-clause-words : goal.returns-in_err-check_members-clause-words
returns-in_err-check_members-clause-words c = pieces_same _ _ _ c.in_err-check_members.ensures

pub loop-s-init : goal.loop-s-init
loop-s-init c = pieces_start _ _ c.in_ok-check_members.ensures c.if-count-out.false _ (search rules)

pub overflow_add-end : goal.overflow_add-end
overflow_add-end c =
    omega (arith, next_near _ _ _ _ _ c.loop-s.invariant _ _ c.in-Some.ensures.steps _ c.round_up-offset.ensures)

pub loop-s-preserved : goal.loop-s-preserved
loop-s-preserved c =
    next_written _ _ _ _ _ c.loop-s.invariant _ _ c.in-Some.ensures.steps _ c.round_up-offset.ensures _ c.at.ensures _ c.put_piece.ensures.1

pub returns-clause-words : goal.returns-clause-words
returns-clause-words c = written_end _ _ _ _ _ c.loop-s.invariant c.in-None.ensures.steps.0
