-- `in_overflow`: the area ends before the offset, or before the scalar's last byte, or the scalar stands there.
use native.Mathlib.Omega.{arith}
use Rattle.varargs.proofs.Lists.{start_at, rounded_small, ends_before, ends_within, lies_there}
use Rattle.varargs.proofs.in_overflow.Goals as goal

pub returns-then-length-at : goal.returns-then-length-at
returns-then-length-at c = ends_before _ _ _ c.if-length-at.true

pub overflow_add-start : goal.overflow_add-start
overflow_add-start c = omega (arith, c.overflow_start-start.ensures, (start_at c.args.at.overflow c.args.s.align).1)

pub returns-then-length-start : goal.returns-then-length-start
returns-then-length-start c = ends_within _ _ _ (rw c.overflow_start-start.ensures at c.if-length-start.true)

pub overflow_add-result : goal.overflow_add-result
overflow_add-result c = omega (arith, c.overflow_start-start.ensures, (start_at c.args.at.overflow c.args.s.align).1, rounded_small _ c.requires _ c.rounded.ensures)

pub returns : goal.returns
returns c = rw (c.overflow_start-start.ensures, c.rounded.ensures) (lies_there _ _ _ (rw c.overflow_start-start.ensures at c.if-length-start.false))
