use mathlib.Core.Path.{refl}
use native.Mathlib.Omega.{arith}
use lib.ListN.{length-set}
use lib.Seq.{paste-zero}
use Rattle.text.proofs.Copy.{left_out, copy_next, copy_end, copy_done}
use Rattle.text.proofs.append.Goals as goal

pub returns-then-at-out : goal.returns-then-at-out
returns-then-at-out c = left_out _ _ _ (omega arith)

pub overflow_sub-out : goal.overflow_sub-out
overflow_sub-out c = omega arith

pub returns-then-bytes-out : goal.returns-then-bytes-out
returns-then-bytes-out c = left_out _ _ _ (omega arith)

pub loop-i-init : goal.loop-i-init
loop-i-init c = (omega arith, refl, search (paste-zero))

pub bounds-bytes-i : goal.bounds-bytes-i
bounds-bytes-i c = omega arith

pub overflow_add-out : goal.overflow_add-out
overflow_add-out c = omega arith

pub bounds-out-at : goal.bounds-out-at
bounds-out-at c = omega arith

pub overflow_add-i : goal.overflow_add-i
overflow_add-i c = omega arith

pub loop-i-smaller : goal.loop-i-smaller
loop-i-smaller c = omega arith

pub loop-i-preserved : goal.loop-i-preserved
loop-i-preserved c = (omega arith, simp length-set (omega arith), search (copy_next))

pub overflow_add-result : goal.overflow_add-result
overflow_add-result c = omega arith

pub shape_of-out : goal.shape_of-out
shape_of-out c = omega arith

pub returns : goal.returns
returns c = (search (copy_end), search (copy_done))
