use Prim.Native.Nat.{◌<◌, ◌*◌}
use Rattle.slots.proofs.Cut.{run_none, cut_inside, cut_done, cut_short, cut_next}
use native.Mathlib.Omega.{arith}
use Rattle.slots.proofs.integer_slots.Goals as goal

-- a part that is there starts inside the size
inside : (c : goal.In-loop-i) → c.loop-i.i * c.max-w.result < c.args.size
inside c = search (cut_inside)

pub returns-then-count-room : goal.returns-then-count-room
returns-then-count-room c = search (cut_short)

pub loop-i-init : goal.loop-i-init
loop-i-init c = run_none _ _

pub overflow_mul-offset : goal.overflow_mul-offset
overflow_mul-offset c = omega (arith, inside c)

pub overflow_sub-size : goal.overflow_sub-size
overflow_sub-size c = omega (arith, inside c)

pub loop-i-preserved : goal.loop-i-preserved
loop-i-preserved c = search (cut_next)

pub returns : goal.returns
returns c = search (cut_done)
