-- What an aggregate argument comes to on the four descriptions of fastcall (REFERENCE 9.3), said of these alone, from the request that its registers
-- be passed over: nothing travels of an empty one; any other has its bytes on the stack, and one that has no floating mode is counted against
-- the registers, one for each word of four bytes, as far as there are any. These carry nothing: they are passed over, and none is given.
use Rattle.std.specs.Prelude.{ℕ, max, ◌||◌, cond, eqb}
use Rattle.shape.specs.declared.Shape.{Shape}
use Rattle.shape.specs.Arithmetic.{round_up}
use Rattle.shape.specs.Numbers.{accepted}
use Rattle.spend.specs.declared.Way.{Way}
use Rattle.spend.specs.declared.Way.TheVariants.{Ignore, Memory}
use Rattle.spend.specs.declared.Spent.{Spent}
use Rattle.spend.specs.Ways.{way_number, spends, nothing}
use Rattle.spend.specs.Spending.{takes, want_of}
use Rattle.stack_place.specs.declared.Stacked.{Stacked}
use Rattle.stack_place.specs.Stacked.{stands}
use Rattle.classify.specs.declared.Outcome.{Outcome}

abbrev slotless : Way → Spent → Stacked → Outcome
slotless way spent stacked = record { refusal = accepted; way = way_number way; spent = spent; slots = 0; stacked = stacked }

-- its bytes on the stack are whole words, and stand behind the others at its alignment, or at a word's
abbrev pub fastcall_stands : Shape → ℕ → Stacked
fastcall_stands shape stack = stands (round_up stack (max shape.align 4)) (round_up shape.size 4)

-- where so many integer registers are left, and the stack goes on from there
abbrev pub fastcall_outcome : Shape → ℕ → ℕ → Outcome
fastcall_outcome shape I stack =
    cond (eqb shape.size 0) (slotless Ignore nothing (stands 0 0))
    (cond (shape.complex || shape.floating) (slotless Memory nothing (fastcall_stands shape stack))
    (slotless Memory (spends (takes (want_of shape.size 4) I) 0 0 0) (fastcall_stands shape stack)))
