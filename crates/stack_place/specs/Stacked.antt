-- Where what isn't in registers stands (REFERENCE 9.9), line by line: how many bytes of a value go to the stack, what their offset is rounded to,
-- and their place behind those of the operations before. It is said of the way that a value travels and of what it was given, whatever the call
-- has left. w is the width of an integer register.
use Rattle.std.specs.Prelude.{ℕ, ◌+◌, ◌*◌, ◌-◌, max, Bool, true, false, ◌&&◌, not, cond, eqb, ltb, Result, Ok, Err}
use Rattle.shape.specs.declared.Scalar.{Scalar}
use Rattle.shape.specs.declared.refusals.Refusal.{Refusal}
use Rattle.shape.specs.Numbers.{accepted, no_room}
use Rattle.shape.specs.Refusals.{number_of}
use Rattle.shape.specs.Arithmetic.{round_up}
use Rattle.describe.specs.declared.ReturnPointer.{ReturnPointer}
use Rattle.describe.specs.declared.ReturnPointer.TheVariants.{FirstArgument, FirstArgumentPopped, Dedicated}
use Rattle.describe.specs.declared.StackArgs.{StackArgs}
use Rattle.describe.specs.declared.StackArgs.TheVariants.{RegisterSized, Packed}
use Rattle.spend.specs.declared.Spent.{Spent}
use Rattle.spend.specs.declared.Way.{Way}
use Rattle.spend.specs.declared.Way.TheVariants.{Ignore, Direct, Pieces, Reference, Memory}
use Rattle.stack_place.specs.declared.Area.{Area}
use Rattle.stack_place.specs.declared.Stacked.{Stacked}
use Rattle.stack_place.specs.declared.Place.{Place}

-- the most bytes that a call's arguments take on the stack: 2^40
abbrev pub most_stack : ℕ
most_stack = 1099511627776

-- ---- how many bytes

-- a pointer's word, where it was given no register
abbrev pub pointer_bytes : Spent → ℕ → ℕ
pointer_bytes spent w = cond (eqb spent.integers_given 0) w 0

-- the address of what comes back, unless it has a register of its own
abbrev pub address_bytes : ReturnPointer → Spent → ℕ → ℕ
address_bytes Dedicated spent w = 0
address_bytes FirstArgument spent w = pointer_bytes spent w
address_bytes FirstArgumentPopped spent w = pointer_bytes spent w

-- a value that comes back: nothing but such an address
abbrev pub return_bytes : Way → ReturnPointer → Spent → ℕ → ℕ
return_bytes Ignore pointer spent w = 0
return_bytes Direct pointer spent w = 0
return_bytes Pieces pointer spent w = 0
return_bytes Reference pointer spent w = address_bytes pointer spent w
return_bytes Memory pointer spent w = 0

-- what of a scalar is in no register: nothing where it was given a float register, else what its integer registers leave
abbrev pub scalar_rest : Spent → ℕ → ℕ → ℕ
scalar_rest spent size w = cond (ltb 0 spent.floats_given) 0 (size - w * spent.integers_given)

-- a scalar argument. None travels as Memory; one that did would stand there whole
abbrev pub scalar_bytes : Way → Spent → ℕ → ℕ → ℕ
scalar_bytes Ignore spent size w = 0
scalar_bytes Direct spent size w = scalar_rest spent size w
scalar_bytes Pieces spent size w = scalar_rest spent size w
scalar_bytes Reference spent size w = pointer_bytes spent w
scalar_bytes Memory spent size w = size

-- of slots, each a word, those beyond the registers given in both banks
abbrev pub slots_beyond : Spent → ℕ → ℕ
slots_beyond spent slots = slots - spent.integers_given - spent.floats_given

abbrev pub slots_bytes : Spent → ℕ → ℕ → ℕ
slots_bytes spent slots w = w * slots_beyond spent slots

-- an aggregate argument: in Memory whole, whatever was passed over. None travels as Direct; one that did would stand there whole
abbrev pub aggregate_bytes : Way → Spent → ℕ → ℕ → ℕ → ℕ
aggregate_bytes Ignore spent slots size w = 0
aggregate_bytes Direct spent slots size w = size
aggregate_bytes Pieces spent slots size w = slots_bytes spent slots w
aggregate_bytes Reference spent slots size w = pointer_bytes spent w
aggregate_bytes Memory spent slots size w = size

-- whether its registers hold all of it, or its address: then none of it is there
abbrev pub is_held : Way → Spent → ℕ → Bool
is_held Ignore spent slots = true
is_held Direct spent slots = false
is_held Pieces spent slots = eqb (slots_beyond spent slots) 0
is_held Reference spent slots = not (eqb spent.integers_given 0)
is_held Memory spent slots = false

-- ---- what the offset is rounded to

-- a pointer's to its width; a value's own otherwise
abbrev pub value_rounding : Way → ℕ → ℕ → ℕ
value_rounding Ignore w own = own
value_rounding Direct w own = own
value_rounding Pieces w own = own
value_rounding Reference w own = w
value_rounding Memory w own = own

-- a scalar's: 16 where its alignment is 16; else its size in a packed area, and a word in any other
abbrev pub scalar_step : StackArgs → ℕ → ℕ → ℕ
scalar_step RegisterSized w size = w
scalar_step Packed w size = size

abbrev pub wide_or : ℕ → ℕ → ℕ
wide_or align step = cond (eqb align 16) 16 step

abbrev pub scalar_rounding : Way → Area → Scalar → ℕ
scalar_rounding way area s = value_rounding way area.width (wide_or s.align (scalar_step area.arguments area.width s.size))

-- an aggregate's: what `in_memory` answers, and in an area that isn't packed a word at least
abbrev pub aggregate_step : StackArgs → ℕ → ℕ → ℕ
aggregate_step RegisterSized w align = max align w
aggregate_step Packed w align = align

abbrev pub aggregate_rounding : Way → Area → ℕ → ℕ
aggregate_rounding way area align = value_rounding way area.width (aggregate_step area.arguments area.width align)

-- after the dots, where such an argument always is in memory, it is 8 at least; and rounding to 0 counts as to 1
abbrev pub rounding_of : Area → ℕ → ℕ
rounding_of area rounding = max (cond area.dots (max rounding 8) rounding) 1

-- ---- how long it is there: the bytes as they are in a packed area, but for what is after such dots; else rounded up to words

abbrev pub is_packed : StackArgs → Bool
is_packed RegisterSized = false
is_packed Packed = true

abbrev pub in_words : ℕ → ℕ → ℕ
in_words bytes w = round_up bytes (max w 1)

abbrev pub length_of : Area → ℕ → ℕ
length_of area bytes = cond (is_packed area.arguments && not area.dots) bytes (in_words bytes area.width)

-- ---- its place

abbrev pub stands : ℕ → ℕ → Stacked
stands at bytes = record { at = at; bytes = bytes }

-- a value's bytes, with the next offset; or NO_ROOM where that would pass the limit, with the offset as it was
pub record Placed : Type 0 where
  pub refusal : ℕ
  pub stacked : Stacked
  pub next : ℕ

-- what the code answers, where the offset was this one
abbrev pub told : ℕ → Result Place Refusal → Placed
told stack (Ok place) = record { refusal = accepted; stacked = place.stacked; next = place.next }
told stack (Err refusal) = record { refusal = number_of refusal; stacked = stands 0 0; next = stack }

-- nothing goes there: no place, no length, and the offset stays as it is, unrounded
abbrev pub nowhere : ℕ → Placed
nowhere stack = record { refusal = accepted; stacked = stands 0 0; next = stack }

-- the next offset would pass the limit: a refusal, with the offset as it was
abbrev pub without_room : ℕ → Placed
without_room stack = record { refusal = no_room; stacked = stands 0 0; next = stack }

abbrev pub from : ℕ → ℕ → Placed
from at bytes = record { refusal = accepted; stacked = stands at bytes; next = at + bytes }

-- so many bytes, from the next offset on that a number divides
unfoldable pub behind : ℕ → ℕ → ℕ → Placed
behind stack bytes rounding =
    cond (eqb bytes 0) (nowhere stack)
    (cond (ltb most_stack (round_up stack rounding + bytes)) (without_room stack) (from (round_up stack rounding) bytes))

abbrev pub placed_of : Area → ℕ → ℕ → ℕ → Placed
placed_of area stack bytes rounding = behind stack (length_of area bytes) (rounding_of area rounding)

-- ---- what comes back, and a scalar argument. (An aggregate's bytes are asked first, and then its alignment in memory)

unfoldable pub return_placed : Area → ℕ → Way → ReturnPointer → Spent → Placed
return_placed area stack way pointer spent = placed_of area stack (return_bytes way pointer spent area.width) area.width

unfoldable pub scalar_placed : Area → ℕ → Way → Spent → Scalar → Placed
scalar_placed area stack way spent s = placed_of area stack (scalar_bytes way spent s.size area.width) (scalar_rounding way area s)
