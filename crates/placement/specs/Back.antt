-- What it means that the reader finds what the caller placed (REFERENCE 15.4): the offsets that it starts from, the reads of a list one after the
-- other, and what they are to show.
use Rattle.std.specs.Prelude.{ℕ, ◌+◌, ◌*◌, ◌-◌, ◌%◌, ◌≤◌, ◌≡◌, Bool, true, ◌&&◌, List, [], ◌∷◌, eqb, length, take}
use Rattle.shape.specs.declared.Arg.{Arg}
use Rattle.shape.specs.declared.Arg.TheVariants.{Void, Scalar, Aggregate}
use Rattle.shape.specs.Numbers.{accepted, bad_area}
use Rattle.shape.specs.Arithmetic.{round_up}
use Rattle.abis.specs.Abis.{described}
use Rattle.classify.specs.declared.Call.{Call}
use Rattle.classify.specs.Answers.{call_refusal}
use Rattle.ledger.specs.Ledger.{Bank, integers, floats, given, passed_over, Operation, mark, return, argument, variadic_argument, rounding_by, total, call_after, fresh_call, history}
use Rattle.varargs.specs.declared.Offsets.{Offsets}
use Rattle.varargs.specs.Lists.{unnamed_refusal, Shown, reads_as}
use Rattle.placement.specs.Caller.{Machine, Whole, Value, State, behind_dots, place}

-- ---- where placing starts

-- a call on description 0 that passes the checks, with a stack offset in eightbytes, and a whole machine
pub record Ready (st : State) : Type 0 where
  pub row : st.call.abi ≡ 0
  pub passes : call_refusal st.call ≡ accepted
  pub whole : Whole st.machine
  pub eights : st.call.stack % 8 ≡ 0

-- ---- the values

-- a scalar that the reader takes, with as many bytes as its size
pub record IsValue (v : Value) : Type 0 where
  pub taken : unnamed_refusal v.scalar ≡ accepted
  pub sized : length v.bytes ≡ v.scalar.size

pub data AllValues : List Value → Type 0 where
  no_more : AllValues []
  and_then : {v : Value} {vs : List Value} → IsValue v → AllValues vs → AllValues (v ∷ vs)

-- one that is given nothing in either bank
abbrev pub is_stacked : State → Value → Bool
is_stacked st v = eqb (given integers (behind_dots st.call v.scalar)) 0 && eqb (given floats (behind_dots st.call v.scalar)) 0

-- where it then stands: the call's offset, rounded as REFERENCE 9.9 has it
abbrev pub stack_start : State → Value → ℕ
stack_start st v = round_up st.call.stack (rounding_by (described 0) (variadic_argument (Scalar v.scalar) [] []) st.call)

abbrev pub stack_end : State → Value → ℕ
stack_end st v = stack_start st v + v.scalar.size

-- the stack places lie inside an area of so many bytes
pub data AllInside (bytes : ℕ) : State → List Value → Type 0 where
  no_more : {st : State} → AllInside bytes st []
  and_then : {st : State} {v : Value} {vs : List Value} → (is_stacked st v ≡ true → stack_end st v ≤ bytes) → AllInside bytes (place st v) vs
      → AllInside bytes st (v ∷ vs)

-- ---- the offsets of a call, and of a stack offset beside it

abbrev pub offsets_at : Call → ℕ → Offsets
offsets_at c stack = record { integer = 8 * (6 - c.left.integer); float = 48 + 16 * (8 - c.left.float); overflow = stack }

abbrev pub offsets_of : State → Offsets
offsets_of st = offsets_at st.call st.call.stack

-- ---- what stays of a machine: so many registers of each bank, the first ones, and so many bytes of the area

pub record Stays (integer float stack : ℕ) (before after : Machine) : Type 0 where
  pub integers_stay : take integer after.integers ≡ take integer before.integers
  pub floats_stay : take float after.floats ≡ take float before.floats
  pub area_stays : take stack after.area ≡ take stack before.area
  pub as_long : length after.area ≡ length before.area

-- those that the call has spent, and the bytes below the stack offset
abbrev pub Keeps : State → Machine → Type 0
Keeps st m = Stays (6 - st.call.left.integer) (8 - st.call.left.float) st.call.stack st.machine m

-- ---- a call after named parameters: what any operations on description 0 left

abbrev pub call_named : List Operation → Call
call_named ops = call_after (fresh_call 0) (history 0 ops)

abbrev pub named_state : List Operation → Machine → State
named_state ops m = record { machine = m; call = call_named ops }

-- 0, or a power of two
pub data UsualAlign : ℕ → Type 0 where
  zero_is : UsualAlign 0
  one_is : UsualAlign 1
  twice : {n : ℕ} → UsualAlign n → UsualAlign (n + n)

-- operations whose aggregates are aligned so: a scalar's alignment is looked at where it is 16 alone
abbrev pub UsualArg : Arg → Type 0
UsualArg Void = Unit {0}
UsualArg (Scalar s) = Unit {0}
UsualArg (Aggregate shape) = UsualAlign shape.align

abbrev pub Usual : Operation → Type 0
Usual mark = Unit {0}
Usual (return arg words out) = UsualArg arg
Usual (argument arg words out) = UsualArg arg
Usual (variadic_argument arg words out) = UsualArg arg

pub data AllUsual : List Operation → Type 0 where
  no_more : AllUsual []
  and_then : {op : Operation} {ops : List Operation} → Usual op → AllUsual ops → AllUsual (op ∷ ops)

-- the registers that they were given and passed over
abbrev pub used : Bank → List Operation → ℕ
used b ops = total (given b) (history 0 ops) + total (passed_over b) (history 0 ops)

-- ---- the reads, each from the offsets that the one before answered

unfoldable pub readings : List ℕ → List ℕ → Offsets → List Value → List Shown
readings save overflow at [] = []
readings save overflow at (v ∷ vs) = reads_as save overflow at v.scalar ∷ readings save overflow (reads_as save overflow at v.scalar).next vs

-- none is refused, each shows its value's own bytes, and the offsets after it are those of the call that the placing left
unfoldable pub as_placed : State → List Value → List Shown
as_placed st [] = []
as_placed st (v ∷ vs) = record { refusal = accepted; bytes = v.bytes; next = offsets_of (place st v) } ∷ as_placed (place st v) vs

-- the area ends too early: no bytes, and the offsets that were handed in
abbrev pub too_short : State → Shown
too_short st = record { refusal = bad_area; bytes = []; next = offsets_of st }
