-- Shapes and answers of the descriptions in the standard's terms (REFERENCE 12): the composite that a shape and its pieces stand for, and what an
-- answer's way, slots and counts left say of registers.
use Rattle.std.specs.Prelude.{ℕ, ◌+◌, ◌-◌, max, List, [], ◌∷◌, map, cond, ltb, eqb, get_or}
use Rattle.std.proofs.Math.Option.{Option}
use Rattle.std.proofs.Math.Option.Option.{none, some}
use Rattle.shape.specs.declared.Piece.{Piece}
use Rattle.shape.specs.declared.Shape.{Shape}
use Rattle.shape.specs.Questions.{is_float}
use Rattle.slots.specs.declared.Slot.{Slot}
use Rattle.describe.specs.declared.ReturnPointer.{ReturnPointer}
use Rattle.describe.specs.declared.ReturnPointer.TheVariants.{FirstArgument, FirstArgumentPopped, Dedicated}
use Rattle.spend.specs.declared.Left.{Left}
use Rattle.spend.specs.declared.Way.{Way}
use Rattle.spend.specs.Ways.{marked}
use Rattle.spend.specs.declared.Way.TheVariants.{Ignore, Direct, Pieces, Reference, Memory}
use Rattle.classify.specs.Pass.{way_of, pass_slots}
use Rattle.classify.specs.Classify.{Passed}
use Rattle.aapcs64.specs.Aapcs64.{Fundamental, integral, floating, single, double, quad, Member, Composite, v, x, Part, part, Place, registers, stack, copy, copy_on_stack, State, state, Passing, passing, Result, comes, through_x8, Returning, returning}

-- ---- shapes

-- the type of a piece. The standard has no x87 type: such a piece is so many bytes of no floating-point type
abbrev pub type_of : ℕ → ℕ → Fundamental
type_of kind size =
    get_or (integral size ∷ floating single ∷ floating double ∷ integral size ∷ floating quad ∷ []) kind (integral size)

abbrev pub member_of : Piece → Member
member_of p = record { type = type_of p.kind p.size; offset = p.offset }

abbrev pub composite : ℕ → Shape → List Piece → Composite
composite natural shape ps = record { members = map member_of ps; size = shape.size; natural = natural }

-- the natural alignment isn't told by a shape and its pieces: it counts what a composite inside was given, and not what the whole was given. It is
-- no more than the largest alignment among them, and the theorem is of every number up to that
unfoldable pub most_align : List Piece → ℕ
most_align [] = 0
most_align (p ∷ ps) = max p.align (most_align ps)

abbrev pub most_natural : Shape → List Piece → ℕ
most_natural shape ps = max shape.align (most_align ps)

-- ---- answers

-- the numbers of the next registers, of eight each
abbrev pub state_of : Left → State
state_of left = state (8 - left.integer) (8 - left.float)

-- how many bytes a float of a format has; an x87 value has ten
abbrev pub format_bytes : ℕ → ℕ
format_bytes kind = get_or (0 ∷ 4 ∷ 8 ∷ 10 ∷ 16 ∷ []) kind 0

-- slots go to the next registers of their bank, in order. A float slot has size 0: one of another size would hold nothing
unfoldable pub parts_of : ℕ → ℕ → List Slot → List Part
parts_of n s [] = []
parts_of n s (slot ∷ slots) =
    cond (is_float slot.kind)
    (part (v s) slot.offset (cond (eqb slot.size 0) (format_bytes slot.kind) 0) ∷ parts_of n (s + 1) slots)
    (part (x n) slot.offset slot.size ∷ parts_of (n + 1) s slots)

-- an address goes in the integer register that was given for it, and on the stack if none was
abbrev pub copy_of : Left → Left → Place
copy_of before after =
    cond (ltb after.integer before.integer) (copy (x (8 - before.integer))) copy_on_stack

-- the standard leaves no aggregate out and passes none as a scalar: Ignore and Direct say nothing in its terms, nor does a call with the
-- integers-only mark
abbrev pub place_of : Way → Left → List Slot → Left → Option Place
place_of Ignore before slots after = none
place_of Direct before slots after = none
place_of Pieces before slots after = some (registers (parts_of (8 - before.integer) (8 - before.float) slots))
place_of Reference before slots after = some (copy_of before after)
place_of Memory before slots after = some stack

abbrev pub passing_of : Option Place → Left → Option Passing
passing_of none after = none
passing_of (some place) after = cond (marked after) none (some (passing place (state_of after)))

-- an argument's way and slots, between what was left before and after it
unfoldable pub reads : Left → Way → List Slot → Left → Option Passing
reads before way slots after = passing_of (place_of way before slots after) after

abbrev pub reads_passed : Left → Passed → Option Passing
reads_passed before p = reads before (way_of p.pass) (pass_slots p.pass) p.left

-- a result comes back in the first registers of each bank, or at an address that goes where the description says
abbrev pub addressed_by : ReturnPointer → Option Result
addressed_by FirstArgument = none
addressed_by FirstArgumentPopped = none
addressed_by Dedicated = some through_x8

abbrev pub result_by : Way → ReturnPointer → List Slot → Option Result
result_by Ignore pointer slots = none
result_by Direct pointer slots = none
result_by Pieces pointer slots = some (comes (parts_of 0 0 slots))
result_by Reference pointer slots = addressed_by pointer
result_by Memory pointer slots = none

abbrev pub returning_of : Option Result → Left → Option Returning
returning_of none after = none
returning_of (some result) after = cond (marked after) none (some (returning result (state_of after)))

-- a result's way and slots, with what is left after it
unfoldable pub reads_result : ReturnPointer → Way → List Slot → Left → Option Returning
reads_result pointer way slots after = returning_of (result_by way pointer slots) after

abbrev pub reads_returned : ReturnPointer → Passed → Option Returning
reads_returned pointer p = reads_result pointer (way_of p.pass) (pass_slots p.pass) p.left
