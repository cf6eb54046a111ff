-- How an aggregate that a rule matched spends registers (REFERENCE 9.3): how it travels, and what it passes over and is given. I and F are the
-- counts left. A scalar's spending (9.2, 9.4) is spend_scalar/specs/Spending.antt, and the parts that both are said with stand first here.
-- This says nothing of the counts left afterwards: those are the Rust's, in classify/specs/Classify.antt, and a theorem has the two agree.
use Rattle.std.specs.Prelude.{ℕ, ◌-◌, min, max, Bool, ◌&&◌, cond, eqb, leb, ltb, Option, Some, None}
use Rattle.shape.specs.Numbers.{integer}
use Rattle.slots.specs.Cut.{ceil_div}
use Rattle.describe.specs.declared.Banks.{Banks}
use Rattle.describe.specs.declared.Rule.{Rule}
use Rattle.describe.specs.declared.Travel.{Travel}
use Rattle.describe.specs.declared.Travel.TheVariants.{Ignore, AsFound, AsIntegers, AsOneInteger, ByReference, InMemory, InMemoryAndSpend}
use Rattle.describe.specs.declared.Short.{Short}
use Rattle.describe.specs.declared.Short.TheVariants.{Unchanged, Memory, MemoryAndDrain, TryNextRule, Split}
use Rattle.describe.specs.declared.ReturnPointer.{ReturnPointer}
use Rattle.describe.specs.declared.ReturnPointer.TheVariants.{FirstArgument, FirstArgumentPopped, Dedicated}
use Rattle.spend.specs.declared.Left.{Left}
use Rattle.spend.specs.declared.Way as ways
use Rattle.spend.specs.declared.Wanted.{Wanted}
use Rattle.spend.specs.declared.Decision.{Decision}
use Rattle.spend.specs.Ways.{spends, nothing, plain, in_pieces, cut_slots, one_slot}

-- "takes n": n, or all that is left, whichever is less
abbrev pub takes : ℕ → ℕ → ℕ
takes n left = min n left

-- registers of a width that a size wants: size over the width, rounded up, at least 1
unfoldable pub want_of : ℕ → ℕ → ℕ
want_of size width = max (ceil_div size (max width 1)) 1

abbrev pub direct : ℕ → ℕ → ℕ → ℕ → Decision
direct ip ig fp fg = plain ways.TheVariants.Direct (spends ip ig fp fg)

abbrev pub reference : ℕ → Decision
reference given = plain ways.TheVariants.Reference (spends 0 given 0 0)

abbrev pub memory : ℕ → ℕ → ℕ → ℕ → Decision
memory ip ig fp fg = plain ways.TheVariants.Memory (spends ip ig fp fg)

-- ---- what comes back through an address

-- Reference: given takes 1 of I unless the pointer is Dedicated. The address is a hidden first argument, so it costs what an argument costs;
-- a register of its own, AAPCS64's x8, is none of the arguments'
abbrev pub by_pointer : ReturnPointer → ℕ → Decision
by_pointer Dedicated I = reference 0
by_pointer FirstArgument I = reference (takes 1 I)
by_pointer FirstArgumentPopped I = reference (takes 1 I)

-- ---- an aggregate that a rule's test matched

-- the cost is slots by bank; with shared banks all come from I, which counts positions there: each has a register of either kind
abbrev pub integer_cost : Bool → ℕ → ℕ → ℕ
integer_cost shared count floats = cond shared count (count - floats)

abbrev pub float_cost : Bool → ℕ → ℕ
float_cost shared floats = cond shared 0 floats

-- a short bank is passed over whole, so that no later argument gets a register out of turn; one that isn't short is left as it is, since
-- AAPCS64 closes one bank at a time (C.3 the floats', C.13 the integers')
abbrev pub drain_of : ℕ → ℕ → ℕ
drain_of cost left = cond (ltb left cost) left 0

-- Pieces, given what is left up to the cost
abbrev pub as_far_as : Left → Wanted → ℕ → ℕ → Decision
as_far_as left found integer float = in_pieces found (spends 0 (takes integer left.integer) 0 (takes float left.float))

-- the same, where an integer register is left; with none, Memory, and nothing is spent
abbrev pub split_of : Left → Wanted → ℕ → ℕ → Decision
split_of left found integer float = cond (eqb left.integer 0) (memory 0 0 0 0) (as_far_as left found integer float)

-- short of registers: Unchanged gives what is left up to the cost; Memory spends nothing; MemoryAndDrain passes over each short bank whole;
-- TryNextRule goes on; Split gives what is left, where that is something. Who has which, and why, is said at `Short` (describe/src/lib.rt)
unfoldable pub when_short : Short → Left → Wanted → ℕ → ℕ → Option Decision
when_short Unchanged left found integer float = Some (as_far_as left found integer float)
when_short Memory left found integer float = Some (memory 0 0 0 0)
when_short MemoryAndDrain left found integer float =
    Some (memory (drain_of integer left.integer) 0 (drain_of float left.float) 0)
when_short TryNextRule left found integer float = None
when_short Split left found integer float = Some (split_of left found integer float)

-- a slot rule: on a return it spends nothing, for the registers of a result aren't counted with the arguments'; on an argument, where it fits,
-- the cost is given
unfoldable pub in_slots : Bool → Bool → Left → Short → Wanted → Option Decision
in_slots shared returning left short found =
    let integer : ℕ = integer_cost shared found.count found.floats in
    let float : ℕ = float_cost shared found.floats in
    cond returning (Some (in_pieces found nothing))
    (cond (leb integer left.integer && leb float left.float) (Some (in_pieces found (spends 0 integer 0 float)))
    (when_short short left found integer float))

-- ByReference: given takes 1 of I for an argument, or for a return unless the pointer is Dedicated. The address of a copy is an argument like
-- any other
abbrev pub by_reference : ReturnPointer → Bool → ℕ → Decision
by_reference pointer returning I = cond returning (by_pointer pointer I) (reference (takes 1 I))

-- InMemoryAndSpend on an argument: passes over takes want of I. fastcall's records, which gcc counts against ecx and edx though they are on the
-- stack: these registers carry nothing, so they aren't given
abbrev pub in_memory_and_spend : Bool → ℕ → ℕ → Decision
in_memory_and_spend returning I want = cond returning (memory 0 0 0 0) (memory (takes want I) 0 0 0)

abbrev pub travel_by : Travel → Banks → ReturnPointer → Bool → Left → Short → ℕ → Wanted → Option Decision
travel_by Ignore B pointer returning left short size found = Some (plain ways.TheVariants.Ignore nothing)
travel_by AsFound B pointer returning left short size found = in_slots B.shared returning left short found
travel_by AsIntegers B pointer returning left short size found = in_slots B.shared returning left short (cut_slots size B.integer_width)
travel_by AsOneInteger B pointer returning left short size found = in_slots B.shared returning left short (one_slot integer size 0)
travel_by ByReference B pointer returning left short size found = Some (by_reference pointer returning left.integer)
travel_by InMemory B pointer returning left short size found = Some (memory 0 0 0 0)
travel_by InMemoryAndSpend B pointer returning left short size found =
    Some (in_memory_and_spend returning left.integer (want_of size B.integer_width))

unfoldable pub travel_of : Banks → ReturnPointer → Bool → Left → Rule → ℕ → Wanted → Option Decision
travel_of B pointer returning left rule size found = travel_by rule.then B pointer returning left rule.short size found
