-- The slots of a shape by the classes of its eightbytes, or nothing (REFERENCE 8), step by step as the Rust's `eightbytes` finds them.
use Rattle.std.specs.Prelude.{ℕ, zero, suc, ◌+◌, ◌-◌, min, Bool, false, cond, not, ◌||◌, List, [], ◌∷◌, ◌++◌, map, leb, ltb, length, get_or, set, take, replicate}
use Rattle.std.proofs.Math.Option.{Option}
use Rattle.std.proofs.Math.Option.Option.{none, some}
use Rattle.shape.specs.declared.Piece.{Piece}
use Rattle.shape.specs.declared.Shape.{Shape}
use Rattle.shape.specs.Numbers.{single, double, quad, one_if}
use Rattle.slots.specs.declared.Slot.{Slot}
use Rattle.slots.specs.Words.{integer_slot, float_slot}
use Rattle.slots.specs.Cut.{ceil_div}
use Rattle.slots.specs.Search.{Search, found, nothing}
use Rattle.eightbytes.specs.Class.{Class, None, Sse, SseUp, X87, Memory, class_of, same, kind_class, later, merge, mended}
use Rattle.eightbytes.specs.Reach.{first_of, last_of, fits}

-- a limit above eight eightbytes counts as eight
abbrev pub most_limit : ℕ
most_limit = 64

-- how many eightbytes a size has, the last perhaps narrower
abbrev pub eightbytes_in : ℕ → ℕ
eightbytes_in size = ceil_div size 8

-- ---- one piece

-- a class merged into so many eightbytes, from one on
unfoldable pub cover : List Class → ℕ → Class → ℕ → List Class
cover cs at c zero = cs
cover cs at c (suc n) = cover (set cs at (merge (get_or cs at None) c)) (at + 1) (later c) n

-- its class merged into each eightbyte that it reaches into
unfoldable pub mark : List Class → Piece → List Class
mark cs p = cover cs (first_of p) (kind_class p.kind) (last_of p + 1 - first_of p)

-- ---- the classes of a shape

-- the classes after some pieces, none where a piece doesn't fit
unfoldable pub classes_after : List Class → List Piece → Option (List Class)
classes_after cs [] = some cs
classes_after cs (p ∷ ps) = cond (fits (length cs) p) (classes_after (mark cs p) ps) none

-- X87 or Memory anywhere: an argument isn't split between registers and memory, so one such eightbyte takes the rest along. X87 counts as memory,
-- for so an argument goes, and what comes back on the x87's stack was found by a rule before this one
unfoldable pub spoiled : List Class → Bool
spoiled [] = false
spoiled (c ∷ cs) = (same c X87 || same c Memory) || spoiled cs

unfoldable pub mend : Class → List Class → List Class
mend below [] = []
mend below (c ∷ cs) = mended below c ∷ mend (mended below c) cs

-- the classes that the slots come from, none where one is X87 or Memory. Mending goes up from the first eightbyte and looks at the one below as
-- it was mended: an upper half that became Sse carries the next
unfoldable pub settled : List Class → Option (List Class)
settled cs = cond (spoiled cs) none (some (mend None cs))

abbrev pub and_then : Option (List Class) → (List Class → Option (List Class)) → Option (List Class)
and_then none f = none
and_then (some cs) f = f cs

-- a class for each eightbyte of the shape, or none: over the limit, a piece that doesn't fit, X87 or Memory
unfoldable pub classified : ℕ → Shape → List Piece → Option (List Class)
classified limit shape ps =
    cond (ltb (min limit most_limit) shape.size) none
    (and_then (classes_after (replicate (eightbytes_in shape.size) None) ps) settled)

-- ---- its slots

-- the format of an Sse eightbyte: Quad with SseUp above it, Single where at most four bytes are left. Two floats in an eightbyte are a Double:
-- the same bits are in the register either way
abbrev pub format_of : Bool → ℕ → ℕ
format_of up left = cond up quad (cond (leb left 4) single double)

-- the slot of an eightbyte at an offset, with so many bytes left: what is not Sse is an integer, None too, for the Rust leaves no hole in the
-- middle of an argument; the psABI names no register for it, and compilers spend none (DIFFERENCES, COMPILERS). An integer is only as wide as what
-- is left, so that no byte past the object is read
abbrev pub own_slot : Class → Bool → ℕ → ℕ → Slot
own_slot c up at left = cond (same c Sse) (float_slot (format_of up left) at) (integer_slot at (min left 8))

-- SseUp is part of the slot below: one value, one register
abbrev pub class_slot : Class → Bool → ℕ → ℕ → List Slot
class_slot c up at left = cond (same c SseUp) [] (own_slot c up at left ∷ [])

-- whether the classes from the eightbyte above on begin with SseUp
abbrev pub up_first : List Class → Bool
up_first [] = false
up_first (c ∷ cs) = same c SseUp

-- the slots of the eightbytes from an offset on, with so many bytes left there
unfoldable pub slots_from : ℕ → ℕ → List Class → List Slot
slots_from at left [] = []
slots_from at left (c ∷ cs) = class_slot c (up_first cs) at left ++ slots_from (at + 8) (left - 8) cs

unfoldable pub slots_found : ℕ → Option (List Class) → Search
slots_found size none = nothing
slots_found size (some cs) = found (slots_from 0 size cs)

-- the whole search
unfoldable pub eightbytes : ℕ → Shape → List Piece → Search
eightbytes limit shape ps = slots_found shape.size (classified limit shape ps)

-- ---- the classes that stand beside the answer

-- eight classes: one for each eightbyte, None behind them, all None where nothing is found
unfoldable pub eight_of : Option (List Class) → List Class
eight_of none = replicate 8 None
eight_of (some cs) = cs ++ replicate (8 - length cs) None

-- those of a shape
unfoldable pub classes_of : ℕ → Shape → List Piece → List Class
classes_of limit shape ps = eight_of (classified limit shape ps)

-- the slots that eight classes stand for in a shape of this size: those of the shape's eightbytes, as far as there are classes
unfoldable pub slots_of_eight : ℕ → List Class → List Slot
slots_of_eight size cs = slots_from 0 size (take (eightbytes_in size) cs)

-- the slots that eight codes stand for likewise
unfoldable pub coded_slots : ℕ → List ℕ → List Slot
coded_slots size ns = slots_of_eight size (map class_of ns)

-- ---- for the code's own functions

-- how many slots some classes have
unfoldable pub slot_count : List Class → ℕ
slot_count [] = 0
slot_count (c ∷ cs) = one_if (not (same c SseUp)) + slot_count cs
