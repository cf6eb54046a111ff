-- The classifier's answers on row 0, read in the psABI's words (REFERENCE 12): a count left is the last so many argument registers, and each slot
-- takes the next free register of its bank, in order. Which register each number of a bank is stands here, and the psABI's own lists in
-- Psabi.antt are held to it.
use Rattle.std.specs.Prelude.{ℕ, ◌+◌, ◌-◌, cond, List, [], ◌∷◌, ◌++◌, eqb, length, drop}
use Rattle.std.proofs.Math.Option.{Option}
use Rattle.std.proofs.Math.Option.Option.{none, some}
use Rattle.shape.specs.Numbers.{integer, x87_extended, quad}
use Rattle.slots.specs.declared.Slot.{Slot}
use Rattle.slots.specs.Words.{slots_read}
use Rattle.spend.specs.declared.Way as ways
use Rattle.spend.specs.Ways.{way_from}
use Rattle.spend.specs.declared.Left.{Left}
use Rattle.classify.specs.declared.Call.{Call}
use Rattle.classify.specs.declared.Answer.{Answer}
use Rattle.classify.specs.Pass.{Pass, ignore, direct, pieces, reference, memory}
use Rattle.classify.specs.Classify.{Passed}
use Rattle.psabi.specs.Psabi.{Register, rdi, rsi, rdx, rcx, r8, r9, rax, xmm0, xmm1, xmm2, xmm3, xmm4, xmm5, xmm6, xmm7, st0, Free, free, Place, place, Travels, in_registers, on_stack, by_address}

-- the integer and the float registers of a call, by number, and those that slots come back in
abbrev pub integers : List Register
integers = rdi ∷ rsi ∷ rdx ∷ rcx ∷ r8 ∷ r9 ∷ []

abbrev pub floats : List Register
floats = xmm0 ∷ xmm1 ∷ xmm2 ∷ xmm3 ∷ xmm4 ∷ xmm5 ∷ xmm6 ∷ xmm7 ∷ []

abbrev pub results : Free
results = free (rax ∷ rdx ∷ []) (xmm0 ∷ xmm1 ∷ [])

-- the registers that are free with so many left
unfoldable pub last_of : ℕ → List Register → List Register
last_of n rs = drop (length rs - n) rs

abbrev pub standing : ℕ → ℕ → Free
standing i f = free (last_of i integers) (last_of f floats)

-- ---- slots

-- the next register: one eightbyte, or the two of a Quad
abbrev pub in_next : ℕ → List Register → List Place
in_next o [] = []
in_next o (r ∷ rs) = place o r 0 ∷ []

abbrev pub in_chunks : ℕ → List Register → List Place
in_chunks o [] = []
in_chunks o (r ∷ rs) = place o r 0 ∷ place (o + 8) r 1 ∷ []

-- the two eightbytes of an x87 value
abbrev pub in_st0 : ℕ → List Place
in_st0 o = place o st0 0 ∷ place (o + 8) st0 1 ∷ []

unfoldable pub places_of : List Slot → List Register → List Register → List Place
places_of [] g v = []
places_of (s ∷ ss) g v =
    cond (eqb s.kind integer) (in_next s.offset g ++ places_of ss (drop 1 g) v)
    (cond (eqb s.kind x87_extended) (in_st0 s.offset ++ places_of ss g v)
    (cond (eqb s.kind quad) (in_chunks s.offset v ++ places_of ss g (drop 1 v))
    (in_next s.offset v ++ places_of ss g (drop 1 v))))

-- ---- ways

abbrev pub first_of : List Register → Option Register
first_of [] = none
first_of (r ∷ rs) = some r

-- a way with its slots, which take their registers from `from`; before and after are the argument registers that are free. Direct is no
-- aggregate's way, and reads as nothing
abbrev pub read_pass : Free → Free → Pass → Free → Option Travels
read_pass from before ignore after = some (in_registers [] after)
read_pass from before direct after = none
read_pass from before (pieces ss) after = some (in_registers (places_of ss from.general from.vector) after)
read_pass from before reference after = some (by_address (first_of before.general) after)
read_pass from before memory after = some (on_stack after)

abbrev pub read_in : Free → Left → Passed → Option Travels
read_in from left p = read_pass from (standing left.integer left.float) p.pass (standing p.left.integer p.left.float)

abbrev pub read_argument : Left → Passed → Option Travels
read_argument left p = read_in (standing left.integer left.float) left p

abbrev pub read_result : Left → Passed → Option Travels
read_result left p = read_in results left p

-- ---- answers, from what an operation hands back: the answer and the words of the buffer

abbrev pub pass_from : ways.Way → List Slot → Pass
pass_from ways.TheVariants.Ignore ss = ignore
pass_from ways.TheVariants.Direct ss = direct
pass_from ways.TheVariants.Pieces ss = pieces ss
pass_from ways.TheVariants.Reference ss = reference
pass_from ways.TheVariants.Memory ss = memory

abbrev pub free_at : Call → Free
free_at c = standing c.left.integer c.left.float

abbrev pub answer_read : Free → Call → Answer → List ℕ → Option Travels
answer_read from c a out =
    read_pass from (free_at c) (pass_from (way_from a.outcome.way) (slots_read a.outcome.slots out)) (free_at a.next)
