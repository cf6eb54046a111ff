-- Why the domain has its clauses: for each clause that the theorem needs, the smallest shape that keeps every clause but this one, with row 0's
-- answer and the psABI's, which differ. All is computed.
--
-- Two clauses are not needed. A size of 0 leaves no room for a piece, and then both sides pass nothing (`nothing_at_all`). The complex flag is read
-- by one test of row 0, together with two X87 pieces, of which there is at most one: the theorem's proof doesn't use that clause.
use Prim.Native.Nat.{ℕ}
use mathlib.Core.Path.{◌≡◌, refl, sym, ap, ◌∙◌}
use mathlib.Core.Bool.{Bool, true, false, ◌&&◌, true≢false}
use mathlib.Core.List.{List, [], ◌∷◌, map}
use mathlib.Core.Option.{Option}
use mathlib.Core.Option.Option.{none, some}
use borrow.Author.Tests.{eq-eqb}
use lib.Dec.{eqb}
use lib.ListN.{length, get_or, set}
use Rattle.shape.specs.declared.Piece.{Piece}
use Rattle.shape.specs.Lists.{every, any}
use Rattle.shape.specs.Questions.{all_of, is_all_of}
use Rattle.shape.specs.Words.{piece}
use Rattle.shape.proofs.Lists.{same_at}
use Rattle.slots.specs.Search.{floats_in}
use Rattle.find.specs.Find.{found_if, floats_at, x87_stack}
use Rattle.eightbytes.specs.Class as ours
use Rattle.eightbytes.specs.Eightbytes.{cover, mark, classes_after, spoiled, mend, settled, classified, slots_from, slots_found, eightbytes}
use Rattle.eightbytes.specs.Reach.{fits}
use Rattle.abis.specs.Abis.{described, descriptions}
use Rattle.find.specs.Matches.{matches}
use Rattle.classify.specs.Classify as rust
use Rattle.classify.specs.Classify.{argument, returns}
use Rattle.psabi.specs.Psabi as psabi
use Rattle.psabi.specs.Psabi.{Free, rdi, rsi, rax, xmm0, xmm1, st0, place, Travels, in_registers, on_stack, by_address, psabi_argument, psabi_result}
use Rattle.psabi.specs.Domain.{how_many, at_each, clauses}
use Rattle.psabi.specs.Reading.{last_of, standing, places_of}
use Rattle.psabi.proofs.Examples.{shape_of, row_argument, row_result, int, x87, every_clause}

-- ---- a shape on a fresh call, the clause that it breaks (its place in `clauses`, from 0), and both answers

pub data Asked : Type 0 where
  argument_of result_of : Asked

pub record Difference : Type 0 where
  pub asked : Asked
  pub clause : ℕ
  pub size : ℕ
  pub pieces : List Piece
  pub row : Travels
  pub standard : Travels

abbrev difference : Asked → ℕ → ℕ → List Piece → Travels → Travels → Difference
difference a c size ps r s = record { asked = a; clause = c; size = size; pieces = ps; row = r; standard = s }

-- each eightbyte touched: padding names no register. Without a piece; and, below, a char aligned to 16
abbrev padding : Difference
padding = difference argument_of 5 1 [] (in_registers (place 0 rdi 0 ∷ []) (standing 5 8)) (in_registers [] (standing 6 8))

abbrev others : List Difference
others =
    difference argument_of 5 16 (int 1 0 ∷ []) (in_registers (place 0 rdi 0 ∷ place 8 rsi 0 ∷ []) (standing 4 8)) (in_registers (place 0 rdi 0 ∷ []) (standing 5 8))
    -- none touched by X87 and another kind: INTEGER wins, in both eightbytes, and in the high one
    ∷ difference argument_of 6 16 (x87 0 ∷ int 16 0 ∷ []) (on_stack (standing 6 8)) (in_registers (place 0 rdi 0 ∷ place 8 rsi 0 ∷ []) (standing 4 8))
    ∷ difference result_of 6 16 (x87 0 ∷ int 1 8 ∷ []) (by_address (some rdi) (standing 5 8)) (in_registers (place 0 st0 0 ∷ place 8 rax 0 ∷ []) (standing 6 8))
    -- at most one X87 piece: a union of two comes back in st0
    ∷ difference result_of 7 16 (x87 0 ∷ x87 0 ∷ []) (by_address (some rdi) (standing 5 8)) (in_registers (place 0 st0 0 ∷ place 8 st0 1 ∷ []) (standing 6 8))
    -- its offset a multiple of 16: an unaligned one comes back in memory
    ∷ difference result_of 8 17 (x87 1 ∷ []) (in_registers (place 1 st0 0 ∷ place 9 st0 1 ∷ []) (standing 6 8)) (by_address (some rdi) (standing 5 8))
    -- every piece inside the size: what sticks out touches no eightbyte. The Rust's definition and the standard part here; an operation refuses the
    -- shape (`accepted_inside` in Clauses.antt), so of what is accepted this clause leaves nothing out
    ∷ difference argument_of 2 1 (int 16 0 ∷ []) (on_stack (standing 6 8)) (in_registers (place 0 rdi 0 ∷ []) (standing 5 8))
    -- its alignment equal to its size: a float over two eightbytes is SSE in both
    ∷ difference argument_of 3 9 (piece 1 4 1 5 ∷ []) (in_registers (place 0 xmm0 0 ∷ place 8 xmm0 1 ∷ []) (standing 6 7)) (in_registers (place 0 xmm0 0 ∷ place 8 xmm1 0 ∷ []) (standing 6 6))
    -- its size as its kind has it: the same of one that is too wide
    ∷ difference argument_of 4 9 (piece 1 9 9 0 ∷ []) (in_registers (place 0 xmm0 0 ∷ place 8 xmm0 1 ∷ []) (standing 6 7)) (in_registers (place 0 xmm0 0 ∷ place 8 xmm1 0 ∷ []) (standing 6 6))
    ∷ []

abbrev pub differences : List Difference
differences = padding ∷ others

-- ---- what is computed

-- every clause but this one holds
abbrev clauses_of : Difference → List Bool
clauses_of d = clauses (shape_of d.size) d.pieces

abbrev all_but : Difference → List Bool
all_but d = set every_clause d.clause false

abbrev row_answer : Asked → ℕ → List Piece → Option Travels
row_answer argument_of size ps = row_argument 6 8 size ps
row_answer result_of size ps = row_result 6 8 size ps

abbrev psabi_answer : Asked → ℕ → List Piece → Travels
psabi_answer argument_of size ps = psabi_argument (standing 6 8) size ps
psabi_answer result_of size ps = psabi_result (standing 6 8) size ps

abbrev pub by_row : Difference → Option Travels
by_row d = row_answer d.asked d.size d.pieces

abbrev pub by_psabi : Difference → Travels
by_psabi d = psabi_answer d.asked d.size d.pieces

one_broken : map clauses_of differences ≡ map all_but differences
unfolding every any how_many at_each
one_broken = refl

row_answers : map by_row differences ≡ map (λ (d : Difference). some d.row) differences
unfolding argument returns rust.apply matches rust.travel rust.slots_in_registers rust.short_of described descriptions x87_stack is_all_of all_of floats_at eightbytes classified classes_after mark cover fits spoiled settled mend slots_from slots_found ours.merge ours.same ours.code found_if floats_in last_of places_of
row_answers = refl

psabi_answers : map by_psabi differences ≡ map (λ (d : Difference). d.standard) differences
unfolding psabi_argument psabi_result psabi.classified psabi.any_unaligned psabi.classes_from psabi.merged_in psabi.merge psabi.low_of psabi.high_of psabi.cleaned psabi.any_memory psabi.lone_x87_up psabi.is_one_vector psabi.all_up psabi.converted psabi.passing psabi.returning last_of
psabi_answers = refl

-- ---- the answers differ: in the way, in the number of places, or in the number of registers left

abbrev left_in : Free → List ℕ
left_in l = length l.general ∷ length l.vector ∷ []

abbrev sketch : Travels → List ℕ
sketch (in_registers ps l) = 0 ∷ length ps ∷ left_in l
sketch (on_stack l) = 1 ∷ 0 ∷ left_in l
sketch (by_address r l) = 2 ∷ 0 ∷ left_in l

abbrev alike : List ℕ → List ℕ → Bool
alike a b = ((eqb (get_or a 0 0) (get_or b 0 0) && eqb (get_or a 1 0) (get_or b 1 0)) && eqb (get_or a 2 0) (get_or b 2 0)) && eqb (get_or a 3 0) (get_or b 3 0)

alike_self : (a : List ℕ) → alike a a ≡ true
alike_self a = rw (eq-eqb (get_or a 0 0) (get_or a 0 0) refl, eq-eqb (get_or a 1 0) (get_or a 1 0) refl, eq-eqb (get_or a 2 0) (get_or a 2 0) refl, eq-eqb (get_or a 3 0) (get_or a 3 0) refl)

abbrev are_alike : Difference → Bool
are_alike d = alike (sketch d.row) (sketch d.standard)

unlike : map are_alike differences ≡ map (λ _. false) differences
unfolding last_of
unlike = refl

abbrev got : Option Travels → Travels
got none = on_stack (standing 0 0)
got (some t) = t

-- so what the theorem says is false of each of these shapes; past the last stands the first
pub never : (n : ℕ) → by_row (get_or differences n padding) ≡ some (by_psabi (get_or differences n padding)) → ⊥
never n e =
    let d : Difference = get_or differences n padding in
    let r = same_at by_row (λ (d : Difference). some d.row) padding others row_answers n in
    let s = same_at by_psabi (λ (d : Difference). d.standard) padding others psabi_answers n in
    let x : d.row ≡ d.standard = ap got (sym r ∙ e ∙ ap some s) in
    true≢false
    (sym (alike_self (sketch d.row))
    ∙ ap (λ t. alike (sketch d.row) (sketch t)) x
    ∙ same_at are_alike (λ _. false) padding others unlike n)

-- ---- the clause on size 0, and a mixed low eightbyte, where the two agree

nothing_at_all : (i f : ℕ) → (row_argument i f 0 [] ≡ some (psabi_argument (standing i f) 0 [])) × (row_result i f 0 [] ≡ some (psabi_result (standing i f) 0 []))
unfolding argument returns rust.apply matches rust.travel described descriptions found_if psabi_argument psabi_result psabi.classified psabi.any_unaligned psabi.classes_from psabi.cleaned psabi.any_memory psabi.lone_x87_up psabi.is_one_vector psabi.converted psabi.passing psabi.returning
nothing_at_all i f = (refl, refl)

-- INTEGER wins over X87 and leaves the X87UP above it alone: clean-up (b)
mixed_low : row_result 6 8 16 (x87 0 ∷ int 1 0 ∷ []) ≡ some (psabi_result (standing 6 8) 16 (x87 0 ∷ int 1 0 ∷ []))
unfolding returns rust.apply matches rust.travel rust.slots_in_registers described descriptions x87_stack is_all_of all_of floats_at eightbytes classified classes_after mark cover fits spoiled settled mend slots_from slots_found ours.merge ours.same ours.code found_if last_of places_of psabi_result psabi.classified psabi.any_unaligned psabi.classes_from psabi.merged_in psabi.merge psabi.low_of psabi.high_of psabi.cleaned psabi.any_memory psabi.lone_x87_up psabi.is_one_vector psabi.all_up psabi.converted psabi.returning
mixed_low = refl
