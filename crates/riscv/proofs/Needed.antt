-- Which clauses of the domain are needed: for each that is, the smallest value that keeps every clause but this one, with both answers, computed, which
-- differ. The others aren't: of a scalar's kinds and alignment, an aggregate's size above 0, its alignment, the multiple and the pieces inside the size the
-- theorem doesn't ask (Enough.antt), and a value that each alone leaves out is answered alike.
use Prim.Native.Nat.{ℕ, zero, suc, ◌+◌, ◌*◌}
use mathlib.Core.Path.{◌≡◌, refl, sym, ap, ◌∙◌}
use mathlib.Core.List.{List, [], ◌∷◌, map}
use mathlib.Core.Bool.{Bool, true, false, ◌&&◌, not}
use lib.Dec.{eqb}
use lib.ListN.{get_or}
use borrow.Author.Tests.{eqb-false}
use Rattle.shape.specs.Lists.{every}
use Rattle.shape.specs.Numbers.{integer, single, double, x87_extended}
use Rattle.shape.specs.Words.{piece}
use Rattle.shape.proofs.Lists.{same_at}
use Rattle.slots.specs.Cut.{up_to, cut}
use Rattle.slots.specs.Search.{floats_in}
use Rattle.find.specs.Find.{found_if, float_pair, fits_one, piece_slot}
use Rattle.find.specs.Matches.{matches}
use Rattle.abis.specs.Abis.{described, descriptions}
use Rattle.spend.specs.Spending.{want_of, in_slots, when_short, travel_of}
use Rattle.spend_scalar.specs.Spending.{skip_of, integer_argument, scalar_in_registers, scalar_argument, scalar_return}
use Rattle.after_dots.specs.AfterDots.{skipped_for, settled_for}
use Rattle.classify.specs.Classify as rust
use Rattle.classify.specs.Classify.{argument, variadic_argument, returns}
use Rattle.classify.specs.Spending.{argument_choice, variadic_argument_choice, return_choice, scalar_by, aggregate_by, by_rules}
use Rattle.riscv.specs.Domain.{in_order, apart}
use Rattle.riscv.specs.Riscv.{Holder, a, fa, stack, part, Place, ignored, parts, address, state, Passing, passing, by_integers, by_fields, named, unnamed, result}
use Rattle.riscv.specs.Reading.{insert, by_offset, parts_of, reads, reads_result, as_named, as_unnamed, as_result}
use Rattle.riscv.proofs.Case.{Case, by_row, by_standard, lone, several, clauses_of, all}

-- ---- a value, the clause that it breaks (its place in `clauses_of`, from 0), and both answers

pub record Outside : Type 0 where
  pub clause : ℕ
  pub case : Case
  pub row : Passing
  pub standard : Passing

abbrev outside : ℕ → Case → Passing → Passing → Outside
outside clause case row standard = record { clause = clause; case = case; row = row; standard = standard }

-- a scalar's size: more than two words go by reference; the description gives as many words as there are
abbrev three_words : Outside
three_words =
    outside 0 (lone as_named 32 8 8 integer 17 17)
    (passing (parts (part (a 0) 0 8 ∷ part (a 1) 8 8 ∷ part (a 2) 16 1 ∷ [])) (state 3 0))
    (passing (address (a 0)) (state 1 0))

abbrev others : List Outside
others =
    -- so it comes back: through an address, and in words, of which results have two
    outside 0 (lone as_result 32 8 8 integer 17 17)
    (passing (parts (part (a 0) 0 8 ∷ part (a 1) 8 8 ∷ part stack 16 1 ∷ [])) (state 0 0))
    (passing (address (a 0)) (state 1 0))
    -- no byte at all is in a register all the same
    ∷ outside 0 (lone as_named 32 8 8 integer 0 0) (passing (parts []) (state 1 0)) (passing (parts (part (a 0) 0 0 ∷ [])) (state 1 0))
    -- kinds and sizes of pieces: a slot says the format alone, so of a Single of one byte it says four
    ∷ outside 3 (several as_named 32 8 8 1 1 (piece single 1 1 0 ∷ [])) (passing (parts (part (fa 0) 0 4 ∷ [])) (state 0 1)) (passing (parts (part (fa 0) 0 1 ∷ [])) (state 0 1))
    -- the order: fields go as they stand, the description's slots as the list has them
    ∷ outside 4 (several as_named 32 8 8 8 4 (piece single 4 4 4 ∷ piece single 4 4 0 ∷ []))
    (passing (parts (part (fa 0) 4 4 ∷ part (fa 1) 0 4 ∷ [])) (state 0 2))
    (passing (parts (part (fa 0) 0 4 ∷ part (fa 1) 4 4 ∷ [])) (state 0 2))
    -- overlap: a union is never flattened
    ∷ outside 5 (several as_named 32 8 8 4 4 (piece single 4 4 0 ∷ piece single 4 4 0 ∷ []))
    (passing (parts (part (fa 0) 0 4 ∷ part (fa 1) 0 4 ∷ [])) (state 0 2))
    (passing (parts (part (a 0) 0 4 ∷ [])) (state 1 0))
    ∷ []

abbrev pub differences : List Outside
differences = three_words ∷ others

-- where both answer this
abbrev alike : ℕ → Case → Passing → Outside
alike clause case both = outside clause case both both

-- a scalar's kind: an x87 value goes in words, as one of its size does that no float register holds
abbrev x87_value : Outside
x87_value = alike 0 (lone as_named 32 8 8 x87_extended 16 16) (passing (parts (part (a 0) 0 8 ∷ part (a 1) 8 8 ∷ [])) (state 2 0))

abbrev more : List Outside
more =
    -- its alignment: both ask the same one whether the pair starts at an even register
    alike 1 (lone as_unnamed 32 7 8 integer 16 8) (passing (parts (part (a 1) 0 8 ∷ part (a 2) 8 8 ∷ [])) (state 3 0))
    -- no byte: both leave it out
    ∷ alike 0 (several as_named 32 8 8 0 1 []) (passing ignored (state 0 0))
    -- an alignment above 16, the multiple, and the pieces inside, which neither looks at. An operation refuses the last
    ∷ alike 1 (several as_unnamed 32 7 8 32 32 (piece integer 16 16 0 ∷ piece integer 16 16 16 ∷ [])) (passing (address (a 1)) (state 2 0))
    ∷ alike 2 (several as_named 32 8 8 12 8 (piece double 8 8 0 ∷ piece single 4 4 8 ∷ [])) (passing (parts (part (fa 0) 0 8 ∷ part (fa 1) 8 4 ∷ [])) (state 0 2))
    ∷ alike 6 (several as_named 32 8 8 1 1 (piece single 4 4 0 ∷ [])) (passing (parts (part (fa 0) 0 4 ∷ [])) (state 0 1))
    ∷ []

abbrev pub likenesses : List Outside
likenesses = x87_value ∷ more

-- ---- what is computed

-- the test of this number fails, and every other holds
abbrev all_but : ℕ → List Bool → Bool
all_but k [] = false
all_but zero (b ∷ bs) = not b && all bs
all_but (suc k) (b ∷ bs) = b && all_but k bs

abbrev breaks_it : Outside → Bool
breaks_it o = all_but o.clause (clauses_of o.case.arg o.case.pieces)

one_broken : (map breaks_it differences ≡ map (λ _. true) differences) × (map breaks_it likenesses ≡ map (λ _. true) likenesses)
unfolding every in_order apart
one_broken = (refl, refl)

abbrev row_answers : List Outside → Type 0
row_answers os = map (λ (o : Outside). by_row o.case) os ≡ map (λ (o : Outside). o.row) os

abbrev standard_answers : List Outside → Type 0
standard_answers os = map (λ (o : Outside). by_standard o.case) os ≡ map (λ (o : Outside). o.standard) os

row_table : row_answers differences × row_answers likenesses
unfolding argument variadic_argument returns rust.scalar rust.after_scalar rust.registers rust.apply rust.travel rust.slots_in_registers rust.short_of described descriptions matches found_if float_pair fits_one piece_slot floats_in cut up_to argument_choice variadic_argument_choice return_choice scalar_by aggregate_by by_rules travel_of in_slots when_short want_of scalar_argument scalar_in_registers integer_argument scalar_return skip_of skipped_for settled_for reads reads_result parts_of
row_table = (refl, refl)

standard_table : standard_answers differences × standard_answers likenesses
unfolding described descriptions named unnamed result by_fields by_integers apart every by_offset insert
standard_table = (refl, refl)

-- ---- the answers differ: in the first part, or in that there is one

abbrev holder_number : Holder → ℕ
holder_number (a n) = 3 * n
holder_number (fa n) = 3 * n + 1
holder_number stack = 2

abbrev place_number : Place → ℕ
place_number ignored = 0
place_number (address h) = 1
place_number (parts []) = 2
place_number (parts (p ∷ ps)) = 3 + ((holder_number p.holder * 64 + p.offset) * 64 + p.bytes)

unlike : map (λ (o : Outside). eqb (place_number o.row.place) (place_number o.standard.place)) differences ≡ map (λ _. false) differences
unlike = refl

-- so what the theorem says is false of each of these values; past the last stands the first
pub never : (n : ℕ) → by_row (get_or differences n three_words).case ≡ by_standard (get_or differences n three_words).case → ⊥
never n e =
    let o : Outside = get_or differences n three_words in
    let r = same_at (λ (o : Outside). by_row o.case) (λ (o : Outside). o.row) three_words others row_table.0 n in
    let s = same_at (λ (o : Outside). by_standard o.case) (λ (o : Outside). o.standard) three_words others standard_table.0 n in
    eqb-false _ _ (same_at (λ (o : Outside). eqb (place_number o.row.place) (place_number o.standard.place)) (λ _. false) three_words others unlike n)
    (ap (λ (p : Passing). place_number p.place) (sym r ∙ e ∙ s))
