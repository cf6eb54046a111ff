-- Which clauses of the domain are needed: for each of six a shape that breaks it alone, with both answers, computed, which differ. Nonzero sizes, no
-- holes and the end at the size are not needed: `argument_agrees` and `returns_agrees` do without them, since a member that isn't of the one
-- floating-point type and a size that isn't that many times the type's make no HFA on either side.
use Prim.Native.Nat.{ℕ, zero, suc, ◌+◌, ◌*◌}
use mathlib.Core.Path.{◌≡◌, refl, ap}
use mathlib.Core.List.{List, [], ◌∷◌}
use mathlib.Core.Bool.{Bool, true, false, ◌&&◌, not}
use mathlib.Core.Option.{Option}
use mathlib.Core.Option.Option.{none, some}
use lib.Dec.{leb, ltb, eqb}
use borrow.Author.Tests.{ltb-true, leb-true, eqb-true, eqb-false}
use Rattle.shape.proofs.Bools.{both_true}
use Rattle.shape.specs.declared.Piece.{Piece}
use Rattle.shape.specs.declared.Shape.{Shape}
use Rattle.shape.specs.Lists.{every, any}
use Rattle.shape.specs.Numbers.{integer, single, x87_extended, quad}
use Rattle.shape.specs.Words.{piece}
use Rattle.slots.specs.Words.{integer_slot, float_slot}
use Rattle.slots.specs.Search.{floats_in}
use Rattle.slots.specs.Cut.{up_to, cut}
use Rattle.find.specs.Find.{found_if, floats_at, all_same, is_homogeneous, homogeneous}
use Rattle.abis.specs.Abis.{described, descriptions}
use Rattle.find.specs.Matches.{matches}
use Rattle.classify.specs.Pass.{ignore, pieces}
use Rattle.classify.specs.Classify.{Passed, passed, counts, short_of, slots_in_registers, travel, apply, argument}
use Rattle.aapcs64.specs.Aapcs64.{Register, v, x, part, Place, registers, stack, copy, copy_on_stack, state, Passing, passing, all_of, insert, addressable, count, is_hfa_of, is_hfa, member_parts, word_parts, stage_c, parameter}
use Rattle.aapcs64.specs.Reading.{most_align, parts_of, reads, reads_passed}
use Rattle.aapcs64.specs.Domain.{is_usual, in_order, apart, furthest, below, covered, Domain}
use Rattle.aapcs64.proofs.Case.{Case, on, shaped, row_argument, standard_argument, Same, Allowed}

-- ---- the clauses as a list of tests, in the domain's order

abbrev pub tests : Shape → List Piece → List Bool
tests shape ps =
    ltb 0 shape.size
    ∷ leb shape.align 8
    ∷ every (λ (p : Piece). leb p.align 8) ps
    ∷ every is_usual ps
    ∷ every (λ (p : Piece). ltb 0 p.size) ps
    ∷ in_order ps
    ∷ apart ps
    ∷ covered ps
    ∷ eqb (furthest ps) shape.size
    ∷ []

abbrev pub all : List Bool → Bool
all [] = true
all (b ∷ bs) = b && all bs

-- the test of this number fails, and every other holds
abbrev pub all_but : ℕ → List Bool → Bool
all_but k [] = false
all_but zero (b ∷ bs) = not b && all bs
all_but (suc k) (b ∷ bs) = b && all_but k bs

-- the tests are the domain
pub tests_are_domain : (shape : Shape) (ps : List Piece) → all (tests shape ps) ≡ true → Domain shape ps
tests_are_domain shape ps e =
    let a = both_true (ltb 0 shape.size) _ e in
    let b = both_true (leb shape.align 8) _ a.1 in
    let c = both_true (every (λ (p : Piece). leb p.align 8) ps) _ b.1 in
    let d = both_true (every is_usual ps) _ c.1 in
    let f = both_true (every (λ (p : Piece). ltb 0 p.size) ps) _ d.1 in
    let g = both_true (in_order ps) _ f.1 in
    let h = both_true (apart ps) _ g.1 in
    let i = both_true (covered ps) _ h.1 in
    let j = both_true (eqb (furthest ps) shape.size) _ i.1 in
    record {
      some = ltb-true _ _ a.0;
      shape_align = leb-true _ _ b.0;
      aligns = c.0;
      usual = d.0;
      sizes = f.0;
      order = g.0;
      no_overlap = h.0;
      no_holes = i.0;
      ends = eqb-true _ _ j.0;
    }

-- ---- a case that only one clause leaves out, and its two answers

-- a number for the first part of a place: enough to tell these answers apart
abbrev pub part_number : Register → ℕ → ℕ
part_number (v n) offset = 4 + 2 * (n + 8 * offset)
part_number (x n) offset = 5 + 2 * (n + 8 * offset)

abbrev pub place_number : Place → ℕ
place_number (registers []) = 1
place_number (registers (p ∷ ps)) = part_number p.register p.offset
place_number stack = 2
place_number (copy r) = part_number r 0
place_number copy_on_stack = 3

abbrev pub first : Option Passing → ℕ
first none = 0
first (some p) = place_number p.place

pub record Differs (clause : ℕ) (k : Case) (row : Passed) (standard : Passing) : Type 0 where
  pub only : all_but clause (tests k.shape k.pieces) ≡ true
  pub allowed : Allowed k
  pub row_is : row_argument k ≡ row
  pub standard_is : standard_argument k ≡ standard
  pub differ : eqb (first (reads_passed (counts k.integers k.floats) row)) (first (some standard)) ≡ false

-- so the theorem would be false without that clause
pub breaks : {clause : ℕ} {k : Case} {row : Passed} {standard : Passing} → Differs clause k row standard → Same k → ⊥
breaks {k = k} {row = row} {standard = standard} d e =
    let s : reads_passed (counts k.integers k.floats) row ≡ some standard = rw (d.row_is, d.standard_is) at e in
    eqb-false _ _ d.differ (ap first s)

-- size 0: the description leaves it out. The standard leaves nothing out: it goes in no register
abbrev pub empty : Case
empty = on (shaped 0 1) [] 1 8 8

-- the shape's alignment: a composite whose member is a composite of two 8-byte integers, aligned to 16, starts at an even register
abbrev pub even : Case
even = on (shaped 16 16) (piece integer 8 8 0 ∷ piece integer 8 8 8 ∷ []) 16 7 8

-- the pieces' alignments: so does an integer of 16 bytes
abbrev pub even_piece : Case
even_piece = on (shaped 16 8) (piece integer 16 16 0 ∷ []) 16 7 8

-- a float's alignment: two Singles of which one is aligned to 1 are an HFA by the standard; the description compares alignments
abbrev pub aligned_to_1 : Case
aligned_to_1 = on (shaped 8 4) (piece single 4 4 0 ∷ piece single 4 1 4 ∷ []) 4 8 8

-- a float's size: one byte is no HFA by the standard; the description finds a Single of one byte
abbrev pub short_single : Case
short_single = on (shaped 1 1) (piece single 1 1 0 ∷ []) 1 8 8

-- other formats: the standard has no x87 type, so this is no HFA
abbrev pub x87 : Case
x87 = on (shaped 16 8) (piece x87_extended 16 8 0 ∷ []) 8 8 8

-- the offset order: the standard's members go by address, the description's slots as the list has them
abbrev pub backwards : Case
backwards = on (shaped 8 4) (piece single 4 4 4 ∷ piece single 4 4 0 ∷ []) 4 8 8

-- overlap: a union of two Singles is an HFA of one member by the standard
abbrev pub union : Case
union = on (shaped 4 4) (piece single 4 4 0 ∷ piece single 4 4 0 ∷ []) 4 8 8

pub record Needed : Type 0 where
  pub some : Differs 0 empty (passed ignore (counts 8 8)) (passing (registers []) (state 0 0))
  pub shape_align : Differs 1 even (passed (pieces (integer_slot 0 8 ∷ integer_slot 8 8 ∷ [])) (counts 5 8)) (passing (registers (part (x 2) 0 8 ∷ part (x 3) 8 8 ∷ [])) (state 4 0))
  pub aligns : Differs 2 even_piece (passed (pieces (integer_slot 0 8 ∷ integer_slot 8 8 ∷ [])) (counts 5 8)) (passing (registers (part (x 2) 0 8 ∷ part (x 3) 8 8 ∷ [])) (state 4 0))
  pub float_align : Differs 3 aligned_to_1 (passed (pieces (integer_slot 0 8 ∷ [])) (counts 7 8)) (passing (registers (part (v 0) 0 4 ∷ part (v 1) 4 4 ∷ [])) (state 0 2))
  pub float_size : Differs 3 short_single (passed (pieces (float_slot single 0 ∷ [])) (counts 8 7)) (passing (registers (part (x 0) 0 1 ∷ [])) (state 1 0))
  pub float_format : Differs 3 x87 (passed (pieces (float_slot x87_extended 0 ∷ [])) (counts 8 7)) (passing (registers (part (x 0) 0 8 ∷ part (x 1) 8 8 ∷ [])) (state 2 0))
  pub order : Differs 5 backwards (passed (pieces (float_slot single 4 ∷ float_slot single 0 ∷ [])) (counts 8 6)) (passing (registers (part (v 0) 0 4 ∷ part (v 1) 4 4 ∷ [])) (state 0 2))
  pub no_overlap : Differs 6 union (passed (pieces (integer_slot 0 4 ∷ [])) (counts 7 8)) (passing (registers (part (v 0) 0 4 ∷ [])) (state 0 1))

pub needed : Needed
unfolding every any in_order apart furthest below most_align argument described descriptions apply matches found_if travel slots_in_registers short_of homogeneous is_homogeneous all_same floats_at cut up_to floats_in parameter stage_c is_hfa is_hfa_of all_of count addressable insert member_parts word_parts reads parts_of
needed =
    record {
      some = record { only = refl; allowed = refl; row_is = refl; standard_is = refl; differ = refl };
      shape_align = record { only = refl; allowed = refl; row_is = refl; standard_is = refl; differ = refl };
      aligns = record { only = refl; allowed = refl; row_is = refl; standard_is = refl; differ = refl };
      float_align = record { only = refl; allowed = refl; row_is = refl; standard_is = refl; differ = refl };
      float_size = record { only = refl; allowed = refl; row_is = refl; standard_is = refl; differ = refl };
      float_format = record { only = refl; allowed = refl; row_is = refl; standard_is = refl; differ = refl };
      order = record { only = refl; allowed = refl; row_is = refl; standard_is = refl; differ = refl };
      no_overlap = record { only = refl; allowed = refl; row_is = refl; standard_is = refl; differ = refl };
    }

-- ---- the three clauses that aren't needed, and the one part of another: a case that each alone leaves out, on which the answers are the same

pub record Alike (clause : ℕ) (k : Case) (row : Passed) (standard : Passing) : Type 0 where
  pub only : all_but clause (tests k.shape k.pieces) ≡ true
  pub allowed : Allowed k
  pub row_is : row_argument k ≡ row
  pub standard_is : standard_argument k ≡ standard
  pub same : Same k

-- nonzero sizes: an integer of no bytes before a Single is no member of its type
abbrev pub no_bytes : Case
no_bytes = on (shaped 4 4) (piece integer 0 1 0 ∷ piece single 4 4 0 ∷ []) 4 8 8

-- holes: two Singles four bytes apart don't fill the size
abbrev pub hole : Case
hole = on (shaped 12 4) (piece single 4 4 0 ∷ piece single 4 4 8 ∷ []) 4 8 8

-- the end: neither does a Single with four bytes behind it
abbrev pub behind : Case
behind = on (shaped 8 8) (piece single 4 4 0 ∷ []) 4 8 8

-- floats but Single and Double: a Quad that isn't aligned to 16 is an HFA of one member on both sides
abbrev pub quads : Case
quads = on (shaped 16 8) (piece quad 16 8 0 ∷ []) 8 8 8

pub record Unneeded : Type 0 where
  pub sizes : Alike 4 no_bytes (passed (pieces (integer_slot 0 4 ∷ [])) (counts 7 8)) (passing (registers (part (x 0) 0 4 ∷ [])) (state 1 0))
  pub no_holes : Alike 7 hole (passed (pieces (integer_slot 0 8 ∷ integer_slot 8 4 ∷ [])) (counts 6 8)) (passing (registers (part (x 0) 0 8 ∷ part (x 1) 8 4 ∷ [])) (state 2 0))
  pub ends : Alike 8 behind (passed (pieces (integer_slot 0 8 ∷ [])) (counts 7 8)) (passing (registers (part (x 0) 0 8 ∷ [])) (state 1 0))
  pub format : Alike 3 quads (passed (pieces (float_slot quad 0 ∷ [])) (counts 8 7)) (passing (registers (part (v 0) 0 16 ∷ [])) (state 0 1))

pub unneeded : Unneeded
unfolding every any in_order apart furthest below most_align argument described descriptions apply matches found_if travel slots_in_registers short_of homogeneous is_homogeneous all_same floats_at cut up_to floats_in parameter stage_c is_hfa is_hfa_of all_of count addressable insert member_parts word_parts reads parts_of
unneeded =
    record {
      sizes = record { only = refl; allowed = refl; row_is = refl; standard_is = refl; same = refl };
      no_holes = record { only = refl; allowed = refl; row_is = refl; standard_is = refl; same = refl };
      ends = record { only = refl; allowed = refl; row_is = refl; standard_is = refl; same = refl };
      format = record { only = refl; allowed = refl; row_is = refl; standard_is = refl; same = refl };
    }
