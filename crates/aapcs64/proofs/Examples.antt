-- The domain has shapes for every way that an aggregate can go: each of these is in it, with both answers as an argument and as a result, computed.
-- The last table is of fundamental types, of which the standard's rules are stated and no theorem is: they leave the same registers.
use Prim.Native.Nat.{ℕ, ◌-◌}
use mathlib.Core.Path.{◌≡◌, refl}
use mathlib.Core.List.{[], ◌∷◌}
use mathlib.Core.Bool.{true}
use Rattle.shape.specs.declared.Arg.TheVariants as args
use Rattle.shape.specs.declared.Scalar.{Scalar}
use Rattle.shape.specs.Lists.{every, any}
use Rattle.shape.specs.Numbers.{integer, single, double}
use Rattle.shape.specs.Words.{piece, scalar}
use Rattle.slots.specs.Words.{integer_slot, float_slot}
use Rattle.slots.specs.Search.{floats_in}
use Rattle.slots.specs.Cut.{up_to, cut}
use Rattle.find.specs.Find.{found_if, floats_at, all_same, is_homogeneous, homogeneous}
use Rattle.abis.specs.Abis.{described, descriptions}
use Rattle.spend.specs.declared.Left.{Left}
use Rattle.find.specs.Matches.{matches}
use Rattle.classify.specs.Pass.{direct, pieces, reference, memory}
use Rattle.classify.specs.Classify.{Passed, passed, counts, short_of, slots_in_registers, travel, apply, after_scalar, argument, returns}
use Rattle.classify.specs.Classify as classify
use Rattle.aapcs64.specs.Aapcs64.{Fundamental, integral, floating, fundamental, v, x, part, registers, stack, copy, copy_on_stack, state, Passing, passing, all_of, insert, addressable, count, is_hfa_of, is_hfa, member_parts, word_parts, stage_c, parameter, comes, through_x8, Returning, returning, result}
use Rattle.aapcs64.specs.Aapcs64 as precision
use Rattle.aapcs64.specs.Reading.{most_align, state_of, parts_of, reads, reads_result}
use Rattle.aapcs64.specs.Domain.{in_order, apart, furthest, below, Domain}
use Rattle.aapcs64.proofs.Case.{Case, on, shaped, row_argument, row_result, standard_argument, standard_result, Same, SameResult, Allowed}
use Rattle.aapcs64.proofs.Needed.{tests, all, tests_are_domain}

pub record Example (k : Case) (row : Passed) (standard : Passing) (row_back : Passed) (standard_back : Returning) : Type 0 where
  pub inside : all (tests k.shape k.pieces) ≡ true
  pub allowed : Allowed k
  pub row_is : row_argument k ≡ row
  pub standard_is : standard_argument k ≡ standard
  pub same : Same k
  pub row_result_is : row_result k ≡ row_back
  pub standard_result_is : standard_result k ≡ standard_back
  pub same_result : SameResult k

pub in_domain : {k : Case} {row : Passed} {standard : Passing} {row_back : Passed} {standard_back : Returning}
    → Example k row standard row_back standard_back → Domain k.shape k.pieces
in_domain {k = k} e = tests_are_domain k.shape k.pieces e.inside

-- an HFA of one member
abbrev pub one_double : Case
one_double = on (shaped 8 8) (piece double 8 8 0 ∷ []) 8 8 8

-- of three, after two others
abbrev pub three_singles : Case
three_singles = on (shaped 12 4) (piece single 4 4 0 ∷ piece single 4 4 4 ∷ piece single 4 4 8 ∷ []) 4 8 6

-- of four, which is larger than 16 bytes
abbrev pub four_doubles : Case
four_doubles = on (shaped 32 8) (piece double 8 8 0 ∷ piece double 8 8 8 ∷ piece double 8 8 16 ∷ piece double 8 8 24 ∷ []) 8 8 8

-- an HFA that is short of v registers: the stack, and NSRN becomes 8
abbrev pub short_of_v : Case
short_of_v = on (shaped 24 8) (piece double 8 8 0 ∷ piece double 8 8 8 ∷ piece double 8 8 16 ∷ []) 8 8 2

-- one member too many: the address of a copy, and a result through x8
abbrev pub five_singles : Case
five_singles = on (shaped 20 4) (piece single 4 4 0 ∷ piece single 4 4 4 ∷ piece single 4 4 8 ∷ piece single 4 4 12 ∷ piece single 4 4 16 ∷ []) 4 8 8

-- 8 bytes of integers
abbrev pub eight_bytes : Case
eight_bytes = on (shaped 8 4) (piece integer 4 4 0 ∷ piece integer 4 4 4 ∷ []) 4 8 8

-- 16 bytes of integers, from an odd register on
abbrev pub sixteen_bytes : Case
sixteen_bytes = on (shaped 16 8) (piece integer 8 8 0 ∷ piece integer 8 8 8 ∷ []) 8 7 8

-- 12 bytes, an integer and a Single: the last register has four of them
abbrev pub mixed : Case
mixed = on (shaped 12 8) (piece integer 8 8 0 ∷ piece single 4 4 8 ∷ []) 8 8 8

-- short of x registers: the stack, and NGRN becomes 8
abbrev pub short_of_x : Case
short_of_x = on (shaped 16 8) (piece integer 8 8 0 ∷ piece integer 8 8 8 ∷ []) 8 1 8

-- larger than 16 bytes: the address of a copy
abbrev pub large : Case
large = on (shaped 24 8) (piece integer 8 8 0 ∷ piece integer 8 8 8 ∷ piece integer 8 8 16 ∷ []) 8 3 8

-- and with no x register left, that address is on the stack
abbrev pub large_without_x : Case
large_without_x = on (shaped 24 8) (piece integer 8 8 0 ∷ piece integer 8 8 8 ∷ piece integer 8 8 16 ∷ []) 8 0 8

pub record Examples : Type 0 where
  pub one_double_is : Example one_double (passed (pieces (float_slot double 0 ∷ [])) (counts 8 7)) (passing (registers (part (v 0) 0 8 ∷ [])) (state 0 1)) (passed (pieces (float_slot double 0 ∷ [])) (counts 8 8)) (returning (comes (part (v 0) 0 8 ∷ [])) (state 0 0))
  pub three_singles_is : Example three_singles (passed (pieces (float_slot single 0 ∷ float_slot single 4 ∷ float_slot single 8 ∷ [])) (counts 8 3)) (passing (registers (part (v 2) 0 4 ∷ part (v 3) 4 4 ∷ part (v 4) 8 4 ∷ [])) (state 0 5)) (passed (pieces (float_slot single 0 ∷ float_slot single 4 ∷ float_slot single 8 ∷ [])) (counts 8 6)) (returning (comes (part (v 0) 0 4 ∷ part (v 1) 4 4 ∷ part (v 2) 8 4 ∷ [])) (state 0 2))
  pub four_doubles_is : Example four_doubles (passed (pieces (float_slot double 0 ∷ float_slot double 8 ∷ float_slot double 16 ∷ float_slot double 24 ∷ [])) (counts 8 4)) (passing (registers (part (v 0) 0 8 ∷ part (v 1) 8 8 ∷ part (v 2) 16 8 ∷ part (v 3) 24 8 ∷ [])) (state 0 4)) (passed (pieces (float_slot double 0 ∷ float_slot double 8 ∷ float_slot double 16 ∷ float_slot double 24 ∷ [])) (counts 8 8)) (returning (comes (part (v 0) 0 8 ∷ part (v 1) 8 8 ∷ part (v 2) 16 8 ∷ part (v 3) 24 8 ∷ [])) (state 0 0))
  pub short_of_v_is : Example short_of_v (passed memory (counts 8 0)) (passing stack (state 0 8)) (passed (pieces (float_slot double 0 ∷ float_slot double 8 ∷ float_slot double 16 ∷ [])) (counts 8 2)) (returning (comes (part (v 0) 0 8 ∷ part (v 1) 8 8 ∷ part (v 2) 16 8 ∷ [])) (state 0 6))
  pub five_singles_is : Example five_singles (passed reference (counts 7 8)) (passing (copy (x 0)) (state 1 0)) (passed reference (counts 8 8)) (returning through_x8 (state 0 0))
  pub eight_bytes_is : Example eight_bytes (passed (pieces (integer_slot 0 8 ∷ [])) (counts 7 8)) (passing (registers (part (x 0) 0 8 ∷ [])) (state 1 0)) (passed (pieces (integer_slot 0 8 ∷ [])) (counts 8 8)) (returning (comes (part (x 0) 0 8 ∷ [])) (state 0 0))
  pub sixteen_bytes_is : Example sixteen_bytes (passed (pieces (integer_slot 0 8 ∷ integer_slot 8 8 ∷ [])) (counts 5 8)) (passing (registers (part (x 1) 0 8 ∷ part (x 2) 8 8 ∷ [])) (state 3 0)) (passed (pieces (integer_slot 0 8 ∷ integer_slot 8 8 ∷ [])) (counts 7 8)) (returning (comes (part (x 0) 0 8 ∷ part (x 1) 8 8 ∷ [])) (state 1 0))
  pub mixed_is : Example mixed (passed (pieces (integer_slot 0 8 ∷ integer_slot 8 4 ∷ [])) (counts 6 8)) (passing (registers (part (x 0) 0 8 ∷ part (x 1) 8 4 ∷ [])) (state 2 0)) (passed (pieces (integer_slot 0 8 ∷ integer_slot 8 4 ∷ [])) (counts 8 8)) (returning (comes (part (x 0) 0 8 ∷ part (x 1) 8 4 ∷ [])) (state 0 0))
  pub short_of_x_is : Example short_of_x (passed memory (counts 0 8)) (passing stack (state 8 0)) (passed (pieces (integer_slot 0 8 ∷ integer_slot 8 8 ∷ [])) (counts 1 8)) (returning (comes (part (x 0) 0 8 ∷ part (x 1) 8 8 ∷ [])) (state 7 0))
  pub large_is : Example large (passed reference (counts 2 8)) (passing (copy (x 5)) (state 6 0)) (passed reference (counts 3 8)) (returning through_x8 (state 5 0))
  pub large_without_x_is : Example large_without_x (passed reference (counts 0 8)) (passing copy_on_stack (state 8 0)) (passed reference (counts 0 8)) (returning through_x8 (state 8 0))

pub examples : Examples
unfolding every any in_order apart furthest below most_align argument returns described descriptions apply matches found_if travel slots_in_registers short_of homogeneous is_homogeneous all_same floats_at cut up_to floats_in parameter stage_c is_hfa is_hfa_of all_of count addressable insert member_parts word_parts result reads reads_result parts_of
examples =
    record {
      one_double_is = record { inside = refl; allowed = refl; row_is = refl; standard_is = refl; same = refl; row_result_is = refl; standard_result_is = refl; same_result = refl };
      three_singles_is = record { inside = refl; allowed = refl; row_is = refl; standard_is = refl; same = refl; row_result_is = refl; standard_result_is = refl; same_result = refl };
      four_doubles_is = record { inside = refl; allowed = refl; row_is = refl; standard_is = refl; same = refl; row_result_is = refl; standard_result_is = refl; same_result = refl };
      short_of_v_is = record { inside = refl; allowed = refl; row_is = refl; standard_is = refl; same = refl; row_result_is = refl; standard_result_is = refl; same_result = refl };
      five_singles_is = record { inside = refl; allowed = refl; row_is = refl; standard_is = refl; same = refl; row_result_is = refl; standard_result_is = refl; same_result = refl };
      eight_bytes_is = record { inside = refl; allowed = refl; row_is = refl; standard_is = refl; same = refl; row_result_is = refl; standard_result_is = refl; same_result = refl };
      sixteen_bytes_is = record { inside = refl; allowed = refl; row_is = refl; standard_is = refl; same = refl; row_result_is = refl; standard_result_is = refl; same_result = refl };
      mixed_is = record { inside = refl; allowed = refl; row_is = refl; standard_is = refl; same = refl; row_result_is = refl; standard_result_is = refl; same_result = refl };
      short_of_x_is = record { inside = refl; allowed = refl; row_is = refl; standard_is = refl; same = refl; row_result_is = refl; standard_result_is = refl; same_result = refl };
      large_is = record { inside = refl; allowed = refl; row_is = refl; standard_is = refl; same = refl; row_result_is = refl; standard_result_is = refl; same_result = refl };
      large_without_x_is = record { inside = refl; allowed = refl; row_is = refl; standard_is = refl; same = refl; row_result_is = refl; standard_result_is = refl; same_result = refl };
    }

-- ---- fundamental types

pub record ScalarExample (s : Scalar) (type : Fundamental) (I F : ℕ) (left : Left) (standard : Passing) : Type 0 where
  pub row_is : argument (described 1) (counts I F) (args.Scalar s) [] ≡ passed direct left
  pub standard_is : stage_c (state (8 - I) (8 - F)) (fundamental type) ≡ standard
  pub same : state_of left ≡ standard.next

pub record ScalarExamples : Type 0 where
  -- an integer of 16 bytes starts at an even register, by C.10 and C.11; by C.13 it takes the last register away
  pub even : ScalarExample (scalar integer 16 16) (integral 16) 7 8 (counts 4 8) (passing (registers (part (x 2) 0 8 ∷ part (x 3) 8 8 ∷ [])) (state 4 0))
  pub last : ScalarExample (scalar integer 16 16) (integral 16) 1 8 (counts 0 8) (passing stack (state 8 0))
  -- C.9 and C.17
  pub eight : ScalarExample (scalar integer 8 8) (integral 8) 1 8 (counts 0 8) (passing (registers (part (x 7) 0 8 ∷ [])) (state 8 0))
  pub ninth : ScalarExample (scalar integer 8 8) (integral 8) 0 8 (counts 0 8) (passing stack (state 8 0))
  -- C.1 and C.6
  pub float : ScalarExample (scalar double 8 8) (floating precision.double) 8 1 (counts 8 0) (passing (registers (part (v 7) 0 8 ∷ [])) (state 0 8))
  pub ninth_float : ScalarExample (scalar double 8 8) (floating precision.double) 8 0 (counts 8 0) (passing stack (state 0 8))

pub scalar_examples : ScalarExamples
unfolding argument classify.scalar after_scalar classify.registers described descriptions stage_c
scalar_examples =
    record {
      even = record { row_is = refl; standard_is = refl; same = refl };
      last = record { row_is = refl; standard_is = refl; same = refl };
      eight = record { row_is = refl; standard_is = refl; same = refl };
      ninth = record { row_is = refl; standard_is = refl; same = refl };
      float = record { row_is = refl; standard_is = refl; same = refl };
      ninth_float = record { row_is = refl; standard_is = refl; same = refl };
    }
