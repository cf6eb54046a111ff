-- Lists to look at (REFERENCE 15.5): for each, the counts left and the stack offset that it starts from, its scalars, and where each stands.
use Rattle.std.specs.Prelude.{ℕ, suc, List, [], ◌∷◌, replicate}
use Rattle.shape.specs.declared.Scalar.{Scalar}
use Rattle.shape.specs.Numbers.{integer, double, x87_extended, quad}
use Rattle.shape.specs.Words.{scalar}
use Rattle.classify.specs.Classify.{counts}
use Rattle.classify.specs.Answers.{call_with}
use Rattle.varargs.specs.declared.Offsets.{Offsets}
use Rattle.varargs.specs.Lists.{Located, area_number, save_bytes, located, Shown}
use Rattle.placement.specs.Caller.{Machine, Value, State, saved, place_all}
use Rattle.placement.specs.Back.{offsets_of, readings}

pub record Example : Type 0 where
  pub integers : ℕ
  pub floats : ℕ
  pub stack : ℕ
  pub scalars : List Scalar
  -- of each: the area (1 the save area, 2 the overflow area), the start, and the integer, the float and the overflow offset after it
  pub found : List (List ℕ)

abbrev word : Scalar
word = scalar integer 8 8

abbrev pair : Scalar
pair = scalar integer 16 16

abbrev a_double : Scalar
a_double = scalar double 8 8

abbrev an_x87 : Scalar
an_x87 = scalar x87_extended 16 16

abbrev a_quad : Scalar
a_quad = scalar quad 16 16

abbrev at : ℕ → ℕ → ℕ → ℕ → ℕ → List ℕ
at area start integer float overflow = area ∷ start ∷ integer ∷ float ∷ overflow ∷ []

abbrev pub examples : List Example
examples =
    -- nine Doubles: the ninth finds no float place
    record {
      integers = 6;
      floats = 8;
      stack = 0;
      scalars = replicate 9 a_double;
      found =
          at 1 48 0 64 0 ∷ at 1 64 0 80 0 ∷ at 1 80 0 96 0 ∷ at 1 96 0 112 0 ∷ at 1 112 0 128 0 ∷ at 1 128 0 144 0 ∷ at 1 144 0 160 0 ∷ at 1 160 0 176 0 ∷ at 2 0 0 176 8 ∷ [];
    }
    -- six integers, and then one of 16 and one of 8, which find no place
    ∷ record {
      integers = 6;
      floats = 8;
      stack = 0;
      scalars = word ∷ word ∷ word ∷ word ∷ word ∷ word ∷ pair ∷ word ∷ [];
      found =
          at 1 0 8 48 0 ∷ at 1 8 16 48 0 ∷ at 1 16 24 48 0 ∷ at 1 24 32 48 0 ∷ at 1 32 40 48 0 ∷ at 1 40 48 48 0 ∷ at 2 0 48 48 16 ∷ at 2 16 48 48 24 ∷ [];
    }
    -- one integer place left: an integer of 16 leaves it to the next of 8
    ∷ record { integers = 1; floats = 8; stack = 0; scalars = pair ∷ word ∷ []; found = at 2 0 40 48 16 ∷ at 1 40 48 48 16 ∷ [] }
    -- an integer of 8 in the overflow area before a Quad: a hole of 8
    ∷ record { integers = 0; floats = 0; stack = 0; scalars = word ∷ a_quad ∷ []; found = at 2 0 48 176 8 ∷ at 2 16 48 176 32 ∷ [] }
    -- an X87 has no place, whatever is left
    ∷ record { integers = 6; floats = 8; stack = 0; scalars = an_x87 ∷ a_double ∷ word ∷ []; found = at 2 0 0 48 16 ∷ at 1 48 0 64 16 ∷ at 1 0 8 64 16 ∷ [] }
    -- named parameters stand in the overflow area's first 8 and first 24 bytes
    ∷ record { integers = 0; floats = 0; stack = 8; scalars = a_quad ∷ word ∷ []; found = at 2 16 48 176 32 ∷ at 2 32 48 176 40 ∷ [] }
    ∷ record { integers = 0; floats = 0; stack = 24; scalars = word ∷ an_x87 ∷ []; found = at 2 24 48 176 32 ∷ at 2 32 48 176 48 ∷ [] }
    ∷ []

-- ---- what the reader says, with an overflow area of 64 bytes

abbrev numbers : Located → List ℕ
numbers l = at (area_number l.area) l.start l.next.integer l.next.float l.next.overflow

unfoldable pub places : Offsets → List Scalar → List (List ℕ)
places offsets [] = []
places offsets (s ∷ ss) = numbers (located save_bytes 64 offsets s) ∷ places (located save_bytes 64 offsets s).next ss

-- ---- and what is read where the caller placed it: the bytes of the values are their numbers, from 1, in a machine of zeros

abbrev zeros : Machine
zeros = record { integers = replicate 6 (replicate 8 0); floats = replicate 8 (replicate 16 0); area = replicate 64 0 }

abbrev pub state_of : Example → State
state_of e = record { machine = zeros; call = call_with 0 (counts e.integers e.floats) e.stack }

unfoldable pub numbered : ℕ → List Scalar → List Value
numbered n [] = []
numbered n (s ∷ ss) = record { scalar = s; bytes = replicate s.size n } ∷ numbered (suc n) ss

abbrev pub values_of : Example → List Value
values_of e = numbered 1 e.scalars

abbrev pub reads_of : Example → List Shown
reads_of e =
    let to : State = place_all (state_of e) (values_of e) in
    readings (saved to.machine) to.machine.area (offsets_of (state_of e)) (values_of e)
