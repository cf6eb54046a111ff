-- The questions about scalars, pieces and shapes that the Rust's shape.rs answers (REFERENCE 1.1 and 4.1).
use Rattle.std.specs.Prelude.{ℕ, ◌+◌, min, max, List, [], ◌∷◌, Bool, true, false, ◌&&◌, not, eqb}
use Rattle.shape.specs.declared.Piece.{Piece}
use Rattle.shape.specs.declared.Scalar.{Scalar}
use Rattle.shape.specs.Numbers.{integer, most_word}
use Rattle.shape.specs.Words.{scalar}

-- an integer, and a float in a format, of a size and aligned to itself
abbrev pub integer_of : ℕ → Scalar
integer_of size = scalar integer size size

abbrev pub float_of : ℕ → ℕ → Scalar
float_of format size = scalar format size size

-- every kind but the integer's is a float's format
abbrev pub is_float : ℕ → Bool
is_float kind = not (eqb kind integer)

-- how many bytes a piece covers: size 0 counts as 1
abbrev pub bytes_of : Piece → ℕ
bytes_of p = max p.size 1

-- one past the last byte that a piece covers. Inside the limits that is below 64 bits; outside them it stops at the largest number
abbrev pub end_of : Piece → ℕ
end_of p = min (p.offset + bytes_of p) most_word

-- every piece is of this kind
unfoldable pub all_of : ℕ → List Piece → Bool
all_of kind [] = true
all_of kind (p ∷ ps) = eqb p.kind kind && all_of kind ps

-- there is a piece, and every piece is of this kind
unfoldable pub is_all_of : ℕ → List Piece → Bool
is_all_of kind [] = false
is_all_of kind (p ∷ ps) = all_of kind (p ∷ ps)
