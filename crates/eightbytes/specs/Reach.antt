-- Which eightbytes a piece reaches into, and whether it fits in those of a shape (REFERENCE 8).
use Rattle.std.specs.Prelude.{ℕ, ◌-◌, ◌/◌, ◌%◌, Bool, ◌&&◌, ◌||◌, leb, ltb, eqb}
use Rattle.shape.specs.declared.Piece.{Piece}
use Rattle.shape.specs.Questions.{end_of}

-- the first and the last eightbyte that a piece reaches into. Outside the limits its end stops at the largest number of 64 bits, far past any shape
abbrev pub first_of : Piece → ℕ
first_of p = p.offset / 8

abbrev pub last_of : Piece → ℕ
last_of p = (end_of p - 1) / 8

-- above an alignment of 1, its offset is a multiple of that. A packed record has pieces that aren't so, and the psABI sends it to memory (3.2.3).
-- A bit-field may start anywhere and lie across two eightbytes, so it is handed in with an alignment of 1
abbrev pub aligned : Piece → Bool
aligned p = leb p.align 1 || eqb (p.offset % p.align) 0

-- what a piece has to do: stand where its alignment asks, and reach past none of so many eightbytes, since behind them is no class to merge into
unfoldable pub fits : ℕ → Piece → Bool
fits n p = aligned p && ltb (last_of p) n
