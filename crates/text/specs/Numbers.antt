-- Numbers as text (REFERENCE 11): decimal digits without zeros in front, behind a mark.
use Rattle.std.specs.Prelude.{ℕ, zero, suc, ◌+◌, ◌/◌, ◌%◌, List, [], ◌∷◌, ◌++◌, cond, leb, ltb, length}
use Rattle.shape.specs.Words.{put_at, pick_words}

-- the code of a digit
abbrev pub digit_of : ℕ → ℕ
digit_of n = 48 + n

-- the digits of a number, the last so many where it has more
unfoldable pub decimal_in : ℕ → ℕ → List ℕ
decimal_in zero n = []
decimal_in (suc k) n = cond (ltb n 10) (digit_of n ∷ []) (decimal_in k (n / 10) ++ (digit_of (n % 10) ∷ []))

-- a number of 64 bits has 20 digits at most
abbrev pub most_digits : ℕ
most_digits = 20

abbrev pub decimal : ℕ → List ℕ
decimal n = decimal_in most_digits n

-- a number behind a mark, and how long that can get
abbrev pub part : ℕ → ℕ → List ℕ
part mark n = mark ∷ decimal n

abbrev pub most_part : ℕ
most_part = 1 + most_digits

-- the place behind a number that was put at a place behind its mark, or the same place where the longest had no room, by the length of the buffer
unfoldable pub number_end : ℕ → ℕ → ℕ → ℕ → ℕ
number_end room at mark n = cond (leb (at + most_part) room) (at + length (part mark n)) at

-- the buffer then; nothing is written where the longest number has no room
unfoldable pub number_written : List ℕ → ℕ → ℕ → ℕ → List ℕ
number_written out at mark n = pick_words (leb (at + most_part) (length out)) (put_at out at (part mark n)) out
