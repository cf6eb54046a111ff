-- Words as they stand in bytes, the lowest byte first (REFERENCE 11), and the words that come of some bytes.
use Rattle.std.specs.Prelude.{ℕ, zero, suc, ◌+◌, ◌*◌, ◌/◌, min, List, [], ◌∷◌, cond, leb, length, get_or}
use Rattle.shape.specs.Words.{put_at}

-- bytes of a word
abbrev pub word_size : ℕ
word_size = 8

-- two, four and eight bytes from a place on
unfoldable pub quarter_at : List ℕ → ℕ → ℕ
quarter_at bs at = get_or bs at 0 + get_or bs (at + 1) 0 * 256

unfoldable pub half_at : List ℕ → ℕ → ℕ
half_at bs at = quarter_at bs at + quarter_at bs (at + 2) * 65536

unfoldable pub joined_at : List ℕ → ℕ → ℕ
joined_at bs at = half_at bs at + half_at bs (at + 4) * 4294967296

-- the word that starts at a place, 0 where no whole word is left there
unfoldable pub word_at : List ℕ → ℕ → ℕ
word_at bs at = cond (leb (at + word_size) (length bs)) (joined_at bs at) 0

-- so many words, the first from a place on
unfoldable pub words_from : List ℕ → ℕ → ℕ → List ℕ
words_from bs at zero = []
words_from bs at (suc n) = word_at bs at ∷ words_from bs (at + word_size) n

-- how many words some bytes unpack to: as many as they have whole, and no more than have room
abbrev pub unpacked_count : List ℕ → List ℕ → ℕ
unpacked_count bs ws = min (length bs / word_size) (length ws)

-- these at the front; every word behind them is as it was
unfoldable pub unpacked : List ℕ → List ℕ → List ℕ
unpacked bs ws = put_at ws 0 (words_from bs 0 (unpacked_count bs ws))
