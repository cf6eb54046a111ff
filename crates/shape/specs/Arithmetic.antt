-- Rounding up to a multiple (REFERENCE 4.2), and sums, products and roundings that stay within 64 bits: what would pass them is the largest number.
use Rattle.std.specs.Prelude.{ℕ, ◌+◌, ◌-◌, ◌*◌, ◌/◌, min, max}
use Rattle.shape.specs.Numbers.{most_word}

-- the next multiple of `a`
unfoldable pub round_up : ℕ → ℕ → ℕ
round_up n a = (n + (a - 1)) / a * a

abbrev pub plus : ℕ → ℕ → ℕ
plus a b = min (a + b) most_word

abbrev pub times : ℕ → ℕ → ℕ
times a b = min (a * b) most_word

-- rounding up to 0 is rounding up to 1, since 0 has no next multiple
abbrev pub rounded : ℕ → ℕ → ℕ
rounded n a = min (round_up n (max a 1)) most_word
