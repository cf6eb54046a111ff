-- The pieces of an entry as they are written: by recursion, with the number of levels that are left falling at each step, and by the table's rows. And
-- the buffer once pieces are written one after another.
use Rattle.std.specs.Prelude.{ℕ, zero, suc, ◌+◌, Bool, cond, List, [], ◌∷◌, ◌++◌, ltb, leb, length}
use Rattle.shape.specs.declared.Piece.{Piece}
use Rattle.shape.specs.Arithmetic.{plus, rounded}
use Rattle.shape.specs.Words.{piece_size, piece_words, put_at}
use Rattle.types.specs.Entries.{Meaning, one, several, repeated, meaning_at}
use Rattle.types.specs.Table.{row_at, place_from}
use Rattle.flatten.specs.Leaves.{piece_of}

-- the pieces of what has leaves; no other is looked into
abbrev pub if_leaves : ℕ → List Piece → List Piece
if_leaves leaves ps = cond (ltb 0 leaves) ps []

-- members, each behind the one before
unfoldable pub over_members : (ℕ → ℕ → List Piece) → List ℕ → Bool → ℕ → ℕ → List ℕ → List Piece
over_members f tb overlaid base end [] = []
over_members f tb overlaid base end (m ∷ l) =
    if_leaves (row_at tb m).leaves (f m (plus base (place_from overlaid end (row_at tb m).align)))
    ++ over_members f tb overlaid base (plus (place_from overlaid end (row_at tb m).align) (row_at tb m).takes) l

-- n elements, a step apart
unfoldable pub over_elements : (ℕ → List Piece) → ℕ → ℕ → ℕ → ℕ → List Piece
over_elements f step base end zero = []
over_elements f step base end (suc n) = f (plus base end) ++ over_elements f step base (plus end step) n

abbrev pub step_of : List ℕ → ℕ → ℕ
step_of tb m = rounded (row_at tb m).reach (row_at tb m).align

unfoldable pub spread : (ℕ → ℕ → List Piece) → List ℕ → Meaning → ℕ → List Piece
spread f tb (one s) base = piece_of s base ∷ []
spread f tb (several overlaid l) base = over_members f tb overlaid base 0 l
spread f tb (repeated m n) base = over_elements (f m) (step_of tb m) base 0 n

-- the pieces of entry e at a place, down to so many levels
unfoldable pub entry_pieces : List ℕ → List ℕ → List ℕ → ℕ → ℕ → ℕ → List Piece
entry_pieces ts ms tb zero e base = []
entry_pieces ts ms tb (suc l) e base = spread (entry_pieces ts ms tb l) tb (meaning_at ts ms e) base

-- the place after a piece at `at`: `at` itself where it doesn't fit
unfoldable pub next_at : List ℕ → ℕ → ℕ
next_at ws at = cond (leb (at + piece_size) (length ws)) (at + piece_size) at

-- the place and the buffer once pieces are written from `at` on, as long as they fit
unfoldable pub pour_at : List Piece → List ℕ → ℕ → ℕ
pour_at [] ws at = at
pour_at (p ∷ ps) ws at = pour_at ps (put_at ws at (piece_words p)) (next_at ws at)

unfoldable pub pour_words : List Piece → List ℕ → ℕ → List ℕ
pour_words [] ws at = ws
pour_words (p ∷ ps) ws at = pour_words ps (put_at ws at (piece_words p)) (next_at ws at)
