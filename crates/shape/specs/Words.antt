-- Pieces and scalars as they stand in words (REFERENCE 1.2): a piece is kind, size, alignment, offset; a scalar is the first three.
-- Words after the last whole record are no record. And words put at a place of a buffer.
use Rattle.std.specs.Prelude.{ℕ, ◌+◌, List, [], ◌∷◌, ◌++◌, map, Bool, true, false, leb, length, get_or, take, drop}
use Rattle.shape.specs.declared.Piece.{Piece}
use Rattle.shape.specs.declared.Scalar.{Scalar}
use Rattle.shape.specs.declared.Records.{Records}

-- words of a piece and of a scalar
abbrev pub piece_size : ℕ
piece_size = 4

abbrev pub scalar_size : ℕ
scalar_size = 3

abbrev pub piece : ℕ → ℕ → ℕ → ℕ → Piece
piece k s a o = record { kind = k; size = s; align = a; offset = o }

unfoldable pub pieces_of : List ℕ → List Piece
pieces_of [] = []
pieces_of (k ∷ []) = []
pieces_of (k ∷ s ∷ []) = []
pieces_of (k ∷ s ∷ a ∷ []) = []
pieces_of (k ∷ s ∷ a ∷ o ∷ ws) = piece k s a o ∷ pieces_of ws

-- a piece from its words
abbrev pub piece_from : List ℕ → Piece
piece_from ws = piece (get_or ws 0 0) (get_or ws 1 0) (get_or ws 2 0) (get_or ws 3 0)

-- the pieces that an iterator has still to give
abbrev pub pieces_left : Records Piece piece_size → List Piece
pieces_left ps = map piece_from (drop ps.at ps.all.now)

-- the first of some pieces, all zeros where there is none
unfoldable pub first_piece : List Piece → Piece
first_piece [] = piece 0 0 0 0
first_piece (p ∷ ps) = p

-- the piece that starts at a place of the words
unfoldable pub piece_at : List ℕ → ℕ → Piece
piece_at ws at = first_piece (pieces_of (drop at ws))

abbrev pub scalar : ℕ → ℕ → ℕ → Scalar
scalar k s a = record { kind = k; size = s; align = a }

unfoldable pub scalars_of : List ℕ → List Scalar
scalars_of [] = []
scalars_of (k ∷ []) = []
scalars_of (k ∷ s ∷ []) = []
scalars_of (k ∷ s ∷ a ∷ ws) = scalar k s a ∷ scalars_of ws

abbrev pub scalar_from : List ℕ → Scalar
scalar_from ws = scalar (get_or ws 0 0) (get_or ws 1 0) (get_or ws 2 0)

-- the scalars that an iterator has still to give
abbrev pub scalars_left : Records Scalar scalar_size → List Scalar
scalars_left ss = map scalar_from (drop ss.at ss.all.now)

-- the first of some scalars, all zeros where there is none
unfoldable pub first_scalar : List Scalar → Scalar
first_scalar [] = scalar 0 0 0
first_scalar (s ∷ ss) = s

-- the scalar that starts at a place of the words
unfoldable pub scalar_at : List ℕ → ℕ → Scalar
scalar_at ws at = first_scalar (scalars_of (drop at ws))

-- ---- written

abbrev pub pick_words : Bool → List ℕ → List ℕ → List ℕ
pick_words true a b = a
pick_words false a b = b

-- `vs` in the place of the words from `at` on, where they fit; no word changes where they don't
unfoldable pub put_at : List ℕ → ℕ → List ℕ → List ℕ
put_at ws at vs = pick_words (leb (at + length vs) (length ws)) (take at ws ++ vs ++ drop (at + length vs) ws) ws

abbrev pub piece_words : Piece → List ℕ
piece_words p = p.kind ∷ p.size ∷ p.align ∷ p.offset ∷ []
