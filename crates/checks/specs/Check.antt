-- The refusals of a scalar, of pieces and of a shape, in their order (REFERENCE 2 and 3): the first that applies, 0 if there is none.
use Rattle.std.specs.Prelude.{ℕ, zero, suc, ◌+◌, ◌%◌, ◌≤◌, ◌≡◌, List, [], ◌∷◌, Bool, true, false, ltb, length}
use Rattle.shape.specs.declared.Piece.{Piece}
use Rattle.shape.specs.declared.Scalar.{Scalar}
use Rattle.shape.specs.declared.Shape.{Shape}
use Rattle.shape.specs.Lists.{any}
use Rattle.shape.specs.Numbers.{quad, accepted, bad_list, bad_kind, bad_size, bad_align, bad_extent, most_size, most_offset, most_align, most_pieces}
use Rattle.shape.specs.Words.{piece_size, pieces_of}

-- a refusal where the test holds, else what comes after it
abbrev pub refuse : Bool → ℕ → ℕ → ℕ
refuse true n rest = n
refuse false n rest = rest

-- the first of two answers that is a refusal
abbrev pub or_else : ℕ → ℕ → ℕ
or_else zero rest = rest
or_else (suc n) rest = suc n

-- the buffer with what is written, or as it was where there is a refusal
abbrev pub unless_refused : ℕ → List ℕ → List ℕ → List ℕ
unless_refused zero new old = new
unless_refused (suc n) new old = old

-- a scalar, by kind, size, alignment
unfoldable pub scalar_refusal : Scalar → ℕ
scalar_refusal s =
    refuse (ltb quad s.kind) bad_kind
    (refuse (ltb most_size s.size) bad_size
    (refuse (ltb most_align s.align) bad_align accepted))

-- a piece, by kind, size, offset, alignment
unfoldable pub piece_refusal : Piece → ℕ
piece_refusal p =
    refuse (ltb quad p.kind) bad_kind
    (refuse (ltb most_size p.size) bad_size
    (refuse (ltb most_offset p.offset) bad_size (refuse (ltb most_align p.align) bad_align accepted)))

-- pieces, from the first
unfoldable pub pieces_refusal : List Piece → ℕ
pieces_refusal [] = accepted
pieces_refusal (p ∷ ps) = or_else (piece_refusal p) (pieces_refusal ps)

-- a piece ends past a size: its offset and its size add up to more. A size of 0 counts as 0 here, not as the 1 that it is in a piece's end
abbrev pub is_past : ℕ → Piece → Bool
is_past size p = ltb size (p.offset + p.size)

-- a piece, whichever it is, ends past the shape's size
unfoldable pub extent_refusal : ℕ → List Piece → ℕ
extent_refusal size ps = refuse (any (is_past size) ps) bad_extent accepted

-- the words don't make whole pieces, or too many
unfoldable pub list_refusal : List ℕ → ℕ
list_refusal ws =
    refuse (ltb 0 (length ws % piece_size)) bad_list (refuse (ltb most_pieces (length (pieces_of ws))) bad_list accepted)

-- the list, the shape's size, its alignment, then its pieces, each by itself; and only then whether they end inside the shape
unfoldable pub shape_refusal : Shape → List ℕ → ℕ
shape_refusal shape ws =
    or_else (list_refusal ws)
    (refuse (ltb most_offset shape.size) bad_size
    (refuse (ltb most_align shape.align) bad_align
    (or_else (pieces_refusal (pieces_of ws)) (extent_refusal shape.size (pieces_of ws)))))

-- everything that is checked before the ends of the pieces passes
pub record Passes (shape : Shape) (ws : List ℕ) : Type 0 where
  pub list : list_refusal ws ≡ accepted
  pub size≤ : shape.size ≤ most_offset
  pub align≤ : shape.align ≤ most_align
  pub pieces : pieces_refusal (pieces_of ws) ≡ accepted

-- and yet a piece ends past the shape's size
pub record EndsPast (shape : Shape) (ws : List ℕ) : Type 0 where
  pub passes : Passes shape ws
  pub past : any (is_past shape.size) (pieces_of ws) ≡ true
