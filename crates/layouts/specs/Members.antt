-- A record's members, and the pieces that they become (REFERENCE 4.2).
use Rattle.std.specs.Prelude.{ℕ, zero, suc, ◌+◌, ◌/◌, ◌%◌, max, List, [], ◌∷◌, ◌++◌, Bool, true, false, ltb, leb, length}
use Rattle.shape.specs.declared.Piece.{Piece}
use Rattle.shape.specs.declared.Scalar.{Scalar}
use Rattle.shape.specs.Numbers.{accepted, bad_list, no_room, most_pieces}
use Rattle.shape.specs.Words.{piece, scalars_of, piece_size, scalar_size, put_at, piece_words}
use Rattle.checks.specs.Check.{refuse, or_else, unless_refused, scalar_refusal}
use Rattle.layouts.specs.Answers.{Placed}
use Rattle.shape.specs.Arithmetic.{round_up}

-- scalars, from the first
unfoldable pub scalars_refusal : List Scalar → ℕ
scalars_refusal [] = accepted
scalars_refusal (s ∷ ss) = or_else (scalar_refusal s) (scalars_refusal ss)

-- the words don't make whole scalars, or too many; then the scalars
unfoldable pub members_refusal : List ℕ → ℕ
members_refusal ws =
    refuse (ltb 0 (length ws % scalar_size)) bad_list
    (refuse (ltb most_pieces (length (scalars_of ws))) bad_list (scalars_refusal (scalars_of ws)))

-- each member at the next offset, from `end` on, that it fits: a multiple of its alignment, where 0 counts as 1, since 0 has no next multiple. A
-- member of size 0 takes no room from the next one, though as a piece it ends a byte further on
unfoldable pub placed : ℕ → List Scalar → List Piece
placed end [] = []
placed end (s ∷ ss) =
    piece s.kind s.size s.align (round_up end (max s.align 1))
    ∷ placed (round_up end (max s.align 1) + s.size) ss

unfoldable pub pieces_words : List Piece → List ℕ
pieces_words [] = []
pieces_words (p ∷ ps) = piece_words p ++ pieces_words ps

abbrev pub or_placed : ℕ → Placed → Placed
or_placed zero rest = rest
or_placed (suc n) rest = record { refusal = suc n; count = 0 }

abbrev pub if_room : Bool → ℕ → Placed
if_room true n = record { refusal = accepted; count = n }
if_room false n = record { refusal = no_room; count = 0 }

-- the answer: NO_ROOM after all scalars are checked
unfoldable pub pieces_answer : List ℕ → List ℕ → Placed
pieces_answer ws out =
    or_placed (members_refusal ws) (if_room (leb (length (scalars_of ws)) (length out / piece_size)) (length (scalars_of ws)))

-- the buffer: the pieces at its front where they are accepted and fit, and all later words as they were
unfoldable pub pieces_written : List ℕ → List ℕ → List ℕ
pieces_written ws out = unless_refused (members_refusal ws) (put_at out 0 (pieces_words (placed 0 (scalars_of ws)))) out
