-- The record that some pieces make (REFERENCE 4.3): its size, alignment and floating point mode, or the refusal.
use Rattle.std.specs.Prelude.{ℕ, zero, suc, max, List, [], ◌∷◌, Bool, true, false, ◌&&◌, ltb, eqb}
use Rattle.shape.specs.declared.Piece.{Piece}
use Rattle.shape.specs.Numbers.{accepted, bad_size, bad_align, most_offset}
use Rattle.shape.specs.Arithmetic.{round_up}
use Rattle.shape.specs.Words.{pieces_of}
use Rattle.checks.specs.Check.{or_else, list_refusal, pieces_refusal}
use Rattle.shape.specs.Questions.{is_float, end_of}
use Rattle.layouts.specs.Answers.{Recorded}

-- the largest of a measure of the pieces, 0 where there is none
unfoldable pub max_of : (Piece → ℕ) → List Piece → ℕ
max_of f [] = 0
max_of f (p ∷ ps) = max (f p) (max_of f ps)

abbrev pub align_of : Piece → ℕ
align_of p = p.align

abbrev pub largest_align : List Piece → ℕ
largest_align ps = max_of align_of ps

-- a piece of size 0 ends as one of 1 (shape/specs/Questions.antt), so that it has a last byte, wherever it stands
abbrev pub furthest_end : List Piece → ℕ
furthest_end ps = max_of end_of ps

-- one piece, a float that fills the record: to such a structure gcc gives the machine mode of its member
unfoldable pub is_floating : ℕ → List Piece → Bool
is_floating size [] = false
is_floating size (p ∷ []) = is_float p.kind && eqb p.size size
is_floating size (p ∷ q ∷ ps) = false

abbrev pub recorded : ℕ → ℕ → ℕ → Bool → Recorded
recorded refusal size align floating =
    record { refusal = refusal; shape = record { size = size; align = align; complex = false; floating = floating } }

-- a refusal comes with an empty shape
abbrev pub refuse_record : Bool → ℕ → Recorded → Recorded
refuse_record true n rest = recorded n 0 0 false
refuse_record false n rest = rest

-- no pieces: an empty record of alignment 1. Else alignments that are all 0 are refused, for there is nothing to round the size up to, and the
-- Rust panics; and then a rounded size above the limit. It is a structure, so it is never complex
unfoldable pub record_made : List Piece → Recorded
record_made [] = recorded accepted 0 1 false
record_made (p ∷ ps) =
    let align : ℕ = largest_align (p ∷ ps) in
    let size : ℕ = round_up (furthest_end (p ∷ ps)) align in
    refuse_record (eqb align 0) bad_align
    (refuse_record (ltb most_offset size) bad_size (recorded accepted size align (is_floating size (p ∷ ps))))

abbrev pub or_record : ℕ → Recorded → Recorded
or_record zero rest = rest
or_record (suc n) rest = recorded (suc n) 0 0 false

-- the answer: the list and its pieces are checked first
unfoldable pub record_answer : List ℕ → Recorded
record_answer ws = or_record (or_else (list_refusal ws) (pieces_refusal (pieces_of ws))) (record_made (pieces_of ws))
