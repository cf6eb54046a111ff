-- The laws of a record's members and of the pieces that they become.
use Prim.Native.Nat.{ℕ, zero, suc, ◌+◌, ◌*◌, ◌/◌, ◌%◌, ◌≤◌, ◌<◌, max}
use mathlib.Core.Path.{◌≡◌, refl, ap, sym, ◌∙◌}
use mathlib.Core.List.{List, [], ◌∷◌}
use mathlib.Core.Bool.{false}
use native.Mathlib.Omega.{arith}
use borrow.Author.Tests.{ltb-false, le-leb, lt-leb}
use lib.Dec.{ltb}
use lib.ListN.{length}
use Rattle.shape.specs.declared.Piece.{Piece}
use Rattle.shape.specs.declared.Scalar.{Scalar}
use Rattle.shape.specs.declared.refusals.Refusal.{Refusal}
use Rattle.shape.specs.Numbers.{accepted, no_room, most_pieces}
use Rattle.shape.specs.Refusals.{number_of}
use Rattle.shape.specs.Arithmetic.{round_up, rounded}
use Rattle.shape.specs.Words.{piece, pieces_of, scalars_of, put_at, piece_words}
use Rattle.checks.specs.Check.{scalar_refusal}
use Rattle.shape.proofs.Refused.{number_refuses}
use Rattle.shape.proofs.Rounding.{round_bound, round_within}
use Rattle.shape.proofs.Words.{length_scalars}
use Rattle.shape.proofs.Put.{put_short, put_split, put_none, length_put}
use Rattle.checks.proofs.Check.{number_leaves}
use Rattle.checks.proofs.Accepted.{refuse_none, else_none, fits}
use Rattle.layouts.specs.Answers.{Placed}
use Rattle.layouts.specs.Members.{scalars_refusal, members_refusal, placed, pieces_words, or_placed, pieces_answer, pieces_written}

-- ---- pieces

pub length_placed : (end : ℕ) (ss : List Scalar) → length (placed end ss) ≡ length ss
unfolding placed
length_placed end [] = refl
length_placed end (s ∷ ss) = ap suc (length_placed (round_up end (max s.align 1) + s.size) ss)

pub length_words : (ps : List Piece) → length (pieces_words ps) ≡ 4 * length ps
unfolding pieces_words
length_words [] = refl
length_words (p ∷ ps) = let h : length (pieces_words ps) ≡ 4 * length ps = length_words ps in omega arith

-- pieces in words are read back as they were
pub pieces_back : (ps : List Piece) → pieces_of (pieces_words ps) ≡ ps
unfolding pieces_words pieces_of
pieces_back [] = refl
pieces_back (p ∷ ps) = ap (λ (qs : List Piece). p ∷ qs) (pieces_back ps)

pub room_words : (end : ℕ) (ss : List Scalar) → length (pieces_words (placed end ss)) ≡ 4 * length ss
room_words end ss = length_words (placed end ss) ∙ ap (λ (n : ℕ). 4 * n) (length_placed end ss)

-- the loop: `total` is the buffer once the members that are left are written. An end stays far below any wrap: at most 4,160 further for each member
pub record Writing (total : List ℕ) (to end : ℕ) (left : List Scalar) (out : List ℕ) : Type 0 where
  pub near : end + 4160 * length left ≤ 4160 * most_pieces
  pub ok : scalars_refusal left ≡ accepted
  pub room : to + 4 * length left ≤ length out
  pub words : total ≡ put_at out to (pieces_words (placed end left))

module _ (total : List ℕ) (to end : ℕ) (left : List Scalar) (out : List ℕ) (w : Writing total to end left out) where
  pub written_end : left ≡ [] → out ≡ total
  unfolding placed pieces_words
  written_end e = rw (w.words, e) (sym (put_none out to (omega (arith, w.room))))

  module _ (s : Scalar) (rest : List Scalar) (e : left ≡ s ∷ rest) (o : ℕ) (eo : o ≡ rounded end s.align) where
    here : (scalar_refusal s ≡ accepted) × (scalars_refusal rest ≡ accepted)
    unfolding scalars_refusal
    here = else_none _ _ (rw e at w.ok)

    first : 4160 + end + 4160 * length rest ≤ 4160 * most_pieces
    first = let n = rw e at w.near in omega (arith, n)

    rounded_up : o ≡ round_up end (max s.align 1)
    rounded_up = round_within end s.align o eo (omega (arith, first, (fits s here.0).align≤))

    pub next_near : o + s.size + 4160 * length rest ≤ 4160 * most_pieces
    next_near =
        let f = fits s here.0 in
        omega (arith, first, rounded_up, f.size≤, f.align≤, round_bound end (max s.align 1) (omega arith))

    pub next_written : (p : Piece) → p ≡ piece s.kind s.size s.align o → (out' : List ℕ) → out' ≡ put_at out to (piece_words p)
        → Writing total (to + 4) (o + s.size) rest out'
    unfolding placed pieces_words
    next_written p ep out' eo' =
        let r : to + 4 * suc (length rest) ≤ length out = rw e at w.room in
        record {
          near = next_near;
          ok = here.1;
          room = rw eo' (omega (arith, length_put out to (piece_words p) (omega arith)));
          words =
              rw (w.words, e, ← rounded_up, eo', ep)
              (put_split out to (piece_words (piece s.kind s.size s.align o)) (pieces_words (placed (o + s.size) rest))
              (omega (arith, room_words (o + s.size) rest)));
        }

or_refused : (n : ℕ) → (n ≡ accepted → ⊥) → (rest : Placed) → ◌≡◌ {A = Placed} (record { refusal = n; count = 0 }) (or_placed n rest)
or_refused zero h rest = absurd (h refl)
or_refused (suc n) h rest = refl

module _ (ws out : List ℕ) where
  pub pieces_refused : (r : Refusal) → number_of r ≡ members_refusal ws → ◌≡◌ {A = Placed} (record { refusal = number_of r; count = 0 }) (pieces_answer ws out)
  unfolding pieces_answer
  pieces_refused r e = rw (← e) (or_refused (number_of r) (number_refuses r) _)

  pub pieces_same : (r : Refusal) → number_of r ≡ members_refusal ws → out ≡ pieces_written ws out
  unfolding pieces_written
  pieces_same r e = rw (← e) (number_leaves r _ out)

  module _ (z : accepted ≡ members_refusal ws) where
    pub pieces_short : length out / 4 < length ws / 3 → ◌≡◌ {A = Placed} (record { refusal = no_room; count = 0 }) (pieces_answer ws out)
    unfolding pieces_answer
    pieces_short h = rw (← z, length_scalars, lt-leb _ _ h)

    pub pieces_kept : length out / 4 < length ws / 3 → out ≡ pieces_written ws out
    unfolding pieces_written
    pieces_kept h =
        rw (← z)
        (put_short out 0 (pieces_words (placed 0 (scalars_of ws))) (omega (arith, room_words 0 (scalars_of ws), length_scalars ws)))

    pub pieces_count : length ws / 3 ≤ length out / 4 → ◌≡◌ {A = Placed} (record { refusal = accepted; count = length ws / 3 }) (pieces_answer ws out)
    unfolding pieces_answer
    pieces_count h = rw (← z, length_scalars, le-leb _ _ h)

    many : (ltb 0 (length ws % 3) ≡ false) × (ltb most_pieces (length (scalars_of ws)) ≡ false) × (scalars_refusal (scalars_of ws) ≡ accepted)
    unfolding members_refusal
    many =
        let w = refuse_none (ltb 0 (length ws % 3)) 2 _ (sym z) in
        let n = refuse_none (ltb most_pieces (length (scalars_of ws))) 2 _ w.1 in
        (w.0, n.0, n.1)

    pub pieces_start : length ws / 3 ≤ length out / 4 → (left : List Scalar) → left ≡ scalars_of ws → Writing (pieces_written ws out) 0 0 left out
    unfolding pieces_written
    pieces_start h left e =
        let few : length (scalars_of ws) ≤ most_pieces = ltb-false _ _ many.1 in
        rw e (record { near = omega arith; ok = many.2; room = omega (arith, length_scalars ws); words = rw (← z) })

pub ruleset pieces_laws = (pieces_refused, pieces_short, pieces_kept, pieces_count)
