-- A piece that was put in a buffer is read back from there, and those before it are as they were.
use Prim.Native.Nat.{ℕ, ◌+◌, ◌≤◌, ◌<◌}
use mathlib.Core.Path.{◌≡◌, ap, sym, ◌∙◌}
use mathlib.Core.List.{List, ◌++◌, append_assoc}
use native.Mathlib.Omega.{arith}
use lib.ListN.{length, take, drop, get_or, get_or-append}
use lib.Seq.{length-take-le, get_or-take}
use Rattle.shape.specs.declared.Piece.{Piece}
use Rattle.shape.specs.Words.{pieces_of, first_piece, piece_at, piece_words, put_at}
use Rattle.shape.proofs.Words.{read_piece}
use Rattle.shape.proofs.Put.{put_fits, length_put, drop_past}

module _ (ws : List ℕ) (at : ℕ) (p : Piece) (fits : at + 4 ≤ length ws) where
  before : length (take at ws) ≡ at
  before = length-take-le at ws (omega arith)

  parts : put_at ws at (piece_words p) ≡ take at ws ++ (piece_words p ++ drop (at + 4) ws)
  parts = put_fits ws at (piece_words p) fits ∙ append_assoc (take at ws) (piece_words p) (drop (at + 4) ws)

  pub piece_stored : piece_at (put_at ws at (piece_words p)) at ≡ p
  unfolding piece_at first_piece pieces_of
  piece_stored =
      let z : at ≡ at + 0 = omega arith in
      let d : drop at (put_at ws at (piece_words p)) ≡ piece_words p ++ drop (at + 4) ws =
      rw parts (ap (λ (n : ℕ). drop n (take at ws ++ (piece_words p ++ drop (at + 4) ws))) z
      ∙ drop_past (take at ws) (piece_words p ++ drop (at + 4) ws) at 0 before) in
      rw d

  word_kept : (k : ℕ) → k < at → get_or (put_at ws at (piece_words p)) k 0 ≡ get_or ws k 0
  word_kept k lt =
      let b : length (take at ws) ≡ at = before in
      rw parts (get_or-append (take at ws) (piece_words p ++ drop (at + 4) ws) 0 k (omega arith) ∙ rw get_or-take)

  pub piece_kept : (k : ℕ) → k + 4 ≤ at → piece_at (put_at ws at (piece_words p)) k ≡ piece_at ws k
  piece_kept k h =
      let vs : List ℕ = put_at ws at (piece_words p) in
      let l : length vs ≡ length ws = length_put ws at (piece_words p) fits in
      sym (read_piece vs k (omega arith))
      ∙ rw (word_kept k (omega arith), word_kept (k + 1) (omega arith), word_kept (k + 2) (omega arith), word_kept (k + 3) (omega arith))
      (read_piece ws k (omega arith))
