-- A word, joined from its bytes.
use Prim.Native.Nat.{ℕ, ◌+◌, ◌≤◌, ◌<◌}
use mathlib.Core.Path.{◌≡◌, ◌∙◌}
use mathlib.Core.List.{List}
use native.Mathlib.Omega.{arith}
use borrow.Author.Tests.{le-leb, lt-leb}
use lib.ListN.{length, take, drop, get_or}
use Rattle.std.specs.Int.{w64, from_le_bytes}
use Rattle.std.proofs.lemmas.List.{get_or-take, get_or-drop}
use Rattle.words.specs.Packed.{word_size, quarter_at, half_at, joined_at, word_at}

module _ (bs : List ℕ) (at : ℕ) where
  module _ (first : List ℕ) (e : first ≡ take word_size (drop at bs)) where
    byte : (i k : ℕ) → k ≡ at + i → i < word_size → get_or first i 0 ≡ get_or bs k 0
    byte i k s h = rw (e, s) (get_or-take word_size (drop at bs) i 0 h ∙ get_or-drop at bs i 0)

    pub joined : from_le_bytes w64 first ≡ joined_at bs at
    unfolding joined_at half_at quarter_at
    joined =
        let b0 = byte 0 at (omega arith) (omega arith) in
        let b1 = byte 1 (at + 1) (omega arith) (omega arith) in
        let b2 = byte 2 (at + 2) (omega arith) (omega arith) in
        let b3 = byte 3 (at + 2 + 1) (omega arith) (omega arith) in
        let b4 = byte 4 (at + 4) (omega arith) (omega arith) in
        let b5 = byte 5 (at + 4 + 1) (omega arith) (omega arith) in
        let b6 = byte 6 (at + 4 + 2) (omega arith) (omega arith) in
        let b7 = byte 7 (at + 4 + 2 + 1) (omega arith) (omega arith) in
        omega arith

    pub word_there : at + word_size ≤ length bs → from_le_bytes w64 first ≡ word_at bs at
    unfolding word_at
    word_there h = rw (le-leb _ _ h) joined

  pub no_word : length bs < at + word_size → 0 ≡ word_at bs at
  unfolding word_at
  no_word h = rw (lt-leb _ _ h)
