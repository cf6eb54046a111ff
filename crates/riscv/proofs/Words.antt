-- The integer convention, word by word: with k registers left a value of one or two words is given as many of them as it wants and as are left, and what
-- is read of that is the standard's.
use Prim.Native.Nat.{ℕ, ◌+◌, ◌-◌, ◌/◌, ◌≤◌, ◌<◌, min}
use mathlib.Core.Path.{◌≡◌}
use mathlib.Core.List.{[], ◌∷◌}
use native.Mathlib.Omega.{arith}
use native.Mathlib.Decide.{dec_le}
use borrow.Author.Tests.{le-leb, lt-leb, lt-ltb, le-ltb}
use Rattle.slots.specs.Words.{integer_slot}
use Rattle.slots.specs.Cut.{up_to, cut}
use Rattle.spend.specs.Spending.{want_of}
use Rattle.riscv.specs.Riscv.{passing, parts, state, by_integers}
use Rattle.riscv.specs.Reading.{parts_of}

-- a bank of which nothing is spent
pub unspent : (left : ℕ) → left - 0 - 0 ≡ left
unspent left = omega arith

-- ---- one or two words

module _ (size : ℕ) where
  pub want_one : size ≤ 8 → want_of size 8 ≡ 1
  unfolding want_of
  want_one h = omega arith

  pub want_two : 8 < size → size ≤ 16 → want_of size 8 ≡ 2
  unfolding want_of
  want_two l h = omega arith

  pub cut_one : 0 < size → size ≤ 8 → cut size 8 ≡ integer_slot 0 size ∷ []
  unfolding cut up_to
  cut_one l h =
      let n : (size + 7) / 8 ≡ 1 = omega arith in
      let a : min (size - 0) 8 ≡ size = omega arith in
      rw (n, a)

  pub cut_two : 8 < size → size ≤ 16 → cut size 8 ≡ integer_slot 0 8 ∷ integer_slot 8 (size - 8) ∷ []
  unfolding cut up_to
  cut_two l h =
      let n : (size + 7) / 8 ≡ 2 = omega arith in
      let a : min (size - 0) 8 ≡ 8 = omega arith in
      let b : min (size - 8) 8 ≡ size - 8 = omega arith in
      rw (n, a, b)

-- ---- as many registers as are left

module _ (k f m h size : ℕ) (few : k ≤ 8) where
  abbrev pub InWords : Type 0
  InWords =
      passing (parts (parts_of (8 - k) (min (want_of size 8) k) m h (cut size 8))) (state (8 - (k - min (want_of size 8) k)) f) ≡ by_integers (state (8 - k) f) size

  module _ (l : 0 < size) (s : size ≤ 8) where
    one_none : k ≤ 0 → InWords
    unfolding parts_of by_integers
    one_none z =
        let e : 8 - (k - min 1 k) ≡ 8 - k = omega arith in
        rw (want_one size s, cut_one size l s, le-leb size 8 s, le-ltb 0 (min 1 k) (omega arith), lt-leb (8 - k + 1) 8 (omega arith), e)

    one_left : 0 < k → InWords
    unfolding parts_of by_integers
    one_left z =
        let e : 8 - (k - min 1 k) ≡ 8 - k + 1 = omega arith in
        rw (want_one size s, cut_one size l s, le-leb size 8 s, lt-ltb 0 (min 1 k) (omega arith), le-leb (8 - k + 1) 8 (omega arith), e)

    pub one_word : InWords
    one_word = go (dec_le k 0)
      where
        go : Dec (k ≤ 0) → InWords
        go (yes z) = one_none z
        go (no z) = one_left (omega arith)

  module _ (l : 8 < size) (s : size ≤ 16) where
    two_none : k ≤ 0 → InWords
    unfolding parts_of by_integers
    two_none z =
        let e : 8 - (k - min 2 k) ≡ 8 - k = omega arith in
        rw (want_two size l s, cut_two size l s, lt-leb size 8 l, le-leb size 16 s, le-ltb 0 (min 2 k) (omega arith), lt-leb (8 - k + 2) 8 (omega arith), lt-leb (8 - k + 1) 8 (omega arith), e)

    two_one : k ≡ 1 → InWords
    unfolding parts_of by_integers
    two_one z = rw (want_two size l s, cut_two size l s, lt-leb size 8 l, le-leb size 16 s, z)

    two_left : 2 ≤ k → InWords
    unfolding parts_of by_integers
    two_left z =
        let e : 8 - (k - min 2 k) ≡ 8 - k + 2 = omega arith in
        rw (want_two size l s, cut_two size l s, lt-leb size 8 l, le-leb size 16 s, lt-ltb 0 (min 2 k) (omega arith), lt-ltb 0 (min 2 k - 1) (omega arith), le-leb (8 - k + 2) 8 (omega arith), e)

    pub two_words : InWords
    two_words = go (dec_le k 0) (dec_le k 1)
      where
        go : Dec (k ≤ 0) → Dec (k ≤ 1) → InWords
        go (yes z) y = two_none z
        go (no z) (yes y) = two_one (omega arith)
        go (no z) (no y) = two_left (omega arith)

  pub in_words : 0 < size → size ≤ 16 → InWords
  in_words l s = go (dec_le size 8)
    where
      go : Dec (size ≤ 8) → InWords
      go (yes y) = one_word l y
      go (no y) = two_words (omega arith) s

-- with none left
pub on_stack : (f m h size : ℕ) → 0 < size → size ≤ 16 → passing (parts (parts_of 8 0 m h (cut size 8))) (state 8 f) ≡ by_integers (state 8 f) size
on_stack f m h size l s =
    let g : min (want_of size 8) 0 ≡ 0 = omega arith in
    rw g at (in_words 0 f m h size (omega arith) l s)
