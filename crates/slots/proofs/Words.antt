-- Slots at the front of a buffer, written run by run, and read back from their words. Nothing here but `length_words` says how many words a
-- slot has.
use Prim.Native.Nat.{ℕ, ◌+◌, ◌*◌, ◌/◌, ◌≤◌, ◌<◌}
use mathlib.Core.Path.{◌≡◌, refl, ap, ◌∙◌}
use mathlib.Core.List.{List, [], ◌∷◌, ◌++◌, append_assoc}
use native.Mathlib.Omega.{arith}
use borrow.Author.Tests.{le-leb}
use lib.ListN.{length, take, drop, length-append, length-drop}
use lib.Seq.{take-append_seam, drop-append-add, drop-drop}
use Rattle.shape.specs.Words.{put_at}
use Rattle.shape.proofs.Put.{put_fits, put_short, put_first}
use Rattle.slots.specs.declared.Slot.{Slot}
use Rattle.slots.specs.Words.{slot_words, slot_size, words_of, written, slots_read}

-- `p` in the place of as many words at the front
abbrev pub over : List ℕ → List ℕ → List ℕ
over p ws = p ++ drop (length p) ws

pub length_over : (p ws : List ℕ) → length p ≤ length ws → length (over p ws) ≡ length ws
length_over p ws h = simp (length-append, length-drop) (omega arith)

-- one run more
pub put_next : (p vs ws : List ℕ) → length p + length vs ≤ length ws → put_at (over p ws) (length p) vs ≡ over (p ++ vs) ws
put_next p vs ws h =
    let l : length (over p ws) ≡ length ws = length_over p ws (omega arith) in
    put_fits (over p ws) (length p) vs (omega arith)
    ∙ rw (take-append_seam, drop-append-add, drop-drop, length-append)

-- a part of the buffer that was replaced by as many words
pub put_part : (ws : List ℕ) (at : ℕ) (vs part : List ℕ) (n : ℕ) → part ≡ vs → n ≡ length vs → at + length vs ≤ length ws
    → take at ws ++ (part ++ drop n (drop at ws)) ≡ put_at ws at vs
put_part ws at vs part n e en h = rw (e, en, put_fits ws at vs h, append_assoc, drop-drop)

-- slots in a row
pub length_words : (ss : List Slot) → length (words_of ss) ≡ slot_size * length ss
unfolding words_of
length_words [] = refl
length_words (s ∷ ss) = let h : length (words_of ss) ≡ slot_size * length ss = length_words ss in omega arith

pub words_append : (ss ts : List Slot) → words_of (ss ++ ts) ≡ words_of ss ++ words_of ts
unfolding words_of
words_append [] ts = refl
words_append (s ∷ ss) ts = ap (λ (r : List ℕ). slot_words s ++ r) (words_append ss ts)

pub written_fits : (ss : List Slot) (ws : List ℕ) → slot_size * length ss ≤ length ws → written ss ws ≡ over (words_of ss) ws
unfolding written
written_fits ss ws h =
    let l : length (words_of ss) ≡ slot_size * length ss = length_words ss in
    put_first ws (words_of ss) (omega arith)

pub written_short : (ss : List Slot) (ws : List ℕ) → length ws < slot_size * length ss → ws ≡ written ss ws
unfolding written
written_short ss ws h =
    let l : length (words_of ss) ≡ slot_size * length ss = length_words ss in
    put_short ws 0 (words_of ss) (omega arith)

-- slots are read back from their words, whatever stands behind them
read_words : (ss : List Slot) (ws : List ℕ) → slots_read (length ss) (words_of ss ++ ws) ≡ ss
unfolding slots_read words_of
read_words [] ws = refl
read_words (s ∷ ss) ws =
    let fits : slot_size ≤ length (slot_words s ++ (words_of ss ++ ws)) = omega arith in
    rw (le-leb _ _ fits) (ap (λ (l : List Slot). s ∷ l) (read_words ss ws))

pub read_back : (ss : List Slot) (out : List ℕ) → length ss ≤ length out / slot_size → slots_read (length ss) (written ss out) ≡ ss
read_back ss out h = rw (written_fits ss out (omega arith)) (read_words ss (drop (length (words_of ss)) out))
