-- The parts of a size, by index.
use Prim.Native.Nat.{ℕ, zero, suc, ◌+◌, ◌-◌, ◌*◌, ◌/◌, ◌%◌, ◌≤◌, ◌<◌, min, max}
use mathlib.Core.Path.{◌≡◌, refl, ap, sym, ◌∙◌}
use mathlib.Core.List.{List, ◌++◌}
use native.Mathlib.Omega.{arith}
use native.Mathlib.Numerals.{add-one}
use native.Mathlib.Nat.{le-div_iff_mul-le, div-lt_iff_lt-mul, suc-mul}
use Rattle.std.proofs.lemmas.Grind.{div_ceil_times}
use lib.ListN.{length, length-append}
use Rattle.slots.specs.declared.Slot.{Slot}
use Rattle.shape.specs.Words.{put_at}
use Rattle.slots.specs.Words.{integer_slot, slot_words, slot_size, words_of, written}
use Rattle.slots.specs.Cut.{up_to, ceil_div, part_of, cut}
use Rattle.slots.proofs.Words.{over, put_next, length_words, words_append, written_fits, written_short}

pub length_up_to : (n : ℕ) (f : ℕ → Slot) → length (up_to n f) ≡ n
unfolding up_to
length_up_to zero f = refl
length_up_to (suc n) f =
    let h : length (up_to n f) ≡ n = length_up_to n f in
    simp length-append (omega arith)

pub length_cut : (size width : ℕ) → length (cut size width) ≡ ceil_div size (max width 1)
unfolding cut
length_cut size width = length_up_to _ _

-- what `parts` computes
pub length_ceil : (size width w : ℕ) → w ≡ max width 1 → size / w + min 1 (size % w) ≡ length (cut size width)
length_ceil size width w e =
    let p : 0 < w = omega arith in
    let t = div_ceil_times size w p in
    let up : size / w + min 1 (size % w) ≤ (size + (w - 1)) / w = (le-div_iff_mul-le p).1 (omega arith) in
    let down : (size + (w - 1)) / w < size / w + min 1 (size % w) + 1 = (div-lt_iff_lt-mul p).1 (omega arith) in
    rw (length_cut, ← e) (omega arith)

-- a part that is there starts inside
pub part_inside : (size w i : ℕ) → 0 < w → i < ceil_div size w → i * w < size
part_inside size w i p h =
    let m : suc i * w ≤ size + (w - 1) = (le-div_iff_mul-le p).0 h in
    let e : suc i * w ≡ i * w + w = suc-mul i w in
    omega arith

pub run_none : (f : ℕ → Slot) (ws : List ℕ) → ws ≡ over (words_of (up_to 0 f)) ws
unfolding up_to words_of
run_none f ws = refl

-- a run of slots by index, written from the front: the next one goes where the words so far end
module _ (f : ℕ → Slot) (i : ℕ) (ws : List ℕ) where
  pub words_next : words_of (up_to (i + 1) f) ≡ words_of (up_to i f) ++ slot_words (f i)
  unfolding up_to words_of
  words_next = rw (add-one, words_append)

  pub run_next : slot_size * (i + 1) ≤ length ws
      → put_at (over (words_of (up_to i f)) ws) (slot_size * i) (slot_words (f i)) ≡ over (words_of (up_to (i + 1) f)) ws
  run_next h =
      let l : length (words_of (up_to i f)) ≡ slot_size * i = length_words (up_to i f) ∙ ap (λ (n : ℕ). slot_size * n) (length_up_to i f) in
      rw (words_next, ← l) (put_next (words_of (up_to i f)) (slot_words (f i)) ws (omega arith))

-- the loop of `integer_slots`, with the tests and the invariant as premises
module _ (size width count w : ℕ) (ec : count ≡ length (cut size width)) (ew : w ≡ max width 1) where
  pub cut_inside : (i : ℕ) → i < count → i * w < size
  cut_inside i h =
      let e : length (cut size width) ≡ ceil_div size (max width 1) = length_cut size width in
      part_inside size w i (omega arith) (rw ew (omega arith))

  pub cut_done : (ws : List ℕ) (room : ℕ) (i : ℕ) (out : List ℕ) → room ≡ length ws / slot_size → count ≤ room → count ≤ i → i ≤ count
      → out ≡ over (words_of (up_to i (part_of size w))) ws → out ≡ written (cut size width) ws
  unfolding cut
  cut_done ws room i out er fits past within h =
      let e : i ≡ ceil_div size (max width 1) = omega (arith, length_cut size width) in
      rw (h, e, ew) (sym (written_fits (cut size width) ws (omega arith)))

pub cut_short : (size width count room : ℕ) (ws : List ℕ) → count ≡ length (cut size width) → room ≡ length ws / slot_size → room < count
    → ws ≡ written (cut size width) ws
cut_short size width count room ws e er h = written_short (cut size width) ws (omega arith)

pub cut_next : (size w count room i part : ℕ) (ws out out' : List ℕ) → room ≡ length ws / slot_size → count ≤ room → i < count
    → out ≡ over (words_of (up_to i (part_of size w))) ws → part ≡ min (size - i * w) w
    → out' ≡ put_at out (slot_size * i) (slot_words (integer_slot (i * w) part)) → out' ≡ over (words_of (up_to (i + 1) (part_of size w))) ws
cut_next size w count room i part ws out out' er fits h eo ep e = rw (e, eo, ep) (run_next (part_of size w) i ws (omega arith))
