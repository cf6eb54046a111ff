-- The slots of the eightbytes that are left, and the words that they put behind those before.
use Prim.Native.Nat.{ℕ, ◌+◌, ◌-◌, ◌*◌, ◌/◌, ◌≤◌, ◌<◌, min}
use mathlib.Core.Path.{◌≡◌, sym, ap, ◌∙◌}
use mathlib.Core.Bool.{Bool, true, false, not}
use mathlib.Core.List.{List, [], ◌∷◌, ◌++◌}
use native.Mathlib.Omega.{arith}
use native.Mathlib.Nat.{sub-zero}
use native.Mathlib.Decide.{dec_le}
use denote.Enum.Bare.{sameb}
use lib.ListN.{length, get_or, take, drop, length-append, length-take}
use lib.Seq.{take_all, get_or-take}
use Rattle.slots.specs.declared.Slot.{Slot}
use Rattle.shape.specs.Numbers.{one_if}
use Rattle.slots.specs.Words.{slot_words, slot_size, words_of, written}
use Rattle.shape.specs.Words.{put_at}
use Rattle.slots.proofs.Words.{words_append, length_words, written_short}
use Rattle.shape.proofs.Put.{put_split, put_none}
use Rattle.eightbytes.specs.contracts.Class.{the_type}
use Rattle.eightbytes.specs.declared.Class.{Class}
use Rattle.eightbytes.specs.declared.Class.TheVariants.{None, SseUp}
use Rattle.eightbytes.specs.Eightbytes.{eightbytes_in, own_slot, class_slot, up_first, slots_from, slots_of_eight, slot_count}
use Rattle.eightbytes.proofs.OneClass.{same_is}
use Rattle.eightbytes.proofs.Rest.{rest_step as rest_step_all, rest_end as rest_end_all}
use Rattle.eightbytes.proofs.Counts.{slots_length}

-- ---- one eightbyte

module _ (class : Class) (up : Bool) (at left : ℕ) (u : Bool) (eu : u ≡ sameb the_type class SseUp) where
  slot_none : u ≡ true → class_slot class up at left ≡ []
  slot_none h = rw (← same_is class SseUp, ← eu, h)

  slot_own : (s : Slot) → s ≡ own_slot class up at left → u ≡ false → class_slot class up at left ≡ s ∷ []
  slot_own s e h = rw (← same_is class SseUp, ← eu, h, e)

  -- what is put at a place, and the next place
  module _ (ws : List ℕ) (place : ℕ) (fits : place ≤ length ws) where
    pub put_nothing : u ≡ true → ws ≡ put_at ws place (words_of (class_slot class up at left))
    unfolding words_of
    put_nothing h = rw (slot_none h, put_none ws place fits)

    pub next_same : u ≡ true → place ≡ place + length (words_of (class_slot class up at left))
    unfolding words_of
    next_same h = rw (slot_none h) (omega arith)

    module _ (s : Slot) (e : s ≡ own_slot class up at left) (h : u ≡ false) where
      pub put_own : (ws' : List ℕ) → ws' ≡ put_at ws place (slot_words s) → ws' ≡ put_at ws place (words_of (class_slot class up at left))
      unfolding words_of
      put_own ws' p = rw (slot_own s e h) p

      pub next_own : place + slot_size ≡ place + length (words_of (class_slot class up at left))
      unfolding words_of
      next_own = rw (slot_own s e h)

-- ---- the classes from an index on, among the first n

abbrev pub rest : List Class → ℕ → ℕ → List Class
rest xs n i = drop i (take n xs)

module _ (xs : List Class) (n i : ℕ) where
  pub rest_step : i < n → n ≤ length xs → rest xs n i ≡ get_or xs i None ∷ rest xs n (i + 1)
  rest_step h l =
      let t : i < length (take n xs) = simp length-take (omega arith) in
      rw (rest_step_all (take n xs) i t, get_or-take n xs i None h)

  pub rest_end : n ≤ i → rest xs n i ≡ []
  rest_end h = rest_end_all (take n xs) i (simp length-take (omega arith))

-- ---- the eightbyte above

pub up_none : (xs : List Class) (n i : ℕ) → n ≤ i → false ≡ up_first (rest xs n i)
up_none xs n i h = rw (rest_end xs n i h)

pub up_some : (xs : List Class) (n i : ℕ) → i < n → n ≤ length xs → sameb the_type (get_or xs i None) SseUp ≡ up_first (rest xs n i)
up_some xs n i h l = rw (rest_step xs n i h l) (same_is _ _)

-- ---- how many slots there are

pub count_turn : (cs : List Class) (i m count k : ℕ) (u : Bool) → m ≡ count + slot_count (drop i cs) → i < length cs → u ≡ not (sameb the_type (get_or cs i None) SseUp)
    → k ≡ one_if u → m ≡ count + k + slot_count (drop (i + 1) cs)
unfolding slot_count
count_turn cs i m count k u e h eu ek =
    let s : slot_count (drop i cs) ≡ k + slot_count (drop (i + 1) cs) = rw (rest_step_all cs i h, ek, eu, same_is) in
    omega arith

pub count_end : (cs : List Class) (i m count : ℕ) → m ≡ count + slot_count (drop i cs) → length cs ≤ i → count ≡ m
unfolding slot_count
count_end cs i m count e h = let z : slot_count (drop i cs) ≡ 0 = rw (rest_end_all cs i h) in omega arith

-- ---- the slots that are left

abbrev pub left : ℕ → List Class → ℕ → ℕ → List Slot
left size xs n i = slots_from (8 * i) (size - 8 * i) (rest xs n i)

pub left_step : (size : ℕ) (xs : List Class) (n i : ℕ) → i < n → n ≤ length xs
    → left size xs n i ≡ class_slot (get_or xs i None) (up_first (rest xs n (i + 1))) (8 * i) (size - 8 * i) ++ left size xs n (i + 1)
unfolding slots_from
left_step size xs n i h l =
    let a : 8 * i + 8 ≡ 8 * (i + 1) = omega arith in
    let b : size - 8 * i - 8 ≡ size - 8 * (i + 1) = omega arith in
    rw (rest_step xs n i h l, a, b)

pub left_end : (size : ℕ) (xs : List Class) (n i : ℕ) → n ≤ i → left size xs n i ≡ []
unfolding slots_from
left_end size xs n i h = rw (rest_end xs n i h)

-- some of the eight: a size of more than eight eightbytes has all of them
module _ (size n : ℕ) (xs : List Class) (en : n ≡ min (eightbytes_in size) 8) (l : length xs ≡ 8) where
  first_n : take (eightbytes_in size) xs ≡ take n xs
  first_n = go (dec_le (eightbytes_in size) 8)
    where
      go : Dec (eightbytes_in size ≤ 8) → take (eightbytes_in size) xs ≡ take n xs
      go (yes h) = let e : eightbytes_in size ≡ n = omega arith in ap (λ (m : ℕ). take m xs) e
      go (no h) = take_all (eightbytes_in size) xs (omega arith) ∙ sym (take_all n xs (omega arith))

  pub all_left : slots_of_eight size xs ≡ left size xs n 0
  unfolding slots_of_eight
  all_left = rw (first_n, sub-zero)

-- ---- the loop that writes them

-- they don't all fit
pub put_short : (size n count room : ℕ) (xs : List Class) (ws : List ℕ) → n ≡ min (eightbytes_in size) 8 → length xs ≡ 8 → count ≡ slot_count (rest xs n 0)
    → room ≡ length ws / slot_size → room < count → ws ≡ written (slots_of_eight size xs) ws
put_short size n count room xs ws en l ec er h =
    let k : length (slots_of_eight size xs) ≡ count = rw (all_left size n xs en l, slots_length) (sym ec) in
    written_short (slots_of_eight size xs) ws (omega arith)

-- they do: all are left to put
module _ (size n : ℕ) (xs : List Class) where
  pub put_start : (ws : List ℕ) → n ≡ min (eightbytes_in size) 8 → length xs ≡ 8 → written (slots_of_eight size xs) ws ≡ put_at ws 0 (words_of (left size xs n 0))
  unfolding written
  put_start ws en l = rw (all_left size n xs en l)

  pub room_start : (count room : ℕ) (ws : List ℕ) → count ≡ slot_count (rest xs n 0) → room ≡ length ws / slot_size → count ≤ room
      → length (words_of (left size xs n 0)) ≤ length ws
  room_start count room ws ec er h =
      let w : length (words_of (left size xs n 0)) ≡ slot_size * length (left size xs n 0) = length_words (left size xs n 0) in
      let k : length (left size xs n 0) ≡ slot_count (rest xs n 0) = slots_length _ _ (rest xs n 0) in
      omega arith

  module _ (i : ℕ) (h : i < n) (l : n ≤ length xs) (up : Bool) (eu : up ≡ up_first (rest xs n (i + 1))) (ws : List ℕ) (place : ℕ)
      (fits : place + length (words_of (left size xs n i)) ≤ length ws) where
    here : List ℕ
    here = words_of (class_slot (get_or xs i None) up (8 * i) (size - 8 * i))

    parted : words_of (left size xs n i) ≡ here ++ words_of (left size xs n (i + 1))
    unfolding here
    parted = rw (left_step size xs n i h l, eu, words_append)

    parted_length : length (words_of (left size xs n i)) ≡ length here + length (words_of (left size xs n (i + 1)))
    parted_length = rw (parted, length-append)

    module _ (place' : ℕ) (ep : place' ≡ place + length (words_of (class_slot (get_or xs i None) up (8 * i) (size - 8 * i)))) where
      pub room_turn : (m : ℕ) → m ≡ length ws → place' + length (words_of (left size xs n (i + 1))) ≤ m
      unfolding here
      room_turn m em = omega (arith, parted_length)

      pub put_turn : (total ws' : List ℕ) → total ≡ put_at ws place (words_of (left size xs n i))
          → ws' ≡ put_at ws place (words_of (class_slot (get_or xs i None) up (8 * i) (size - 8 * i)))
          → total ≡ put_at ws' place' (words_of (left size xs n (i + 1)))
      unfolding here
      put_turn total ws' et ew = rw (et, parted, ew, ep) (put_split ws place _ _ (omega (arith, parted_length)))

  pub put_end : (i place : ℕ) (total ws : List ℕ) → n ≤ i → place + length (words_of (left size xs n i)) ≤ length ws
      → total ≡ put_at ws place (words_of (left size xs n i)) → ws ≡ total
  unfolding words_of
  put_end i place total ws h f e =
      let z : words_of (left size xs n i) ≡ [] = rw (left_end size xs n i h) in
      rw (e, z) (sym (put_none ws place (omega arith)))
