-- At most two eightbytes: room for their slots, and the writing of these without a loop.
use Prim.Native.Nat.{ℕ, ◌+◌, ◌-◌, ◌*◌, ◌/◌, ◌≤◌, ◌<◌}
use mathlib.Core.Path.{◌≡◌, refl, sym, ◌∙◌}
use mathlib.Core.Bool.{Bool, true, false, not}
use mathlib.Core.List.{List, append-nil}
use native.Mathlib.Omega.{arith}
use native.Mathlib.Nat.{sub-zero, zero-add}
use borrow.Author.Tests.{le-leb, leb-true, leb-false, not-true, not-false}
use denote.Enum.Bare.{sameb}
use lib.Dec.{leb}
use lib.ListN.{length, get_or, take, length-take}
use Rattle.shape.specs.Words.{put_at}
use Rattle.slots.specs.Words.{slot_size, words_of, written}
use Rattle.shape.proofs.Put.{put_none}
use Rattle.eightbytes.specs.contracts.Class.{the_type}
use Rattle.eightbytes.specs.declared.Class.{Class}
use Rattle.eightbytes.specs.declared.Class.TheVariants.{None, SseUp}
use Rattle.eightbytes.specs.Eightbytes.{class_slot, slots_of_eight, slot_count}
use Rattle.eightbytes.proofs.Found.{few_slots}
use Rattle.slot_writing.proofs.Put.{rest_end, left, left_step, left_end, up_some, put_short, put_start, room_start, room_turn, put_turn}

-- ---- room for the slots of the first n classes

module _ (xs : List Class) (n room : ℕ) where
  pub room_all : n ≤ room → leb n room ≡ leb (slot_count (take n xs)) room
  room_all h =
      let l : length (take n xs) ≤ n = simp length-take (omega arith) in
      rw (le-leb n room h) (sym (le-leb (slot_count (take n xs)) room (omega (arith, few_slots (take n xs)))))

  pub room_counted : (count : ℕ) → count ≡ slot_count (take n xs) → leb count room ≡ leb (slot_count (take n xs)) room
  room_counted count e = rw e

-- ---- their slots

pub put_empty : (size : ℕ) (xs : List Class) (ws : List ℕ) → length xs ≡ 8 → size ≡ 0 → ws ≡ written (slots_of_eight size xs) ws
unfolding words_of
put_empty size xs ws l e =
    rw (put_start size 0 xs ws (omega arith) l, left_end size xs 0 0 (omega arith)) (sym (put_none ws 0 (omega arith)))

last_left : (size : ℕ) (xs : List Class) (n i : ℕ) → i < n → n ≤ i + 1 → n ≤ length xs
    → left size xs n i ≡ class_slot (get_or xs i None) false (8 * i) (size - 8 * i)
last_left size xs n i h g l = rw (left_step size xs n i h l, left_end size xs n (i + 1) g, rest_end xs n (i + 1) g, append-nil)

pub put_one : (size : ℕ) (xs : List Class) (ws ws' : List ℕ) → length xs ≡ 8 → (size ≡ 0 → ⊥) → size ≤ 8
    → ws' ≡ put_at ws 0 (words_of (class_slot (get_or xs 0 None) false 0 size)) → ws' ≡ written (slots_of_eight size xs) ws
put_one size xs ws ws' l z h e =
    rw (put_start size 1 xs ws (omega arith) l, last_left size xs 1 0 (omega arith) (omega arith) (omega arith), sub-zero) e

module _ (size : ℕ) (xs : List Class) (ws : List ℕ) (l : length xs ≡ 8) (g : 8 < size) (h : size ≤ 16) (room : ℕ) (er : room ≡ length ws / slot_size)
    (b : Bool) (eb : b ≡ leb (slot_count (take 2 xs)) room) where
  pub put_neither : not b ≡ true → ws ≡ written (slots_of_eight size xs) ws
  put_neither f =
      put_short size 2 (slot_count (take 2 xs)) room xs ws (omega arith) l refl er (leb-false _ _ (sym eb ∙ not-true b f))

  module _ (f : not b ≡ false) (u : Bool) (eu : u ≡ sameb the_type (get_or xs 1 None) SseUp) (next : ℕ) (ws' : List ℕ)
      (en : next ≡ 0 + length (words_of (class_slot (get_or xs 0 None) u 0 size)))
      (ew : ws' ≡ put_at ws 0 (words_of (class_slot (get_or xs 0 None) u 0 size))) where
    all_fit_lem : 0 + length (words_of (left size xs 2 0)) ≤ length ws
    all_fit_lem = rw zero-add (room_start size 2 xs (slot_count (take 2 xs)) room ws refl er (leb-true _ _ (sym eb ∙ not-false b f)))

    -- the next place is inside
    pub put_behind : (m : ℕ) → m ≡ length ws → next ≤ m
    put_behind m em =
        let r : next + length (words_of (left size xs 2 1)) ≤ m =
        room_turn size 2 xs 0 (omega arith) (omega arith) u (eu ∙ up_some xs 2 1 (omega arith) (omega arith)) ws 0 all_fit_lem next (rw sub-zero en) m em in
        omega arith

    pub put_both : (ws'' : List ℕ) → ws'' ≡ put_at ws' next (words_of (class_slot (get_or xs 1 None) false 8 (size - 8))) → ws'' ≡ written (slots_of_eight size xs) ws
    put_both ws'' e =
        let t : written (slots_of_eight size xs) ws ≡ put_at ws' next (words_of (left size xs 2 1)) =
        put_turn size 2 xs 0 (omega arith) (omega arith) u (eu ∙ up_some xs 2 1 (omega arith) (omega arith)) ws 0 all_fit_lem next (rw sub-zero en) (written (slots_of_eight size xs) ws) ws' (put_start size 2 xs ws (omega arith) l) (rw sub-zero ew) in
        rw (t, last_left size xs 2 1 (omega arith) (omega arith) (omega arith)) e
