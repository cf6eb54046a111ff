-- Slots as they stand in words, and what a buffer holds once they are written (REFERENCE 1.3). Only `slot_words`, `slot_at` and `slot_size` say
-- how many words a slot has.
use Rattle.std.specs.Prelude.{ℕ, zero, suc, ◌*◌, List, [], ◌∷◌, ◌++◌, cond, leb, length, drop, get_or}
use Rattle.shape.specs.Numbers.{integer}
use Rattle.shape.specs.Words.{put_at}
use Rattle.slots.specs.declared.Slot.{Slot}

abbrev pub slot : ℕ → ℕ → ℕ → Slot
slot k o n = record { kind = k; offset = o; size = n }

-- an integer of so many bytes at an offset, and a float in a format at an offset
abbrev pub integer_slot : ℕ → ℕ → Slot
integer_slot offset size = slot integer offset size

abbrev pub float_slot : ℕ → ℕ → Slot
float_slot format offset = slot format offset 0

abbrev pub slot_size : ℕ
slot_size = 3

-- no result needs more slots, and a buffer of so many words has room for them
abbrev pub most_slots : ℕ
most_slots = 8

abbrev pub most_words : ℕ
most_words = most_slots * slot_size

abbrev pub slot_words : Slot → List ℕ
slot_words s = s.kind ∷ s.offset ∷ s.size ∷ []

unfoldable pub words_of : List Slot → List ℕ
words_of [] = []
words_of (s ∷ ss) = slot_words s ++ words_of ss

-- slots at the front of a buffer, where they all fit; all later words keep their values
unfoldable pub written : List Slot → List ℕ → List ℕ
written ss ws = put_at ws 0 (words_of ss)

-- ---- slots, read back from words

-- the slot whose words stand at the front
abbrev pub slot_at : List ℕ → Slot
slot_at ws = slot (get_or ws 0 0) (get_or ws 1 0) (get_or ws 2 0)

-- the first so many slots, or all where fewer are whole
unfoldable pub slots_read : ℕ → List ℕ → List Slot
slots_read zero ws = []
slots_read (suc n) ws = cond (leb slot_size (length ws)) (slot_at ws ∷ slots_read n (drop slot_size ws)) []
