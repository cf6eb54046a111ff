-- A size cut into integer slots of a width (REFERENCE 4.4): one for each part, the last holding what is left.
use Rattle.std.specs.Prelude.{ℕ, zero, suc, ◌+◌, ◌-◌, ◌*◌, ◌/◌, min, max, List, [], ◌∷◌, ◌++◌}
use Rattle.slots.specs.declared.Slot.{Slot}
use Rattle.slots.specs.Words.{integer_slot}

-- f 0, f 1, .., n of them
unfoldable pub up_to : ℕ → (ℕ → Slot) → List Slot
up_to zero f = []
up_to (suc n) f = up_to n f ++ (f n ∷ [])

-- how many parts of a width cover a size
abbrev pub ceil_div : ℕ → ℕ → ℕ
ceil_div size w = (size + (w - 1)) / w

-- the part with this index
abbrev pub part_of : ℕ → ℕ → ℕ → Slot
part_of size w i = integer_slot (i * w) (min (size - i * w) w)

-- no width counts as 1
unfoldable pub cut : ℕ → ℕ → List Slot
cut size width = up_to (ceil_div size (max width 1)) (part_of size (max width 1))
