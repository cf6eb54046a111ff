-- A search inside a shape (REFERENCE 7): the slots that it finds, or nothing.
use Rattle.std.specs.Prelude.{ℕ, ◌+◌, List, [], ◌∷◌, length, Option, Some, None}
use Rattle.shape.specs.Numbers.{one_if}
use Rattle.shape.specs.Questions.{is_float}
use Rattle.slots.specs.declared.Slot.{Slot}
use Rattle.slots.specs.declared.Found.{Found}

pub data Search : Type 0 where
  found : List Slot → Search
  nothing : Search

-- how many of some slots are floats
unfoldable pub floats_in : List Slot → ℕ
floats_in [] = 0
floats_in (s ∷ ss) = one_if (is_float s.kind) + floats_in ss

-- so many slots, of which so many are floats
abbrev pub counted : ℕ → ℕ → Found
counted n k = record { count = n; floats = k }

-- what the code answers for a search: its counts
unfoldable pub found_of : Search → Option Found
found_of (found ss) = Some (counted (length ss) (floats_in ss))
found_of nothing = None
