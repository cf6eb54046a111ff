-- The numbers show what was located.
use mathlib.Core.Path.{◌≡◌, refl}
use mathlib.Core.List.{List}
use Prim.Native.Nat.{ℕ}
use Rattle.varargs.specs.Lists.{Area, Nowhere, Save, Overflow, Located, area_number, bytes_of, part_of, shown_at}
use Rattle.export_varargs.specs.Numbers.{area_from, part_numbers, shown_by}

pub area_back : (area : Area) (save overflow : List ℕ) → area_from (area_number area) save overflow ≡ bytes_of area save overflow
area_back Nowhere save overflow = refl
area_back Save save overflow = refl
area_back Overflow save overflow = refl

pub shown_back : (save overflow : List ℕ) (l : Located) → shown_by save overflow (part_numbers l) ≡ shown_at save overflow l
unfolding part_of
shown_back save overflow l = rw (area_back l.area save overflow)
