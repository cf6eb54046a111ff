-- The number of each refusal (REFERENCE 3), and the number of an answer that may be one: 0 where it is none.
use Rattle.std.specs.Prelude.{ℕ, Ok, Err, Result}
use Rattle.shape.specs.declared.refusals.Refusal.{Refusal}
use Rattle.shape.specs.declared.refusals.Refusal.TheVariants.{BadAbi, BadCall, BadList, BadKind, BadSize, BadAlign, NoRoom, BadArea, BadExtent, BadType, TooDeep}
use Rattle.shape.specs.Numbers.{accepted, bad_abi, bad_call, bad_list, bad_kind, bad_size, bad_align, no_room, bad_area, bad_extent, bad_type, too_deep}

abbrev pub number_of : Refusal → ℕ
number_of BadAbi = bad_abi
number_of BadCall = bad_call
number_of BadList = bad_list
number_of BadKind = bad_kind
number_of BadSize = bad_size
number_of BadAlign = bad_align
number_of NoRoom = no_room
number_of BadArea = bad_area
number_of BadExtent = bad_extent
number_of BadType = bad_type
number_of TooDeep = too_deep

abbrev pub refusal_of : {A : Type 0} → Result A Refusal → ℕ
refusal_of (Ok a) = accepted
refusal_of (Err r) = number_of r
