-- How a value travels, with its slots where it travels as Pieces (REFERENCE 9).
use Rattle.std.specs.Prelude.{Bool, true, false, List, []}
use Rattle.slots.specs.declared.Slot.{Slot}
use Rattle.spend.specs.declared.Way.{Way}
use Rattle.spend.specs.declared.Way.TheVariants.{Ignore, Direct, Pieces, Reference, Memory}

pub data Pass : Type 0 where
  ignore : Pass
  direct : Pass
  pieces : List Slot → Pass
  reference : Pass
  memory : Pass

-- its way
abbrev pub way_of : Pass → Way
way_of ignore = Ignore
way_of direct = Direct
way_of (pieces ss) = Pieces
way_of reference = Reference
way_of memory = Memory

-- nothing of the value travels
abbrev pub is_ignore : Pass → Bool
is_ignore ignore = true
is_ignore direct = false
is_ignore (pieces ss) = false
is_ignore reference = false
is_ignore memory = false

-- its slots: a way other than Pieces has none
abbrev pub pass_slots : Pass → List Slot
pass_slots ignore = []
pass_slots direct = []
pass_slots (pieces ss) = ss
pass_slots reference = []
pass_slots memory = []
