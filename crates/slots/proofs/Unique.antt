-- No second answer, and no other words in a lent buffer, meet the promise of a public function.
use mathlib.Core.Path.{sym, ◌∙◌}
use contract.Lifetimes.{Lfts}
use Rattle.shape.proofs.OneAnswer.{OneAnswer, OneExit}
use Rattle.slots.proofs.Slot.is_float.Reads as slot_is_float
use Rattle.slots.proofs.room.Reads as room
use Rattle.slots.proofs.integer_slots.Reads as integer_slots
use Rattle.slots.proofs.parts.Reads as parts
use Rattle.slots.proofs.put_slot.Reads as put_slot

slot_is_float_decides : (κs : Lfts 0) → OneAnswer (slot_is_float.Post κs)
slot_is_float_decides κs a r q s t p p' = p ∙ sym p'

room_decides : (κs : Lfts 0) → OneAnswer (room.Post κs)
room_decides κs a r q s t p p' = p ∙ sym p'

integer_slots_decides : (κs : Lfts 1) → OneAnswer (integer_slots.Post κs)
integer_slots_decides κs a r q s t p p' = p.0 ∙ sym p'.0

integer_slots_words : (κs : Lfts 1) → OneExit (integer_slots.Post κs) (λ s. s.1.1.0.now)
integer_slots_words κs a r q s t p p' = p.1 ∙ sym p'.1

parts_decides : (κs : Lfts 0) → OneAnswer (parts.Post κs)
parts_decides κs a r q s t p p' = p ∙ sym p'

put_slot_words : (κs : Lfts 1) → OneExit (put_slot.Post κs) (λ s. s.0.now)
put_slot_words κs a r q s t p p' = p ∙ sym p'
