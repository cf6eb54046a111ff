-- No second answer, and no other bytes in a lent buffer, meet the promise of a public function.
use mathlib.Core.Path.{sym, ◌∙◌}
use contract.Lifetimes.{Lfts}
use Rattle.shape.proofs.OneAnswer.{OneAnswer, OneExit}
use Rattle.sheet_lines.proofs.put_line.Reads as put_line
use Rattle.sheet_lines.proofs.has_room.Reads as has_room

put_line_decides : (κs : Lfts 2) → OneAnswer (put_line.Post κs)
put_line_decides κs a r q s t p p' = p.ends ∙ sym p'.ends

put_line_text : (κs : Lfts 2) → OneExit (put_line.Post κs) (λ s. s.1.1.1.1.0.now)
put_line_text κs a r q s t p p' = p.text_left ∙ sym p'.text_left

has_room_decides : (κs : Lfts 0) → OneAnswer (has_room.Post κs)
has_room_decides κs a r q s t p p' = p ∙ sym p'
