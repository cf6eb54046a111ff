-- No second answer, and no other bytes in a lent buffer, meet the promise of a public function.
use mathlib.Core.Path.{sym, ◌∙◌}
use contract.Lifetimes.{Lfts}
use Rattle.shape.proofs.OneAnswer.{OneAnswer, OneExit}
use Rattle.text.proofs.Copy.{told_decides}
use Rattle.text.proofs.put.Reads as put
use Rattle.text.proofs.append.Reads as append
use Rattle.text.proofs.append_up_to_dot.Reads as append_up_to_dot
use Rattle.text.proofs.end_of.Reads as end_of_lem
use Rattle.text.proofs.append_number.Reads as append_number

put_decides : (κs : Lfts 2) → OneAnswer (put.Post κs)
put_decides κs a r q s t p p' = told_decides r q (p.0 ∙ sym p'.0)

put_bytes : (κs : Lfts 2) → OneExit (put.Post κs) (λ s. s.1.0.now)
put_bytes κs a r q s t p p' = p.1 ∙ sym p'.1

append_decides : (κs : Lfts 2) → OneAnswer (append.Post κs)
append_decides κs a r q s t p p' = p.0 ∙ sym p'.0

append_bytes : (κs : Lfts 2) → OneExit (append.Post κs) (λ s. s.0.now)
append_bytes κs a r q s t p p' = p.1 ∙ sym p'.1

append_up_to_dot_decides : (κs : Lfts 2) → OneAnswer (append_up_to_dot.Post κs)
append_up_to_dot_decides κs a r q s t p p' = p.0 ∙ sym p'.0

append_up_to_dot_bytes : (κs : Lfts 2) → OneExit (append_up_to_dot.Post κs) (λ s. s.0.now)
append_up_to_dot_bytes κs a r q s t p p' = p.1 ∙ sym p'.1

end_of_decides : (κs : Lfts 1) → OneAnswer (end_of_lem.Post κs)
end_of_decides κs a r q s t p p' = p ∙ sym p'

append_number_decides : (κs : Lfts 1) → OneAnswer (append_number.Post κs)
append_number_decides κs a r q s t p p' = p.0 ∙ sym p'.0

append_number_bytes : (κs : Lfts 1) → OneExit (append_number.Post κs) (λ s. s.0.now)
append_number_bytes κs a r q s t p p' = p.1 ∙ sym p'.1
