-- No second answer, and no other words or bytes in a lent buffer, meet the promise of a public function.
use mathlib.Core.Path.{sym, ◌∙◌}
use contract.Lifetimes.{Lfts}
use Rattle.shape.proofs.OneAnswer.{OneAnswer, OneExit}
use Rattle.sheet.proofs.take_record.Reads as take_record
use Rattle.sheet.proofs.take_records.Reads as take_records
use Rattle.sheet.proofs.finish.Reads as finish

take_record_decides : (κs : Lfts 4) → OneAnswer (take_record.Post κs)
take_record_decides κs a r q s t p p' = p.answers ∙ sym p'.answers

take_record_pieces : (κs : Lfts 4) → OneExit (take_record.Post κs) (λ s. s.1.1.0.now)
take_record_pieces κs a r q s t p p' = p.pieces_left ∙ sym p'.pieces_left

take_record_slots : (κs : Lfts 4) → OneExit (take_record.Post κs) (λ s. s.1.1.1.0.now)
take_record_slots κs a r q s t p p' = p.slots_left ∙ sym p'.slots_left

take_record_text : (κs : Lfts 4) → OneExit (take_record.Post κs) (λ s. s.1.1.1.1.0.now)
take_record_text κs a r q s t p p' = p.text_left ∙ sym p'.text_left

take_records_decides : (κs : Lfts 4) → OneAnswer (take_records.Post κs)
take_records_decides κs a r q s t p p' = p.answers ∙ sym p'.answers

take_records_pieces : (κs : Lfts 4) → OneExit (take_records.Post κs) (λ s. s.1.1.0.now)
take_records_pieces κs a r q s t p p' = p.pieces_left ∙ sym p'.pieces_left

take_records_slots : (κs : Lfts 4) → OneExit (take_records.Post κs) (λ s. s.1.1.1.0.now)
take_records_slots κs a r q s t p p' = p.slots_left ∙ sym p'.slots_left

take_records_text : (κs : Lfts 4) → OneExit (take_records.Post κs) (λ s. s.1.1.1.1.0.now)
take_records_text κs a r q s t p p' = p.text_left ∙ sym p'.text_left

finish_decides : (κs : Lfts 1) → OneAnswer (finish.Post κs)
finish_decides κs a r q s t p p' = p.answers ∙ sym p'.answers

finish_text : (κs : Lfts 1) → OneExit (finish.Post κs) (λ s. s.1.0.now)
finish_text κs a r q s t p p' = p.text_left ∙ sym p'.text_left
