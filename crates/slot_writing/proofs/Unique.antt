-- No other words in a lent buffer meet the promise of a public function.
use mathlib.Core.Path.{sym, ◌∙◌}
use contract.Lifetimes.{Lfts}
use denote.Param.Laws.{Laws, IsCopy}
use denote.RattleType.{RattleType}
use mir.Syntax.{Dict}
use Rattle.shape.proofs.OneAnswer.{OneExit}
use Rattle.std.specs.declared.clone.Clone as Clone
use Rattle.eightbytes.specs.declared.codes.Eight as Eight
use Rattle.slot_writing.proofs.write.Reads as write
use Rattle.slot_writing.proofs.write_scalar.Reads as write_scalar
use Rattle.slot_writing.proofs.pieces.put_pieces.Reads as put_pieces
use Rattle.slot_writing.proofs.classes.put_eightbytes.Reads as put_eightbytes

-- whatever gives the eight classes
module _ (E : RattleType) (laws : Laws E) (copy : IsCopy E) (eight : Eight.Ghosts E.Denot) (its_eight : Dict) (clone : Clone.Ghosts E.Denot) (its_clone : Dict) where
  write_words : (κs : Lfts 3) → OneExit (write.Post E laws copy eight its_eight clone its_clone κs) (λ s. s.1.1.1.0.now)
  write_words κs a r q s t p p' = p ∙ sym p'

  put_eightbytes_words : (κs : Lfts 2) → OneExit (put_eightbytes.Post E laws copy eight its_eight clone its_clone κs) (λ s. s.1.1.0.now)
  put_eightbytes_words κs a r q s t p p' = p ∙ sym p'

write_scalar_words : (κs : Lfts 1) → OneExit (write_scalar.Post κs) (λ s. s.1.0.now)
write_scalar_words κs a r q s t p p' = p ∙ sym p'

put_pieces_words : (κs : Lfts 2) → OneExit (put_pieces.Post κs) (λ s. s.1.0.now)
put_pieces_words κs a r q s t p p' = p ∙ sym p'
