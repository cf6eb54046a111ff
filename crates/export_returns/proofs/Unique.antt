-- No second answer, and nothing else in a lent buffer, meets the promise of an exported entry.
use mathlib.Core.Path.{sym, ◌∙◌}
use contract.Lifetimes.{Lfts}
use Rattle.shape.proofs.OneAnswer.{OneAnswer, OneExit}
use Rattle.export_returns.proofs.barkpaddle_return_void.Reads as return_void
use Rattle.export_returns.proofs.barkpaddle_return_scalar.Reads as return_scalar
use Rattle.export_returns.proofs.barkpaddle_return_aggregate.Reads as return_aggregate

return_void_decides : (κs : Lfts 1) → OneAnswer (return_void.Post κs)
return_void_decides κs a r q s t p p' = p.answers ∙ sym p'.answers

return_void_words : (κs : Lfts 1) → OneExit (return_void.Post κs) (λ s. s.1.1.1.1.1.0.now)
return_void_words κs a r q s t p p' = p.writes ∙ sym p'.writes

return_scalar_decides : (κs : Lfts 1) → OneAnswer (return_scalar.Post κs)
return_scalar_decides κs a r q s t p p' = p.answers ∙ sym p'.answers

return_scalar_words : (κs : Lfts 1) → OneExit (return_scalar.Post κs) (λ s. s.1.1.1.1.1.1.1.1.0.now)
return_scalar_words κs a r q s t p p' = p.writes ∙ sym p'.writes

return_aggregate_decides : (κs : Lfts 2) → OneAnswer (return_aggregate.Post κs)
return_aggregate_decides κs a r q s t p p' = p.answers ∙ sym p'.answers

return_aggregate_words : (κs : Lfts 2) → OneExit (return_aggregate.Post κs) (λ s. s.1.1.1.1.1.1.1.1.1.1.0.now)
return_aggregate_words κs a r q s t p p' = p.writes ∙ sym p'.writes
