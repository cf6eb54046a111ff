-- No second answer, and nothing else in a lent buffer, meets the promise of an exported entry.
use mathlib.Core.Path.{sym, ◌∙◌}
use contract.Lifetimes.{Lfts}
use Rattle.shape.proofs.OneAnswer.{OneAnswer, OneExit}
use Rattle.export_arguments.proofs.barkpaddle_fresh.Reads as fresh
use Rattle.export_arguments.proofs.barkpaddle_variadic.Reads as variadic
use Rattle.export_arguments.proofs.barkpaddle_argument_void.Reads as argument_void
use Rattle.export_arguments.proofs.barkpaddle_argument_scalar.Reads as argument_scalar
use Rattle.export_arguments.proofs.barkpaddle_argument_aggregate.Reads as argument_aggregate

fresh_decides : (κs : Lfts 0) → OneAnswer (fresh.Post κs)
fresh_decides κs a r q s t p p' = p ∙ sym p'

variadic_decides : (κs : Lfts 0) → OneAnswer (variadic.Post κs)
variadic_decides κs a r q s t p p' = p ∙ sym p'

argument_void_decides : (κs : Lfts 1) → OneAnswer (argument_void.Post κs)
argument_void_decides κs a r q s t p p' = p.answers ∙ sym p'.answers

argument_void_words : (κs : Lfts 1) → OneExit (argument_void.Post κs) (λ s. s.1.1.1.1.1.0.now)
argument_void_words κs a r q s t p p' = p.writes ∙ sym p'.writes

argument_scalar_decides : (κs : Lfts 1) → OneAnswer (argument_scalar.Post κs)
argument_scalar_decides κs a r q s t p p' = p.answers ∙ sym p'.answers

argument_scalar_words : (κs : Lfts 1) → OneExit (argument_scalar.Post κs) (λ s. s.1.1.1.1.1.1.1.1.0.now)
argument_scalar_words κs a r q s t p p' = p.writes ∙ sym p'.writes

argument_aggregate_decides : (κs : Lfts 2) → OneAnswer (argument_aggregate.Post κs)
argument_aggregate_decides κs a r q s t p p' = p.answers ∙ sym p'.answers

argument_aggregate_words : (κs : Lfts 2) → OneExit (argument_aggregate.Post κs) (λ s. s.1.1.1.1.1.1.1.1.1.1.0.now)
argument_aggregate_words κs a r q s t p p' = p.writes ∙ sym p'.writes
