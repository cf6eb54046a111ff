-- No second answer, and nothing else in a lent buffer, meets the promise of an exported entry.
use mathlib.Core.Path.{sym, ◌∙◌}
use contract.Lifetimes.{Lfts}
use Rattle.shape.proofs.OneAnswer.{OneAnswer, OneExit}
use Rattle.export_variadic.proofs.barkpaddle_variadic_argument_void.Reads as variadic_argument_void
use Rattle.export_variadic.proofs.barkpaddle_variadic_argument_scalar.Reads as variadic_argument_scalar
use Rattle.export_variadic.proofs.barkpaddle_variadic_argument_aggregate.Reads as variadic_argument_aggregate

variadic_argument_void_decides : (κs : Lfts 1) → OneAnswer (variadic_argument_void.Post κs)
variadic_argument_void_decides κs a r q s t p p' = p.answers ∙ sym p'.answers

variadic_argument_void_words : (κs : Lfts 1) → OneExit (variadic_argument_void.Post κs) (λ s. s.1.1.1.1.1.0.now)
variadic_argument_void_words κs a r q s t p p' = p.writes ∙ sym p'.writes

variadic_argument_scalar_decides : (κs : Lfts 1) → OneAnswer (variadic_argument_scalar.Post κs)
variadic_argument_scalar_decides κs a r q s t p p' = p.answers ∙ sym p'.answers

variadic_argument_scalar_words : (κs : Lfts 1) → OneExit (variadic_argument_scalar.Post κs) (λ s. s.1.1.1.1.1.1.1.1.0.now)
variadic_argument_scalar_words κs a r q s t p p' = p.writes ∙ sym p'.writes

variadic_argument_aggregate_decides : (κs : Lfts 2) → OneAnswer (variadic_argument_aggregate.Post κs)
variadic_argument_aggregate_decides κs a r q s t p p' = p.answers ∙ sym p'.answers

variadic_argument_aggregate_words : (κs : Lfts 2) → OneExit (variadic_argument_aggregate.Post κs) (λ s. s.1.1.1.1.1.1.1.1.1.1.0.now)
variadic_argument_aggregate_words κs a r q s t p p' = p.writes ∙ sym p'.writes
