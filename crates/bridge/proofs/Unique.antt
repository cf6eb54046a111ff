-- No second outcome, no other call behind the reference and no other words in the lent slot buffer meet the promise of a public function, as
-- Promised.antt reads it from the contract.
use mathlib.Core.Path.{sym, ◌∙◌}
use contract.Lifetimes.{Lfts}
use Rattle.shape.proofs.OneAnswer.{OneAnswer, OneExit}
use Rattle.bridge.proofs.Promised.{Marks, Returns, Passes, PassesVariadic}
use Rattle.bridge.proofs.ArgFromWhat.from.Reads as arg_from

variadic_decides : (κs : Lfts 1) → OneAnswer (Marks κs)
variadic_decides κs a r q s t p p' = p.0 ∙ sym p'.0

variadic_call : (κs : Lfts 1) → OneExit (Marks κs) (λ s. s.0.now)
variadic_call κs a r q s t p p' = p.1 ∙ sym p'.1

returns_decides : (κs : Lfts 3) → OneAnswer (Returns κs)
returns_decides κs a r q s t p p' = p.outcome ∙ sym p'.outcome

returns_call : (κs : Lfts 3) → OneExit (Returns κs) (λ s. s.0.now)
returns_call κs a r q s t p p' = p.call ∙ sym p'.call

returns_words : (κs : Lfts 3) → OneExit (Returns κs) (λ s. s.1.1.1.0.now)
returns_words κs a r q s t p p' = p.writes ∙ sym p'.writes

argument_decides : (κs : Lfts 3) → OneAnswer (Passes κs)
argument_decides κs a r q s t p p' = p.outcome ∙ sym p'.outcome

argument_call : (κs : Lfts 3) → OneExit (Passes κs) (λ s. s.0.now)
argument_call κs a r q s t p p' = p.call ∙ sym p'.call

argument_words : (κs : Lfts 3) → OneExit (Passes κs) (λ s. s.1.1.1.0.now)
argument_words κs a r q s t p p' = p.writes ∙ sym p'.writes

variadic_argument_decides : (κs : Lfts 3) → OneAnswer (PassesVariadic κs)
variadic_argument_decides κs a r q s t p p' = p.outcome ∙ sym p'.outcome

variadic_argument_call : (κs : Lfts 3) → OneExit (PassesVariadic κs) (λ s. s.0.now)
variadic_argument_call κs a r q s t p p' = p.call ∙ sym p'.call

variadic_argument_words : (κs : Lfts 3) → OneExit (PassesVariadic κs) (λ s. s.1.1.1.0.now)
variadic_argument_words κs a r q s t p p' = p.writes ∙ sym p'.writes

arg_from_decides : (κs : Lfts 0) → OneAnswer (arg_from.Post κs)
arg_from_decides κs a r q s t p p' = p ∙ sym p'
