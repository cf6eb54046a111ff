-- No second answer, and no other words in the lent slot buffer, meet the promise of a public function.
use mathlib.Core.Path.{sym, ◌∙◌}
use contract.Lifetimes.{Lfts}
use Rattle.shape.proofs.OneAnswer.{OneAnswer, OneExit}
use Rattle.classify.proofs.Steps.{memory_decides}
use Rattle.classify.proofs.Call.fresh.Reads as fresh
use Rattle.classify.proofs.Call.variadic.Reads as variadic
use Rattle.classify.proofs.Call.returns.Reads as returns
use Rattle.classify.proofs.Call.argument.Reads as argument
use Rattle.classify.proofs.Call.variadic_argument.Reads as variadic_argument
use Rattle.classify.proofs.Call.nothing.Reads as nothing
use Rattle.classify.proofs.Call.returns_scalar.Reads as returns_scalar
use Rattle.classify.proofs.Call.returns_aggregate.Reads as returns_aggregate
use Rattle.classify.proofs.Call.argument_scalar.Reads as argument_scalar
use Rattle.classify.proofs.Call.argument_aggregate.Reads as argument_aggregate
use Rattle.classify.proofs.Call.variadic_argument_scalar.Reads as variadic_argument_scalar
use Rattle.classify.proofs.Call.variadic_argument_aggregate.Reads as variadic_argument_aggregate
use Rattle.classify.proofs.Call.in_memory.Reads as in_memory
use Rattle.classify.proofs.Call.abi.Reads as abi
use Rattle.classify.proofs.Call.integer_left.Reads as integer_left
use Rattle.classify.proofs.Call.float_left.Reads as float_left
use Rattle.classify.proofs.Call.stack.Reads as stack

fresh_decides : (κs : Lfts 0) → OneAnswer (fresh.Post κs)
fresh_decides κs a r q s t p p' = p ∙ sym p'

variadic_decides : (κs : Lfts 0) → OneAnswer (variadic.Post κs)
variadic_decides κs a r q s t p p' = p ∙ sym p'

returns_decides : (κs : Lfts 2) → OneAnswer (returns.Post κs)
returns_decides κs a r q s t p p' = p.answers ∙ sym p'.answers

returns_words : (κs : Lfts 2) → OneExit (returns.Post κs) (λ s. s.1.1.1.0.now)
returns_words κs a r q s t p p' = p.writes ∙ sym p'.writes

argument_decides : (κs : Lfts 2) → OneAnswer (argument.Post κs)
argument_decides κs a r q s t p p' = p.answers ∙ sym p'.answers

argument_words : (κs : Lfts 2) → OneExit (argument.Post κs) (λ s. s.1.1.1.0.now)
argument_words κs a r q s t p p' = p.writes ∙ sym p'.writes

variadic_argument_decides : (κs : Lfts 2) → OneAnswer (variadic_argument.Post κs)
variadic_argument_decides κs a r q s t p p' = p.answers ∙ sym p'.answers

variadic_argument_words : (κs : Lfts 2) → OneExit (variadic_argument.Post κs) (λ s. s.1.1.1.0.now)
variadic_argument_words κs a r q s t p p' = p.writes ∙ sym p'.writes

nothing_decides : (κs : Lfts 0) → OneAnswer (nothing.Post κs)
nothing_decides κs a r q s t p p' = p ∙ sym p'

returns_scalar_decides : (κs : Lfts 1) → OneAnswer (returns_scalar.Post κs)
returns_scalar_decides κs a r q s t p p' = p.answers ∙ sym p'.answers

returns_scalar_words : (κs : Lfts 1) → OneExit (returns_scalar.Post κs) (λ s. s.1.1.0.now)
returns_scalar_words κs a r q s t p p' = p.writes ∙ sym p'.writes

returns_aggregate_decides : (κs : Lfts 2) → OneAnswer (returns_aggregate.Post κs)
returns_aggregate_decides κs a r q s t p p' = p.answers ∙ sym p'.answers

returns_aggregate_words : (κs : Lfts 2) → OneExit (returns_aggregate.Post κs) (λ s. s.1.1.1.0.now)
returns_aggregate_words κs a r q s t p p' = p.writes ∙ sym p'.writes

argument_scalar_decides : (κs : Lfts 1) → OneAnswer (argument_scalar.Post κs)
argument_scalar_decides κs a r q s t p p' = p.answers ∙ sym p'.answers

argument_scalar_words : (κs : Lfts 1) → OneExit (argument_scalar.Post κs) (λ s. s.1.1.0.now)
argument_scalar_words κs a r q s t p p' = p.writes ∙ sym p'.writes

argument_aggregate_decides : (κs : Lfts 2) → OneAnswer (argument_aggregate.Post κs)
argument_aggregate_decides κs a r q s t p p' = p.answers ∙ sym p'.answers

argument_aggregate_words : (κs : Lfts 2) → OneExit (argument_aggregate.Post κs) (λ s. s.1.1.1.0.now)
argument_aggregate_words κs a r q s t p p' = p.writes ∙ sym p'.writes

variadic_argument_scalar_decides : (κs : Lfts 1) → OneAnswer (variadic_argument_scalar.Post κs)
variadic_argument_scalar_decides κs a r q s t p p' = p.answers ∙ sym p'.answers

variadic_argument_scalar_words : (κs : Lfts 1) → OneExit (variadic_argument_scalar.Post κs) (λ s. s.1.1.0.now)
variadic_argument_scalar_words κs a r q s t p p' = p.writes ∙ sym p'.writes

variadic_argument_aggregate_decides : (κs : Lfts 2) → OneAnswer (variadic_argument_aggregate.Post κs)
variadic_argument_aggregate_decides κs a r q s t p p' = p.answers ∙ sym p'.answers

variadic_argument_aggregate_words : (κs : Lfts 2) → OneExit (variadic_argument_aggregate.Post κs) (λ s. s.1.1.1.0.now)
variadic_argument_aggregate_words κs a r q s t p p' = p.writes ∙ sym p'.writes

in_memory_decides : (κs : Lfts 1) → OneAnswer (in_memory.Post κs)
in_memory_decides κs a r q s t p p' = memory_decides r q (p ∙ sym p')

abi_decides : (κs : Lfts 0) → OneAnswer (abi.Post κs)
abi_decides κs a r q s t p p' = p ∙ sym p'

integer_left_decides : (κs : Lfts 0) → OneAnswer (integer_left.Post κs)
integer_left_decides κs a r q s t p p' = p ∙ sym p'

float_left_decides : (κs : Lfts 0) → OneAnswer (float_left.Post κs)
float_left_decides κs a r q s t p p' = p ∙ sym p'

stack_decides : (κs : Lfts 0) → OneAnswer (stack.Post κs)
stack_decides κs a r q s t p p' = p ∙ sym p'
