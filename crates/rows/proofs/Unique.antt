-- No second answer meets the promise of a public function.
use mathlib.Core.Path.{sym, ◌∙◌}
use contract.Lifetimes.{Lfts}
use Rattle.shape.proofs.OneAnswer.{OneAnswer, OneExit}
use Rattle.rows.proofs.fields.terms_of.Reads as terms_of
use Rattle.rows.proofs.fields.others_of.Reads as others_of
use Rattle.rows.proofs.return_rule.Reads as return_rule_lem
use Rattle.rows.proofs.argument_rule.Reads as argument_rule_lem
use Rattle.rows.proofs.return_rules.Reads as return_rules
use Rattle.rows.proofs.argument_rules.Reads as argument_rules
use Rattle.rows.proofs.first_rule.Reads as first_rule
use Rattle.rows.proofs.first_test.Reads as first_test
use Rattle.rows.proofs.later_rules.Reads as later_rules
use Rattle.rows.proofs.RulesIterator.next.Reads as next
use Rattle.rows.proofs.fields.return_pointer_number.Reads as return_pointer_number
use Rattle.rows.proofs.fields.variadic_number.Reads as variadic_number
use Rattle.rows.proofs.fields.stack_args_number.Reads as stack_args_number
use Rattle.rows.proofs.fields.narrow_number.Reads as narrow_number
use Rattle.rows.proofs.fields.bit_ints_number.Reads as bit_ints_number
use Rattle.rows.proofs.fields.cleanup_number.Reads as cleanup_number

terms_of_decides : (κs : Lfts 0) → OneAnswer (terms_of.Post κs)
terms_of_decides κs a r q s t p p' = p ∙ sym p'

others_of_decides : (κs : Lfts 0) → OneAnswer (others_of.Post κs)
others_of_decides κs a r q s t p p' = p ∙ sym p'

return_rule_decides : (κs : Lfts 0) → OneAnswer (return_rule_lem.Post κs)
return_rule_decides κs a r q s t p p' = p ∙ sym p'

argument_rule_decides : (κs : Lfts 0) → OneAnswer (argument_rule_lem.Post κs)
argument_rule_decides κs a r q s t p p' = p ∙ sym p'

return_rules_decides : (κs : Lfts 0) → OneAnswer (return_rules.Post κs)
return_rules_decides κs a r q s t p p' = p ∙ sym p'

argument_rules_decides : (κs : Lfts 0) → OneAnswer (argument_rules.Post κs)
argument_rules_decides κs a r q s t p p' = p ∙ sym p'

first_rule_decides : (κs : Lfts 0) → OneAnswer (first_rule.Post κs)
first_rule_decides κs a r q s t p p' = p ∙ sym p'

first_test_decides : (κs : Lfts 0) → OneAnswer (first_test.Post κs)
first_test_decides κs a r q s t p p' = p ∙ sym p'

later_rules_decides : (κs : Lfts 0) → OneAnswer (later_rules.Post κs)
later_rules_decides κs a r q s t p p' = p ∙ sym p'

return_pointer_number_decides : (κs : Lfts 0) → OneAnswer (return_pointer_number.Post κs)
return_pointer_number_decides κs a r q s t p p' = p ∙ sym p'

variadic_number_decides : (κs : Lfts 0) → OneAnswer (variadic_number.Post κs)
variadic_number_decides κs a r q s t p p' = p ∙ sym p'

stack_args_number_decides : (κs : Lfts 0) → OneAnswer (stack_args_number.Post κs)
stack_args_number_decides κs a r q s t p p' = p ∙ sym p'

narrow_number_decides : (κs : Lfts 0) → OneAnswer (narrow_number.Post κs)
narrow_number_decides κs a r q s t p p' = p ∙ sym p'

bit_ints_number_decides : (κs : Lfts 0) → OneAnswer (bit_ints_number.Post κs)
bit_ints_number_decides κs a r q s t p p' = p ∙ sym p'

cleanup_number_decides : (κs : Lfts 0) → OneAnswer (cleanup_number.Post κs)
cleanup_number_decides κs a r q s t p p' = p ∙ sym p'

next_decides : (κs : Lfts 1) → OneAnswer (next.Post κs)
next_decides κs a r q s t p p' = p.0.1.0 ∙ sym p'.0.1.0

next_leaves : (κs : Lfts 1) → OneExit (next.Post κs) (λ s. s.0.now)
next_leaves κs a r q s t p p' = p.0.1.1 ∙ sym p'.0.1.1
