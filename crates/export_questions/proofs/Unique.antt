-- No second answer, and nothing else in a lent buffer, meets the promise of an exported entry.
use mathlib.Core.Path.{sym, ◌∙◌}
use contract.Lifetimes.{Lfts}
use Rattle.shape.proofs.OneAnswer.{OneAnswer, OneExit}
use Rattle.export_questions.proofs.alignment.barkpaddle_in_memory.Reads as in_memory
use Rattle.export_questions.proofs.members.barkpaddle_pieces.Reads as pieces
use Rattle.export_questions.proofs.members.barkpaddle_record.Reads as a_record
use Rattle.export_questions.proofs.lookups.barkpaddle_for_target.Reads as for_target
use Rattle.export_questions.proofs.lookups.barkpaddle_for_convention.Reads as for_convention
use Rattle.export_questions.proofs.lookups.barkpaddle_asked.Reads as asked
use Rattle.export_questions.proofs.lookups.barkpaddle_attribute.Reads as attribute
use Rattle.export_questions.proofs.lookups.barkpaddle_callee_pops.Reads as callee_pops
use Rattle.export_questions.proofs.descriptions.barkpaddle_description.Reads as description
use Rattle.export_questions.proofs.descriptions.barkpaddle_return_rule.Reads as return_rule_lem
use Rattle.export_questions.proofs.descriptions.barkpaddle_argument_rule.Reads as argument_rule_lem
use Rattle.export_questions.proofs.descriptions.barkpaddle_name.Reads as name
use Rattle.export_questions.proofs.descriptions.barkpaddle_scalar_is_by_reference.Reads as scalar_is_by_reference
use Rattle.export_questions.proofs.descriptions.barkpaddle_scalar_returns_by_reference.Reads as scalar_returns_by_reference
use Rattle.export_questions.proofs.descriptions.barkpaddle_wide_integer_returns_in.Reads as wide_integer_returns_in
use Rattle.export_questions.proofs.version.barkpaddle_version.Reads as version

in_memory_decides : (κs : Lfts 1) → OneAnswer (in_memory.Post κs)
in_memory_decides κs a r q s t p p' = p ∙ sym p'

pieces_decides : (κs : Lfts 2) → OneAnswer (pieces.Post κs)
pieces_decides κs a r q s t p p' = p.0 ∙ sym p'.0

pieces_words : (κs : Lfts 2) → OneExit (pieces.Post κs) (λ s. s.1.0.now)
pieces_words κs a r q s t p p' = p.1 ∙ sym p'.1

record_decides : (κs : Lfts 1) → OneAnswer (a_record.Post κs)
record_decides κs a r q s t p p' = p ∙ sym p'

for_target_decides : (κs : Lfts 0) → OneAnswer (for_target.Post κs)
for_target_decides κs a r q s t p p' = p ∙ sym p'

for_convention_decides : (κs : Lfts 0) → OneAnswer (for_convention.Post κs)
for_convention_decides κs a r q s t p p' = p ∙ sym p'

asked_decides : (κs : Lfts 1) → OneAnswer (asked.Post κs)
asked_decides κs a r q s t p p' = p ∙ sym p'

attribute_decides : (κs : Lfts 1) → OneAnswer (attribute.Post κs)
attribute_decides κs a r q s t p p' = p.0 ∙ sym p'.0

attribute_bytes : (κs : Lfts 1) → OneExit (attribute.Post κs) (λ s. s.1.0.now)
attribute_bytes κs a r q s t p p' = p.1 ∙ sym p'.1

callee_pops_decides : (κs : Lfts 0) → OneAnswer (callee_pops.Post κs)
callee_pops_decides κs a r q s t p p' = p ∙ sym p'

description_decides : (κs : Lfts 0) → OneAnswer (description.Post κs)
description_decides κs a r q s t p p' = p ∙ sym p'

return_rule_decides : (κs : Lfts 0) → OneAnswer (return_rule_lem.Post κs)
return_rule_decides κs a r q s t p p' = p ∙ sym p'

argument_rule_decides : (κs : Lfts 0) → OneAnswer (argument_rule_lem.Post κs)
argument_rule_decides κs a r q s t p p' = p ∙ sym p'

name_decides : (κs : Lfts 1) → OneAnswer (name.Post κs)
name_decides κs a r q s t p p' = p.0 ∙ sym p'.0

name_bytes : (κs : Lfts 1) → OneExit (name.Post κs) (λ s. s.1.0.now)
name_bytes κs a r q s t p p' = p.1 ∙ sym p'.1

scalar_is_by_reference_decides : (κs : Lfts 0) → OneAnswer (scalar_is_by_reference.Post κs)
scalar_is_by_reference_decides κs a r q s t p p' = p ∙ sym p'

scalar_returns_by_reference_decides : (κs : Lfts 0) → OneAnswer (scalar_returns_by_reference.Post κs)
scalar_returns_by_reference_decides κs a r q s t p p' = p ∙ sym p'

wide_integer_returns_in_decides : (κs : Lfts 0) → OneAnswer (wide_integer_returns_in.Post κs)
wide_integer_returns_in_decides κs a r q s t p p' = p ∙ sym p'

version_decides : (κs : Lfts 0) → OneAnswer (version.Post κs)
version_decides κs a r q s t p p' = p ∙ sym p'
