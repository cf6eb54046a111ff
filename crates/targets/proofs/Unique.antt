-- No second answer meets the promise of a public function.
use mathlib.Core.Path.{sym, ◌∙◌}
use contract.Lifetimes.{Lfts}
use Rattle.shape.proofs.OneAnswer.{OneAnswer}
use Rattle.targets.proofs.for_target.Reads as for_target
use Rattle.targets.proofs.for_convention.Reads as for_convention
use Rattle.targets.proofs.callee_pops.Reads as callee_pops
use Rattle.targets.proofs.codes.is_target.Reads as is_target
use Rattle.targets.proofs.codes.is_convention.Reads as is_convention
use Rattle.targets.proofs.codes.architecture_of.Reads as architecture_of
use Rattle.targets.proofs.codes.system_of.Reads as system_of
use Rattle.targets.proofs.codes.convention_of.Reads as convention_of
use Rattle.targets.proofs.codes.is_windows.Reads as is_windows
use Rattle.targets.proofs.codes.is_elf.Reads as is_elf
use Rattle.targets.proofs.codes.ArchitectureTryFromU64.try_from.Reads as try_architecture
use Rattle.targets.proofs.codes.SystemTryFromU64.try_from.Reads as try_system
use Rattle.targets.proofs.codes.ConventionTryFromU64.try_from.Reads as try_convention

for_target_decides : (κs : Lfts 0) → OneAnswer (for_target.Post κs)
for_target_decides κs a r q s t p p' = p ∙ sym p'

for_convention_decides : (κs : Lfts 0) → OneAnswer (for_convention.Post κs)
for_convention_decides κs a r q s t p p' = p ∙ sym p'

callee_pops_decides : (κs : Lfts 0) → OneAnswer (callee_pops.Post κs)
callee_pops_decides κs a r q s t p p' = p ∙ sym p'

is_target_decides : (κs : Lfts 0) → OneAnswer (is_target.Post κs)
is_target_decides κs a r q s t p p' = p ∙ sym p'

is_convention_decides : (κs : Lfts 0) → OneAnswer (is_convention.Post κs)
is_convention_decides κs a r q s t p p' = p ∙ sym p'

architecture_of_decides : (κs : Lfts 0) → OneAnswer (architecture_of.Post κs)
architecture_of_decides κs a r q s t p p' = p ∙ sym p'

system_of_decides : (κs : Lfts 0) → OneAnswer (system_of.Post κs)
system_of_decides κs a r q s t p p' = p ∙ sym p'

convention_of_decides : (κs : Lfts 0) → OneAnswer (convention_of.Post κs)
convention_of_decides κs a r q s t p p' = p ∙ sym p'

is_windows_decides : (κs : Lfts 0) → OneAnswer (is_windows.Post κs)
is_windows_decides κs a r q s t p p' = p ∙ sym p'

is_elf_decides : (κs : Lfts 0) → OneAnswer (is_elf.Post κs)
is_elf_decides κs a r q s t p p' = p ∙ sym p'

try_architecture_decides : (κs : Lfts 0) → OneAnswer (try_architecture.Post κs)
try_architecture_decides κs a r q s t p p' = p ∙ sym p'

try_system_decides : (κs : Lfts 0) → OneAnswer (try_system.Post κs)
try_system_decides κs a r q s t p p' = p ∙ sym p'

try_convention_decides : (κs : Lfts 0) → OneAnswer (try_convention.Post κs)
try_convention_decides κs a r q s t p p' = p ∙ sym p'
