-- What the lookups promise, from codes to numbers: a code that isn't known answers none (REFERENCE 6.1).
use Rattle.std.specs.Prelude.{ℕ, Bool, cond, ◌&&◌}
use Rattle.std.proofs.Math.Option.{Option, none, some}
use Rattle.targets.specs.Codes.{is_target, is_convention, architecture_of, system_of, convention_of, none_number}
use Rattle.targets.specs.Followed.{for_target, for_convention, callee_pops}

abbrev pub number_of : Option ℕ → ℕ
number_of none = none_number
number_of (some n) = n

-- the description, if there is one
abbrev pub target_found : ℕ → ℕ → Bool → Option ℕ
target_found architecture system msvc =
    cond (is_target architecture system) (for_target (architecture_of architecture) (system_of system) msvc) none

abbrev pub convention_found : ℕ → ℕ → Bool → ℕ → Option ℕ
convention_found architecture system msvc convention =
    cond (is_target architecture system && is_convention convention)
    (for_convention (convention_of convention) (architecture_of architecture) (system_of system) msvc) none

-- as the number that leaves for C
unfoldable pub target_answer : ℕ → ℕ → Bool → ℕ
target_answer architecture system msvc = number_of (target_found architecture system msvc)

unfoldable pub convention_answer : ℕ → ℕ → Bool → ℕ → ℕ
convention_answer architecture system msvc convention = number_of (convention_found architecture system msvc convention)

unfoldable pub pops_answer : ℕ → Bool
pops_answer convention = is_convention convention && callee_pops (convention_of convention)
