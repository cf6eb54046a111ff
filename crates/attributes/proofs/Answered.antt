-- A convention that `asked` answers has a known code, so it is never the number of none.
use Prim.Native.Nat.{ℕ}
use mathlib.Core.Path.{◌≡◌, refl}
use mathlib.Core.Logic.{◌⊎◌, inl, inr}
use mathlib.Core.List.{List}
use mathlib.Core.Bool.{Bool, true, false, cond, ◌&&◌}
use mathlib.Core.Option.{Option, none, some}
use Rattle.targets.specs.Codes.{is_target, is_convention, architecture_of, system_of, convention_code, none_number, code_of, is_windows, is_elf}
use Rattle.targets.specs.declared.codes.Architecture.{Architecture}
use Rattle.targets.specs.declared.codes.Architecture.TheVariants.{X86, X86_64, Aarch64, Riscv64, Other}
use Rattle.targets.specs.declared.codes.System.{System}
use Rattle.targets.specs.declared.codes.Convention.{Convention}
use Rattle.attributes.specs.Attributes.{is, asked, asked_on_x86, asked_on_x86_64}
use Rattle.attributes.specs.Answers.{asked_answer}

data Known : Option Convention → Type 0 where
  unasked : Known none
  code : {convention : Convention} → is_convention (convention_code convention) ≡ true → Known (some convention)

either_asked : (b : Bool) {o p : Option Convention} → Known o → Known p → Known (cond b o p)
either_asked true h k = h
either_asked false h k = k

either_code : (b : Bool) {v w : Convention} → Known (some v) → Known (some w) → Known (some (cond b v w))
either_code true h k = h
either_code false h k = k

asked_code : (architecture : Architecture) (system : System) (name : List ℕ) → Known (asked architecture system name)
unfolding asked_on_x86 asked_on_x86_64 convention_code
asked_code X86_64 system name =
    either_asked (is name "no_callee_saved_registers" && is_elf system) (code refl)
    (either_asked (is name "preserve_none" && is_elf system) (code refl)
    (either_asked (is name "ms_abi") (either_code (is_windows system) (code refl) (code refl))
    (either_asked (is name "sysv_abi") (either_code (is_windows system) (code refl) (code refl)) unasked)))
asked_code X86 system name =
    either_asked (is name "stdcall") (code refl)
    (either_asked (is name "fastcall") (code refl)
    (either_asked (is name "cdecl") (code refl) unasked))
asked_code Aarch64 system name = unasked
asked_code Riscv64 system name = unasked
asked_code Other system name = unasked

named : (o : Option Convention) → Known o → (is_convention (code_of o) ≡ true) ⊎ (code_of o ≡ none_number)
named none unasked = inr refl
named (some v) (code h) = inl h

pub asked_answered : (architecture system : ℕ) (msvc : Bool) (name : List ℕ)
    → (is_convention (asked_answer architecture system msvc name) ≡ true) ⊎ (asked_answer architecture system msvc name ≡ none_number)
unfolding asked_answer
asked_answered architecture system msvc name =
    named _
    (either_asked (is_target architecture system) (asked_code (architecture_of architecture) (system_of system) name) unasked)
