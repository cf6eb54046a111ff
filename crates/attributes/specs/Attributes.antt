-- Which convention an attribute's name asks for (REFERENCE 6.4).
use Rattle.std.specs.Prelude.{ℕ, List, [], ◌∷◌, Bool, true, false, cond, ◌&&◌, eqb}
use Prim.Native.String.{String}
use Rattle.std.proofs.Math.Option.{Option, none, some}
use Rattle.text.specs.Text.{bytes}
use Rattle.targets.specs.Codes.{is_windows, is_elf}
use Rattle.targets.specs.declared.codes.Architecture.{Architecture}
use Rattle.targets.specs.declared.codes.Architecture.TheVariants.{X86, X86_64, Aarch64, Riscv64, Other}
use Rattle.targets.specs.declared.codes.System.{System}
use Rattle.targets.specs.declared.codes.Convention.{Convention}
use Rattle.targets.specs.declared.codes.Convention.TheVariants.{Target, Ms, Sysv, Stdcall, Fastcall, NoCalleeSaved, PreserveNone}

-- whether two lists of bytes are the same, length and every byte
unfoldable pub same_bytes : List ℕ → List ℕ → Bool
same_bytes [] [] = true
same_bytes [] (b ∷ bs) = false
same_bytes (a ∷ as') [] = false
same_bytes (a ∷ as') (b ∷ bs) = eqb a b && same_bytes as' bs

abbrev pub is : List ℕ → String → Bool
is name text = same_bytes name (bytes text)

-- a convention that the target follows already is the target's own
unfoldable pub asked_on_x86_64 : System → List ℕ → Option Convention
asked_on_x86_64 system name =
    cond (is name "no_callee_saved_registers" && is_elf system) (some NoCalleeSaved)
    (cond (is name "preserve_none" && is_elf system) (some PreserveNone)
    (cond (is name "ms_abi") (some (cond (is_windows system) Target Ms))
    (cond (is name "sysv_abi") (some (cond (is_windows system) Sysv Target)) none)))

unfoldable pub asked_on_x86 : List ℕ → Option Convention
asked_on_x86 name =
    cond (is name "stdcall") (some Stdcall)
    (cond (is name "fastcall") (some Fastcall)
    (cond (is name "cdecl") (some Target) none))

abbrev pub asked : Architecture → System → List ℕ → Option Convention
asked X86_64 system name = asked_on_x86_64 system name
asked X86 system name = asked_on_x86 name
asked Aarch64 system name = none
asked Riscv64 system name = none
asked Other system name = none
