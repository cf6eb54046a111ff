-- Which description a target follows, and a function of a convention on it (REFERENCE 6.2 and 6.3).
use Rattle.std.specs.Prelude.{ℕ, List, [], ◌∷◌, Bool, true, false, cond, get_or}
use Rattle.std.proofs.Math.Option.{Option, none, some}
use Rattle.abis.specs.RowNumbers.{sysv_amd64_number, aapcs64_number, darwin_arm64_number, windows_arm64_number, win64_number, riscv_lp64d_number, i386_sysv_number, i386_sysv_regparm_1_number, i386_sysv_regparm_2_number, i386_sysv_regparm_3_number, i386_sysv_stdcall_number, i386_sysv_fastcall_number, i386_mingw_number, i386_msvc_number, i386_mingw_stdcall_number, i386_mingw_fastcall_number, i386_msvc_stdcall_number, i386_msvc_fastcall_number}
use Rattle.targets.specs.Codes.{is_windows, is_darwin, is_x86, is_x86_64}
use Rattle.targets.specs.declared.codes.Architecture.{Architecture}
use Rattle.targets.specs.declared.codes.Architecture.TheVariants.{X86, X86_64, Aarch64, Riscv64, Other}
use Rattle.targets.specs.declared.codes.System.{System}
use Rattle.targets.specs.declared.codes.Convention.{Convention}
use Rattle.targets.specs.declared.codes.Convention.TheVariants.{Target, Ms, Sysv, Stdcall, Fastcall, Regparm, NoCalleeSaved, PreserveNone}

-- 32-bit x86 has three runtimes: MSVC's and mingw's on Windows, System V's elsewhere
abbrev pub by_runtime : System → Bool → ℕ → ℕ → ℕ → ℕ
by_runtime system msvc sysv mingw ms = cond (is_windows system) (cond msvc ms mingw) sysv

abbrev pub for_target : Architecture → System → Bool → Option ℕ
for_target X86_64 system msvc = some (cond (is_windows system) win64_number sysv_amd64_number)
for_target X86 system msvc = some (by_runtime system msvc i386_sysv_number i386_mingw_number i386_msvc_number)
for_target Aarch64 system msvc =
    some (cond (is_darwin system) darwin_arm64_number (cond (is_windows system) windows_arm64_number aapcs64_number))
for_target Riscv64 system msvc = some riscv_lp64d_number
for_target Other system msvc = none

-- by the number of registers: regparm(0) is the plain convention, and there is none for more than three
abbrev pub regparm_rows : List (Option ℕ)
regparm_rows = some i386_sysv_number ∷ some i386_sysv_regparm_1_number ∷ some i386_sysv_regparm_2_number ∷ some i386_sysv_regparm_3_number ∷ []

abbrev pub for_convention : Convention → Architecture → System → Bool → Option ℕ
for_convention Target architecture system msvc = for_target architecture system msvc
for_convention Ms architecture system msvc = cond (is_x86_64 architecture) (some win64_number) none
for_convention Sysv architecture system msvc = cond (is_x86_64 architecture) (some sysv_amd64_number) none
for_convention NoCalleeSaved architecture system msvc = cond (is_x86_64 architecture) (some sysv_amd64_number) none
for_convention PreserveNone architecture system msvc = cond (is_x86_64 architecture) (some sysv_amd64_number) none
for_convention Stdcall architecture system msvc =
    cond (is_x86 architecture)
    (some (by_runtime system msvc i386_sysv_stdcall_number i386_mingw_stdcall_number i386_msvc_stdcall_number)) none
for_convention Fastcall architecture system msvc =
    cond (is_x86 architecture)
    (some (by_runtime system msvc i386_sysv_fastcall_number i386_mingw_fastcall_number i386_msvc_fastcall_number)) none
for_convention (Regparm n) architecture system msvc =
    cond (is_x86 architecture) (cond (is_windows system) none (get_or regparm_rows n none)) none

-- whose callee takes its arguments off the stack
abbrev pub callee_pops : Convention → Bool
callee_pops Target = false
callee_pops Ms = false
callee_pops Sysv = false
callee_pops Stdcall = true
callee_pops Fastcall = true
callee_pops (Regparm n) = false
callee_pops NoCalleeSaved = false
callee_pops PreserveNone = false
