-- A row that a lookup answers is one of the thirty descriptions, so it is never the number of none.
use Prim.Native.Nat.{ℕ, zero, suc, ◌<◌}
use mathlib.Core.Path.{◌≡◌, refl}
use mathlib.Core.Logic.{◌⊎◌, inl, inr}
use mathlib.Core.Bool.{Bool, true, false, cond, ◌&&◌}
use mathlib.Core.Option.{Option, none, some}
use lib.Dec.{lit<}
use lib.ListN.{get_or}
use Rattle.targets.specs.Codes.{is_target, is_convention, architecture_of, system_of, convention_of, none_number, is_windows, is_darwin, is_x86, is_x86_64}
use Rattle.targets.specs.Followed.{for_target, for_convention, by_runtime, regparm_rows}
use Rattle.targets.specs.Answers.{number_of, target_answer, convention_answer}
use Rattle.targets.specs.declared.codes.Architecture.{Architecture}
use Rattle.targets.specs.declared.codes.Architecture.TheVariants.{X86, X86_64, Aarch64, Riscv64, Other}
use Rattle.targets.specs.declared.codes.System.{System}
use Rattle.targets.specs.declared.codes.Convention.{Convention}
use Rattle.targets.specs.declared.codes.Convention.TheVariants.{Target, Ms, Sysv, Stdcall, Fastcall, Regparm, NoCalleeSaved, PreserveNone}

data Row : Option ℕ → Type 0 where
  nothing : Row none
  row : {n : ℕ} → n < 30 → Row (some n)

either : (b : Bool) {o p : Option ℕ} → Row o → Row p → Row (cond b o p)
either true h k = h
either false h k = k

either_number : (b : Bool) {m n : ℕ} → m < 30 → n < 30 → cond b m n < 30
either_number true h k = h
either_number false h k = k

runtime_row : (system : System) (msvc : Bool) {sysv mingw ms : ℕ} → sysv < 30 → mingw < 30 → ms < 30 → by_runtime system msvc sysv mingw ms < 30
runtime_row system msvc s g m = either_number (is_windows system) (either_number msvc m g) s

target_row : (architecture : Architecture) (system : System) (msvc : Bool) → Row (for_target architecture system msvc)
target_row X86 system msvc = row (runtime_row system msvc (lit< tt) (lit< tt) (lit< tt))
target_row X86_64 system msvc = row (either_number (is_windows system) (lit< tt) (lit< tt))
target_row Aarch64 system msvc = row (either_number (is_darwin system) (lit< tt) (either_number (is_windows system) (lit< tt) (lit< tt)))
target_row Riscv64 system msvc = row (lit< tt)
target_row Other system msvc = nothing

regparm_row : (n : ℕ) → Row (get_or regparm_rows n none)
regparm_row zero = row (lit< tt)
regparm_row (suc zero) = row (lit< tt)
regparm_row (suc (suc zero)) = row (lit< tt)
regparm_row (suc (suc (suc zero))) = row (lit< tt)
regparm_row (suc (suc (suc (suc n)))) = nothing

convention_row : (convention : Convention) (architecture : Architecture) (system : System) (msvc : Bool) → Row (for_convention convention architecture system msvc)
convention_row Target a s m = target_row a s m
convention_row Ms a s m = either (is_x86_64 a) (row (lit< tt)) nothing
convention_row Sysv a s m = either (is_x86_64 a) (row (lit< tt)) nothing
convention_row NoCalleeSaved a s m = either (is_x86_64 a) (row (lit< tt)) nothing
convention_row PreserveNone a s m = either (is_x86_64 a) (row (lit< tt)) nothing
convention_row Stdcall a s m = either (is_x86 a) (row (runtime_row s m (lit< tt) (lit< tt) (lit< tt))) nothing
convention_row Fastcall a s m = either (is_x86 a) (row (runtime_row s m (lit< tt) (lit< tt) (lit< tt))) nothing
convention_row (Regparm n) a s m = either (is_x86 a) (either (is_windows s) nothing (regparm_row n)) nothing

answered : (o : Option ℕ) → Row o → (number_of o < 30) ⊎ (number_of o ≡ none_number)
answered none nothing = inr refl
answered (some n) (row h) = inl h

pub target_answered : (architecture system : ℕ) (msvc : Bool)
    → (target_answer architecture system msvc < 30) ⊎ (target_answer architecture system msvc ≡ none_number)
unfolding target_answer
target_answered architecture system msvc =
    answered _ (either (is_target architecture system) (target_row (architecture_of architecture) (system_of system) msvc) nothing)

pub convention_answered : (architecture system : ℕ) (msvc : Bool) (convention : ℕ)
    → (convention_answer architecture system msvc convention < 30) ⊎ (convention_answer architecture system msvc convention ≡ none_number)
unfolding convention_answer
convention_answered architecture system msvc convention =
    answered _
    (either (is_target architecture system && is_convention convention)
    (convention_row (convention_of convention) (architecture_of architecture) (system_of system) msvc) nothing)
