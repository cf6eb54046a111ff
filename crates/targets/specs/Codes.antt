-- The codes of architectures, systems and conventions, and what each stands for (REFERENCE 6.1).
use Rattle.std.specs.Prelude.{ℕ, ◌+◌, ◌-◌, List, [], ◌∷◌, Bool, true, false, not, ◌&&◌, ◌||◌, leb, get_or}
use Rattle.std.proofs.Math.Option.{Option, none, some}
use Rattle.shape.specs.Numbers.{most_word}
use Rattle.targets.specs.declared.codes.Architecture.{Architecture}
use Rattle.targets.specs.declared.codes.Architecture.TheVariants.{X86, X86_64, Aarch64, Riscv64, Other as OtherArchitecture}
use Rattle.targets.specs.declared.codes.System.{System}
use Rattle.targets.specs.declared.codes.System.TheVariants.{Windows, MacOs, OtherDarwin, Other as OtherSystem}
use Rattle.targets.specs.declared.codes.Convention.{Convention}
use Rattle.targets.specs.declared.codes.Convention.TheVariants.{Target, Ms, Sysv, Stdcall, Fastcall, Regparm, NoCalleeSaved, PreserveNone}

-- architectures are 0 to 4, systems 0 to 3
abbrev pub is_target : ℕ → ℕ → Bool
is_target architecture system = leb architecture 4 && leb system 3

-- conventions are 0 to 6, and 256 + n for regparm(n), n up to 255
abbrev pub is_convention : ℕ → Bool
is_convention code = leb code 6 || (leb 256 code && leb code 511)

-- in the order of their codes, from 0; the next code of an architecture or a system stands for every other, and codes from 256 on for
-- regparm
abbrev pub architectures : List Architecture
architectures = X86 ∷ X86_64 ∷ Aarch64 ∷ Riscv64 ∷ []

abbrev pub systems : List System
systems = Windows ∷ MacOs ∷ OtherDarwin ∷ []

abbrev pub conventions : List Convention
conventions = Target ∷ Ms ∷ Sysv ∷ Stdcall ∷ Fastcall ∷ NoCalleeSaved ∷ PreserveNone ∷ []

unfoldable pub architecture_of : ℕ → Architecture
architecture_of code = get_or architectures code OtherArchitecture

unfoldable pub system_of : ℕ → System
system_of code = get_or systems code OtherSystem

unfoldable pub convention_of : ℕ → Convention
convention_of code = get_or conventions code (Regparm (code - 256))

unfoldable pub convention_code : Convention → ℕ
convention_code Target = 0
convention_code Ms = 1
convention_code Sysv = 2
convention_code Stdcall = 3
convention_code Fastcall = 4
convention_code NoCalleeSaved = 5
convention_code PreserveNone = 6
convention_code (Regparm n) = 256 + n

-- the number of none (REFERENCE 1.5)
abbrev pub none_number : ℕ
none_number = most_word

abbrev pub code_of : Option Convention → ℕ
code_of none = none_number
code_of (some convention) = convention_code convention

abbrev pub is_windows : System → Bool
is_windows Windows = true
is_windows MacOs = false
is_windows OtherDarwin = false
is_windows OtherSystem = false

abbrev pub is_mac_os : System → Bool
is_mac_os Windows = false
is_mac_os MacOs = true
is_mac_os OtherDarwin = false
is_mac_os OtherSystem = false

abbrev pub is_darwin : System → Bool
is_darwin Windows = false
is_darwin MacOs = true
is_darwin OtherDarwin = true
is_darwin OtherSystem = false

-- neither Windows nor macOS
abbrev pub is_elf : System → Bool
is_elf system = not (is_windows system) && not (is_mac_os system)

abbrev pub is_x86 : Architecture → Bool
is_x86 X86 = true
is_x86 X86_64 = false
is_x86 Aarch64 = false
is_x86 Riscv64 = false
is_x86 OtherArchitecture = false

abbrev pub is_x86_64 : Architecture → Bool
is_x86_64 X86 = false
is_x86_64 X86_64 = true
is_x86_64 Aarch64 = false
is_x86_64 Riscv64 = false
is_x86_64 OtherArchitecture = false
