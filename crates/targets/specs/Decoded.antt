-- Codes read back: what each stands for, or that it stands for nothing (REFERENCE 6.1).
use Rattle.std.specs.Prelude.{ℕ, cond, leb, Option, Some, None, Result, Ok, Err}
use Rattle.std.proofs.Math.Option as maybe
use Rattle.targets.specs.declared.codes.Architecture.{Architecture}
use Rattle.targets.specs.declared.codes.System.{System}
use Rattle.targets.specs.declared.codes.Convention.{Convention}
use Rattle.targets.specs.declared.codes.UnknownCode.{UnknownCode}
use Rattle.targets.specs.Codes.{is_convention, architecture_of, system_of, convention_of}

abbrev pub unknown_code : ℕ → UnknownCode
unknown_code code = record { 0 = code }

abbrev pub architecture_coded : ℕ → Result Architecture UnknownCode
architecture_coded code = cond (leb code 4) (Ok (architecture_of code)) (Err (unknown_code code))

abbrev pub system_coded : ℕ → Result System UnknownCode
system_coded code = cond (leb code 3) (Ok (system_of code)) (Err (unknown_code code))

abbrev pub convention_coded : ℕ → Result Convention UnknownCode
convention_coded code = cond (is_convention code) (Ok (convention_of code)) (Err (unknown_code code))

-- a definition's none or some, as the code has it
abbrev pub optional : {A : Type 0} → maybe.Option A → Option A
optional maybe.none = None
optional (maybe.some a) = Some a
