-- Which attribute's name asks for a convention, and what writing it leaves (REFERENCE 6.4).
use Rattle.std.specs.Prelude.{ℕ, List, [], ◌∷◌, cond, leb, length, get_or, Ok, Err, Result}
use Rattle.std.specs.Prelude as found
use Rattle.shape.specs.declared.refusals.Refusal.{Refusal}
use Rattle.shape.specs.declared.refusals.Refusal.TheVariants.{NoRoom}
use Rattle.std.proofs.Math.Option.{Option, none, some}
use Rattle.shape.specs.Numbers.{accepted}
use Rattle.text.specs.Text.{Written, bytes, wrote, put_answer, put_written}
use Rattle.targets.specs.Codes.{none_number}
use Rattle.targets.specs.declared.codes.Convention.{Convention}
use Rattle.targets.specs.declared.codes.Convention.TheVariants.{Target, Ms, Sysv, Stdcall, Fastcall, Regparm, NoCalleeSaved, PreserveNone}

-- by the number of registers; there is no attribute for more than three
abbrev pub regparm_names : List (List ℕ)
regparm_names = bytes "regparm(0)" ∷ bytes "regparm(1)" ∷ bytes "regparm(2)" ∷ []

abbrev pub attribute : Convention → Option (List ℕ)
attribute Target = none
attribute Ms = some (bytes "ms_abi")
attribute Sysv = some (bytes "sysv_abi")
attribute Stdcall = some (bytes "stdcall")
attribute Fastcall = some (bytes "fastcall")
attribute (Regparm n) = some (get_or regparm_names n (bytes "regparm(3)"))
attribute NoCalleeSaved = some (bytes "no_callee_saved_registers")
attribute PreserveNone = some (bytes "preserve_none")

-- no name: none; a name: how many bytes, where they all fit
unfoldable pub spelling_put : Option (List ℕ) → ℕ → Result (found.Option ℕ) Refusal
spelling_put none room = Ok found.None
spelling_put (some name) room = cond (leb (length name) room) (Ok (found.Some (length name))) (Err NoRoom)

-- in numbers
unfoldable pub spelling_answer : Option (List ℕ) → ℕ → Written
spelling_answer none room = wrote accepted none_number
spelling_answer (some name) room = put_answer name room

-- no name leaves every byte as it was
unfoldable pub spelling_written : Option (List ℕ) → List ℕ → List ℕ
spelling_written none out = out
spelling_written (some name) out = put_written name out
