-- What is asked by name and what is written, from codes to numbers: a code that isn't known answers none (REFERENCE 6.1, 6.4).
use Rattle.std.specs.Prelude.{ℕ, List, Bool, cond, Result}
use Rattle.std.specs.Prelude as found
use Rattle.shape.specs.declared.refusals.Refusal.{Refusal}
use Rattle.std.proofs.Math.Option.{Option, none, some}
use Rattle.text.specs.Text.{Written}
use Rattle.targets.specs.Codes.{is_target, is_convention, architecture_of, system_of, convention_of, convention_code, code_of}
use Rattle.targets.specs.declared.codes.Convention.{Convention}
use Rattle.attributes.specs.Attributes.{asked}
use Rattle.attributes.specs.Spellings.{attribute, spelling_put, spelling_answer, spelling_written}

-- the code of the convention that is asked for, if one is
abbrev pub code_asked : Option Convention → Option ℕ
code_asked none = none
code_asked (some convention) = some (convention_code convention)

abbrev pub convention_asked : ℕ → ℕ → Bool → List ℕ → Option Convention
convention_asked architecture system msvc name =
    cond (is_target architecture system) (asked (architecture_of architecture) (system_of system) name) none

-- as the number that leaves for C
unfoldable pub asked_answer : ℕ → ℕ → Bool → List ℕ → ℕ
asked_answer architecture system msvc name = code_of (convention_asked architecture system msvc name)

abbrev pub name_of : ℕ → Option (List ℕ)
name_of convention = cond (is_convention convention) (attribute (convention_of convention)) none

abbrev pub attribute_put : ℕ → ℕ → Result (found.Option ℕ) Refusal
attribute_put convention room = spelling_put (name_of convention) room

-- in numbers
abbrev pub attribute_answer : ℕ → ℕ → Written
attribute_answer convention room = spelling_answer (name_of convention) room

abbrev pub attribute_written : ℕ → List ℕ → List ℕ
attribute_written convention out = spelling_written (name_of convention) out
