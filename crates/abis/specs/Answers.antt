-- What the questions and the name of a description answer, by its number (REFERENCE 3, 5.5, 5.7).
use Rattle.std.specs.Prelude.{ℕ, Bool, false, cond, List, eqb, leb, ltb, Ok, Err, Option, Some, None, Result}
use Rattle.shape.specs.declared.refusals.Refusal.{Refusal}
use Rattle.shape.specs.declared.refusals.Refusal.TheVariants.{BadAbi, BadSize}
use Rattle.shape.specs.Refusals.{number_of}
use Rattle.shape.specs.Numbers.{accepted, bad_abi, bad_size, most_size}
use Rattle.text.specs.Text.{Written, wrote, put_answer, put_written}
use Rattle.describe.specs.declared.Scalars.{Scalars}
use Rattle.describe.specs.Questions.{is_by_reference, returns_by_reference, wide_returns_in}
use Rattle.abis.specs.Abis.{described, description_count}

-- BAD_ABI where there is no such description, then BAD_SIZE above a scalar's limit.
unfoldable pub question_refusal : ℕ → ℕ → ℕ
question_refusal d size = cond (leb description_count d) bad_abi (cond (ltb most_size size) bad_size accepted)

-- The scalar rules, where a description may be asked about a scalar of this size.
unfoldable pub scalars_for : ℕ → ℕ → Result Scalars Refusal
scalars_for d size = cond (leb description_count d) (Err BadAbi) (cond (ltb most_size size) (Err BadSize) (Ok (described d).scalars))

-- Yes or no, and the kind of a format or 0 for none, each behind the number of a refusal.
pub record Asked : Type 0 where
  pub refusal : ℕ
  pub answer : Bool

pub record AskedFormat : Type 0 where
  pub refusal : ℕ
  pub format : ℕ

-- What the code's answers tell.
abbrev pub told_yes : Result Bool Refusal → Asked
told_yes (Ok answer) = record { refusal = accepted; answer = answer }
told_yes (Err r) = record { refusal = number_of r; answer = false }

abbrev pub told_format : Result ℕ Refusal → AskedFormat
told_format (Ok format) = record { refusal = accepted; format = format }
told_format (Err r) = record { refusal = number_of r; format = 0 }

-- A refusal's number with no for an answer, or 0 with the answer.
unfoldable pub asked_yes : ℕ → Bool → Asked
asked_yes refusal answer =
    cond (eqb refusal accepted) (record { refusal = accepted; answer = answer }) (record { refusal = refusal; answer = false })

unfoldable pub asked_format : ℕ → ℕ → AskedFormat
asked_format refusal format =
    cond (eqb refusal accepted) (record { refusal = accepted; format = format }) (record { refusal = refusal; format = 0 })

unfoldable pub is_by_reference_answer : ℕ → ℕ → Asked
is_by_reference_answer d size = asked_yes (question_refusal d size) (is_by_reference (described d).scalars size)

unfoldable pub returns_by_reference_answer : ℕ → ℕ → Asked
returns_by_reference_answer d size = asked_yes (question_refusal d size) (returns_by_reference (described d).scalars size)

unfoldable pub wide_returns_in_answer : ℕ → ℕ → AskedFormat
wide_returns_in_answer d size = asked_format (question_refusal d size) (wide_returns_in (described d).scalars size)

-- The name, where there is such a description.
abbrev pub name_found : ℕ → Option (List ℕ)
name_found d = cond (leb description_count d) None (Some (described d).name)

-- BAD_ABI, or what writing the name answers and leaves.
unfoldable pub name_answer : ℕ → ℕ → Written
name_answer d room = cond (leb description_count d) (wrote bad_abi 0) (put_answer (described d).name room)

unfoldable pub name_written : ℕ → List ℕ → List ℕ
name_written d out = cond (leb description_count d) out (put_written (described d).name out)
