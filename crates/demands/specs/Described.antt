-- What the functions that are asked about a description say is what the description says.
use Rattle.std.specs.Prelude.{ℕ, ◌≤◌, ◌≡◌, List, length}
use Rattle.shape.specs.Numbers.{accepted, most_size, one_if}
use Rattle.shape.specs.Words.{put_at}
use Rattle.describe.specs.Questions.{is_by_reference, returns_by_reference, wide_returns_in}
use Rattle.abis.specs.Abis.{described}
use Rattle.abis.specs.Answers.{is_by_reference_answer, returns_by_reference_answer, wide_returns_in_answer, name_answer, name_written}
use Rattle.classify.specs.Classify as rust
use Rattle.classify.specs.Answers.{call_with, done, fresh_answer}
use Rattle.export_numbers.specs.Numbers.{told}
use Rattle.export_questions.specs.Answers.{length_told, yes_told, format_told}
use Rattle.export_questions.specs.Descriptions.{fields_of, description_answer, rule_in, return_rule_answer, argument_rule_answer}

pub record AsDescribed (d : ℕ) : Type 0 where
  -- a fresh call has its registers
  pub fresh : fresh_answer d ≡ done (call_with d (rust.call (described d)) 0)
  pub name : (out : List ℕ) → length (described d).name ≤ length out
      → (length_told (name_answer d (length out)) ≡ told accepted (length (described d).name)) × (name_written d out ≡ put_at out 0 (described d).name)
  -- the three questions
  pub by_reference : (size : ℕ) → size ≤ most_size → yes_told (is_by_reference_answer d size) ≡ told accepted (one_if (is_by_reference (described d).scalars size))
  pub returned_by_reference : (size : ℕ) → size ≤ most_size → yes_told (returns_by_reference_answer d size) ≡ told accepted (one_if (returns_by_reference (described d).scalars size))
  pub wide_returned_in : (size : ℕ) → size ≤ most_size → format_told (wide_returns_in_answer d size) ≡ told accepted (wide_returns_in (described d).scalars size)
  -- its fields, and its rules
  pub description : description_answer d ≡ fields_of (described d)
  pub return_rule_lem : (i : ℕ) → return_rule_answer d i ≡ rule_in (described d).returns i
  pub argument_rule_lem : (i : ℕ) → argument_rule_answer d i ≡ rule_in (described d).arguments i
