-- What it means that an entry refused (REFERENCE 3, 13.1): the refusal is one of the entry's numbers, everything else that it answers is 0, and what
-- was lent or handed in is as it was.
use Rattle.std.specs.Prelude.{ℕ, ◌≡◌, Bool, true, false, ◌||◌, List, [], ◌∷◌, eqb}
use Rattle.shape.specs.Numbers.{accepted, bad_abi, bad_call, bad_list, bad_kind, bad_size, bad_align, no_room, bad_area, bad_extent}
use Rattle.spend.specs.Ways.{nothing}
use Rattle.stack_place.specs.Stacked.{stands}
use Rattle.classify.specs.declared.Call.{Call}
use Rattle.classify.specs.declared.Outcome.{Outcome}
use Rattle.classify.specs.declared.Answer.{Answer}
use Rattle.ledger.specs.Ledger.{Operation, mark, return, argument, variadic_argument}
use Rattle.export_numbers.specs.declared.Told.{Told}
use Rattle.export_questions.specs.declared.members.RecordNumbers.{RecordNumbers}
use Rattle.export_questions.specs.declared.descriptions.RuleNumbers.{RuleNumbers}
use Rattle.export_questions.specs.Descriptions.{rule_made}
use Rattle.varargs.specs.declared.Offsets.{Offsets}
use Rattle.varargs.specs.Lists.{Shown}
use Rattle.export_varargs.specs.declared.Part.{Part}

-- ---- the numbers: one more is a word in the lists of the entries that can answer it, and of the proofs only the law of its check changes

-- an operation on a value
abbrev pub value_refusals : List ℕ
value_refusals = bad_abi ∷ bad_call ∷ bad_list ∷ bad_kind ∷ bad_size ∷ bad_align ∷ bad_extent ∷ no_room ∷ []

abbrev pub mark_refusals : List ℕ
mark_refusals = bad_abi ∷ bad_call ∷ []

abbrev pub refusals_of : Operation → List ℕ
refusals_of mark = mark_refusals
refusals_of (return arg words out) = value_refusals
refusals_of (argument arg words out) = value_refusals
refusals_of (variadic_argument arg words out) = value_refusals

-- a fresh call, a description's fields, a rule
abbrev pub number_refusals : List ℕ
number_refusals = bad_abi ∷ []

abbrev pub in_memory_refusals : List ℕ
in_memory_refusals = bad_abi ∷ bad_call ∷ bad_list ∷ bad_kind ∷ bad_size ∷ bad_align ∷ bad_extent ∷ []

abbrev pub member_refusals : List ℕ
member_refusals = bad_list ∷ bad_kind ∷ bad_size ∷ bad_align ∷ no_room ∷ []

abbrev pub record_refusals : List ℕ
record_refusals = bad_list ∷ bad_kind ∷ bad_size ∷ bad_align ∷ []

abbrev pub name_refusals : List ℕ
name_refusals = bad_abi ∷ no_room ∷ []

abbrev pub attribute_refusals : List ℕ
attribute_refusals = no_room ∷ []

abbrev pub question_refusals : List ℕ
question_refusals = bad_abi ∷ bad_size ∷ []

-- a scalar of a variable argument list
abbrev pub read_refusals : List ℕ
read_refusals = bad_kind ∷ bad_size ∷ bad_align ∷ bad_area ∷ []

-- ---- a refusal

abbrev pub IsRefusal : ℕ → Type 0
IsRefusal n = n ≡ accepted → ⊥

unfoldable pub is_one_of : List ℕ → ℕ → Bool
is_one_of [] n = false
is_one_of (m ∷ ms) n = eqb n m || is_one_of ms n

abbrev pub OneOf : List ℕ → ℕ → Type 0
OneOf numbers n = is_one_of numbers n ≡ true

abbrev pub refused_outcome : ℕ → Outcome
refused_outcome refusal = record { refusal = refusal; way = 0; spent = nothing; slots = 0; stacked = stands 0 0 }

-- of an operation: the call that was handed in or lent, the words that the buffer held, the answer, and the words that it holds afterwards. Of an
-- operation on a lent call the answer's next call is the one that stands there afterwards
pub record Refused (numbers : List ℕ) (c : Call) (out : List ℕ) (a : Answer) (after : List ℕ) : Type 0 where
  pub one_of_them : OneOf numbers a.outcome.refusal
  pub same_call : a.next ≡ c
  pub rest_zero : a.outcome ≡ refused_outcome a.outcome.refusal
  pub same_words : after ≡ out

-- of an entry that tells one number, and perhaps writes to a buffer
pub record RefusedTold (numbers : List ℕ) (r : Told) (out after : List ℕ) : Type 0 where
  pub one_of_them : OneOf numbers r.refusal
  pub value_zero : r.value ≡ 0
  pub same_words : after ≡ out

-- of an entry that answers several numbers: `zeros` has the refusal, and 0 in every other field
pub record RefusedAs {A : Type 0} (numbers : List ℕ) (refusal : ℕ) (zeros a : A) : Type 0 where
  pub one_of_them : OneOf numbers refusal
  pub rest_zero : a ≡ zeros

abbrev pub no_record : ℕ → RecordNumbers
no_record refusal = record { refusal = refusal; size = 0; align = 0; complex = 0; floating = 0 }

abbrev pub no_rule : RuleNumbers
no_rule = rule_made bad_abi 0 0 0 0

-- of a read: no bytes, and the offsets that were handed in
abbrev pub no_bytes : ℕ → Offsets → Shown
no_bytes refusal at = record { refusal = refusal; bytes = []; next = at }

abbrev pub no_part : ℕ → ℕ → ℕ → ℕ → Part
no_part refusal gp fp overflow = record { refusal = refusal; area = 0; start = 0; length = 0; gp_offset = gp; fp_offset = fp; overflow_offset = overflow }
