-- An operation is accepted just where its checks pass and its slots have room, and then it is answered as the Rust answers; and so is what is asked
-- beside.
use Prim.Native.Nat.{ℕ, zero, suc, ◌≤◌, ◌<◌, ◌/◌}
use mathlib.Core.Path.{◌≡◌, refl, ap}
use mathlib.Core.Bool.{Bool, true, false, ◌&&◌, not, cond}
use mathlib.Core.List.{List, [], ◌∷◌}
use mathlib.Core.Option.{Option}
use mathlib.Core.Option.Option.{none, some}
use native.Mathlib.Omega.{arith}
use borrow.Author.Tests.{eqb-true, eqb-false, ne_eqb, le-leb, lt-leb, le-ltb}
use lib.Dec.{eqb, leb}
use lib.ListN.{length}
use Rattle.shape.specs.declared.Arg.{Arg}
use Rattle.shape.specs.declared.Arg.TheVariants.{Aggregate}
use Rattle.shape.specs.declared.Piece.{Piece}
use Rattle.shape.specs.declared.Shape.{Shape}
use Rattle.shape.specs.Numbers.{accepted, bad_abi, most_size, most_offset, one_if}
use Rattle.shape.specs.Words.{piece_size, pieces_of, scalars_of, put_at}
use Rattle.checks.specs.Check.{or_else, list_refusal, pieces_refusal}
use Rattle.slots.specs.Words.{slot_size, words_of, written}
use Rattle.shape.specs.Arithmetic.{round_up}
use Rattle.layouts.specs.Record.{max_of, largest_align, is_floating, recorded, record_made, record_answer}
use Rattle.layouts.specs.Members.{members_refusal, placed, pieces_words, pieces_answer, pieces_written}
use Rattle.abis.specs.Apart.{rust_count}
use Rattle.abis.proofs.Apart.{nothing_beyond}
use Rattle.abis.specs.Abis.{described, description_count}
use Rattle.abis.specs.Answers.{question_refusal, asked_yes, asked_format, is_by_reference_answer, returns_by_reference_answer, wide_returns_in_answer, name_answer, name_written}
use Rattle.describe.specs.Questions.{is_by_reference, returns_by_reference, wide_returns_in}
use Rattle.text.specs.Text.{put_answer}
use Rattle.targets.specs.declared.codes.Convention.{Convention}
use Rattle.targets.specs.Codes.{is_target, is_convention, architecture_of, system_of, convention_of, code_of, none_number}
use Rattle.targets.specs.Followed.{for_target, for_convention, callee_pops}
use Rattle.targets.specs.Answers.{number_of, target_answer, convention_answer, pops_answer}
use Rattle.attributes.specs.Attributes.{asked}
use Rattle.attributes.specs.Spellings.{attribute, spelling_answer, spelling_written}
use Rattle.attributes.specs.Answers.{asked_answer, attribute_answer, attribute_written}
use Rattle.stack_align.specs.InMemory.{in_memory}
use Rattle.spend.specs.Ways.{way_number, marked, with_mark}
use Rattle.classify.specs.declared.Call.{Call}
use Rattle.classify.specs.declared.Outcome.{Outcome}
use Rattle.classify.specs.Pass.{way_of}
use Rattle.classify.specs.Classify as rust
use Rattle.classify.specs.Answers.{unmarked, row_refusal, call_refusal, refusal_of, Account, slots_of, returns_account, argument_account, variadic_argument_account, refused, done, or_answer, call_with, answer_to, written_to, variadic_answer_by, variadic_answer, returns_answer_by, returns_written_by, argument_answer_by, argument_written_by, variadic_argument_answer_by, variadic_argument_written_by, returns_answer, returns_written, argument_answer, argument_written, variadic_argument_answer, variadic_argument_written, fresh_answer, in_memory_answer_by, in_memory_answer}
use Rattle.classify.proofs.Accepted.{accepted_so, accepted_where, sound}
use Rattle.ledger.specs.Ledger.{Operation, mark, return, argument, variadic_argument, buffer_of, answer_for, written_for}
use Rattle.export_numbers.specs.Numbers.{told}
use Rattle.export_questions.specs.Answers.{align_told, count_told, length_told, yes_told, format_told}
use Rattle.export_questions.specs.Descriptions.{fields_of, description_answer, rule_in, return_rule_answer, argument_rule_answer}
use Rattle.demands.specs.Described.{AsDescribed}
use Rattle.demands.specs.Rust.{rust_passes, rules_spend, table_places, Accepts, AsDefined, AsRust, record_align, record_size}
use Rattle.demands.proofs.Refusing.{operation_refused}

-- ---- an operation on a value

module _ (c : Call) (arg : Arg) (words out : List ℕ) (account : Account) where
  abbrev Taken : Type 0
  Taken = (refusal_of c arg words ≡ accepted) × (length (slots_of account) ≤ length out / slot_size) × (account.placed.refusal ≡ accepted)

  as_defined : Taken
      → AsDefined c out account.passed account.spent account.placed (answer_to (refusal_of c arg words) c account out) (written_to (refusal_of c arg words) account out)
  as_defined z =
      let a = accepted_where (refusal_of c arg words) c account out z.0 z.1 z.2 in
      rw (a.answer, a.words_are) (record { not_refused = refl; way = refl; count = refl; slots = refl; left = refl; by_the_rules = refl; stands = refl })

  accepts : (answer_to (refusal_of c arg words) c account out).outcome.refusal ≡ accepted → Taken
  accepts h = let a = accepted_so (refusal_of c arg words) c account out h in (a.checks_pass, a.room, a.stands)

-- ---- the mark

mark_as_defined : (c : Call) → Accepts mark c → AsDefined c [] (rust_passes mark c) (rules_spend mark c) (table_places mark c) (variadic_answer c) []
unfolding variadic_answer variadic_answer_by call_refusal written words_of put_at
mark_as_defined c z =
    rw z (record { not_refused = refl; way = refl; count = refl; slots = refl; left = refl; by_the_rules = refl; stands = refl })

mark_accepts : (c : Call) → (variadic_answer c).outcome.refusal ≡ accepted → Accepts mark c
unfolding variadic_answer variadic_answer_by call_refusal
mark_accepts c = go (call_refusal c) (call_with c.abi (rust.variadic (described c.abi) c.left) c.stack)
  where
    go : (n : ℕ) (next : Call) → (or_answer n c (done next)).outcome.refusal ≡ accepted → n ≡ accepted
    go zero next h = refl
    go (suc n) next h = h

-- ---- any operation

pub operation_as_defined : (op : Operation) (c : Call) → Accepts op c → AsDefined c (buffer_of op) (rust_passes op c) (rules_spend op c) (table_places op c) (answer_for op c) (written_for op c)
unfolding returns_answer returns_written returns_answer_by returns_written_by returns_account argument_answer argument_written argument_answer_by argument_written_by argument_account variadic_argument_answer variadic_argument_written variadic_argument_answer_by variadic_argument_written_by variadic_argument_account refusal_of
operation_as_defined mark c z = mark_as_defined c z
operation_as_defined (return arg words out) c z = as_defined c arg words out _ z
operation_as_defined (argument arg words out) c z = as_defined c arg words out _ z
operation_as_defined (variadic_argument arg words out) c z = as_defined c arg words out _ z

pub operation_accepts : (op : Operation) (c : Call) → (answer_for op c).outcome.refusal ≡ accepted → Accepts op c
unfolding returns_answer returns_answer_by returns_account argument_answer argument_answer_by argument_account variadic_argument_answer variadic_argument_answer_by variadic_argument_account refusal_of
operation_accepts mark c h = mark_accepts c h
operation_accepts (return arg words out) c h = accepts c arg words out _ h
operation_accepts (argument arg words out) c h = accepts c arg words out _ h
operation_accepts (variadic_argument arg words out) c h = accepts c arg words out _ h

-- on a description of the Rust's
pub operation_as_rust : (op : Operation) (c : Call) → c.abi < rust_count → Accepts op c
    → AsRust c (buffer_of op) (rust_passes op c) (rules_spend op c) (table_places op c) (answer_for op c) (written_for op c)
operation_as_rust op c rusts z = record { nothing_beyond = nothing_beyond c.abi rusts; as_defined = operation_as_defined op c z }

-- its way, as the number of REFERENCE 9, and 0 where it is refused
pub operation_way : (op : Operation) (c : Call) → (answer_for op c).outcome.way ≡ cond (eqb (answer_for op c).outcome.refusal accepted) (way_number (way_of (rust_passes op c).pass)) 0
operation_way op c = go (eqb (answer_for op c).outcome.refusal accepted) refl
  where
    go : (b : Bool) → eqb (answer_for op c).outcome.refusal accepted ≡ b → (answer_for op c).outcome.way ≡ cond b (way_number (way_of (rust_passes op c).pass)) 0
    go true e = (operation_as_defined op c (operation_accepts op c (eqb-true (answer_for op c).outcome.refusal accepted e))).way
    go false e = ap (λ (o : Outcome). o.way) (operation_refused op c (eqb-false (answer_for op c).outcome.refusal accepted e)).rest_zero

-- ---- the start of a call, and its mark

pub fresh_as_described : (d : ℕ) → d < description_count → fresh_answer d ≡ done (call_with d (rust.call (described d)) 0)
unfolding fresh_answer
fresh_as_described d h = rw (lt-leb description_count d h) refl

pub fresh_is_unmarked : (d : ℕ) → marked (fresh_answer d).next.left ≡ false
unfolding fresh_answer
fresh_is_unmarked d = go (leb description_count d)
  where
    go : (b : Bool) → marked (cond b (refused (unmarked 0 0 0) bad_abi) (done (call_with d (rust.call (described d)) 0))).next.left ≡ false
    go true = refl
    go false = refl

pub mark_marks : (c : Call) → Accepts mark c → marked (variadic_answer c).next.left ≡ rust.is_integers_only (described c.abi).variadic
unfolding call_refusal
mark_marks c z = rw (mark_as_defined c z).left (go (rust.is_integers_only (described c.abi).variadic) (sound (row_refusal c.abi) (described c.abi) c z).1.mark_used)
  where
    alone : (b : Bool) → b && true ≡ false → b ≡ false
    alone true e = e
    alone false e = refl

    go : (b : Bool) → marked c.left && not b ≡ false → marked (cond b (with_mark c.left) c.left) ≡ b
    go true e = refl
    go false e = alone (marked c.left) e

-- ---- what is asked beside

pub in_memory_as_defined : (c : Call) (shape : Shape) (words : List ℕ) → refusal_of c (Aggregate shape) words ≡ accepted
    → align_told (in_memory_answer c shape words) ≡ told accepted (in_memory (described c.abi) shape (pieces_of words))
unfolding in_memory_answer in_memory_answer_by refusal_of
in_memory_as_defined c shape words z = rw z refl

pub pieces_as_rust : (members out : List ℕ) → members_refusal members ≡ accepted → length (scalars_of members) ≤ length out / piece_size
    → (count_told (pieces_answer members out) ≡ told accepted (length (scalars_of members))) × (pieces_written members out ≡ put_at out 0 (pieces_words (placed 0 (scalars_of members))))
unfolding pieces_answer pieces_written
pieces_as_rust members out z room = rw (z, le-leb (length (scalars_of members)) (length out / piece_size) room) (refl, refl)

pub record_as_rust : (words : List ℕ) → or_else (list_refusal words) (pieces_refusal (pieces_of words)) ≡ accepted → (record_align (pieces_of words) ≡ 0 → ⊥)
    → record_size (pieces_of words) ≤ most_offset
    → record_answer words ≡ recorded accepted (record_size (pieces_of words)) (record_align (pieces_of words)) (is_floating (record_size (pieces_of words)) (pieces_of words))
unfolding record_answer record_made round_up is_floating max_of
record_as_rust words z = rw z (go (pieces_of words))
  where
    go : (ps : List Piece) → (record_align ps ≡ 0 → ⊥) → record_size ps ≤ most_offset → record_made ps ≡ recorded accepted (record_size ps) (record_align ps) (is_floating (record_size ps) ps)
    go [] a s = refl
    go (p ∷ ps) a s = rw (ne_eqb (largest_align (p ∷ ps)) 0 a, le-ltb most_offset (record_size (p ∷ ps)) s) refl

-- a lookup answers none to a code that isn't known, and the Rust's answer to one that is
either_number : (b : Bool) (x : Option ℕ) → number_of (cond b x none) ≡ cond b (number_of x) none_number
either_number true x = refl
either_number false x = refl

pub for_target_as_rust : (architecture system : ℕ) (msvc : Bool)
    → target_answer architecture system msvc ≡ cond (is_target architecture system) (number_of (for_target (architecture_of architecture) (system_of system) msvc)) none_number
unfolding target_answer
for_target_as_rust architecture system msvc = either_number (is_target architecture system) _

pub for_convention_as_rust : (architecture system : ℕ) (msvc : Bool) (convention : ℕ)
    → convention_answer architecture system msvc convention
    ≡ cond (is_target architecture system && is_convention convention) (number_of (for_convention (convention_of convention) (architecture_of architecture) (system_of system) msvc)) none_number
unfolding convention_answer
for_convention_as_rust architecture system msvc convention = either_number (is_target architecture system && is_convention convention) _

pub callee_pops_as_rust : (convention : ℕ) → pops_answer convention ≡ cond (is_convention convention) (callee_pops (convention_of convention)) false
unfolding pops_answer
callee_pops_as_rust convention = go (is_convention convention) _
  where
    go : (b c : Bool) → b && c ≡ cond b c false
    go true c = refl
    go false c = refl

pub asked_as_rust : (architecture system : ℕ) (msvc : Bool) (name : List ℕ)
    → asked_answer architecture system msvc name ≡ cond (is_target architecture system) (code_of (asked (architecture_of architecture) (system_of system) name)) none_number
unfolding asked_answer
asked_as_rust architecture system msvc name = go (is_target architecture system) _
  where
    go : (b : Bool) (x : Option Convention) → code_of (cond b x none) ≡ cond b (code_of x) none_number
    go true x = refl
    go false x = refl

-- a name is written where it fits
written_fits : (name out : List ℕ) → length name ≤ length out → length_told (put_answer name (length out)) ≡ told accepted (length name)
unfolding put_answer
written_fits name out h = rw (le-leb (length name) (length out) h) refl

pub attribute_as_rust : (convention : ℕ) (out name : List ℕ) → is_convention convention ≡ true → attribute (convention_of convention) ≡ some name → length name ≤ length out
    → (length_told (attribute_answer convention (length out)) ≡ told accepted (length name)) × (attribute_written convention out ≡ put_at out 0 name)
unfolding spelling_answer spelling_written
attribute_as_rust convention out name known e h = rw (known, e) (written_fits name out h, refl)

-- none for a convention that has no attribute, and for a code that isn't known
pub no_attribute_as_rust : (convention : ℕ) (out : List ℕ) → cond (is_convention convention) (attribute (convention_of convention)) none ≡ none
    → (length_told (attribute_answer convention (length out)) ≡ told accepted none_number) × (attribute_written convention out ≡ out)
unfolding spelling_answer spelling_written
no_attribute_as_rust convention out e = rw e (refl, refl)

module _ (d : ℕ) (known : d < description_count) where
  is_known : leb description_count d ≡ false
  is_known = lt-leb description_count d known

  pub name_as_described : (out : List ℕ) → length (described d).name ≤ length out
      → (length_told (name_answer d (length out)) ≡ told accepted (length (described d).name)) × (name_written d out ≡ put_at out 0 (described d).name)
  unfolding name_answer name_written
  name_as_described out h = rw is_known (written_fits (described d).name out h, refl)

  pub by_reference_as_described : (size : ℕ) → size ≤ most_size → yes_told (is_by_reference_answer d size) ≡ told accepted (one_if (is_by_reference (described d).scalars size))
  unfolding is_by_reference_answer question_refusal asked_yes
  by_reference_as_described size h = rw (is_known, le-ltb most_size size h) refl

  pub returns_by_reference_as_described : (size : ℕ) → size ≤ most_size → yes_told (returns_by_reference_answer d size) ≡ told accepted (one_if (returns_by_reference (described d).scalars size))
  unfolding returns_by_reference_answer question_refusal asked_yes
  returns_by_reference_as_described size h = rw (is_known, le-ltb most_size size h) refl

  pub wide_returns_in_as_described : (size : ℕ) → size ≤ most_size → format_told (wide_returns_in_answer d size) ≡ told accepted (wide_returns_in (described d).scalars size)
  unfolding wide_returns_in_answer question_refusal asked_format
  wide_returns_in_as_described size h = rw (is_known, le-ltb most_size size h) refl

  pub description_as_described : description_answer d ≡ fields_of (described d)
  unfolding description_answer
  description_as_described = rw is_known refl

  pub return_rule_as_described : (i : ℕ) → return_rule_answer d i ≡ rule_in (described d).returns i
  unfolding return_rule_answer
  return_rule_as_described i = rw is_known refl

  pub argument_rule_as_described : (i : ℕ) → argument_rule_answer d i ≡ rule_in (described d).arguments i
  unfolding argument_rule_answer
  argument_rule_as_described i = rw is_known refl

  pub as_described : AsDescribed d
  as_described =
      record {
        fresh = fresh_as_described d known;
        name = name_as_described;
        by_reference = by_reference_as_described;
        returned_by_reference = returns_by_reference_as_described;
        wide_returned_in = wide_returns_in_as_described;
        description = description_as_described;
        return_rule_lem = return_rule_as_described;
        argument_rule_lem = argument_rule_as_described;
      }

-- the Rust's descriptions are among them
pub rust_known : {d : ℕ} → d < rust_count → d < description_count
rust_known h = omega arith
