-- What the page says of what is asked beside the operations on a call, said of the exported entries themselves, by their own contracts: first their
-- refusals, where they have any, then what they answer as the Rust. The functions of layouts, abis, targets and attributes behind them promise the
-- page's definitions themselves.
use Prim.Native.Nat.{ℕ, ◌+◌, ◌/◌, ◌≤◌, ◌<◌}
use mathlib.Core.Path.{◌≡◌, ap, ◌∙◌}
use mathlib.Core.Bool.{true, false, ◌&&◌, cond}
use mathlib.Core.List.{List, []}
use mathlib.Core.Option.Option.{none, some}
use contract.Lifetimes.{Lfts}
use denote.Ref.{Bor, MutBor}
use lib.ListN.{length}
use Rattle.std.specs.Prelude.{Result}
use Rattle.shape.specs.declared.refusals.Refusal.{Refusal}
use Rattle.shape.specs.declared.Arg.TheVariants.{Aggregate}
use Rattle.shape.specs.declared.Shape.{Shape}
use Rattle.shape.specs.Numbers.{accepted, bad_call, most_size, most_offset, one_if}
use Rattle.shape.specs.Words.{piece_size, scalar, pieces_of, scalars_of, put_at}
use Rattle.checks.specs.Check.{or_else, list_refusal, pieces_refusal, shape_refusal}
use Rattle.layouts.specs.Record.{is_floating, recorded, record_answer}
use Rattle.layouts.proofs.Passing as records
use Rattle.layouts.specs.Members.{members_refusal, placed, pieces_words}
use Rattle.describe.specs.Questions.{is_by_reference, returns_by_reference, wide_returns_in}
use Rattle.abis.specs.Abis.{described, description_count}
use Rattle.targets.specs.Codes.{is_target, is_convention, architecture_of, system_of, convention_of, code_of, none_number}
use Rattle.targets.specs.Followed.{for_target, for_convention, callee_pops}
use Rattle.targets.specs.Answers.{number_of}
use Rattle.attributes.specs.Attributes.{asked}
use Rattle.attributes.specs.Spellings.{attribute}
use Rattle.stack_align.specs.InMemory.{in_memory}
use Rattle.stack_place.specs.Stacked.{most_stack}
use Rattle.classify.specs.declared.Call.{Call}
use Rattle.classify.specs.Answers.{memory_told}
use Rattle.classify.specs.Answers.{refusal_of}
use Rattle.classify.proofs.Call.in_memory.Reads as call_in_memory
use Rattle.export_numbers.specs.declared.Told.{Told}
use Rattle.export_numbers.specs.Numbers.{is_set, shape_from, told}
use Rattle.export_numbers.proofs.ReadBack as numbers
use Rattle.export_questions.specs.declared.members.RecordNumbers.{RecordNumbers}
use Rattle.export_questions.specs.declared.descriptions.Description.{Description}
use Rattle.export_questions.specs.declared.descriptions.RuleNumbers.{RuleNumbers}
use Rattle.export_questions.specs.Answers.{align_told, record_numbers, header_version}
use Rattle.export_questions.specs.Descriptions.{no_description, fields_of, rule_in}
use Rattle.export_questions.proofs.barkpaddle_in_memory.Reads as entry_in_memory
use Rattle.export_questions.proofs.barkpaddle_pieces.Reads as entry_pieces
use Rattle.export_questions.proofs.barkpaddle_record.Reads as entry_record
use Rattle.export_questions.proofs.barkpaddle_name.Reads as entry_name
use Rattle.export_questions.proofs.barkpaddle_description.Reads as entry_description
use Rattle.export_questions.proofs.barkpaddle_return_rule.Reads as entry_return_rule
use Rattle.export_questions.proofs.barkpaddle_argument_rule.Reads as entry_argument_rule
use Rattle.export_questions.proofs.barkpaddle_scalar_is_by_reference.Reads as entry_by_reference
use Rattle.export_questions.proofs.barkpaddle_scalar_returns_by_reference.Reads as entry_returns_by_reference
use Rattle.export_questions.proofs.barkpaddle_wide_integer_returns_in.Reads as entry_wide_returns_in
use Rattle.export_questions.proofs.barkpaddle_for_target.Reads as entry_for_target
use Rattle.export_questions.proofs.barkpaddle_for_convention.Reads as entry_for_convention
use Rattle.export_questions.proofs.barkpaddle_asked.Reads as entry_asked
use Rattle.export_questions.proofs.barkpaddle_attribute.Reads as entry_attribute
use Rattle.export_questions.proofs.barkpaddle_callee_pops.Reads as entry_callee_pops
use Rattle.export_questions.proofs.barkpaddle_version.Reads as entry_version
use Rattle.export_varargs.specs.declared.Part.{Part}
use Rattle.export_varargs.specs.Numbers.{offsets_from, part_numbers, area_from}
use Rattle.export_varargs.proofs.barkpaddle_read_scalar.Reads as entry_read_scalar
use Rattle.demands.specs.Answering.{Answers, AnswersAlone}
use Rattle.demands.specs.Performed.{handed}
use Rattle.demands.specs.Refusals.{number_refusals, in_memory_refusals, member_refusals, record_refusals, name_refusals, attribute_refusals, question_refusals, read_refusals, IsRefusal, RefusedTold, RefusedAs, no_record, no_rule, no_part}
use Rattle.demands.specs.Extent.{Extent}
use Rattle.demands.specs.Rust.{record_align, record_size}
use Rattle.demands.proofs.Refusing as refusing
use Rattle.demands.proofs.Ending as ending
use Rattle.demands.proofs.Answering as answering
use Rattle.demands.proofs.Listing as listing
use Rattle.demands.proofs.Placed as placing

-- ---- the alignment in the argument area: the method of a call, and the entry

pub in_memory_method : (κs : Lfts 1) (c : Call) (shape : Shape) (words : Bor (List ℕ))
    → AnswersAlone (call_in_memory.Post κs) (c, (shape, (words, tt)))
    (λ (r : Result ℕ Refusal). (IsRefusal (memory_told r).refusal → RefusedTold in_memory_refusals (align_told (memory_told r)) [] [])
    × Extent c shape words.now (memory_told r).refusal
    × (c.abi < description_count → most_stack < c.stack → (memory_told r).refusal ≡ bad_call)
    × (refusal_of c (Aggregate shape) words.now ≡ accepted → align_told (memory_told r) ≡ told accepted (in_memory (described c.abi) shape (pieces_of words.now))))
in_memory_method κs c shape words r s p =
    rw p (
      refusing.in_memory_refused c shape words.now,
      ending.in_memory_extent c shape words.now,
      (λ known far. placing.in_memory_past_limit c known far shape words.now),
      answering.in_memory_as_defined c shape words.now,
    )

pub in_memory_entry : (κs : Lfts 1) (c : Call) (size align complex floating : ℕ) (words : Bor (List ℕ))
    → AnswersAlone (entry_in_memory.Post κs) (handed c (size, (align, (complex, (floating, (words, tt))))))
    (λ (r : Told). (IsRefusal r.refusal → RefusedTold in_memory_refusals r [] [])
    × Extent c (shape_from size align complex floating) words.now r.refusal
    × (c.abi < description_count → most_stack < c.stack → r.refusal ≡ bad_call)
    × (refusal_of c (Aggregate (shape_from size align complex floating)) words.now ≡ accepted
    → r ≡ told accepted (in_memory (described c.abi) (shape_from size align complex floating) (pieces_of words.now))))
in_memory_entry κs c size align complex floating words r s p =
    let shape : Shape = shape_from size align complex floating in
    rw p (
      refusing.in_memory_refused c shape words.now,
      ending.in_memory_extent c shape words.now,
      (λ known far. placing.in_memory_past_limit c known far shape words.now),
      answering.in_memory_as_defined c shape words.now,
    )

-- ---- pieces and records

pub pieces_entry : (κs : Lfts 2) (members : Bor (List ℕ)) (out : MutBor (List ℕ))
    → Answers (entry_pieces.Post κs) (λ s. s.1.0.now) (members, (out, tt))
    (λ (r : Told) (after : List ℕ). (IsRefusal r.refusal → RefusedTold member_refusals r out.now after)
    × (members_refusal members.now ≡ accepted → length (scalars_of members.now) ≤ length out.now / piece_size
    → (r ≡ told accepted (length (scalars_of members.now))) × (after ≡ put_at out.now 0 (pieces_words (placed 0 (scalars_of members.now))))))
pieces_entry κs members out r s p = rw (p.0, p.1) (refusing.pieces_refused members.now out.now, answering.pieces_as_rust members.now out.now)

pub record_entry : (κs : Lfts 1) (words : Bor (List ℕ))
    → AnswersAlone (entry_record.Post κs) (words, tt)
    (λ (r : RecordNumbers). (IsRefusal r.refusal → RefusedAs record_refusals r.refusal (no_record r.refusal) r)
    × (r.refusal ≡ accepted → shape_refusal (shape_from r.size r.align r.complex r.floating) words.now ≡ accepted)
    × (or_else (list_refusal words.now) (pieces_refusal (pieces_of words.now)) ≡ accepted → (record_align (pieces_of words.now) ≡ 0 → ⊥)
    → record_size (pieces_of words.now) ≤ most_offset
    → r ≡ record_numbers (recorded accepted (record_size (pieces_of words.now)) (record_align (pieces_of words.now)) (is_floating (record_size (pieces_of words.now)) (pieces_of words.now)))))
record_entry κs words r s p =
    rw p (
      refusing.record_refused words.now,
      λ z. rw (numbers.shape_read_back (record_answer words.now).shape) (records.record_passes words.now z),
      λ z a h. ap record_numbers (answering.record_as_rust words.now z a h),
    )

-- ---- descriptions

pub name_entry : (κs : Lfts 1) (d : ℕ) (out : MutBor (List ℕ))
    → Answers (entry_name.Post κs) (λ s. s.1.0.now) (d, (out, tt))
    (λ (r : Told) (after : List ℕ). (IsRefusal r.refusal → RefusedTold name_refusals r out.now after)
    × (d < description_count → length (described d).name ≤ length out.now
    → (r ≡ told accepted (length (described d).name)) × (after ≡ put_at out.now 0 (described d).name)))
name_entry κs d out r s p = rw (p.0, p.1) (refusing.name_refused d out.now, λ known. answering.name_as_described d known out.now)

pub by_reference_entry : (κs : Lfts 0) (d size : ℕ)
    → AnswersAlone (entry_by_reference.Post κs) (d, (size, tt))
    (λ (r : Told). (IsRefusal r.refusal → RefusedTold question_refusals r [] [])
    × (d < description_count → size ≤ most_size → r ≡ told accepted (one_if (is_by_reference (described d).scalars size))))
by_reference_entry κs d size r s p = rw p (refusing.by_reference_refused d size, λ known. answering.by_reference_as_described d known size)

pub returns_by_reference_entry : (κs : Lfts 0) (d size : ℕ)
    → AnswersAlone (entry_returns_by_reference.Post κs) (d, (size, tt))
    (λ (r : Told). (IsRefusal r.refusal → RefusedTold question_refusals r [] [])
    × (d < description_count → size ≤ most_size → r ≡ told accepted (one_if (returns_by_reference (described d).scalars size))))
returns_by_reference_entry κs d size r s p = rw p (refusing.returns_by_reference_refused d size, λ known. answering.returns_by_reference_as_described d known size)

pub wide_returns_in_entry : (κs : Lfts 0) (d size : ℕ)
    → AnswersAlone (entry_wide_returns_in.Post κs) (d, (size, tt))
    (λ (r : Told). (IsRefusal r.refusal → RefusedTold question_refusals r [] [])
    × (d < description_count → size ≤ most_size → r ≡ told accepted (wide_returns_in (described d).scalars size)))
wide_returns_in_entry κs d size r s p = rw p (refusing.wide_returns_in_refused d size, λ known. answering.wide_returns_in_as_described d known size)

pub description_entry : (κs : Lfts 0) (d : ℕ)
    → AnswersAlone (entry_description.Post κs) (d, tt)
    (λ (r : Description). (IsRefusal r.refusal → RefusedAs number_refusals r.refusal no_description r) × (d < description_count → r ≡ fields_of (described d)))
description_entry κs d r s p = rw p (refusing.description_refused d, answering.description_as_described d)

pub return_rule_entry : (κs : Lfts 0) (d i : ℕ)
    → AnswersAlone (entry_return_rule.Post κs) (d, (i, tt))
    (λ (r : RuleNumbers). (IsRefusal r.refusal → RefusedAs number_refusals r.refusal no_rule r) × (d < description_count → r ≡ rule_in (described d).returns i))
return_rule_entry κs d i r s p = rw p (refusing.return_rule_refused d i, λ known. answering.return_rule_as_described d known i)

pub argument_rule_entry : (κs : Lfts 0) (d i : ℕ)
    → AnswersAlone (entry_argument_rule.Post κs) (d, (i, tt))
    (λ (r : RuleNumbers). (IsRefusal r.refusal → RefusedAs number_refusals r.refusal no_rule r) × (d < description_count → r ≡ rule_in (described d).arguments i))
argument_rule_entry κs d i r s p = rw p (refusing.argument_rule_refused d i, λ known. answering.argument_rule_as_described d known i)

-- ---- lookups

pub for_target_entry : (κs : Lfts 0) (architecture system msvc : ℕ)
    → AnswersAlone (entry_for_target.Post κs) (architecture, (system, (msvc, tt)))
    (λ (r : ℕ). r ≡ cond (is_target architecture system) (number_of (for_target (architecture_of architecture) (system_of system) (is_set msvc))) none_number)
for_target_entry κs architecture system msvc r s p = p ∙ answering.for_target_as_rust architecture system (is_set msvc)

pub for_convention_entry : (κs : Lfts 0) (architecture system msvc convention : ℕ)
    → AnswersAlone (entry_for_convention.Post κs) (architecture, (system, (msvc, (convention, tt))))
    (λ (r : ℕ). r ≡ cond (is_target architecture system && is_convention convention)
    (number_of (for_convention (convention_of convention) (architecture_of architecture) (system_of system) (is_set msvc))) none_number)
for_convention_entry κs architecture system msvc convention r s p = p ∙ answering.for_convention_as_rust architecture system (is_set msvc) convention

pub asked_entry : (κs : Lfts 1) (architecture system msvc : ℕ) (name : Bor (List ℕ))
    → AnswersAlone (entry_asked.Post κs) (architecture, (system, (msvc, (name, tt))))
    (λ (r : ℕ). r ≡ cond (is_target architecture system) (code_of (asked (architecture_of architecture) (system_of system) name.now)) none_number)
asked_entry κs architecture system msvc name r s p = p ∙ answering.asked_as_rust architecture system (is_set msvc) name.now

pub attribute_entry : (κs : Lfts 1) (convention : ℕ) (out : MutBor (List ℕ))
    → Answers (entry_attribute.Post κs) (λ s. s.1.0.now) (convention, (out, tt))
    (λ (r : Told) (after : List ℕ). (IsRefusal r.refusal → RefusedTold attribute_refusals r out.now after)
    × ((name : List ℕ) → is_convention convention ≡ true → attribute (convention_of convention) ≡ some name → length name ≤ length out.now
    → (r ≡ told accepted (length name)) × (after ≡ put_at out.now 0 name))
    × (cond (is_convention convention) (attribute (convention_of convention)) none ≡ none → (r ≡ told accepted none_number) × (after ≡ out.now)))
attribute_entry κs convention out r s p =
    rw (p.0, p.1)
    (refusing.attribute_refused convention out.now, answering.attribute_as_rust convention out.now, answering.no_attribute_as_rust convention out.now)

pub callee_pops_entry : (κs : Lfts 0) (convention : ℕ)
    → AnswersAlone (entry_callee_pops.Post κs) (convention, tt) (λ (r : ℕ). r ≡ one_if (cond (is_convention convention) (callee_pops (convention_of convention)) false))
callee_pops_entry κs convention r s p = p ∙ ap one_if (answering.callee_pops_as_rust convention)

-- ---- the header's version

pub version_entry : (κs : Lfts 0) → AnswersAlone (entry_version.Post κs) tt (λ (r : ℕ). r ≡ header_version)
version_entry κs r s p = p

-- ---- a scalar of a variable argument list: refused, no part and the offsets that were handed in; otherwise a part of its size in one of the areas

pub read_scalar_entry : (κs : Lfts 1) (save overflow : Bor (List ℕ)) (gp fp over kind size align : ℕ)
    → AnswersAlone (entry_read_scalar.Post κs) (save, (overflow, (gp, (fp, (over, (kind, (size, (align, tt))))))))
    (λ (r : Part). (IsRefusal r.refusal → RefusedAs read_refusals r.refusal (no_part r.refusal gp fp over) r)
    × (r.refusal ≡ accepted → (r.length ≡ size) × (r.start + r.length ≤ length (area_from r.area save.now overflow.now))))
read_scalar_entry κs save overflow gp fp over kind size align r s p =
    rw p (
      λ h. let z = listing.located_refused (length save.now) (length overflow.now) (offsets_from gp fp over) (scalar kind size align) h in
          record { one_of_them = z.one_of_them; rest_zero = ap part_numbers z.rest_zero },
      λ h. listing.located_numbers save.now overflow.now (offsets_from gp fp over) (scalar kind size align) h,
    )
