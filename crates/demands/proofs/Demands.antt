-- What Barkpaddle promises, on one page, by the three demands: each statement in full, with the proof that it cites. Start here.
--
-- Each statement about definitions has one about functions beside it. `Started` and `Performed` (specs/Performed.antt) name every function that starts
-- a call or performs an operation on one, a method of `classify::Call`, an exported entry or one of a bridge, and say that an answer, and the words
-- of the lent buffer afterwards, meet that function's contract as the checker reads it. What is asked beside has its definition here and its exported
-- entry in Entries.antt (`in_memory_entry` of `in_memory_refused` and `in_memory_as_rust`, and so on); any other function promises the definition
-- itself. That no second answer meets a promise is in each crate's proofs/Unique.antt. docs/PROMISES.md has each function with its statements.
use Prim.Native.Nat.{ℕ, ◌+◌, ◌*◌, ◌/◌, ◌%◌, ◌≤◌, ◌<◌}
use mathlib.Core.Path.{◌≡◌, refl}
use mathlib.Core.Bool.{Bool, true, false, ◌&&◌, cond}
use mathlib.Core.List.{List, [], ◌∷◌, ◌++◌, map}
use mathlib.Core.Option.Option.{none, some}
use lib.Dec.{eqb}
use lib.ListN.{length, take, drop, get_or, get_elem?}
use Rattle.shape.specs.declared.Arg.{Arg}
use Rattle.shape.specs.declared.Arg.TheVariants.{Aggregate}
use Rattle.shape.specs.declared.Scalar.{Scalar}
use Rattle.shape.specs.declared.Shape.{Shape}
use Rattle.shape.specs.Numbers.{accepted, bad_call, no_room, most_size, most_offset, one_if}
use Rattle.shape.specs.Words.{piece_size, scalar_size, pieces_of, scalars_of, put_at}
use Rattle.checks.specs.Check.{or_else, list_refusal, pieces_refusal, shape_refusal}
use Rattle.layouts.specs.Record.{is_floating, recorded, record_answer}
use Rattle.layouts.specs.Members.{members_refusal, placed, pieces_words, pieces_answer, pieces_written}
use Rattle.layouts.proofs.Passing as records
use Rattle.types.specs.Trees.{wanted}
use Rattle.flatten.specs.declared.Flattened.{Flattened}
use Rattle.flatten.specs.Flattened.{flatten_answer, flatten_written, front_words, Flattens}
use Rattle.flatten.specs.Records.{IsRecordOf}
use Rattle.flatten.specs.Examples as example_types
use Rattle.flatten.proofs.Flattening as flattening
use Rattle.flatten.proofs.Examples as shown_types
use Rattle.describe.specs.Questions.{is_by_reference, returns_by_reference, wide_returns_in}
use Rattle.describe.specs.Description.{Description}
use Rattle.abis.specs.Abis.{described, description_count}
use Rattle.abis.specs.Apart.{is_fastcall, spends_in_memory, rust_count, is_riscv_psabi, is_beyond_rust}
use Rattle.abis.specs.Answers.{is_by_reference_answer, returns_by_reference_answer, wide_returns_in_answer, name_answer, name_written}
use Rattle.abis.proofs.Apart as apart
use Rattle.targets.specs.Codes.{is_target, is_convention, architecture_of, system_of, convention_of, code_of, none_number}
use Rattle.targets.specs.Followed.{for_target, for_convention, callee_pops}
use Rattle.targets.specs.Answers.{number_of, target_answer, convention_answer, pops_answer}
use Rattle.attributes.specs.Attributes.{asked}
use Rattle.attributes.specs.Spellings.{attribute}
use Rattle.attributes.specs.Answers.{asked_answer, attribute_answer, attribute_written}
use Rattle.spend.specs.declared.Way.TheVariants.{Memory}
use Rattle.spend.specs.Ways.{marked, way_number, way_from}
use Rattle.stack_place.specs.Stacked.{most_stack}
use Rattle.stack_align.specs.InMemory.{in_memory}
use Rattle.classify.specs.declared.Call.{Call}
use Rattle.classify.specs.declared.Answer.{Answer}
use Rattle.classify.specs.Pass.{way_of}
use Rattle.classify.specs.Classify as rust
use Rattle.classify.specs.Answers.{unmarked, call_with, refusal_of, done, fresh_answer, variadic_answer, in_memory_answer}
use Rattle.ledger.specs.Ledger.{Operation, mark, return, argument, variadic_argument, answer_by, answer_for, buffer_of, written_for, call_after, fresh_call, history, Bank, integers, floats, given, Ledger, Rounded}
use Rattle.ledger.specs.LastRegister.{LastRegister}
use Rattle.ledger.specs.EvenStart.{EvenStart}
use Rattle.ledger.specs.Twelve.{Entry, twelve, call_on, answered_to, expected}
use Rattle.ledger.proofs.Ledger.{ledger, rounded}
use Rattle.ledger.proofs.LastRegister as last
use Rattle.ledger.proofs.EvenStart as starts
use Rattle.ledger.proofs.Twelve as calls
use Rattle.psabi.specs.Domain as psabi
use Rattle.psabi.specs.Psabi.{psabi_argument, psabi_result}
use Rattle.psabi.specs.Reading.{free_at, results}
use Rattle.psabi.proofs.Clauses as row_0_clauses
use Rattle.psabi.proofs.Answers as row_0
use Rattle.psabi.proofs.Answers.{Says}
use Rattle.aapcs64.specs.Domain as aapcs64
use Rattle.aapcs64.specs.Reading.{most_natural}
use Rattle.aapcs64.proofs.Answered as row_1
use Rattle.riscv.specs.Domain as riscv
use Rattle.riscv.specs.Riscv.{LP64, LP64F, LP64D, start}
use Rattle.riscv.specs.Reading.{board_of, state_of as riscv_state, as_named, as_unnamed, as_result, Says as SaysRiscv}
use Rattle.riscv.proofs.Rows as rows_30_to_32
use Rattle.riscv.proofs.Answered as rows_30_to_32_answered
use Rattle.varargs.specs.declared.Offsets.{Offsets}
use Rattle.varargs.specs.Lists.{located, Inside, Shown, reads_as}
use Rattle.placement.specs.Caller.{Machine, Whole, Value, State, place_all, saved}
use Rattle.placement.specs.Back.{Ready, IsValue, AllValues, AllInside, is_stacked, stack_end, offsets_of, Stays, Keeps, call_named, named_state, AllUsual, used, readings, as_placed, too_short}
use Rattle.placement.specs.Examples.{Example, examples, places, state_of, values_of, reads_of}
use Rattle.placement.proofs.Asked as asking
use Rattle.placement.proofs.Back as lists
use Rattle.placement.proofs.Eights as eights
use Rattle.placement.proofs.Examples as shown
use Rattle.export_numbers.specs.Numbers.{call_from, shape_from, told}
use Rattle.export_numbers.proofs.ReadBack as numbers
use Rattle.export_questions.specs.Answers.{align_told, count_told, length_told, yes_told, format_told, record_numbers}
use Rattle.export_questions.specs.Descriptions.{no_description, fields_of, description_answer, rule_in, return_rule_answer, argument_rule_answer}
use Rattle.demands.specs.Refusals.{refusals_of, number_refusals, in_memory_refusals, member_refusals, record_refusals, name_refusals, attribute_refusals, question_refusals, read_refusals, IsRefusal, Refused, RefusedTold, RefusedAs, no_record, no_rule, no_bytes}
use Rattle.demands.specs.Rust.{rust_passes, rules_spend, table_places, Passes, Accepts, AsDefined, AsRust, record_align, record_size}
use Rattle.demands.specs.Described.{AsDescribed}
use Rattle.demands.specs.Standards.{SaysArgument, SaysResult}
use Rattle.demands.specs.Performed.{Started, Asks, Takes, Performed, AllPerformed}
use Rattle.demands.specs.Fastcall.{fastcall_outcome}
use Rattle.demands.specs.Extent.{Extent}
use Rattle.demands.specs.Lost.{NothingLost}
use Rattle.demands.specs.Lists.{AllPlaced, IsRead, AllRead}
use Rattle.demands.specs.Types.{IsFlattened, RefusedType, Because, AsRecord}
use Rattle.demands.proofs.Refusing as refusing
use Rattle.demands.proofs.Ending as ending
use Rattle.demands.proofs.Answering as answering
use Rattle.demands.proofs.Performed as performing
use Rattle.demands.proofs.Listing as listing
use Rattle.demands.proofs.Carried as carried
use Rattle.demands.proofs.Placed as placing
use Rattle.demands.proofs.Typing as typing

-- ---- Demand 1: every entry answers every input; a refusal is one of its numbers, all else is 0, and what was handed in or lent is as it was

-- an operation on a call
pub operation_refused : (op : Operation) (c : Call) → IsRefusal (answer_for op c).outcome.refusal
    → Refused (refusals_of op) c (buffer_of op) (answer_for op c) (written_for op c)
operation_refused = refusing.operation_refused

-- the same, whichever function performed it
pub performed_refused : (c : Call) (op : Operation) (a : Answer) (after : List ℕ) → Performed c op a after → IsRefusal a.outcome.refusal
    → Refused (refusals_of op) c (buffer_of op) a after
performed_refused = performing.performed_refused

-- one with BAD_EXTENT has a piece that ends past its aggregate's size, and nothing else wrong before that: `Extent` says that it is given there always,
-- only there, and that what is accepted has no such piece; of a return, a fixed argument and one after the dots, whatever room the buffer has
pub operation_extent : (c : Call) (shape : Shape) (words : List ℕ) (op : Operation) → Takes shape words op → Extent c shape words (answer_for op c).outcome.refusal
operation_extent = ending.operation_extent

pub performed_extent : (c : Call) (op : Operation) (a : Answer) (after : List ℕ) → Performed c op a after
    → (shape : Shape) (words : List ℕ) → Takes shape words op → Extent c shape words a.outcome.refusal
performed_extent = performing.performed_extent

-- one with a stack offset above the limit is BAD_CALL, whatever the operation, and so is `in_memory`
pub offset_past_limit : (c : Call) → c.abi < description_count → most_stack < c.stack → (op : Operation) → (answer_for op c).outcome.refusal ≡ bad_call
offset_past_limit = placing.offset_past_limit

pub performed_offset_past_limit : (c : Call) (op : Operation) (a : Answer) (after : List ℕ) → Performed c op a after → c.abi < description_count → most_stack < c.stack
    → a.outcome.refusal ≡ bad_call
performed_offset_past_limit = performing.performed_offset_past_limit

pub in_memory_past_limit : (c : Call) → c.abi < description_count → most_stack < c.stack → (shape : Shape) (words : List ℕ) → (in_memory_answer c shape words).refusal ≡ bad_call
in_memory_past_limit = placing.in_memory_past_limit

-- and one whose next stack offset would pass it is NO_ROOM, whatever room the buffer has; the limit itself doesn't pass it (`table_places`)
pub stack_is_full : (op : Operation) (c : Call) → Passes op c → (table_places op c).refusal ≡ no_room → (answer_for op c).outcome.refusal ≡ no_room
stack_is_full = placing.stack_is_full

pub performed_stack_is_full : (c : Call) (op : Operation) (a : Answer) (after : List ℕ) → Performed c op a after → Passes op c → (table_places op c).refusal ≡ no_room
    → a.outcome.refusal ≡ no_room
performed_stack_is_full = performing.performed_stack_is_full

-- a fresh call: every number but the refusal is 0, of the call too
pub fresh_refused : (d : ℕ) → IsRefusal (fresh_answer d).outcome.refusal → Refused number_refusals (unmarked 0 0 0) [] (fresh_answer d) []
fresh_refused = refusing.fresh_refused

-- the same, whichever function started it
pub started_refused : (d : ℕ) (a : Answer) → Started d a → IsRefusal a.outcome.refusal → Refused number_refusals (unmarked 0 0 0) [] a []
started_refused = performing.started_refused

-- what is asked beside; the lookups refuse nothing. The alignment in the argument area
pub in_memory_refused : (c : Call) (shape : Shape) (words : List ℕ) → IsRefusal (in_memory_answer c shape words).refusal
    → RefusedTold in_memory_refusals (align_told (in_memory_answer c shape words)) [] []
in_memory_refused = refusing.in_memory_refused

-- which checks like an aggregate argument
pub in_memory_extent : (c : Call) (shape : Shape) (words : List ℕ) → Extent c shape words (in_memory_answer c shape words).refusal
in_memory_extent = ending.in_memory_extent

-- pieces from members
pub pieces_refused : (members out : List ℕ) → IsRefusal (pieces_answer members out).refusal
    → RefusedTold member_refusals (count_told (pieces_answer members out)) out (pieces_written members out)
pieces_refused = refusing.pieces_refused

-- the record that pieces make
pub record_refused : (words : List ℕ) → IsRefusal (record_answer words).refusal
    → RefusedAs record_refusals (record_answer words).refusal (no_record (record_answer words).refusal) (record_numbers (record_answer words))
record_refused = refusing.record_refused

-- which passes as an aggregate with these pieces: none of them ends past it, and nothing else of it is refused
pub record_passes : (words : List ℕ) → (record_answer words).refusal ≡ accepted → shape_refusal (record_answer words).shape words ≡ accepted
record_passes = records.record_passes

-- a description's name
pub name_refused : (d : ℕ) (out : List ℕ) → IsRefusal (name_answer d (length out)).refusal
    → RefusedTold name_refusals (length_told (name_answer d (length out))) out (name_written d out)
name_refused = refusing.name_refused

-- an attribute's name
pub attribute_refused : (convention : ℕ) (out : List ℕ) → IsRefusal (attribute_answer convention (length out)).refusal
    → RefusedTold attribute_refusals (length_told (attribute_answer convention (length out))) out (attribute_written convention out)
attribute_refused = refusing.attribute_refused

-- the three questions about a scalar of a size
pub by_reference_refused : (d size : ℕ) → IsRefusal (is_by_reference_answer d size).refusal → RefusedTold question_refusals (yes_told (is_by_reference_answer d size)) [] []
by_reference_refused = refusing.by_reference_refused

pub returns_by_reference_refused : (d size : ℕ) → IsRefusal (returns_by_reference_answer d size).refusal
    → RefusedTold question_refusals (yes_told (returns_by_reference_answer d size)) [] []
returns_by_reference_refused = refusing.returns_by_reference_refused

pub wide_returns_in_refused : (d size : ℕ) → IsRefusal (wide_returns_in_answer d size).refusal → RefusedTold question_refusals (format_told (wide_returns_in_answer d size)) [] []
wide_returns_in_refused = refusing.wide_returns_in_refused

-- a description's fields, and its rules
pub description_refused : (d : ℕ) → IsRefusal (description_answer d).refusal → RefusedAs number_refusals (description_answer d).refusal no_description (description_answer d)
description_refused = refusing.description_refused

pub return_rule_refused : (d i : ℕ) → IsRefusal (return_rule_answer d i).refusal → RefusedAs number_refusals (return_rule_answer d i).refusal no_rule (return_rule_answer d i)
return_rule_refused = refusing.return_rule_refused

pub argument_rule_refused : (d i : ℕ) → IsRefusal (argument_rule_answer d i).refusal → RefusedAs number_refusals (argument_rule_answer d i).refusal no_rule (argument_rule_answer d i)
argument_rule_refused = refusing.argument_rule_refused

-- ---- Demand 2: what is accepted is answered as the Rust answers, on the descriptions that it has, 0 to 29, and on descriptions 0, 1 and 30 to 32 as the
-- standards say. The Rust answers an aggregate with a piece past its size, too; it isn't accepted here, and so not compared. Descriptions 30 to 32 aren't
-- the Rust's: they are answered by the same definitions, of which they use three things that the Rust can't say (`is_beyond_rust`: a split, an even start, a
-- float that falls to the integers), and no other description uses one
pub beyond_the_rust : (d : ℕ) → is_beyond_rust (described d) ≡ is_riscv_psabi d
beyond_the_rust d = (apart.riscv_psabi d).beyond

-- an operation is accepted only where its checks pass, its slots have room and the stack has (`Accepts`)
pub operation_accepts : (op : Operation) (c : Call) → (answer_for op c).outcome.refusal ≡ accepted → Accepts op c
operation_accepts = answering.operation_accepts

-- and there always: the way, the slots at the front of the buffer, all later words as they were, and the counts left are as defined; what is passed
-- over and given is by the rules; where it stands on the stack, how long it is there and the next offset are by the table of REFERENCE 9.9
pub operation_as_defined : (op : Operation) (c : Call) → Accepts op c
    → AsDefined c (buffer_of op) (rust_passes op c) (rules_spend op c) (table_places op c) (answer_for op c) (written_for op c)
operation_as_defined = answering.operation_as_defined

-- and on a description of the Rust's the way, the slots and the counts left are the Rust's
pub operation_as_rust : (op : Operation) (c : Call) → c.abi < rust_count → Accepts op c
    → AsRust c (buffer_of op) (rust_passes op c) (rules_spend op c) (table_places op c) (answer_for op c) (written_for op c)
operation_as_rust = answering.operation_as_rust

-- whichever function performed it, it is accepted only there
pub performed_accepts : (c : Call) (op : Operation) (a : Answer) (after : List ℕ) → Performed c op a after → a.outcome.refusal ≡ accepted → Accepts op c
performed_accepts = performing.performed_accepts

-- and whichever performed it, all else is as defined there, and the Rust's, too
pub performed_as_defined : (c : Call) (op : Operation) (a : Answer) (after : List ℕ) → Performed c op a after → Accepts op c
    → AsDefined c (buffer_of op) (rust_passes op c) (rules_spend op c) (table_places op c) a after
performed_as_defined = performing.performed_as_defined

pub performed_as_rust : (c : Call) (op : Operation) (a : Answer) (after : List ℕ) → Performed c op a after → c.abi < rust_count → Accepts op c
    → AsRust c (buffer_of op) (rust_passes op c) (rules_spend op c) (table_places op c) a after
performed_as_rust = performing.performed_as_rust

-- the way of every answer is the number of the paper, 0 where it is refused
pub performed_way : (c : Call) (op : Operation) (a : Answer) (after : List ℕ) → Performed c op a after
    → a.outcome.way ≡ cond (eqb a.outcome.refusal accepted) (way_number (way_of (rust_passes op c).pass)) 0
performed_way = performing.performed_way

-- what is said of a description is what it says: its fresh call, its name, the three questions, its fields and its rules (`AsDescribed`)
pub as_described : (d : ℕ) → d < description_count → AsDescribed d
as_described = answering.as_described

-- a fresh call, whichever function started it
pub started_as_described : (d : ℕ) (a : Answer) → Started d a → d < description_count → a ≡ done (call_with d (rust.call (described d)) 0)
started_as_described = performing.started_as_described

-- on a description of the Rust's that is what the Rust has
pub fresh_as_rust : (d : ℕ) → d < rust_count → fresh_answer d ≡ done (call_with d (rust.call (described d)) 0)
fresh_as_rust d h = (as_described d (answering.rust_known h)).fresh

pub started_as_rust : (d : ℕ) (a : Answer) → Started d a → d < rust_count → a ≡ done (call_with d (rust.call (described d)) 0)
started_as_rust d a s h = started_as_described d a s (answering.rust_known h)

-- it isn't marked
pub fresh_is_unmarked : (d : ℕ) → marked (fresh_answer d).next.left ≡ false
fresh_is_unmarked = answering.fresh_is_unmarked

pub started_is_unmarked : (d : ℕ) (a : Answer) → Started d a → marked a.next.left ≡ false
started_is_unmarked = performing.started_is_unmarked

-- and the mark marks it where the description has the floats of a variadic call go in integer registers
pub mark_marks : (c : Call) → Accepts mark c → marked (variadic_answer c).next.left ≡ rust.is_integers_only (described c.abi).variadic
mark_marks = answering.mark_marks

pub performed_mark_marks : (c : Call) (a : Answer) (after : List ℕ) → Performed c mark a after → Accepts mark c
    → marked a.next.left ≡ rust.is_integers_only (described c.abi).variadic
performed_mark_marks = performing.performed_mark_marks

-- what is asked beside: the alignment in the argument area
pub in_memory_as_defined : (c : Call) (shape : Shape) (words : List ℕ) → refusal_of c (Aggregate shape) words ≡ accepted
    → align_told (in_memory_answer c shape words) ≡ told accepted (in_memory (described c.abi) shape (pieces_of words))
in_memory_as_defined = answering.in_memory_as_defined

pub in_memory_as_rust : (c : Call) (shape : Shape) (words : List ℕ) → c.abi < rust_count → refusal_of c (Aggregate shape) words ≡ accepted
    → align_told (in_memory_answer c shape words) ≡ told accepted (in_memory (described c.abi) shape (pieces_of words))
in_memory_as_rust c shape words rusts = in_memory_as_defined c shape words

-- pieces from members, each at the next offset that it fits
pub pieces_as_rust : (members out : List ℕ) → members_refusal members ≡ accepted → length (scalars_of members) ≤ length out / piece_size
    → (count_told (pieces_answer members out) ≡ told accepted (length (scalars_of members))) × (pieces_written members out ≡ put_at out 0 (pieces_words (placed 0 (scalars_of members))))
pieces_as_rust = answering.pieces_as_rust

-- the record that pieces make, where its alignment isn't 0 and its size keeps to the limit
pub record_as_rust : (words : List ℕ) → or_else (list_refusal words) (pieces_refusal (pieces_of words)) ≡ accepted → (record_align (pieces_of words) ≡ 0 → ⊥)
    → record_size (pieces_of words) ≤ most_offset
    → record_answer words ≡ recorded accepted (record_size (pieces_of words)) (record_align (pieces_of words)) (is_floating (record_size (pieces_of words)) (pieces_of words))
record_as_rust = answering.record_as_rust

-- a description's name
pub name_as_rust : (d : ℕ) → d < rust_count → (out : List ℕ) → length (described d).name ≤ length out
    → (length_told (name_answer d (length out)) ≡ told accepted (length (described d).name)) × (name_written d out ≡ put_at out 0 (described d).name)
name_as_rust d h = (as_described d (answering.rust_known h)).name

-- the three questions
pub by_reference_as_rust : (d : ℕ) → d < rust_count → (size : ℕ) → size ≤ most_size
    → yes_told (is_by_reference_answer d size) ≡ told accepted (one_if (is_by_reference (described d).scalars size))
by_reference_as_rust d h = (as_described d (answering.rust_known h)).by_reference

pub returns_by_reference_as_rust : (d : ℕ) → d < rust_count → (size : ℕ) → size ≤ most_size
    → yes_told (returns_by_reference_answer d size) ≡ told accepted (one_if (returns_by_reference (described d).scalars size))
returns_by_reference_as_rust d h = (as_described d (answering.rust_known h)).returned_by_reference

pub wide_returns_in_as_rust : (d : ℕ) → d < rust_count → (size : ℕ) → size ≤ most_size
    → format_told (wide_returns_in_answer d size) ≡ told accepted (wide_returns_in (described d).scalars size)
wide_returns_in_as_rust d h = (as_described d (answering.rust_known h)).wide_returned_in

-- a description's fields, and its rules
pub description_as_rust : (d : ℕ) → d < rust_count → description_answer d ≡ fields_of (described d)
description_as_rust d h = (as_described d (answering.rust_known h)).description

pub return_rule_as_rust : (d : ℕ) → d < rust_count → (i : ℕ) → return_rule_answer d i ≡ rule_in (described d).returns i
return_rule_as_rust d h = (as_described d (answering.rust_known h)).return_rule_lem

pub argument_rule_as_rust : (d : ℕ) → d < rust_count → (i : ℕ) → argument_rule_answer d i ≡ rule_in (described d).arguments i
argument_rule_as_rust d h = (as_described d (answering.rust_known h)).argument_rule_lem

-- the lookups, with none for a code that isn't known: the description of a target
pub for_target_as_rust : (architecture system : ℕ) (msvc : Bool)
    → target_answer architecture system msvc ≡ cond (is_target architecture system) (number_of (for_target (architecture_of architecture) (system_of system) msvc)) none_number
for_target_as_rust = answering.for_target_as_rust

-- that of a convention on it
pub for_convention_as_rust : (architecture system : ℕ) (msvc : Bool) (convention : ℕ)
    → convention_answer architecture system msvc convention
    ≡ cond (is_target architecture system && is_convention convention) (number_of (for_convention (convention_of convention) (architecture_of architecture) (system_of system) msvc)) none_number
for_convention_as_rust = answering.for_convention_as_rust

-- whether its callee takes the arguments off the stack
pub callee_pops_as_rust : (convention : ℕ) → pops_answer convention ≡ cond (is_convention convention) (callee_pops (convention_of convention)) false
callee_pops_as_rust = answering.callee_pops_as_rust

-- the convention that an attribute's name asks for
pub asked_as_rust : (architecture system : ℕ) (msvc : Bool) (name : List ℕ)
    → asked_answer architecture system msvc name ≡ cond (is_target architecture system) (code_of (asked (architecture_of architecture) (system_of system) name)) none_number
asked_as_rust = answering.asked_as_rust

-- the name of the attribute that asks for a convention
pub attribute_as_rust : (convention : ℕ) (out name : List ℕ) → is_convention convention ≡ true → attribute (convention_of convention) ≡ some name → length name ≤ length out
    → (length_told (attribute_answer convention (length out)) ≡ told accepted (length name)) × (attribute_written convention out ≡ put_at out 0 name)
attribute_as_rust = answering.attribute_as_rust

-- none, where there is no such attribute or no such convention
pub no_attribute_as_rust : (convention : ℕ) (out : List ℕ) → cond (is_convention convention) (attribute (convention_of convention)) none ≡ none
    → (length_told (attribute_answer convention (length out)) ≡ told accepted none_number) × (attribute_written convention out ≡ out)
no_attribute_as_rust = answering.no_attribute_as_rust

-- description 0 equals the psABI on its domain: `Says` reads the answer and the buffer in the psABI's words, registers by name, and the call
-- handed back as the registers that are free
pub argument_is_psabi : (c : Call) (shape : Shape) (words out : List ℕ) → c.abi ≡ 0 → psabi.Domain shape (pieces_of words)
    → (answer_for (argument (Aggregate shape) words out) c).outcome.refusal ≡ accepted
    → Says (free_at c) c (answer_for (argument (Aggregate shape) words out) c) (written_for (argument (Aggregate shape) words out) c)
    (psabi_argument (free_at c) shape.size (pieces_of words))
argument_is_psabi = row_0.argument_says

pub result_is_psabi : (c : Call) (shape : Shape) (words out : List ℕ) → c.abi ≡ 0 → psabi.Domain shape (pieces_of words)
    → (answer_for (return (Aggregate shape) words out) c).outcome.refusal ≡ accepted
    → Says results c (answer_for (return (Aggregate shape) words out) c) (written_for (return (Aggregate shape) words out) c)
    (psabi_result (free_at c) shape.size (pieces_of words))
result_is_psabi = row_0.result_says

-- the same, whichever function performed it
pub performed_argument_is_psabi : (c : Call) (shape : Shape) (words out : List ℕ) (a : Answer) (after : List ℕ) → c.abi ≡ 0 → psabi.Domain shape (pieces_of words)
    → Performed c (argument (Aggregate shape) words out) a after → a.outcome.refusal ≡ accepted
    → Says (free_at c) c a after (psabi_argument (free_at c) shape.size (pieces_of words))
performed_argument_is_psabi = performing.argument_psabi

pub performed_result_is_psabi : (c : Call) (shape : Shape) (words out : List ℕ) (a : Answer) (after : List ℕ) → c.abi ≡ 0 → psabi.Domain shape (pieces_of words)
    → Performed c (return (Aggregate shape) words out) a after → a.outcome.refusal ≡ accepted
    → Says results c a after (psabi_result (free_at c) shape.size (pieces_of words))
performed_result_is_psabi = performing.result_psabi

-- one clause of that domain, every piece inside the size, holds of whatever is accepted, on this description and on every other
pub accepted_is_inside : (c : Call) (shape : Shape) (words : List ℕ) → refusal_of c (Aggregate shape) words ≡ accepted → psabi.is_inside shape (pieces_of words) ≡ true
accepted_is_inside = row_0_clauses.accepted_inside

-- description 1 equals AAPCS64 on its domain, for every natural alignment that the shape's and its pieces' alignments allow: `SaysArgument` and
-- `SaysResult` read the answer in the standard's words, x and v registers by number, and the counts left as NGRN and NSRN
pub argument_is_aapcs64 : (c : Call) → c.abi ≡ 1 → (shape : Shape) (words out : List ℕ) → aapcs64.Domain shape (pieces_of words)
    → (natural : ℕ) → natural ≤ most_natural shape (pieces_of words) → (answer_for (argument (Aggregate shape) words out) c).outcome.refusal ≡ accepted
    → SaysArgument c shape words natural (answer_for (argument (Aggregate shape) words out) c) out (written_for (argument (Aggregate shape) words out) c)
argument_is_aapcs64 = row_1.argument_answered

pub result_is_aapcs64 : (c : Call) → c.abi ≡ 1 → (shape : Shape) (words out : List ℕ) → aapcs64.Domain shape (pieces_of words)
    → (natural : ℕ) → natural ≤ most_natural shape (pieces_of words) → (answer_for (return (Aggregate shape) words out) c).outcome.refusal ≡ accepted
    → SaysResult c shape words natural (answer_for (return (Aggregate shape) words out) c) out (written_for (return (Aggregate shape) words out) c)
result_is_aapcs64 = row_1.returns_answered

-- the same, whichever function performed it
pub performed_argument_is_aapcs64 : (c : Call) (shape : Shape) (words out : List ℕ) (a : Answer) (after : List ℕ) → c.abi ≡ 1 → aapcs64.Domain shape (pieces_of words)
    → (natural : ℕ) → natural ≤ most_natural shape (pieces_of words) → Performed c (argument (Aggregate shape) words out) a after → a.outcome.refusal ≡ accepted
    → SaysArgument c shape words natural a out after
performed_argument_is_aapcs64 = performing.argument_aapcs64

pub performed_result_is_aapcs64 : (c : Call) (shape : Shape) (words out : List ℕ) (a : Answer) (after : List ℕ) → c.abi ≡ 1 → aapcs64.Domain shape (pieces_of words)
    → (natural : ℕ) → natural ≤ most_natural shape (pieces_of words) → Performed c (return (Aggregate shape) words out) a after → a.outcome.refusal ≡ accepted
    → SaysResult c shape words natural a out after
performed_result_is_aapcs64 = performing.result_aapcs64

-- descriptions 30 to 32 are the RISC-V psABI's boards LP64, LP64F and LP64D, a fresh call being the state before the first argument
pub riscv_boards : (board_of (described 30).banks ≡ LP64) × ((board_of (described 31).banks ≡ LP64F) × (board_of (described 32).banks ≡ LP64D))
riscv_boards = rows_30_to_32.boards

pub riscv_starts : (d : ℕ) → is_riscv_psabi d ≡ true → riscv_state (described d).banks (rust.call (described d)) ≡ start
riscv_starts = rows_30_to_32.fresh_is_start

-- and equal that standard on its domain, void, scalars and aggregates, for named arguments, unnamed ones and results: `SaysRiscv` (`Says` in riscv/specs) reads the
-- answer and the buffer in its words, a and fa registers by number, what of the value is on the stack and how long that is, and the call handed back as the
-- next registers
pub argument_is_riscv : (c : Call) → is_riscv_psabi c.abi ≡ true → (arg : Arg) (words out : List ℕ) → riscv.WithVoid arg (pieces_of words)
    → (answer_for (argument arg words out) c).outcome.refusal ≡ accepted
    → SaysRiscv as_named c arg (pieces_of words) (answer_for (argument arg words out) c) (written_for (argument arg words out) c)
argument_is_riscv = rows_30_to_32_answered.argument_says

pub variadic_argument_is_riscv : (c : Call) → is_riscv_psabi c.abi ≡ true → (arg : Arg) (words out : List ℕ) → riscv.WithVoid arg (pieces_of words)
    → (answer_for (variadic_argument arg words out) c).outcome.refusal ≡ accepted
    → SaysRiscv as_unnamed c arg (pieces_of words) (answer_for (variadic_argument arg words out) c) (written_for (variadic_argument arg words out) c)
variadic_argument_is_riscv = rows_30_to_32_answered.variadic_says

pub result_is_riscv : (c : Call) → is_riscv_psabi c.abi ≡ true → (arg : Arg) (words out : List ℕ) → riscv.WithVoid arg (pieces_of words)
    → (answer_for (return arg words out) c).outcome.refusal ≡ accepted
    → SaysRiscv as_result c arg (pieces_of words) (answer_for (return arg words out) c) (written_for (return arg words out) c)
result_is_riscv = rows_30_to_32_answered.result_says

-- the same, whichever function performed it
pub performed_argument_is_riscv : (c : Call) (arg : Arg) (words out : List ℕ) (a : Answer) (after : List ℕ) → is_riscv_psabi c.abi ≡ true → riscv.WithVoid arg (pieces_of words)
    → Performed c (argument arg words out) a after → a.outcome.refusal ≡ accepted → SaysRiscv as_named c arg (pieces_of words) a after
performed_argument_is_riscv = performing.argument_riscv

pub performed_variadic_argument_is_riscv : (c : Call) (arg : Arg) (words out : List ℕ) (a : Answer) (after : List ℕ) → is_riscv_psabi c.abi ≡ true → riscv.WithVoid arg (pieces_of words)
    → Performed c (variadic_argument arg words out) a after → a.outcome.refusal ≡ accepted → SaysRiscv as_unnamed c arg (pieces_of words) a after
performed_variadic_argument_is_riscv = performing.variadic_argument_riscv

pub performed_result_is_riscv : (c : Call) (arg : Arg) (words out : List ℕ) (a : Answer) (after : List ℕ) → is_riscv_psabi c.abi ≡ true → riscv.WithVoid arg (pieces_of words)
    → Performed c (return arg words out) a after → a.outcome.refusal ≡ accepted → SaysRiscv as_result c arg (pieces_of words) a after
performed_result_is_riscv = performing.result_riscv

-- ---- Demand 3: the ledger of registers and of the stack, and what they carry

-- any description, any operations in any order, refused ones among them, after any number of them: `Ledger` has one clause for each sentence of
-- REFERENCE 10
pub every_register_once : (d : ℕ) → d < description_count → (ops : List Operation) (n : ℕ) → Ledger d (take n (history d ops))
every_register_once = ledger

-- the same of the functions, each on the call that the one before handed back or left where it stands, through methods, exported entries and bridges
-- in any mixture: their answers are those of the history
pub every_register_once_performed : (d : ℕ) → d < description_count → (first : Answer) → Started d first → (ops : List Operation) (past : List Answer)
    → AllPerformed first.next ops past → (past ≡ history d ops) × ((n : ℕ) → Ledger d (take n past))
every_register_once_performed = performing.ledger_performed

-- the bytes of each operation on the stack begin at a multiple of what the table of REFERENCE 9.9 rounds them to, with less padding before them than that
-- (`Rounded`; that they stand behind one another and that no byte is two operations' is said by `Ledger`)
pub every_place_rounded : (d : ℕ) → d < description_count → (ops : List Operation) → Rounded d ops (history d ops)
every_place_rounded = rounded

pub every_place_rounded_performed : (d : ℕ) → d < description_count → (first : Answer) → Started d first → (ops : List Operation) (past : List Answer)
    → AllPerformed first.next ops past → Rounded d ops past
every_place_rounded_performed = performing.rounded_performed

-- on descriptions 30 to 32 nothing is on the stack while an integer register is left, after any operations: so what is partly in registers, a split half
-- first of all, stands at 0 (`LastRegister`)
pub last_register_first : (d : ℕ) → is_riscv_psabi d ≡ true → (ops : List Operation) (n : ℕ) → LastRegister (fresh_call d) (take n (history d ops))
last_register_first = last.last_register

pub last_register_first_performed : (d : ℕ) → is_riscv_psabi d ≡ true → (first : Answer) → Started d first → (ops : List Operation) (past : List Answer)
    → AllPerformed first.next ops past → (n : ℕ) → LastRegister first.next (take n past)
last_register_first_performed = performing.last_register_performed

-- there a register is passed over for an even start and for nothing else: the next one, which is in that operation's part passed over, so that what it is
-- given begins at an even one (`EvenStart`)
pub even_start_passed_over : (d : ℕ) → is_riscv_psabi d ≡ true → (ops : List Operation) → EvenStart (described d) (fresh_call d) ops (history d ops)
even_start_passed_over = starts.even_start_lem

pub even_start_passed_over_performed : (d : ℕ) → is_riscv_psabi d ≡ true → (first : Answer) → Started d first → (ops : List Operation) (past : List Answer)
    → AllPerformed first.next ops past → EvenStart (described d) first.next ops past
even_start_passed_over_performed = performing.even_start_performed

-- nothing is lost of an accepted argument, fixed or after the dots, on any description and with any refusals of its source: each byte of a scalar is in a
-- register that it was given or on the stack, each slot has a register or a word there, what travels as Memory is there whole, and an address has a
-- register or a word (`NothingLost`)
pub nothing_is_lost : (source : ℕ) (D : Description) (arg : Arg) (op : Operation) → Asks arg op → (c : Call) → (answer_by source D op c).outcome.refusal ≡ accepted
    → NothingLost arg (way_from (answer_by source D op c).outcome.way) D.banks.integer_width (answer_by source D op c)
nothing_is_lost = placing.nothing_is_lost

pub performed_nothing_is_lost : (c : Call) (op : Operation) (a : Answer) (after : List ℕ) → Performed c op a after → (arg : Arg) → Asks arg op → a.outcome.refusal ≡ accepted
    → NothingLost arg (way_from a.outcome.way) (described c.abi).banks.integer_width a
performed_nothing_is_lost = performing.performed_nothing_is_lost

-- what travels as Memory is given nothing, on any description and with any refusals of its source: a given register carries the value or its
-- address, and this value's bytes are in the argument area
pub memory_is_given_nothing : (source : ℕ) (D : Description) (op : Operation) (c : Call) → (answer_by source D op c).outcome.way ≡ way_number Memory
    → (b : Bank) → given b (answer_by source D op c) ≡ 0
memory_is_given_nothing = carried.memory_is_given_nothing

-- the same, whichever function performed it
pub performed_memory_is_given_nothing : (c : Call) (op : Operation) (a : Answer) (after : List ℕ) → Performed c op a after → a.outcome.way ≡ way_number Memory
    → (b : Bank) → given b a ≡ 0
performed_memory_is_given_nothing = performing.performed_memory_is_given_nothing

-- an aggregate in memory is counted against registers (InMemoryAndSpend) as an argument of descriptions 22, 23, 27 and 29, fastcall's, and nowhere else
pub counted_in_memory : ((d : ℕ) → spends_in_memory (described d).arguments ≡ is_fastcall d) × ((d : ℕ) → spends_in_memory (described d).returns ≡ false)
counted_in_memory = apart.in_memory_and_spend

-- and these registers are passed over: the whole outcome of an aggregate argument there, fixed or after the dots (`fastcall_outcome`)
pub fastcall_aggregate : (c : Call) → is_fastcall c.abi ≡ true → (shape : Shape) (op : Operation) → Asks (Aggregate shape) op → (answer_for op c).outcome.refusal ≡ accepted
    → (answer_for op c).outcome ≡ fastcall_outcome shape c.left.integer c.stack
fastcall_aggregate = carried.fastcall_aggregate

pub performed_fastcall_aggregate : (c : Call) (op : Operation) (a : Answer) (after : List ℕ) → Performed c op a after → is_fastcall c.abi ≡ true
    → (shape : Shape) → Asks (Aggregate shape) op → a.outcome.refusal ≡ accepted → a.outcome ≡ fastcall_outcome shape c.left.integer c.stack
performed_fastcall_aggregate = performing.performed_fastcall_aggregate

-- what an entry hands back in numbers the next one reads as it was: every number of a call, its mark too
pub call_read_back : (c : Call) → call_from c.abi c.left.integer c.left.float c.left.integers_only c.stack ≡ c
call_read_back = numbers.call_read_back

-- and a record's shape
pub shape_read_back : (s : Shape) → shape_from s.size s.align (one_if s.complex) (one_if s.floating) ≡ s
shape_read_back = numbers.shape_read_back

-- ---- The table of twelve calls (REFERENCE 9.8)

pub twelve_calls : map answered_to twelve ≡ map expected twelve
twelve_calls = calls.twelve_calls

-- the same of the functions: whichever is asked what an entry of the table asks, on the entry's call, answers and leaves what the entry says
pub performed_twelve_calls : (n : ℕ) (e : Entry) → get_elem? twelve n ≡ some e → (a : Answer) (after : List ℕ) → Performed (call_on e) e.asked a after
    → (a, after) ≡ expected e
performed_twelve_calls = performing.performed_twelve_calls

-- ---- Types inside types (REFERENCE 4.5)
--
-- `wanted` is the type of the list's last entry, a readable one (crates/types/specs/Tree.antt, Trees.antt): a scalar, members at their offsets, or so
-- many of one type. A path is the numbers of the members and elements from there down. `IsFlattened` (specs/Types.antt) names `flatten` and its exported
-- entry, and says that answer and buffer meet that function's contract.

-- each leaf, one piece: the pieces at the front of the buffer are, in order, one for each path that ends at a scalar, none of them twice, each the
-- scalar there, its kind, size and alignment, at the sum of its parents' offsets (`EachLeaf`, crates/flatten/specs/Leaves.antt). Size and alignment are
-- the type's, and every word behind the pieces is as it was
pub each_leaf_one_piece : (types members out : List ℕ) → (flatten_answer types members out).refusal ≡ accepted
    → Flattens (wanted types members) out (flatten_answer types members out) (flatten_written types members out)
each_leaf_one_piece types members out ok = flattening.flattens types members out ok (flatten_answer types members out) refl (flatten_written types members out) refl

-- the same, whichever function flattened it
pub performed_each_leaf_one_piece : (types members out : List ℕ) (r : Flattened) (after : List ℕ) → IsFlattened types members out r after → r.refusal ≡ accepted
    → Flattens (wanted types members) out r after
performed_each_leaf_one_piece = typing.performed_flattens

-- a refusal has one of its numbers, 0 in all else, and leaves the buffer as it was
pub flatten_refused : (types members out : List ℕ) → IsRefusal (flatten_answer types members out).refusal
    → RefusedType out (flatten_answer types members out) (flatten_written types members out)
flatten_refused = typing.flatten_refused

pub performed_flatten_refused : (types members out : List ℕ) (r : Flattened) (after : List ℕ) → IsFlattened types members out r after → IsRefusal r.refusal
    → RefusedType out r after
performed_flatten_refused = typing.performed_flatten_refused

-- each number is given exactly where `Because` has a reason for it, and so is an acceptance
pub flatten_because : (types members out : List ℕ)
    → Because types members out (flatten_answer types members out).refusal × ((n : ℕ) → Because types members out n → n ≡ (flatten_answer types members out).refusal)
flatten_because types members out = (typing.because types members out, typing.because_alone types members out)

pub performed_flatten_because : (types members out : List ℕ) (r : Flattened) (after : List ℕ) → IsFlattened types members out r after
    → Because types members out r.refusal × ((n : ℕ) → Because types members out n → n ≡ r.refusal)
performed_flatten_because = typing.performed_because

-- what is accepted is a shape that every operation accepts: the written words with the answered size and alignment pass all its checks
pub flattened_passes : (types members out : List ℕ) → (flatten_answer types members out).refusal ≡ accepted → (shape : Shape)
    → shape.size ≡ (flatten_answer types members out).size → shape.align ≡ (flatten_answer types members out).align
    → shape_refusal shape (front_words (flatten_answer types members out) (flatten_written types members out)) ≡ accepted
flattened_passes types members out ok = flattening.passes types members out ok (flatten_answer types members out) refl (flatten_written types members out) refl

pub performed_flattened_passes : (types members out : List ℕ) (r : Flattened) (after : List ℕ) → IsFlattened types members out r after → r.refusal ≡ accepted
    → (shape : Shape) → shape.size ≡ r.size → shape.align ≡ r.align → shape_refusal shape (front_words r after) ≡ accepted
performed_flattened_passes = typing.performed_passes

-- a record of scalars is what `pieces` and `record` make of them (`AsRecord`)
pub flattened_as_record : (types members out scalars : List ℕ) → length scalars % scalar_size ≡ 0 → IsRecordOf types members (scalars_of scalars)
    → (flatten_answer types members out).refusal ≡ accepted → AsRecord scalars out (flatten_answer types members out) (flatten_written types members out)
flattened_as_record = typing.as_record

pub performed_flattened_as_record : (types members out scalars : List ℕ) (r : Flattened) (after : List ℕ) → IsFlattened types members out r after
    → length scalars % scalar_size ≡ 0 → IsRecordOf types members (scalars_of scalars) → r.refusal ≡ accepted → AsRecord scalars out r after
performed_flattened_as_record = typing.performed_as_record

-- lists to look at, computed: the answer to each, and the words of its pieces
pub types_found : map example_types.found example_types.examples ≡ map example_types.expected example_types.examples
types_found = shown_types.examples_found

-- ---- Reading a variable argument list: the callee's side of description 0 (REFERENCE 15)
--
-- The caller is crates/placement/specs/Caller.antt, which has nothing of the reader: a machine, and where each value goes by the classifier's answers.
-- `as_placed` (specs/Back.antt beside it) has one entry for each value: nothing refused, its own bytes, and the offsets of the call and the stack offset
-- that the placing left there. `AllPlaced` and `AllRead` (specs/Lists.antt here) say the same of functions, by their own contracts: each value asked
-- about, after the dots or as a fixed argument, by whichever function performs that, and each scalar read by `varargs::read`, `find` or the entry.

-- whichever function reads a scalar, it reads what the psABI's rules say (`reads_as`, crates/varargs/specs/Lists.antt): the refusal, the bytes, the offsets
pub performed_read : (save overflow : List ℕ) (at : Offsets) (s : Scalar) (r : Shown) → IsRead save overflow at s r → r ≡ reads_as save overflow at s
performed_read = listing.is_read_so

-- a refused read has one of its numbers, no bytes, and the offsets that were handed in
pub read_refused : (save overflow : List ℕ) (at : Offsets) (s : Scalar) → IsRefusal (reads_as save overflow at s).refusal
    → RefusedAs read_refusals (reads_as save overflow at s).refusal (no_bytes (reads_as save overflow at s).refusal at) (reads_as save overflow at s)
read_refused = listing.read_refused

pub performed_read_refused : (save overflow : List ℕ) (at : Offsets) (s : Scalar) (r : Shown) → IsRead save overflow at s r → IsRefusal r.refusal
    → RefusedAs read_refusals r.refusal (no_bytes r.refusal at) r
performed_read_refused = listing.reads_refused

-- any other has as many bytes as the scalar, and they lie in their area
pub read_part : (save overflow : List ℕ) (at : Offsets) (s : Scalar) → (reads_as save overflow at s).refusal ≡ accepted
    → (length (reads_as save overflow at s).bytes ≡ s.size) × Inside (length save) (length overflow) (located (length save) (length overflow) at s)
read_part save overflow at s e = (listing.read_part save overflow at s e, (listing.located_part (length save) (length overflow) at s e).1)

pub performed_read_part : (save overflow : List ℕ) (at : Offsets) (s : Scalar) (r : Shown) → IsRead save overflow at s r → r.refusal ≡ accepted → length r.bytes ≡ s.size
performed_read_part = listing.reads_part

-- 1. What was placed is read: place any list of values, run the prologue, and read the same scalars from the offsets of the starting call. The registers
-- that the call had spent and the bytes below the stack offset stay as they were (`Keeps`)
pub what_was_placed_is_read : (st : State) (vs : List Value) → Ready st → AllValues vs → AllInside (length st.machine.area) st vs
    → (readings (saved (place_all st vs).machine) (place_all st vs).machine.area (offsets_of st) vs ≡ as_placed st vs) × Keeps st (place_all st vs).machine
what_was_placed_is_read = lists.what_was_placed_is_read

pub performed_what_was_placed_is_read : (st : State) (vs : List Value) (to : State) (seen : List Shown) → Ready st → AllValues vs → AllInside (length st.machine.area) st vs
    → AllPlaced st vs to → AllRead (saved to.machine) to.machine.area (offsets_of st) vs seen → (seen ≡ as_placed st vs) × Keeps st to.machine
performed_what_was_placed_is_read = listing.placed_is_read

-- the prologue stores integer register k at 8k of the save area, and float register k at 48 + 16k
pub prologue_stores : (m : Machine) → Whole m
    → ((k : ℕ) → k < 6 → take 8 (drop (8 * k) (saved m)) ≡ get_or m.integers k []) × ((k : ℕ) → k < 8 → take 16 (drop (48 + 16 * k) (saved m)) ≡ get_or m.floats k [])
prologue_stores m w = (lists.integer_stored m w, lists.float_stored m w)

-- 2. After named parameters, any operations on description 0: the first offsets are 8 times and 48 plus 16 times what these were given and passed over,
-- and the call's stack offset, which has to be in eightbytes.
-- No register of theirs and no byte below the stack offset changes (`Stays`)
pub after_named_parameters : (ops : List Operation) (m : Machine) (vs : List Value) → Whole m → (call_named ops).stack % 8 ≡ 0 → AllValues vs
    → AllInside (length m.area) (named_state ops m) vs
    → (offsets_of (named_state ops m) ≡ record { integer = 8 * used integers ops; float = 48 + 16 * used floats ops; overflow = (call_named ops).stack })
    × (readings (saved (place_all (named_state ops m) vs).machine) (place_all (named_state ops m) vs).machine.area (offsets_of (named_state ops m)) vs ≡ as_placed (named_state ops m) vs)
    × Stays (used integers ops) (used floats ops) (call_named ops).stack m (place_all (named_state ops m) vs).machine
after_named_parameters = lists.after_named

-- that offset is in eightbytes wherever each aggregate of these is aligned to 0 or to a power of two
pub named_in_eights : (ops : List Operation) → AllUsual ops → (call_named ops).stack % 8 ≡ 0
named_in_eights = eights.named_eights

pub performed_after_named_parameters : (first : Answer) → Started 0 first → (ops : List Operation) (past : List Answer) → AllPerformed first.next ops past
    → (m : Machine) (vs : List Value) (to : State) (seen : List Shown) → Whole m → (call_after first.next past).stack % 8 ≡ 0 → AllValues vs
    → AllInside (length m.area) (named_state ops m) vs → AllPlaced (record { machine = m; call = call_after first.next past }) vs to
    → AllRead (saved to.machine) to.machine.area
    (record { integer = 8 * used integers ops; float = 48 + 16 * used floats ops; overflow = (call_after first.next past).stack }) vs seen
    → (seen ≡ as_placed (named_state ops m) vs) × Stays (used integers ops) (used floats ops) (call_after first.next past).stack m to.machine
performed_after_named_parameters = listing.after_named

-- 3. A short area: where so many bytes are lent, and they end before the last byte of v, which stands on the stack behind the values before it, the
-- reads before it are as in 1, and its own is BAD_AREA with no bytes and the offsets that it was handed (`too_short`)
pub a_short_area : (st : State) (before : List Value) (v : Value) (behind : List Value) → Ready st → AllValues before → IsValue v → AllValues behind
    → (bytes : ℕ) → bytes ≤ length st.machine.area → AllInside bytes st before → is_stacked (place_all st before) v ≡ true → bytes < stack_end (place_all st before) v
    → readings (saved (place_all st (before ++ v ∷ behind)).machine) (take bytes (place_all st (before ++ v ∷ behind)).machine.area) (offsets_of st) (before ++ v ∷ [])
    ≡ as_placed st before ++ too_short (place_all st before) ∷ []
a_short_area = lists.a_short_area

pub performed_a_short_area : (st : State) (before : List Value) (v : Value) (behind : List Value) (to : State) (seen : List Shown)
    → Ready st → AllValues before → IsValue v → AllValues behind
    → (bytes : ℕ) → bytes ≤ length st.machine.area → AllInside bytes st before → is_stacked (place_all st before) v ≡ true → bytes < stack_end (place_all st before) v
    → AllPlaced st (before ++ v ∷ behind) to → AllRead (saved to.machine) (take bytes to.machine.area) (offsets_of st) (before ++ v ∷ []) seen
    → seen ≡ as_placed st before ++ too_short (place_all st before) ∷ []
performed_a_short_area = listing.short_area

-- 4. On description 0 a fixed argument is answered as one after the dots
pub fixed_as_variadic : (c : Call) → c.abi ≡ 0 → (arg : Arg) (words out : List ℕ) → answer_for (argument arg words out) c ≡ answer_for (variadic_argument arg words out) c
fixed_as_variadic = asking.alike

-- 5. Lists to look at, computed: where each scalar stands, and that it is read as it was placed
pub examples_found : map (λ (e : Example). places (offsets_of (state_of e)) e.scalars) examples ≡ map (λ (e : Example). e.found) examples
examples_found = shown.examples_found

pub examples_read : map reads_of examples ≡ map (λ (e : Example). as_placed (state_of e) (values_of e)) examples
examples_read = shown.examples_read
