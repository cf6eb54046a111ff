-- The table of twelve calls, as one statement that antt computes: every entry's answer, with the words of the buffer, is the one listed.
use Prim.Native.Nat.{ℕ, zero, suc}
use mathlib.Core.Path.{◌≡◌, refl}
use mathlib.Core.List.{List, [], ◌∷◌, map}
use mathlib.Core.Option.Option.{some}
use native.Mathlib.Omega.{arith}
use lib.ListN.{get_elem?}
use Rattle.shape.specs.Lists.{any}
use Rattle.checks.specs.Check.{scalar_refusal, piece_refusal, pieces_refusal, extent_refusal, list_refusal, shape_refusal}
use Rattle.shape.specs.Arithmetic.{round_up}
use Rattle.shape.specs.Questions.{all_of, is_all_of}
use Rattle.shape.specs.Words.{pieces_of, put_at}
use Rattle.slots.specs.Cut.{up_to, cut}
use Rattle.slots.specs.Search.{floats_in}
use Rattle.slots.specs.Words.{words_of, written}
use Rattle.abis.specs.Abis as abis
use Rattle.abis.specs.Abis.{described}
use Rattle.find.specs.Find.{found_if, floats_at, all_same, is_homogeneous, homogeneous, piece_slot, fits_one, float_pair, x87_stack, lone_float}
use Rattle.eightbytes.specs.Class as class
use Rattle.eightbytes.specs.Reach.{fits}
use Rattle.eightbytes.specs.Eightbytes as eight
use Rattle.spend.specs.Spending as rules
use Rattle.spend_scalar.specs.Spending as lone
use Rattle.stack_align.specs.InMemory.{homogeneous_limit, packed_align, in_memory_by}
use Rattle.stack_place.specs.Stacked.{behind}
use Rattle.find.specs.Matches.{matches}
use Rattle.after_dots.specs.AfterDots.{skipped_for, settled_for}
use Rattle.classify.specs.Classify as rust
use Rattle.classify.specs.Spending as spending
use Rattle.classify.specs.Stacking.{stacked_of}
use Rattle.classify.specs.Answers as answers
use Rattle.ledger.specs.Twelve.{Entry, twelve, answered_to, expected}

pub twelve_calls : map answered_to twelve ≡ map expected twelve
unfolding any scalar_refusal piece_refusal pieces_refusal extent_refusal list_refusal shape_refusal all_of is_all_of pieces_of up_to cut floats_in words_of put_at written abis.descriptions described found_if floats_at all_same is_homogeneous homogeneous piece_slot fits_one float_pair x87_stack lone_float class.code class.same class.merge eight.cover eight.mark fits eight.classes_after eight.spoiled eight.mend eight.settled eight.classified eight.slots_from eight.slots_found eight.eightbytes rules.want_of lone.skip_of lone.integer_argument lone.scalar_in_registers lone.scalar_argument rules.when_short rules.in_slots rules.travel_of matches rust.registers rust.after_scalar rust.scalar rust.short_of rust.slots_in_registers rust.travel rust.apply rust.returns rust.argument spending.by_rules skipped_for settled_for spending.scalar_by spending.aggregate_by spending.return_choice spending.argument_choice answers.state_refusal answers.arg_refusal answers.checked answers.row_refusal answers.refusal_by answers.returns_account answers.argument_account round_up in_memory_by packed_align homogeneous_limit behind stacked_of answers.answer_to answers.written_to answers.returns_answer_by answers.returns_written_by answers.argument_answer_by answers.argument_written_by answers.returns_answer answers.returns_written answers.argument_answer answers.argument_written
twelve_calls = refl

-- ---- an entry by its place in the table

same_at : {A B : Type 0} (f g : A → B) (xs : List A) (n : ℕ) (x : A) → map f xs ≡ map g xs → get_elem? xs n ≡ some x → f x ≡ g x
same_at f g [] n x m e = absurd (let z : ◌≡◌ {A = ℕ} 0 1 = cc in omega arith)
same_at f g (y ∷ ys) zero x m e = let q : y ≡ x = cc in rw (← q) cc
same_at f g (y ∷ ys) (suc n) x m e = let later : map f ys ≡ map g ys = cc in same_at f g ys n x later e

pub call_of_twelve : (n : ℕ) (e : Entry) → get_elem? twelve n ≡ some e → answered_to e ≡ expected e
call_of_twelve n e = same_at answered_to expected twelve n e twelve_calls
