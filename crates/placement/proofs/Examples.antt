-- The examples, computed: where the reader finds each scalar, and that it reads what the caller placed there.
use mathlib.Core.Path.{◌≡◌, refl}
use mathlib.Core.List.{map}
use Rattle.checks.specs.Check as checks
use Rattle.shape.specs.Words.{pieces_of, put_at}
use Rattle.shape.specs.Arithmetic.{round_up}
use Rattle.abis.specs.Abis as abis
use Rattle.spend.specs.Spending as rules
use Rattle.spend_scalar.specs.Spending as lone
use Rattle.after_dots.specs.AfterDots.{skipped_for, settled_for}
use Rattle.classify.specs.Classify as rust
use Rattle.classify.specs.Spending as spending
use Rattle.stack_place.specs.Stacked.{behind}
use Rattle.classify.specs.Stacking.{stacked_of}
use Rattle.classify.specs.Answers as answers
use Rattle.varargs.specs.Lists as lists
use Rattle.placement.specs.Caller as caller
use Rattle.placement.specs.Back as back
use Rattle.placement.specs.Examples.{Example, examples, places, numbered, state_of, values_of, reads_of}

pub examples_found : map (λ (e : Example). places (back.offsets_of (state_of e)) e.scalars) examples ≡ map (λ (e : Example). e.found) examples
unfolding round_up lists.is_own_size lists.unnamed_refusal lists.overflow_start lists.in_overflow lists.in_integers lists.in_floats lists.standing lists.located places
examples_found = refl

pub examples_read : map reads_of examples ≡ map (λ (e : Example). back.as_placed (state_of e) (values_of e)) examples
unfolding checks.scalar_refusal pieces_of put_at round_up abis.descriptions abis.described rules.want_of lone.integer_argument lone.scalar_in_registers lone.scalar_argument rust.registers rust.after_scalar rust.scalar rust.argument rust.variadic_argument skipped_for settled_for spending.scalar_by spending.variadic_argument_choice answers.state_refusal answers.arg_refusal answers.checked answers.row_refusal answers.refusal_by behind stacked_of answers.variadic_argument_account answers.answer_to answers.variadic_argument_answer_by answers.variadic_argument_answer lists.is_own_size lists.unnamed_refusal lists.overflow_start lists.in_overflow lists.in_integers lists.in_floats lists.standing lists.located lists.part_of caller.to_front caller.spread caller.placed_by caller.place_all caller.stored back.readings back.as_placed numbered
examples_read = refl
