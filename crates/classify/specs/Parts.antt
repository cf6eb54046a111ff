-- What the parts of an operation answer one another: the walk with the classes beside it, the writing, and the answer. These say how the code
-- goes about it; what an operation means is in Classify.antt and Spending.antt, and proofs/Agree.antt has this meet that.
use Rattle.std.specs.Prelude.{ℕ, List, Bool, true, false, cond}
use Rattle.shape.specs.declared.Arg as args
use Rattle.shape.specs.declared.Piece.{Piece}
use Rattle.shape.specs.declared.Scalar.{Scalar}
use Rattle.shape.specs.declared.Shape.{Shape}
use Rattle.shape.specs.Numbers as numbers
use Rattle.shape.specs.Words.{pieces_of}
use Rattle.checks.specs.Check.{or_else, unless_refused}
use Rattle.slots.specs.declared.Slot.{Slot}
use Rattle.slots.specs.Words.{written}
use Rattle.describe.specs.declared.Dots.{Dots}
use Rattle.describe.specs.declared.Rule.{Rule}
use Rattle.rows.specs.declared.Rules.{Rules}
use Rattle.describe.specs.declared.Terms.{Terms}
use Rattle.describe.specs.declared.Test.{Test}
use Rattle.describe.specs.declared.Variadic.{Variadic}
use Rattle.describe.specs.Description.{Description, terms_of}
use Rattle.describe.specs.Dots.{as_fixed, dots_of}
use Rattle.abis.specs.declared.Brief.{Brief}
use Rattle.abis.specs.Abis.{described}
use Rattle.spend.specs.declared.Left.{Left}
use Rattle.spend.specs.declared.Decision.{Decision}
use Rattle.spend.specs.Ways.{with_mark, left_after}
use Rattle.eightbytes.specs.declared.Class.{Class}
use Rattle.find.specs.Matches.{no_classes, classes_by}
use Rattle.slot_writing.specs.Sources.{source_slots}
use Rattle.stack_place.specs.Stacked.{Placed}
use Rattle.classify.specs.declared.Call.{Call}
use Rattle.classify.specs.declared.Answer.{Answer}
use Rattle.classify.specs.declared.Decided.{Decided}
use Rattle.classify.specs.declared.Role.{Role}
use Rattle.classify.specs.declared.Role.TheVariants.{Return, Argument, VariadicArgument}
use Rattle.classify.specs.Spending.{Chosen, by_rules, aggregate_by, choice}
use Rattle.classify.specs.Stacking.{stacked_of}
use Rattle.classify.specs.Answers.{call_with, checked, row_refusal, room_refusal, answered, or_answer, Leaves, Returns, Passes, PassesVariadic}

abbrev pub scalar_arg : Scalar → args.Arg
scalar_arg s = args.TheVariants.Scalar s

abbrev pub aggregate_arg : Shape → args.Arg
aggregate_arg shape = args.TheVariants.Aggregate shape

-- ---- what is asked about

abbrev pub is_return : Role → Bool
is_return Return = true
is_return Argument = false
is_return VariadicArgument = false

abbrev pub is_after_dots : Role → Bool
is_after_dots Return = false
is_after_dots Argument = false
is_after_dots VariadicArgument = true

-- ---- what decides a value, with the classes beside it

abbrev pub decided : Decision → List Class → Decided
decided decision classes = record { decision = decision; classes = classes }

abbrev pub arg_classes : args.Arg → Test → List Piece → List Class
arg_classes args.TheVariants.Void test ps = no_classes
arg_classes (args.TheVariants.Scalar s) test ps = no_classes
arg_classes (args.TheVariants.Aggregate shape) test ps = classes_by test shape ps

abbrev pub decided_by : Chosen → args.Arg → List Piece → Decided
decided_by k arg ps = decided k.decision (arg_classes arg k.when ps)

unfoldable pub walked : Terms → Bool → Left → List Rule → Shape → List Piece → Decided
walked T returning left rules shape ps = decided_by (by_rules T returning left rules shape ps) (aggregate_arg shape) ps

unfoldable pub aggregate_decided : Terms → List Rule → Bool → Dots → Left → Shape → List Piece → Decided
aggregate_decided T rules returning dots left shape ps = decided_by (aggregate_by T rules returning dots left shape ps) (aggregate_arg shape) ps

-- ---- where it stands

abbrev pub stacked_by : Terms → List Rule → Bool → Dots → Call → args.Arg → List Piece → Decision → Placed
stacked_by T rules returning dots c arg ps d = stacked_of T rules returning dots c.stack arg ps d.way d.spent d.count

-- ---- the writing and the answer

abbrev pub accepted_by : Call → Decision → Placed → Answer
accepted_by c d placed =
    answered (call_with c.abi (left_after c.left d.spent) placed.next) numbers.accepted d.way d.spent d.count placed.stacked

abbrev pub finish_refusal : Decision → Placed → List ℕ → ℕ
finish_refusal d placed out = or_else (room_refusal d.count out) placed.refusal

unfoldable pub finished : Call → Decision → Placed → List ℕ → Answer
finished c d placed out = or_answer (finish_refusal d placed out) c (accepted_by c d placed)

unfoldable pub finished_in : Decision → Placed → List Slot → List ℕ → List ℕ
finished_in d placed slots out = unless_refused (finish_refusal d placed out) (written slots out) out

abbrev pub decided_slots : Decided → List Piece → List Slot
decided_slots d ps = source_slots d.decision.source d.classes ps

abbrev pub Finishes : Call → Decided → Placed → List Piece → List ℕ → Answer → List ℕ → Type 0
Finishes c d placed ps out r after = Leaves (finished c d.decision placed out) (finished_in d.decision placed (decided_slots d ps) out) r after

-- where its slots have room
abbrev pub Settles : Call → Decision → Placed → List Slot → List ℕ → Answer → List ℕ → Type 0
Settles c d placed slots out r after = Leaves (or_answer placed.refusal c (accepted_by c d placed)) (unless_refused placed.refusal (written slots out) out) r after

-- ---- an operation by terms and a list: where nothing refuses it, and whole

abbrev pub decided_for : Terms → List Rule → Bool → Dots → Call → args.Arg → List Piece → Decided
decided_for T rules returning dots c arg ps = decided_by (choice T rules returning dots c.left arg ps) arg ps

abbrev pub placed_for : Terms → List Rule → Bool → Dots → Call → args.Arg → List Piece → Placed
placed_for T rules returning dots c arg ps = stacked_by T rules returning dots c arg ps (choice T rules returning dots c.left arg ps).decision

abbrev pub By : Terms → List Rule → Bool → Dots → Call → args.Arg → List ℕ → List ℕ → Answer → List ℕ → Type 0
By T rules returning dots c arg ws out r after =
    Finishes c (decided_for T rules returning dots c arg (pieces_of ws)) (placed_for T rules returning dots c arg (pieces_of ws)) (pieces_of ws) out r after

unfoldable pub performed_by : ℕ → Terms → List Rule → Bool → Dots → Call → args.Arg → List ℕ → List ℕ → Answer
performed_by source T rules returning dots c arg ws out =
    or_answer (or_else source (checked T c arg ws)) c
    (finished c (decided_for T rules returning dots c arg (pieces_of ws)).decision (placed_for T rules returning dots c arg (pieces_of ws)) out)

unfoldable pub performed_by_in : ℕ → Terms → List Rule → Bool → Dots → Call → args.Arg → List ℕ → List ℕ → List ℕ
performed_by_in source T rules returning dots c arg ws out =
    let d = decided_for T rules returning dots c arg (pieces_of ws) in
    unless_refused (or_else source (checked T c arg ws))
    (finished_in d.decision (placed_for T rules returning dots c arg (pieces_of ws)) (decided_slots d (pieces_of ws)) out) out

-- ---- by a description and what its source refuses, and on a row

abbrev pub list_for : Bool → Brief → Rules
list_for returning brief = cond returning brief.returns brief.arguments

abbrev pub rules_for : Bool → Description → List Rule
rules_for returning D = cond returning D.returns D.arguments

abbrev pub dots_for : Bool → Variadic → Dots
dots_for variadic_argument variadic = cond variadic_argument (dots_of variadic) as_fixed

abbrev pub marked_by : Variadic → Left → Left
marked_by variadic left = cond (dots_of variadic).mark (with_mark left) left

abbrev pub From : ℕ → Description → Bool → Bool → Call → args.Arg → List ℕ → List ℕ → Answer → List ℕ → Type 0
From source D returning variadic_argument c arg ws out r after =
    Leaves (performed_by source (terms_of D) (rules_for returning D) returning (dots_for variadic_argument D.variadic) c arg ws out)
    (performed_by_in source (terms_of D) (rules_for returning D) returning (dots_for variadic_argument D.variadic) c arg ws out) r after

abbrev pub OnRow : Bool → Bool → Call → args.Arg → List ℕ → List ℕ → Answer → List ℕ → Type 0
OnRow returning variadic_argument c arg ws out r after = From (row_refusal c.abi) (described c.abi) returning variadic_argument c arg ws out r after

-- an operation, as it is promised. None is a return after the dots
abbrev pub Performs : Bool → Bool → Call → args.Arg → List ℕ → List ℕ → Answer → List ℕ → Type 0
Performs true false c arg ws out r after = Returns c arg ws out r after
Performs true true c arg ws out r after = OnRow true true c arg ws out r after
Performs false false c arg ws out r after = Passes c arg ws out r after
Performs false true c arg ws out r after = PassesVariadic c arg ws out r after
