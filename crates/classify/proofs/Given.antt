-- What travels as Memory is given nothing, on any description, whatever the call and the value (REFERENCE 9.1): first of what the rules choose,
-- then of the answers, whose way is the Rust's.
use Prim.Native.Nat.{ℕ}
use mathlib.Core.Path.{◌≡◌, refl, sym, ap, ◌∙◌}
use mathlib.Core.List.{List, [], ◌∷◌}
use mathlib.Core.Bool.{Bool, true, false, ◌&&◌, not, cond}
use lib.Dec.{ltb}
use Rattle.std.specs.Prelude.{Option, Some, None}
use Rattle.shape.specs.declared.Arg as args
use Rattle.shape.specs.declared.Piece.{Piece}
use Rattle.shape.specs.declared.Scalar.{Scalar}
use Rattle.shape.specs.declared.Shape.{Shape}
use Rattle.shape.specs.Numbers.{accepted}
use Rattle.shape.specs.Words.{pieces_of}
use Rattle.slots.specs.Search.{Search, found, nothing, floats_in}
use Rattle.describe.specs.declared.Dots.{Dots}
use Rattle.describe.specs.declared.Rule.{Rule}
use Rattle.describe.specs.declared.Terms.{Terms}
use Rattle.describe.specs.declared.Test.{Test}
use Rattle.describe.specs.Description.{Description, terms_of}
use Rattle.describe.specs.Dots.{as_fixed, dots_of}
use Rattle.spend.specs.declared.Left.{Left}
use Rattle.spend.specs.declared.Decision.{Decision}
use Rattle.spend.specs.declared.Wanted.{Wanted}
use Rattle.spend.specs.Ways.{marked, way_number, MemoryIsGivenNothing}
use Rattle.spend.specs.Spending.{travel_of}
use Rattle.spend.proofs.Given.{Ungiven, UngivenIf, another_way, either, travel_ungiven}
use Rattle.spend_scalar.proofs.Given as lone
use Rattle.after_dots.proofs.Given.{settled_ungiven}
use Rattle.find.specs.Matches.{matches}
use Rattle.stack_place.specs.Stacked.{Placed}
use Rattle.classify.specs.declared.Call.{Call}
use Rattle.classify.specs.declared.Answer.{Answer}
use Rattle.classify.specs.Pass.{way_of}
use Rattle.classify.specs.Classify.{Passed}
use Rattle.classify.specs.Spending.{Chosen, wanted_by, or_next, decide_by, by_rules, scalar_by, aggregate_by, choice, return_choice, argument_choice, variadic_argument_choice}
use Rattle.classify.specs.Answers.{returns_account, argument_account, variadic_argument_account, answer_to, returns_answer_by, argument_answer_by, variadic_argument_answer_by}
use Rattle.classify.proofs.Accepted.{by_cases}
use Rattle.classify.proofs.Agree.{argument_agrees, returns_agrees}
use Rattle.classify.proofs.Operations.{agreed}

-- ---- what the rules choose

abbrev ChosenUngiven : Chosen → Type 0
ChosenUngiven k = Ungiven k.decision

abbrev pub AnswerUngiven : Answer → Type 0
AnswerUngiven a = MemoryIsGivenNothing a.outcome.way a.outcome.spent

-- a rule that is skipped, one that decides, and one that goes on
or_rest : (skipped : Bool) (t : Option Decision) (test : Test) (rest : Chosen) → UngivenIf t → ChosenUngiven rest → ChosenUngiven (cond skipped rest (or_next t test rest))
or_rest true t test rest h later = later
or_rest false (Some d) test rest h later = h
or_rest false None test rest h later = later

module _ (T : Terms) (returning : Bool) (left : Left) (shape : Shape) (ps : List Piece) where
  by_rule : (s : Search) (rule : Rule) (rest : Chosen) → ChosenUngiven rest → ChosenUngiven (decide_by s T returning left rule shape rest)
  by_rule nothing rule rest later = later
  by_rule (found ss) rule rest later =
      let slots : Wanted = wanted_by rule.when shape.size ss in
      or_rest ((marked left && not returning) && ltb 0 (floats_in ss)) (travel_of T.banks T.return_pointer returning left rule shape.size slots) rule.when rest
      (travel_ungiven T.banks T.return_pointer returning left rule shape.size slots) later

  rules_ungiven : (rules : List Rule) → ChosenUngiven (by_rules T returning left rules shape ps)
  unfolding by_rules
  rules_ungiven [] = λ w. (refl, refl)
  rules_ungiven (rule ∷ rules) = by_rule (matches T.banks rule.when shape ps) rule (by_rules T returning left rules shape ps) (rules_ungiven rules)

scalar_ungiven : (T : Terms) (returning : Bool) (dots : Dots) (left : Left) (s : Scalar) → Ungiven (scalar_by T returning dots left s)
unfolding scalar_by
scalar_ungiven T returning dots left s =
    either returning _ _ (lone.return_ungiven T.scalars T.return_pointer left s)
    (either dots.emptied _ _ (another_way tt) (settled_ungiven dots left.integer _ _ (lone.argument_ungiven T.banks T.scalars _ s)))

aggregate_ungiven : (T : Terms) (rules : List Rule) (returning : Bool) (dots : Dots) (left : Left) (shape : Shape) (ps : List Piece) → ChosenUngiven (aggregate_by T rules returning dots left shape ps)
unfolding aggregate_by
aggregate_ungiven T rules returning dots left shape ps = settled_ungiven dots left.integer _ _ (rules_ungiven T returning _ shape ps rules)

choice_ungiven : (T : Terms) (rules : List Rule) (returning : Bool) (dots : Dots) (left : Left) (arg : args.Arg) (ps : List Piece) → ChosenUngiven (choice T rules returning dots left arg ps)
choice_ungiven T rules returning dots left args.TheVariants.Void ps = another_way tt
choice_ungiven T rules returning dots left (args.TheVariants.Scalar s) ps = scalar_ungiven T returning dots left s
choice_ungiven T rules returning dots left (args.TheVariants.Aggregate shape) ps = aggregate_ungiven T rules returning dots left shape ps

-- ---- the answers

-- an answer whose way, where nothing refuses it, is that of a decision of which it holds
answer_ungiven : (checks : ℕ) (c : Call) (p : Passed) (k : Chosen) (placed : Placed) (out : List ℕ) → (checks ≡ accepted → way_of p.pass ≡ k.decision.way) → ChosenUngiven k
    → AnswerUngiven (answer_to checks c (record { passed = p; spent = k.decision.spent; placed = placed }) out)
answer_ungiven checks c p k placed out same ungiven =
    by_cases checks c (record { passed = p; spent = k.decision.spent; placed = placed }) out (λ (a : Answer) (words : List ℕ). AnswerUngiven a) (λ n e w. (refl, refl))
    (λ z h s w. ungiven (ap way_number (sym (same z)) ∙ w))

module _ (source : ℕ) (D : Description) (c : Call) (arg : args.Arg) (ws out : List ℕ) where
  abbrev ps : List Piece
  ps = pieces_of ws

  pub returns_ungiven : AnswerUngiven (returns_answer_by source D c arg ws out)
  unfolding returns_answer_by returns_account return_choice
  returns_ungiven =
      answer_ungiven _ c _ (return_choice D c.left arg ps) _ out (λ z. (returns_agrees D c.left arg ps).way)
      (choice_ungiven (terms_of D) D.returns true as_fixed c.left arg ps)

  pub argument_ungiven : AnswerUngiven (argument_answer_by source D c arg ws out)
  unfolding argument_answer_by argument_account argument_choice
  argument_ungiven =
      answer_ungiven _ c _ (argument_choice D c.left arg ps) _ out (λ z. (argument_agrees D c.left arg ps).way)
      (choice_ungiven (terms_of D) D.arguments false as_fixed c.left arg ps)

  pub variadic_argument_ungiven : AnswerUngiven (variadic_argument_answer_by source D c arg ws out)
  unfolding variadic_argument_answer_by variadic_argument_account variadic_argument_choice
  variadic_argument_ungiven =
      answer_ungiven _ c _ (variadic_argument_choice D c.left arg ps) _ out (λ z. (agreed source D c arg ws z).way)
      (choice_ungiven (terms_of D) D.arguments false (dots_of D.variadic) c.left arg ps)
