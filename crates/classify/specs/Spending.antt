-- How an operation spends registers (REFERENCE 9.3 to 9.5), over the lines of spend_scalar/specs/Spending.antt and the ways of
-- spend/specs/Spending.antt: what each value passes over and is given, and by which rule.
use Rattle.std.specs.Prelude.{ℕ, List, [], ◌∷◌, Bool, true, false, ◌&&◌, not, cond, ltb, length, Option, Some, None}
use Rattle.shape.specs.declared.Arg as args
use Rattle.shape.specs.declared.Piece.{Piece}
use Rattle.shape.specs.declared.Scalar.{Scalar}
use Rattle.shape.specs.declared.Shape.{Shape}
use Rattle.slots.specs.declared.Slot.{Slot}
use Rattle.slots.specs.Search.{Search, found, nothing, floats_in}
use Rattle.describe.specs.declared.Rule.{Rule}
use Rattle.describe.specs.declared.Test.{Test}
use Rattle.describe.specs.declared.Test.TheVariants.{Anything}
use Rattle.describe.specs.declared.Terms.{Terms}
use Rattle.describe.specs.declared.Dots.{Dots}
use Rattle.describe.specs.Description.{Description, terms_of}
use Rattle.describe.specs.Dots.{as_fixed, dots_of}
use Rattle.spend.specs.declared.Left.{Left}
use Rattle.spend.specs.declared.Way as ways
use Rattle.spend.specs.declared.Wanted.{Wanted}
use Rattle.spend.specs.declared.Decision.{Decision}
use Rattle.spend.specs.Ways as made
use Rattle.spend.specs.Ways.{marked}
use Rattle.spend.specs.Spending.{travel_of}
use Rattle.spend_scalar.specs.Spending.{scalar_argument, scalar_return}
use Rattle.after_dots.specs.AfterDots.{skipped_for, left_for, settled_for}
use Rattle.find.specs.Matches.{matches, source_of}

-- what decides a value: the decision, and for an aggregate the test of the rule that made it
pub record Chosen : Type 0 where
  pub decision : Decision
  pub when : Test

abbrev pub chosen : Decision → Test → Chosen
chosen d t = record { decision = d; when = t }

abbrev pub wanted_by : Test → ℕ → List Slot → Wanted
wanted_by test size ss = record { count = length ss; floats = floats_in ss; source = source_of test size }

-- a decision, or the rules after it
abbrev pub or_next : Option Decision → Test → Chosen → Chosen
or_next (Some d) test rest = chosen d test
or_next None test rest = rest

-- a rule whose test came back: nothing moves on, and so does, under integers-only, an argument's rule that found a float slot. The callee would
-- not look into float registers, so the aggregate is left to the rules behind, as if no piece of it were a float. What comes back is no argument
abbrev pub decide_by : Search → Terms → Bool → Left → Rule → Shape → Chosen → Chosen
decide_by nothing T returning left rule shape rest = rest
decide_by (found ss) T returning left rule shape rest =
    cond ((marked left && not returning) && ltb 0 (floats_in ss)) rest
    (or_next (travel_of T.banks T.return_pointer returning left rule shape.size (wanted_by rule.when shape.size ss)) rule.when rest)

-- an aggregate: the first rule that matches. Every list ends with a rule that decides (REFERENCE 5.6), so the empty list is never come to
unfoldable pub by_rules : Terms → Bool → Left → List Rule → Shape → List Piece → Chosen
by_rules T returning left [] shape ps = chosen (made.plain ways.TheVariants.Memory made.nothing) Anything
by_rules T returning left (rule ∷ rules) shape ps =
    decide_by (matches T.banks rule.when shape ps) T returning left rule shape (by_rules T returning left rules shape ps)

-- void is Ignore and spends nothing
abbrev pub ignored : Chosen
ignored = chosen (made.plain ways.TheVariants.Ignore made.nothing) Anything

-- a scalar that comes back; one that always is in memory is Direct and spends nothing; any other argument, by what it finds left (REFERENCE 9.5)
unfoldable pub scalar_by : Terms → Bool → Dots → Left → Scalar → Decision
scalar_by T returning dots left s =
    let skipped : ℕ = skipped_for dots T.banks left s.size s.align in
    cond returning (scalar_return T.scalars T.return_pointer left s)
    (cond dots.emptied (made.plain ways.TheVariants.Direct made.nothing)
    (settled_for dots left.integer skipped (scalar_argument T.banks T.scalars (left_for dots skipped left) s)))

-- an aggregate, by what it finds left
unfoldable pub aggregate_by : Terms → List Rule → Bool → Dots → Left → Shape → List Piece → Chosen
aggregate_by T rules returning dots left shape ps =
    let skipped : ℕ = skipped_for dots T.banks left shape.size shape.align in
    let k : Chosen = by_rules T returning (left_for dots skipped left) rules shape ps in
    chosen (settled_for dots left.integer skipped k.decision) k.when

-- any value, by terms and a list
abbrev pub choice : Terms → List Rule → Bool → Dots → Left → args.Arg → List Piece → Chosen
choice T rules returning dots left args.TheVariants.Void ps = ignored
choice T rules returning dots left (args.TheVariants.Scalar s) ps = chosen (scalar_by T returning dots left s) Anything
choice T rules returning dots left (args.TheVariants.Aggregate shape) ps = aggregate_by T rules returning dots left shape ps

-- what comes back, a fixed argument, and one after the dots. What comes back is asked about first: its address may be the first argument, and
-- then one argument fewer has a register. Asked late, the address gets a later register than the callee looks in
unfoldable pub return_choice : Description → Left → args.Arg → List Piece → Chosen
return_choice D left arg ps = choice (terms_of D) D.returns true as_fixed left arg ps

unfoldable pub argument_choice : Description → Left → args.Arg → List Piece → Chosen
argument_choice D left arg ps = choice (terms_of D) D.arguments false as_fixed left arg ps

unfoldable pub variadic_argument_choice : Description → Left → args.Arg → List Piece → Chosen
variadic_argument_choice D left arg ps = choice (terms_of D) D.arguments false (dots_of D.variadic) left arg ps
