-- `homogeneous` answers what the definition finds: each way out is one law of the tests that led there.
use mathlib.Core.Path.{refl, sym, ◌∙◌}
use Rattle.find.proofs.AllAlike.{homogeneous_none, homogeneous_many, homogeneous_integer, homogeneous_size, homogeneous_mixed, homogeneous_found, same_turn}
use Rattle.find.proofs.alike.homogeneous.Goals as goal

pub returns-then-count-limit : goal.returns-then-count-limit
returns-then-count-limit c = search (homogeneous_many)

pub returns-in_err-first : goal.returns-in_err-first
returns-in_err-first c = c.from_residual.ensures ∙ homogeneous_none _ _ _ (sym c.each_piece-pieces.ensures ∙ c.in_err-first.ensures.steps.0)

pub returns-then-not-is_float : goal.returns-then-not-is_float
returns-then-not-is_float c =
    let e = sym c.each_piece-pieces.ensures ∙ c.in_ok-first.ensures.steps in
    search (homogeneous_integer)

pub returns-then-not-fills : goal.returns-then-not-fills
returns-then-not-fills c =
    let e = sym c.each_piece-pieces.ensures ∙ c.in_ok-first.ensures.steps in
    search (homogeneous_size)

pub returns-then-not-same : goal.returns-then-not-same
returns-then-not-same c =
    let e = sym c.each_piece-pieces.ensures ∙ c.in_ok-first.ensures.steps in
    let i = rw c.into_iter-p-iterator.ensures.into_iter_gives at c.loop-p.invariant in
    homogeneous_mixed _ _ _ c.if-count-limit.false _ _ e _ c.is_float.ensures c.if-not-is_float.false _ c.fills.ensures c.if-not-fills.false _ i _ _ c.in-Some.ensures.steps c.if-not-same.true

pub loop-p-init : goal.loop-p-init
loop-p-init c = refl

pub loop-p-preserved : goal.loop-p-preserved
loop-p-preserved c = same_turn _ _ _ _ _ c.loop-p.invariant c.in-Some.ensures.steps c.if-not-same.false

pub returns : goal.returns
returns c =
    let e = sym c.each_piece-pieces.ensures ∙ c.in_ok-first.ensures.steps in
    let i = rw c.into_iter-p-iterator.ensures.into_iter_gives at c.loop-p.invariant in
    homogeneous_found _ _ _ c.if-count-limit.false _ _ e _ c.is_float.ensures c.if-not-is_float.false _ c.fills.ensures c.if-not-fills.false _ i c.in-None.ensures.steps.0
