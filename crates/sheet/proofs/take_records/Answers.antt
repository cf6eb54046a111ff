use mathlib.Core.Path.{sym, ap, ◌∙◌}
use native.Mathlib.Omega.{arith}
use lib.ListN.{length}
use Rattle.sheet.proofs.StepsLaws.{short, full, behind_record, left_next, left_last}
use Rattle.sheet.proofs.take_records.Goals as goal

pub loop-record-preserved : goal.loop-record-preserved
loop-record-preserved c =
    let i = c.loop-record.invariant in
    let n = c.in-Some.ensures.steps in
    let cut = sym i.1 ∙ n.1.0 in
    let long = n.1.1 ∙ i.2 in
    let s = c.take_record-step in (
      left_next _ _ _ _ _ _ _ _ _ i.0 _ _ cut long (sym c.if-not-has_room.ensures) _ _ _ _ s.ensures s.auto.out,
      behind_record _ _ _ _ _ _ _ _ _ i.0 _ _ cut long,
      n.0 ∙ i.2,
    )

pub returns-then-not-has_room : goal.returns-then-not-has_room
returns-then-not-has_room c = left_last _ _ _ _ _ _ _ _ _ _ _ c.loop-record.invariant.0 (full (sym c.if-not-has_room.ensures))

pub returns : goal.returns
returns c =
    let i = c.loop-record.invariant in
    left_last _ _ _ _ _ _ _ _ _ _ _ i.0 (short (omega (arith, ap length i.1, i.2, c.in-None.ensures.steps.1.0)))
