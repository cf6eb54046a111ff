use mathlib.Core.Path.{◌≡◌, refl, ap, ◌∙◌}
use native.Mathlib.Omega.{arith}
use lib.ListN.{length}
use Rattle.flatten.specs.Writing.{if_leaves, entry_pieces, pour_at, pour_words}
use Rattle.flatten.proofs.Pour.{one_at, one_words, turn_at, turn_words, done_at, done_words, said_at, said_words, some_at, some_words, none_at, none_words}
use Rattle.flatten.proofs.Steps.{members_turn, members_done, elements_turn, elements_done, elements_begin, no_level, of_members, of_elements, of_scalar}
use Rattle.flatten.proofs.Measured.+writing.Goals as goal
use Rattle.flatten.proofs.Measured.+writing.Goals.{write_members-then-row-gt0, write_members-else-row-gt0}

-- ---- write_elements

pub write_elements-loop-init : goal.write_elements-loop-init
write_elements-loop-init t c =
    let e = elements_begin _ c.args.self.now.table.now c.args.element _ c.row_at-row.ensures _ c.round_up-step.ensures _ c.args.count in
    (refl, said_at _ _ e _ _ _ refl, said_words _ _ e _ _ _ refl)

pub write_elements-loop-preserved : goal.write_elements-loop-preserved
write_elements-loop-preserved t c =
    let i = c.loop.invariant in
    let e = elements_turn _ _ _ _ _ _ c.loop-test.true _ c.saturating_add.ensures _ c.saturating_add-end.ensures in (
      omega arith,
      turn_at _ _ _ e _ _ _ c.write_type-to.ensures.0 _ c.write_type-to.ensures.1 _ i.1,
      turn_words _ _ _ e _ _ _ c.write_type-to.ensures.0 _ c.write_type-to.ensures.1 _ i.2,
    )

pub write_elements-returns : goal.write_elements-returns
write_elements-returns t c =
    let i = c.loop.invariant in
    let e = elements_done _ _ _ _ _ _ c.loop-test.false in
    (done_at _ e _ _ _ i.1, done_words _ e _ _ _ i.2)

-- ---- write_members

pub write_members-loop-i-preserved : goal.write_members-loop-i-preserved
write_members-loop-i-preserved t c =
    let i = c.loop-i.invariant in
    let s = c.args.self.now in
    let f = if_leaves c.row_at-row.result.leaves (entry_pieces s.lists.types.now s.lists.members.now s.table.now c.args.levels c.member-m.result c.saturating_add-start.result) in
    -- where a member that has leaves and one that has none meet again
    let g : (c.if-row-gt0.to ≡ pour_at f c.loop-i.out c.loop-i.to) × (c.if-row-gt0.out ≡ pour_words f c.loop-i.out c.loop-i.to) × (length c.if-row-gt0.out ≡ length c.loop-i.out) =
    elim c.if-row-gt0.branch [
      | write_members-then-row-gt0 w ↦ (
        some_at _ _ _ _ w.if-row-gt0.true _ _ w.to-is w.write_type-to.ensures.0,
        some_words _ _ _ _ w.if-row-gt0.true _ _ w.out-is w.write_type-to.ensures.1,
        ap length w.out-is ∙ w.write_type-to.auto.out,
      )
      | write_members-else-row-gt0 w ↦ (
        none_at _ _ _ _ w.if-row-gt0.false _ w.to-is,
        none_words _ _ _ _ w.if-row-gt0.false _ w.out-is,
        ap length w.out-is,
      )
    ] in
    let e = members_turn _ _ _ _ _ _ _ _ _ c.loop-i-test.true _ c.member-m.ensures _ c.row_at-row.ensures _ c.place-offset.ensures _ c.saturating_add-start.ensures _ c.saturating_add-end.ensures in (
      omega (arith, g.2, i.0),
      turn_at _ _ _ e _ _ _ g.0 _ g.1 _ i.1,
      turn_words _ _ _ e _ _ _ g.0 _ g.1 _ i.2,
    )

pub write_members-returns : goal.write_members-returns
write_members-returns t c =
    let i = c.loop-i.invariant in
    let e = members_done _ _ _ _ _ _ _ _ _ c.loop-i-test.false in
    (done_at _ e _ _ _ i.1, done_words _ e _ _ _ i.2)

-- ---- write_type

pub write_type-returns-then-levels-eq0 : goal.write_type-returns-then-levels-eq0
write_type-returns-then-levels-eq0 t c =
    let e = no_level _ _ _ _ _ _ c.if-levels-eq0.true in
    (done_at _ e _ _ _ refl, done_words _ e _ _ _ refl)

pub write_type-returns-in-Members : goal.write_type-returns-in-Members
write_type-returns-in-Members t c =
    let e = of_members _ _ _ _ _ _ c.if-levels-eq0.false _ c.form.ensures _ _ _ c.in-Members.is in
    (said_at _ _ e _ _ _ c.write_members.ensures.0, said_words _ _ e _ _ _ c.write_members.ensures.1)

pub write_type-returns-in-Elements : goal.write_type-returns-in-Elements
write_type-returns-in-Elements t c =
    let e = of_elements _ _ _ _ _ _ c.if-levels-eq0.false _ c.form.ensures _ _ c.in-Elements.is in
    (said_at _ _ e _ _ _ c.write_elements.ensures.0, said_words _ _ e _ _ _ c.write_elements.ensures.1)

pub write_type-returns-in-One : goal.write_type-returns-in-One
write_type-returns-in-One t c =
    let e = of_scalar _ _ _ _ _ _ c.if-levels-eq0.false _ c.form.ensures _ c.in-One.is _ c.at.ensures in
    (said_at _ _ e _ _ _ (one_at _ _ _ _ c.put.ensures.0), said_words _ _ e _ _ _ (one_words _ _ _ _ c.put.ensures.1))
