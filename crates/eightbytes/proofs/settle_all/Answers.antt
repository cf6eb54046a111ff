use Prim.Native.Nat.{◌≤◌, ◌<◌}
use mathlib.Core.Path.{◌≡◌, refl, sym, ◌∙◌}
use lib.ListN.{length, take, length-take}
use native.Mathlib.Nat.{zero-add}
use Rattle.eightbytes.proofs.Counts.{spoil_stop, spoil_step, mend_turn, one_at_most, count_turn, float_turn, stop_found, stop_classes, end_found, end_classes}
use native.Mathlib.Omega.{arith}
use Rattle.eightbytes.proofs.settle_all.Goals as goal

pub loop-class-init : goal.loop-class-init
loop-class-init c = (omega arith, omega arith, refl, refl, sym (zero-add _), sym (zero-add _))

pub returns-then-spoils : goal.returns-then-spoils
returns-then-spoils c =
    let l = c.loop-class in
    let h : l.class-index < length l.class-items = omega arith in
    let most : c.min-most.result ≡ c.args.n = omega arith in
    let s = spoil_stop l.class-items l.class-index l.below h _ c.mended-mended.ensures _ _ l.invariant.2 c.spoils.ensures c.if-spoils.true in
    (stop_found _ _ (rw most at s) c.nothing.ensures.0, stop_classes _ _ (rw most at s) c.nothing.ensures.1)

pub loop-class-preserved : goal.loop-class-preserved
loop-class-preserved c =
    let l = c.loop-class in
    let h : l.class-index < length l.class-items = omega arith in
    let e = c.mended-mended.ensures in
    let counted : c.from-count.result ≤ 1 = one_at_most _ _ c.from-count.ensures in
    let floats : c.from-floats.result ≤ 1 = one_at_most _ _ c.from-floats.ensures in (
      omega arith,
      omega arith,
      spoil_step l.class-items l.class-index l.below h _ e _ _ l.invariant.2 c.spoils.ensures c.if-spoils.false,
      mend_turn l.class-items l.class-index l.below h _ e _ l.invariant.3,
      count_turn l.class-items l.class-index l.below h _ e _ _ _ _ l.invariant.4 c.ne.ensures c.from-count.ensures,
      float_turn l.class-items l.class-index l.below h _ e _ _ _ _ l.invariant.5 c.eq.ensures c.from-floats.ensures,
    )

pub returns : goal.returns
returns c =
    let l = c.loop-class in
    let a = c.args in
    let past : length l.class-items ≤ l.class-index = omega arith in
    let most : c.min-most.result ≡ a.n = omega arith in
    let own : length (take a.n a.classes) ≡ a.n = simp length-take (omega arith) in
    let long : length l.class-items ≡ a.n = c.loop-class.auto.class-items ∙ rw most own in (
      rw most at (end_found _ l.class-items l.class-index l.below past l.invariant.2 _ _ l.invariant.4 l.invariant.5),
      rw most (end_classes _ l.class-items l.class-index l.below past (rw most at l.invariant.2) a.n _ long c.requires.1 (rw most at l.invariant.3)),
    )
