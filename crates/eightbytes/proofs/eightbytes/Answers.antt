use Prim.Native.Nat.{◌≤◌, ◌<◌}
use mathlib.Core.Path.{◌≡◌, refl, ap, ◌∙◌}
use mathlib.Core.Option.Option.{none, some}
use lib.ListN.{length, take, replicate}
use Rattle.shape.specs.Words.{pieces_of}
use Rattle.slots.proofs.Cut.{length_cut}
use Rattle.eightbytes.specs.Class.{None}
use Rattle.eightbytes.specs.Eightbytes.{eightbytes_in, classes_after, settled, classified}
use Rattle.eightbytes.specs.Reach.{last_of}
use Rattle.eightbytes.proofs.Marks.{marked_start, behind_start, marked_end, marked_stop, marked_turn, marked_behind, inside, mark_length}
use Rattle.eightbytes.proofs.Found.{found_by, classes_by, nothing_by, over_limit, unfit, fit}
use native.Mathlib.Omega.{arith}
use Rattle.eightbytes.proofs.eightbytes.Goals as goal

pub returns-then-size-min : goal.returns-then-size-min
returns-then-size-min c =
    let a = c.args in
    let e : classified a.limit a.shape (pieces_of a.words.now) ≡ none = search (over_limit) in
    (found_by _ _ _ _ e _ (nothing_by _ _ c.nothing.ensures.0), classes_by _ _ _ _ e _ c.nothing.ensures.1)

pub loop-p-init : goal.loop-p-init
loop-p-init c =
    let k : c.parts-n.result ≤ 8 = omega (arith, length_cut c.args.shape.size 8) in
    (refl, behind_start c.parts-n.result k, rw (c.into_iter-p-iterator.ensures.into_iter_gives, c.each_piece-p-items.ensures) (marked_start c.parts-n.result _ k))

pub returns-then-not-fits : goal.returns-then-not-fits
returns-then-not-fits c =
    let a = c.args in
    let n = c.parts-n.result in
    let en : n ≡ eightbytes_in a.shape.size = omega (arith, length_cut a.shape.size 8) in
    let k : n ≤ length c.loop-p.classes = omega arith in
    let st = c.in-Some.ensures.steps in
    let m : classes_after (replicate n None) (pieces_of a.words.now) ≡ none = search (marked_stop) in
    let e : classified a.limit a.shape (pieces_of a.words.now) ≡ none = search (unfit) in
    (found_by _ _ _ _ e _ (nothing_by _ _ c.nothing-then-not-fits.ensures.0), classes_by _ _ _ _ e _ c.nothing-then-not-fits.ensures.1)

pub mark-requires : goal.mark-requires
mark-requires c =
    let s = c.args.shape.size in
    let n = c.parts-n.result in
    let en : n ≡ eightbytes_in s = omega (arith, length_cut s 8) in
    let k : n ≤ length c.loop-p.classes = omega arith in
    let st = c.in-Some.ensures.steps in
    let i : last_of c.in-Some.p < n = search (inside) in
    omega arith

pub loop-p-preserved : goal.loop-p-preserved
loop-p-preserved c =
    let n = c.parts-n.result in
    let en : n ≡ eightbytes_in c.args.shape.size = omega (arith, length_cut c.args.shape.size 8) in
    let k : n ≤ length c.loop-p.classes = omega arith in
    let st = c.in-Some.ensures.steps in
    let d = c.loop-p.invariant.1 in
    (ap length c.mark.ensures ∙ mark_length c.loop-p.classes c.in-Some.p ∙ c.loop-p.invariant.0, search (marked_behind), search (marked_turn))

pub settle-requires : goal.settle-requires
settle-requires c =
    let s = c.args.shape.size in
    let en : c.parts-n.result ≡ eightbytes_in s = omega (arith, length_cut s 8) in
    (omega arith, c.loop-p.invariant.1, en)

pub returns : goal.returns
returns c =
    let a = c.args in
    let en : c.parts-n.result ≡ eightbytes_in a.shape.size = omega (arith, length_cut a.shape.size 8) in
    let st = c.in-None.ensures.steps.0 in
    let m : classes_after (replicate c.parts-n.result None) (pieces_of a.words.now) ≡ some (take c.parts-n.result c.loop-p.classes) = search (marked_end) in
    let e : classified a.limit a.shape (pieces_of a.words.now) ≡ settled (take c.parts-n.result c.loop-p.classes) = search (fit) in
    (found_by _ _ _ _ e _ c.settle.ensures.0, classes_by _ _ _ _ e _ c.settle.ensures.1)
