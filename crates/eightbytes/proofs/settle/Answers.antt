-- `settle` answers for two plain classes what the pass over all of them answers.
use Prim.Native.Nat.{◌≤◌}
use mathlib.Core.Path.{◌≡◌}
use lib.ListN.{length}
use native.Mathlib.Omega.{arith}
use Rattle.eightbytes.proofs.Pair.{pair_found, pair_classes}
use Rattle.eightbytes.proofs.settle.Goals as goal

pub returns : goal.returns
returns c =
    let a = c.args in
    let two : a.n ≤ 2 = omega arith in
    let long : length a.classes ≡ 8 = omega arith in
    let d = c.requires.1 in
    (search (pair_found), search (pair_classes))

pub returns-then-size-gt-PAIR : goal.returns-then-size-gt-PAIR
returns-then-size-gt-PAIR c = (c.settle_all.ensures.0 _, c.settle_all.ensures.1)

pub returns-then-not-is_plain : goal.returns-then-not-is_plain
returns-then-not-is_plain c = (c.settle_all-then-not-is_plain.ensures.0 _, c.settle_all-then-not-is_plain.ensures.1)
