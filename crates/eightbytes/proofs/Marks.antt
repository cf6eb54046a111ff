-- Marking pieces: one turn of each loop, and that what happens to the shape's own eightbytes happens to the first of the eight.
use Prim.Native.Nat.{ℕ, zero, suc, ◌+◌, ◌-◌, ◌/◌, ◌≤◌, ◌<◌}
use mathlib.Core.Path.{◌≡◌, refl, sym, ap, ◌∙◌}
use mathlib.Core.Bool.{Bool, true, false, not, ◌&&◌, false≢true}
use mathlib.Core.List.{List, [], ◌∷◌}
use mathlib.Core.Option.{Option}
use mathlib.Core.Option.Option.{none, some}
use native.Mathlib.Omega.{arith}
use native.Mathlib.Nat.{sub-zero}
use borrow.Author.Tests.{ltb-true, not-true, not-false}
use lib.Dec.{ltb}
use lib.ListN.{length, get_or, set, take, drop, replicate, length-set, length-take}
use lib.Seq.{get_or-take, take-set-lt, drop-set-lt}
use Rattle.shape.specs.declared.Piece.{Piece}
use Rattle.shape.specs.Questions.{end_of}
use Rattle.eightbytes.specs.Class.{Class, None, merge, kind_class, later}
use Rattle.eightbytes.specs.Eightbytes.{cover, mark, classes_after}
use Rattle.eightbytes.specs.Reach.{last_of, aligned, fits}

-- ---- the loop over the eightbytes of a piece

cover_suc : (cs : List Class) (at : ℕ) (c : Class) (n m : ℕ) → n ≡ suc m
    → cover cs at c n ≡ cover (set cs at (merge (get_or cs at None) c)) (at + 1) (later c) m
unfolding cover
cover_suc cs at c n m e = rw e

cover_zero : (cs : List Class) (at : ℕ) (c : Class) (n : ℕ) → n ≡ 0 → cover cs at c n ≡ cs
unfolding cover
cover_zero cs at c n e = rw e

pub mark_start : (cs : List Class) (p : Piece) (e : ℕ) (c : Class) → e ≡ end_of p → c ≡ kind_class p.kind
    → cover cs (p.offset / 8) c ((e - 1) / 8 + 1 - p.offset / 8) ≡ mark cs p
unfolding mark
mark_start cs p e c he hc = rw (he, hc)

module _ (total cs : List Class) (at : ℕ) (class : Class) (end : ℕ) (inv : cover cs at class (end - at) ≡ total) where
  pub cover_end : end ≤ at → cs ≡ total
  cover_end l = let z : end - at ≡ 0 = omega arith in sym (cover_zero cs at class _ z) ∙ inv

  pub cover_turn : (v class' : Class) → at < end → v ≡ merge (get_or cs at None) class → class' ≡ later class
      → cover (set cs at v) (at + 1) class' (end - (at + 1)) ≡ total
  cover_turn v class' l ev ec =
      let m : end - at ≡ suc (end - (at + 1)) = omega arith in
      rw (ev, ec) (sym (cover_suc cs at class (end - at) (end - (at + 1)) m) ∙ inv)

-- a piece inside one eightbyte: one turn is all
pub cover_one : (cs : List Class) (at : ℕ) (class : Class) (last : ℕ) (v : Class) → at ≡ last → v ≡ merge (get_or cs at None) class
    → set cs at v ≡ cover cs at class (last + 1 - at)
cover_one cs at class last v e ev =
    let total : List Class = cover cs at class (last + 1 - at) in
    let t = cover_turn total cs at class (last + 1) refl v (later class) (omega arith) ev refl in
    cover_end total (set cs at v) (at + 1) (later class) (last + 1) t (omega arith)

-- ---- the eightbytes of a shape are the first n of some

cover_length : (cs : List Class) (at : ℕ) (c : Class) (k : ℕ) → length (cover cs at c k) ≡ length cs
unfolding cover
cover_length cs at c zero = refl
cover_length cs at c (suc k) = cover_length (set cs at (merge (get_or cs at None) c)) (at + 1) (later c) k ∙ length-set cs at _

pub mark_length : (cs : List Class) (p : Piece) → length (mark cs p) ≡ length cs
unfolding mark
mark_length cs p = cover_length cs _ _ _

cover_take : (n : ℕ) (cs : List Class) (at : ℕ) (c : Class) (k : ℕ) → (0 < k → at + k ≤ n) → take n (cover cs at c k) ≡ cover (take n cs) at c k
unfolding cover
cover_take n cs at c zero h = refl
cover_take n cs at c (suc k) h =
    let l : at + suc k ≤ n = h (omega arith) in
    let v : Class = merge (get_or cs at None) c in
    let i = cover_take n (set cs at v) (at + 1) (later c) k (λ _. omega arith) in
    i ∙ rw (take-set-lt n cs at v (omega arith), get_or-take n cs at None (omega arith))

cover_drop : (n : ℕ) (cs : List Class) (at : ℕ) (c : Class) (k : ℕ) → (0 < k → at + k ≤ n) → drop n (cover cs at c k) ≡ drop n cs
unfolding cover
cover_drop n cs at c zero h = refl
cover_drop n cs at c (suc k) h =
    let l : at + suc k ≤ n = h (omega arith) in
    cover_drop n (set cs at (merge (get_or cs at None) c)) (at + 1) (later c) k (λ _. omega arith) ∙ drop-set-lt n cs at _ (omega arith)

module _ (n : ℕ) (cs : List Class) (p : Piece) (h : last_of p < n) where
  mark_take : take n (mark cs p) ≡ mark (take n cs) p
  unfolding mark
  mark_take = cover_take n cs _ _ _ (λ z. omega arith)

  mark_drop : drop n (mark cs p) ≡ drop n cs
  unfolding mark
  mark_drop = cover_drop n cs _ _ _ (λ z. omega arith)

-- ---- the loop over the pieces

fits_last : (n : ℕ) (p : Piece) (b : Bool) → b ≡ fits n p → not b ≡ false → last_of p < n
unfolding fits
fits_last n p b e h = ltb-true _ _ (go (aligned p) (sym e ∙ not-false b h))
  where
    go : (a : Bool) → (a && ltb (last_of p) n) ≡ true → ltb (last_of p) n ≡ true
    go true x = x
    go false x = absurd (false≢true x)

module _ (total : Option (List Class)) (left : List Piece) (n : ℕ) (cs : List Class) (inv : total ≡ classes_after (take n cs) left) where
  pub marked_end : left ≡ [] → total ≡ some (take n cs)
  unfolding classes_after
  marked_end e = rw (inv, e)

  module _ (p : Piece) (rest : List Piece) (el : left ≡ p ∷ rest) (l : n ≤ length cs) (b : Bool) (eb : b ≡ fits n p) where
    own : length (take n cs) ≡ n
    own = simp length-take (omega arith)

    pub marked_stop : not b ≡ true → total ≡ none
    unfolding classes_after
    marked_stop f = rw (inv, el, own, ← eb, not-true b f)

    pub inside : not b ≡ false → last_of p < n
    inside f = fits_last n p b eb f

    module _ (f : not b ≡ false) (ds : List Class) (ed : ds ≡ mark cs p) where
      pub marked_turn : total ≡ classes_after (take n ds) rest
      unfolding classes_after
      marked_turn = rw (inv, el, own, ← eb, not-false b f, ed, mark_take n cs p (inside f))

      pub marked_behind : (zs : List Class) → drop n cs ≡ zs → drop n ds ≡ zs
      marked_behind zs z = rw (ed, mark_drop n cs p (inside f)) z

-- where it starts: eight times None
take_same : (n m : ℕ) (c : Class) → n ≤ m → take n (replicate m c) ≡ replicate n c
take_same zero m c h = refl
take_same (suc n) zero c h = absurd (omega arith)
take_same (suc n) (suc m) c h = ap {B = List Class} (λ r. c ∷ r) (take_same n m c (omega arith))

pub marked_start : (n : ℕ) (ps : List Piece) → n ≤ 8 → classes_after (replicate n None) ps ≡ classes_after (take n (replicate 8 None)) ps
marked_start n ps h = ap (λ (cs : List Class). classes_after cs ps) (sym (take_same n 8 None h))

drop_same : (n m : ℕ) (c : Class) → n ≤ m → drop n (replicate m c) ≡ replicate (m - n) c
drop_same zero m c h = rw sub-zero
drop_same (suc n) zero c h = absurd (omega arith)
drop_same (suc n) (suc m) c h = let e : suc m - suc n ≡ m - n = omega arith in rw e (drop_same n m c (omega arith))

pub behind_start : (n : ℕ) → n ≤ 8 → drop n (replicate 8 None) ≡ replicate (8 - n) None
behind_start n h = drop_same n 8 None h
