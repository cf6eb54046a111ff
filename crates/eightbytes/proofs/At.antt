-- What pieces leave at one eightbyte, and the marking of all pieces apart from the test of all: how a standard that speaks of one eightbyte at
-- a time is compared with the marking, which goes piece by piece.
use Prim.Native.Nat.{ℕ, zero, suc, ◌+◌, ◌≤◌, ◌<◌}
use mathlib.Core.Path.{◌≡◌, refl, ap, ap₂, ◌∙◌}
use mathlib.Core.Bool.{Bool, true, false, cond, ◌&&◌}
use mathlib.Core.List.{List, [], ◌∷◌}
use mathlib.Core.Option.Option.{none, some}
use native.Mathlib.Omega.{arith}
use native.Mathlib.Decide.{dec_le}
use lib.ListN.{length, get_or, set, length-set}
use lib.Seq.{get_or-set_same, get_or-set_other}
use Rattle.shape.specs.declared.Piece.{Piece}
use Rattle.eightbytes.specs.Class.{Class, None, Integer, Sse, SseUp, X87, Memory, code, same, merge, kind_class, later}
use Rattle.eightbytes.specs.Eightbytes.{cover, mark, classes_after}
use Rattle.eightbytes.specs.Reach.{first_of, last_of, fits}
use Rattle.eightbytes.proofs.Marks.{mark_length}

later_later : (c : Class) → later (later c) ≡ later c
unfolding same code
later_later None = refl
later_later Integer = refl
later_later Sse = refl
later_later SseUp = refl
later_later X87 = refl
later_later Memory = refl

cover_below : (n : ℕ) (cs : List Class) (at : ℕ) (c : Class) (k : ℕ) → k < at → get_or (cover cs at c n) k None ≡ get_or cs k None
unfolding cover
cover_below zero cs at c k h = refl
cover_below (suc n) cs at c k h = cover_below n _ (at + 1) (later c) k (omega arith) ∙ get_or-set_other cs at k _ None (omega arith)

cover_past : (n : ℕ) (cs : List Class) (at : ℕ) (c : Class) (k : ℕ) → at + n ≤ k → get_or (cover cs at c n) k None ≡ get_or cs k None
unfolding cover
cover_past zero cs at c k h = refl
cover_past (suc n) cs at c k h = cover_past n _ (at + 1) (later c) k (omega arith) ∙ get_or-set_other cs at k _ None (omega arith)

cover_first : (n : ℕ) (cs : List Class) (at : ℕ) (c : Class) → 0 < n → at < length cs → get_or (cover cs at c n) at None ≡ merge (get_or cs at None) c
unfolding cover
cover_first zero cs at c h l = absurd (omega arith)
cover_first (suc n) cs at c h l = cover_below n _ (at + 1) (later c) at (omega arith) ∙ get_or-set_same cs at _ None l

cover_later : (n : ℕ) (cs : List Class) (at : ℕ) (c : Class) (k : ℕ) → at < k → k < at + n → k < length cs
    → get_or (cover cs at c n) k None ≡ merge (get_or cs k None) (later c)
unfolding cover
cover_later zero cs at c k h g l = absurd (omega arith)
cover_later (suc n) cs at c k h g l = go (cover_later n ds (at + 1) (later c) k) (dec_le k (at + 1))
  where
    ds : List Class
    ds = set cs at (merge (get_or cs at None) c)

    kept : get_or ds k None ≡ get_or cs k None
    kept = get_or-set_other cs at k _ None (omega arith)

    long : k < length ds
    long = rw (length-set cs at (merge (get_or cs at None) c)) l

    go : (at + 1 < k → k < at + 1 + n → k < length ds → get_or (cover ds (at + 1) (later c) n) k None ≡ merge (get_or ds k None) (later (later c)))
        → Dec (k ≤ at + 1) → get_or (cover ds (at + 1) (later c) n) k None ≡ merge (get_or cs k None) (later c)
    go ih (yes e) =
        let q : at + 1 ≡ k = omega arith in
        (rw q (cover_first n ds k (later c) (omega arith) long)) ∙ ap (λ x. merge x (later c)) kept
    go ih (no e) = ih (omega arith) (omega arith) long ∙ ap₂ merge kept (later_later c)

-- one piece: below its first eightbyte and past its last, at its first, and at a later one
module _ (cs : List Class) (p : Piece) where
  pub mark_below : (k : ℕ) → k < first_of p → get_or (mark cs p) k None ≡ get_or cs k None
  unfolding mark
  mark_below k h = cover_below _ cs _ _ k h

  pub mark_past : (k : ℕ) → first_of p ≤ k → last_of p < k → get_or (mark cs p) k None ≡ get_or cs k None
  unfolding mark
  mark_past k f h = cover_past _ cs _ _ k (omega arith)

  pub mark_first : first_of p ≤ last_of p → first_of p < length cs
      → get_or (mark cs p) (first_of p) None ≡ merge (get_or cs (first_of p) None) (kind_class p.kind)
  unfolding mark
  mark_first h l = cover_first _ cs _ _ (omega arith) l

  pub mark_later : (k : ℕ) → first_of p < k → k ≤ last_of p → k < length cs
      → get_or (mark cs p) k None ≡ merge (get_or cs k None) (later (kind_class p.kind))
  unfolding mark
  mark_later k f h l = cover_later _ cs _ _ k f (omega arith) l

-- all pieces: whether all fit, and what they leave where they do
unfoldable pub all_fit : ℕ → List Piece → Bool
all_fit n [] = true
all_fit n (p ∷ ps) = fits n p && all_fit n ps

unfoldable pub mark_all : List Class → List Piece → List Class
mark_all cs [] = cs
mark_all cs (p ∷ ps) = mark_all (mark cs p) ps

pub marked_all : (cs : List Class) (ps : List Piece) → classes_after cs ps ≡ cond (all_fit (length cs) ps) (some (mark_all cs ps)) none
unfolding classes_after all_fit mark_all
marked_all cs [] = refl
marked_all cs (p ∷ ps) = go (fits (length cs) p) (marked_all (mark cs p) ps ∙ ap (λ n. cond (all_fit n ps) (some (mark_all (mark cs p) ps)) none) (mark_length cs p))
  where
    go : (b : Bool) → classes_after (mark cs p) ps ≡ cond (all_fit (length cs) ps) (some (mark_all (mark cs p) ps)) none
        → cond b (classes_after (mark cs p) ps) none ≡ cond (b && all_fit (length cs) ps) (some (mark_all (mark cs p) ps)) none
    go true ih = ih
    go false ih = refl
