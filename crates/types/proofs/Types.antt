-- The types of a list's entries: each is made of those of earlier entries, as its words say.
use Prim.Native.Nat.{ℕ, zero, suc, ◌+◌, ◌<◌}
use mathlib.Core.Path.{◌≡◌, refl, ap, ◌∙◌}
use mathlib.Core.Bool.{Bool, true}
use mathlib.Core.List.{List, [], ◌∷◌, ◌++◌}
use mathlib.Core.Logic.{⊎_elim}
use native.Mathlib.Nat.{eq-or-lt_of_le}
use native.Mathlib.Omega.{arith}
use borrow.Author.Tests.{ltb-true}
use lib.Dec.{ltb}
use lib.ListN.{length, get_or, length-append, get_or-append}
use lib.Seq.{get_or-append-add}
use Rattle.shape.specs.Lists.{every}
use Rattle.shape.proofs.Bools.{both_true}
use Rattle.types.specs.Entries.{Meaning, one, several, repeated, referred, refers_back, meaning_at, all_refer_back}
use Rattle.types.specs.Tree.{Tree, align_of, takes_of, group, array}
use Rattle.types.specs.Trees.{offset_from, laid_out, tree_of, no_type, trees, type_at}

module _ (ts ms : List ℕ) where
  length_trees : (n : ℕ) → length (trees ts ms n) ≡ n
  unfolding trees
  length_trees zero = refl
  length_trees (suc n) = let h : length (trees ts ms n) ≡ n = length_trees n in simp length-append (omega arith)

  kept : (n e : ℕ) → e < n → get_or (trees ts ms (suc n)) e no_type ≡ get_or (trees ts ms n) e no_type
  unfolding trees
  kept n e lt = let h : length (trees ts ms n) ≡ n = length_trees n in get_or-append (trees ts ms n) _ no_type e (omega arith)

  -- an entry's type is the same wherever it is looked for
  among : (n e : ℕ) → e < n → get_or (trees ts ms n) e no_type ≡ type_at ts ms e
  among zero e lt = absurd (omega arith)
  among (suc n) e lt = ⊎_elim
      (λ (q : e ≡ n). rw q)
      (λ (q : e < n). kept n e q ∙ among n e q)
      (eq-or-lt_of_le {n = e} {m = n} (omega arith))

  last_of : (ls : List Tree) (x d : Tree) (n : ℕ) → length ls ≡ n → get_or (ls ++ x ∷ []) n d ≡ x
  last_of ls x d n e = let z : n ≡ length ls + 0 = omega arith in rw z (get_or-append-add ls (x ∷ []) 0 d)

  newest : (e : ℕ) → type_at ts ms e ≡ tree_of (λ m. get_or (trees ts ms e) m no_type) (meaning_at ts ms e)
  unfolding trees
  newest e = last_of (trees ts ms e) _ no_type e (length_trees e)

  -- what refers to earlier entries looks at their types alone
  module _ (g k : ℕ → Tree) (e : ℕ) (same : (m : ℕ) → m < e → g m ≡ k m) where
    laid_same : (overlaid : Bool) (end : ℕ) (l : List ℕ) → every (λ m. ltb m e) l ≡ true → laid_out g overlaid end l ≡ laid_out k overlaid end l
    unfolding laid_out every
    laid_same overlaid end [] h = refl
    laid_same overlaid end (m ∷ l) h =
        let b = both_true (ltb m e) (every (λ m. ltb m e) l) h in
        let s : g m ≡ k m = same m (ltb-true m e b.0) in
        rw (s, laid_same overlaid (offset_from overlaid end (align_of (k m)) + takes_of (k m)) l b.1)

    tree_same : (x : Meaning) → refers_back e x ≡ true → tree_of g x ≡ tree_of k x
    unfolding tree_of referred every
    tree_same (one s) h = refl
    tree_same (several overlaid l) h = ap group (laid_same overlaid 0 l h)
    tree_same (repeated m n) h = ap (λ (t : Tree). array t n) (same m (ltb-true m e (both_true (ltb m e) true h).0))

  pub own_type : (e : ℕ) → refers_back e (meaning_at ts ms e) ≡ true → type_at ts ms e ≡ tree_of (type_at ts ms) (meaning_at ts ms e)
  own_type e h = newest e ∙ tree_same (λ m. get_or (trees ts ms e) m no_type) (type_at ts ms) e (among e) (meaning_at ts ms e) h

  -- of entries that all refer back, each does
  pub each_back : (n e : ℕ) → all_refer_back ts ms e n ≡ true → (i : ℕ) → i < n → refers_back (e + i) (meaning_at ts ms (e + i)) ≡ true
  unfolding all_refer_back
  each_back zero e h i lt = absurd (omega arith)
  each_back (suc n) e h zero lt =
      let z : e + 0 ≡ e = omega arith in
      rw z (both_true (refers_back e (meaning_at ts ms e)) (all_refer_back ts ms (e + 1) n) h).0
  each_back (suc n) e h (suc i) lt =
      let z : e + suc i ≡ e + 1 + i = omega arith in
      rw z (each_back n (e + 1) (both_true (refers_back e (meaning_at ts ms e)) (all_refer_back ts ms (e + 1) n) h).1 i (omega arith))
