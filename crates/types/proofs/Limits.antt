-- What "not refused" gives of a list's types: each keeps the limits, and so does every scalar in it.
use Prim.Native.Nat.{ℕ, zero, suc, ◌+◌, ◌-◌, ◌≤◌, ◌<◌, max}
use mathlib.Core.Path.{◌≡◌, refl}
use mathlib.Core.Bool.{Bool, true, ◌&&◌}
use mathlib.Core.List.{List, [], ◌∷◌}
use native.Mathlib.Omega.{arith}
use borrow.Author.Tests.{ltb-true, ltb-false, eq-eqb, eqb-true}
use lib.Dec.{ltb, eqb}
use Rattle.shape.specs.Lists.{every}
use Rattle.shape.specs.Numbers.{accepted, most_offset, most_align}
use Rattle.shape.proofs.Bools.{both_true}
use Rattle.shape.proofs.Rounding.{round_bound}
use Rattle.checks.specs.Check.{scalar_refusal}
use Rattle.checks.proofs.Accepted.{refuse_none, else_none, fits}
use Rattle.types.specs.Entries.{most_elements, most_levels, Meaning, one, several, repeated, meaning_at, referred, refers_back}
use Rattle.types.specs.Tree.{Tree, Forest, leaf, group, array, empty, child, align_of, largest_in, size_of, takes_of, levels_of}
use Rattle.types.specs.Trees.{offset_from, laid_out, tree_of, type_at, entries, wanted, size_refusal, tree_refusal, lists_refusal, references_refusal, trees_refusal, types_refusal}
use Rattle.types.proofs.Types.{own_type}
use Rattle.types.proofs.Answering.{whole, sound}

-- ---- each type

pub each_within : (ts ms : List ℕ) (n e : ℕ) → trees_refusal ts ms e n ≡ accepted → (i : ℕ) → i < n → tree_refusal (type_at ts ms (e + i)) ≡ accepted
unfolding trees_refusal
each_within ts ms zero e h i lt = absurd (omega arith)
each_within ts ms (suc n) e h zero lt =
    let z : e + 0 ≡ e = omega arith in
    rw z (else_none (tree_refusal (type_at ts ms e)) _ h).0
each_within ts ms (suc n) e h (suc i) lt =
    let z : e + suc i ≡ e + 1 + i = omega arith in
    rw z (each_within ts ms n (e + 1) (else_none (tree_refusal (type_at ts ms e)) _ h).1 i (omega arith))

size_limit : (size : ℕ) → size_refusal size ≡ accepted → size ≤ most_offset
size_limit size h = ltb-false most_offset size (refuse_none (ltb most_offset size) 4 accepted h).0

pub size_within : (t : Tree) → tree_refusal t ≡ accepted → size_of t ≤ most_offset
unfolding tree_refusal size_of
size_within (leaf s) h =
    let k = fits s h in
    omega (arith, k.size≤, k.align≤, round_bound (max s.size 1) (max s.align 1) (omega arith))
size_within (group f) h = size_limit (size_of (group f)) h
size_within (array t n) h = size_limit (size_of (array t n)) (refuse_none (ltb most_elements n) 4 _ h).1

-- ---- the scalars in it

unfoldable mutual
  pub scalars_fit : Tree → Bool
  scalars_fit (leaf s) = eqb (scalar_refusal s) accepted
  scalars_fit (group f) = forest_fits f
  scalars_fit (array t n) = scalars_fit t

  pub forest_fits : Forest → Bool
  forest_fits empty = true
  forest_fits (child o t f) = scalars_fit t && forest_fits f

module _ (T : ℕ → Tree) (e : ℕ) (fit : (m : ℕ) → m < e → scalars_fit (T m) ≡ true) where
  laid_fit : (overlaid : Bool) (end : ℕ) (l : List ℕ) → every (λ m. ltb m e) l ≡ true → forest_fits (laid_out T overlaid end l) ≡ true
  unfolding laid_out every scalars_fit
  laid_fit overlaid end [] h = refl
  laid_fit overlaid end (m ∷ l) h =
      let b = both_true (ltb m e) (every (λ m. ltb m e) l) h in
      rw (fit m (ltb-true m e b.0), laid_fit overlaid (offset_from overlaid end (align_of (T m)) + takes_of (T m)) l b.1)

  tree_fit : (x : Meaning) → refers_back e x ≡ true → tree_refusal (tree_of T x) ≡ accepted → scalars_fit (tree_of T x) ≡ true
  unfolding tree_of referred every scalars_fit tree_refusal
  tree_fit (one s) h ok = eq-eqb _ _ ok
  tree_fit (several overlaid l) h ok = laid_fit overlaid 0 l h
  tree_fit (repeated m n) h ok = fit m (ltb-true m e (both_true (ltb m e) true h).0)

module _ (ts ms : List ℕ) (n : ℕ) (back : (e : ℕ) → e < n → refers_back e (meaning_at ts ms e) ≡ true)
    (ok : (e : ℕ) → e < n → tree_refusal (type_at ts ms e) ≡ accepted) where
  -- those of the entries below k
  below_fit : (k : ℕ) → k ≤ n → (e : ℕ) → e < k → scalars_fit (type_at ts ms e) ≡ true
  below_fit zero h e lt = absurd (omega arith)
  below_fit (suc k) h e lt =
      let b = back e (omega arith) in
      let t : type_at ts ms e ≡ tree_of (type_at ts ms) (meaning_at ts ms e) = own_type ts ms e b in
      rw t (tree_fit (type_at ts ms) e (λ m q. below_fit k (omega arith) m (omega arith)) (meaning_at ts ms e) b (rw t at (ok e (omega arith))))

  pub scalars_fit_lem : (e : ℕ) → e < n → scalars_fit (type_at ts ms e) ≡ true
  scalars_fit_lem = below_fit n (omega arith)

mutual
  unfolding scalars_fit align_of

  pub align_within : (t : Tree) → scalars_fit t ≡ true → align_of t ≤ most_align
  align_within (leaf s) h = omega (arith, (fits s (eqb-true _ _ h)).align≤)
  align_within (group f) h = largest_within f h
  align_within (array t n) h = align_within t h

  largest_within : (f : Forest) → forest_fits f ≡ true → largest_in f ≤ most_align
  largest_within empty h = omega arith
  largest_within (child o t f) h =
      let b = both_true (scalars_fit t) (forest_fits f) h in
      omega (arith, align_within t b.0, largest_within f b.1)

-- ---- lists that aren't refused

pub record Accepted (ts ms : List ℕ) : Type 0 where
  pub some : 0 < entries ts
  pub back : (e : ℕ) → e < entries ts → refers_back e (meaning_at ts ms e) ≡ true
  pub levels : levels_of (wanted ts ms) ≤ most_levels
  pub within : (e : ℕ) → e < entries ts → tree_refusal (type_at ts ms e) ≡ accepted

pub accepted_lists : (ts ms : List ℕ) → types_refusal ts ms ≡ accepted → Accepted ts ms
unfolding types_refusal
accepted_lists ts ms ok =
    let l = else_none (lists_refusal ts ms) _ ok in
    let r = else_none (references_refusal ts ms) _ l.1 in
    let s = sound ts ms r.0 in
    record {
      some = (whole ts ms l.0).some;
      back = s.back;
      levels = s.levels;
      within = λ e lt. let z : 0 + e ≡ e = omega arith in rw z at (each_within ts ms (entries ts) 0 r.1 e lt);
    }

-- of the type wanted: its size, its alignment, and the scalars in it
module _ (ts ms : List ℕ) (ok : types_refusal ts ms ≡ accepted) where
  pub wanted_size : size_of (wanted ts ms) ≤ most_offset
  wanted_size = let a = accepted_lists ts ms ok in size_within (wanted ts ms) (a.within (entries ts - 1) (omega (arith, a.some)))

  pub wanted_fits : scalars_fit (wanted ts ms) ≡ true
  wanted_fits = let a = accepted_lists ts ms ok in scalars_fit_lem ts ms (entries ts) a.back a.within (entries ts - 1) (omega (arith, a.some))
