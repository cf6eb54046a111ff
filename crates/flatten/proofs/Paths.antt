-- The leaf paths: a path is among them exactly when it ends at a scalar, and none stands there twice.
use Prim.Native.Nat.{ℕ, zero, suc, ◌+◌, ◌≤◌, ◌<◌}
use mathlib.Core.Path.{◌≡◌, refl, sym, ◌∙◌}
use mathlib.Core.Bool.{Bool, true, false, ◌&&◌}
use mathlib.Core.List.{List, [], ◌∷◌, ◌++◌, Memᴰ}
use mathlib.Core.Logic.{⊎_elim}
use native.Mathlib.Nat.{zero-add}
use native.Mathlib.Omega.{arith}
use borrow.Author.Tests.{eq-eqb, ne_eqb, eqb-true, lt-ltb, le-ltb}
use lib.Dec.{eqb, ltb}
use lib.ListN.{length, get_or}
use Rattle.shape.specs.Numbers.{one_if}
use Rattle.shape.proofs.Bools.{both_true}
use Rattle.types.specs.Tree.{Tree, Forest, leaf, group, array, empty, child}
use Rattle.shape.proofs.Rounding.{at_most}
use Rattle.flatten.specs.Leaves.{ends_at_scalar, child_ends, under, element_paths, leaf_paths, forest_paths}

unfoldable same_path : List ℕ → List ℕ → Bool
same_path [] [] = true
same_path [] (j ∷ q) = false
same_path (i ∷ p) [] = false
same_path (i ∷ p) (j ∷ q) = eqb i j && same_path p q

-- how often a path stands in a list
unfoldable how_often : List ℕ → List (List ℕ) → ℕ
how_often p [] = 0
how_often p (q ∷ qs) = one_if (same_path p q) + how_often p qs

often_append : (p : List ℕ) (ps qs : List (List ℕ)) → how_often p (ps ++ qs) ≡ how_often p ps + how_often p qs
unfolding how_often
often_append p [] qs = sym (zero-add _)
often_append p (q ∷ ps) qs = let h : how_often p (ps ++ qs) ≡ how_often p ps + how_often p qs = often_append p ps qs in omega arith

under_none : (i : ℕ) (ps : List (List ℕ)) → how_often [] (under i ps) ≡ 0
unfolding how_often same_path
under_none i [] = refl
under_none i (p ∷ ps) = let h : how_often [] (under i ps) ≡ 0 = under_none i ps in omega arith

under_same : (i j : ℕ) → eqb i j ≡ true → (p : List ℕ) (ps : List (List ℕ)) → how_often (i ∷ p) (under j ps) ≡ how_often p ps
unfolding how_often same_path
under_same i j e p [] = refl
under_same i j e p (q ∷ ps) = let h : how_often (i ∷ p) (under j ps) ≡ how_often p ps = under_same i j e p ps in rw e (omega arith)

under_other : (i j : ℕ) → eqb i j ≡ false → (p : List ℕ) (ps : List (List ℕ)) → how_often (i ∷ p) (under j ps) ≡ 0
unfolding how_often same_path
under_other i j e p [] = refl
under_other i j e p (q ∷ ps) = let h : how_often (i ∷ p) (under j ps) ≡ 0 = under_other i j e p ps in rw e (omega arith)

-- a first child numbered j, and others from the next number on: where a path stands among their paths
module _ (j : ℕ) (ps qs : List (List ℕ)) where
  first_none : how_often [] qs ≡ 0 → how_often [] (under j ps ++ qs) ≡ 0
  first_none h = often_append [] (under j ps) qs ∙ rw (under_none j ps, h)

  first_below : (i : ℕ) (p : List ℕ) → i < j → how_often (i ∷ p) qs ≡ 0 → how_often (i ∷ p) (under j ps ++ qs) ≡ 0
  first_below i p lt h = often_append (i ∷ p) (under j ps) qs ∙ rw (under_other i j (ne_eqb i j (λ (e : i ≡ j). omega arith)) p ps, h)

  first_here : (p : List ℕ) → how_often (j ∷ p) qs ≡ 0 → how_often (j ∷ p) (under j ps ++ qs) ≡ how_often p ps
  first_here p h = often_append (j ∷ p) (under j ps) qs ∙ rw (under_same j j (eq-eqb j j refl) p ps, h) (omega arith)

  first_later : (i : ℕ) (p : List ℕ) → j < i → how_often (i ∷ p) (under j ps ++ qs) ≡ how_often (i ∷ p) qs
  first_later i p lt = often_append (i ∷ p) (under j ps) qs ∙ rw (under_other i j (ne_eqb i j (λ (e : i ≡ j). omega arith)) p ps) (zero-add _)

-- no path of children that are numbered from j on is empty, or starts below j
forest_none : (f : Forest) (j : ℕ) → how_often [] (forest_paths f j) ≡ 0
unfolding leaf_paths how_often
forest_none empty j = refl
forest_none (child o t f) j = first_none j (leaf_paths t) (forest_paths f (suc j)) (forest_none f (suc j))

forest_below : (f : Forest) (j i : ℕ) (p : List ℕ) → i < j → how_often (i ∷ p) (forest_paths f j) ≡ 0
unfolding leaf_paths how_often
forest_below empty j i p lt = refl
forest_below (child o t f) j i p lt = first_below j (leaf_paths t) (forest_paths f (suc j)) i p lt (forest_below f (suc j) i p (omega arith))

elements_none : (ps : List (List ℕ)) (n j : ℕ) → how_often [] (element_paths ps j n) ≡ 0
unfolding element_paths how_often
elements_none ps zero j = refl
elements_none ps (suc n) j = first_none j ps (element_paths ps (suc j) n) (elements_none ps n (suc j))

elements_below : (ps : List (List ℕ)) (n j i : ℕ) (p : List ℕ) → i < j → how_often (i ∷ p) (element_paths ps j n) ≡ 0
unfolding element_paths how_often
elements_below ps zero j i p lt = refl
elements_below ps (suc n) j i p lt = first_below j ps (element_paths ps (suc j) n) i p lt (elements_below ps n (suc j) i p (omega arith))

ltb_suc : (i n : ℕ) → ltb (suc i) (suc n) ≡ ltb i n
ltb_suc i n = ⊎_elim
    (λ (h : n ≤ i). le-ltb (suc i) (suc n) (omega arith) ∙ sym (le-ltb i n h))
    (λ (h : i < n). lt-ltb (suc i) (suc n) (omega arith) ∙ sym (lt-ltb i n h))
    (at_most n i)

-- element j + i of n is there where i is below n
elements_once : (ps : List (List ℕ)) (p : List ℕ) (b : Bool) → how_often p ps ≡ one_if b → (n j i : ℕ) → how_often ((j + i) ∷ p) (element_paths ps j n) ≡ one_if (ltb i n && b)
unfolding element_paths how_often
elements_once ps p b h zero j i = rw (le-ltb i 0 (omega arith))
elements_once ps p b h (suc n) j zero =
    let e : j + 0 ≡ j = omega arith in
    rw (e, lt-ltb 0 (suc n) (omega arith)) (first_here j ps (element_paths ps (suc j) n) p (elements_below ps n (suc j) j p (omega arith)) ∙ h)
elements_once ps p b h (suc n) j (suc i) =
    let e : j + suc i ≡ suc j + i = omega arith in
    rw (ltb_suc i n) (first_later j ps (element_paths ps (suc j) n) (j + suc i) p (omega arith) ∙ rw e (elements_once ps p b h n (suc j) i))

-- a path stands once among the leaf paths if it ends at a scalar, and else never
mutual
  unfolding leaf_paths how_often same_path ends_at_scalar

  once : (t : Tree) (p : List ℕ) → how_often p (leaf_paths t) ≡ one_if (ends_at_scalar t p)
  once (leaf s) [] = refl
  once (leaf s) (i ∷ p) = refl
  once (group f) [] = forest_none f 0
  once (group f) (i ∷ p) = rw zero-add at (once_child f 0 i p)
  once (array t n) [] = elements_none (leaf_paths t) n 0
  once (array t n) (i ∷ p) = rw zero-add at (elements_once (leaf_paths t) p (ends_at_scalar t p) (once t p) n 0 i)

  once_child : (f : Forest) (j i : ℕ) (p : List ℕ) → how_often ((j + i) ∷ p) (forest_paths f j) ≡ one_if (child_ends f i p)
  once_child empty j i p = refl
  once_child (child o t f) j zero p =
      let e : j + 0 ≡ j = omega arith in
      rw e (first_here j (leaf_paths t) (forest_paths f (suc j)) p (forest_below f (suc j) j p (omega arith)) ∙ once t p)
  once_child (child o t f) j (suc i) p =
      let e : j + suc i ≡ suc j + i = omega arith in
      first_later j (leaf_paths t) (forest_paths f (suc j)) (j + suc i) p (omega arith) ∙ rw e (once_child f (suc j) i p)

-- ---- in plain words

path_self : (p : List ℕ) → same_path p p ≡ true
unfolding same_path
path_self [] = refl
path_self (i ∷ p) = rw (eq-eqb i i refl) (path_self p)

path_same : (p q : List ℕ) → same_path p q ≡ true → p ≡ q
unfolding same_path
path_same [] [] h = refl
path_same [] (j ∷ q) h = cc
path_same (i ∷ p) [] h = cc
path_same (i ∷ p) (j ∷ q) h =
    let s = both_true (eqb i j) (same_path p q) h in
    let e : i ≡ j = eqb-true i j s.0 in
    let r : p ≡ q = path_same p q s.1 in
    cc

often_found : (p : List ℕ) (ps : List (List ℕ)) → 1 ≤ how_often p ps → Memᴰ p ps
unfolding how_often
often_found p [] h = absurd (omega arith)
often_found p (q ∷ ps) h = here (same_path p q) refl (λ (r : 1 ≤ how_often p ps). often_found p ps r)
  where
    here : (b : Bool) → same_path p q ≡ b → (1 ≤ how_often p ps → Memᴰ p ps) → Memᴰ p (q ∷ ps)
    here true e rest = Memᴰ.head (path_same p q e)
    here false e rest = Memᴰ.tail (rest (let r : 1 ≤ one_if false + how_often p ps = rw e at h in omega arith))

often_listed : (p : List ℕ) (ps : List (List ℕ)) → Memᴰ p ps → 1 ≤ how_often p ps
unfolding how_often
often_listed p [] x' = elim x' [ ]
often_listed p (q ∷ ps) (Memᴰ.head e) = rw (e, path_self q) (omega arith)
often_listed p (q ∷ ps) (Memᴰ.tail m) = let h : 1 ≤ how_often p ps = often_listed p ps m in omega arith

pub leaf_listed : (t : Tree) (p : List ℕ) → ends_at_scalar t p ≡ true → Memᴰ p (leaf_paths t)
leaf_listed t p h = often_found p (leaf_paths t) (rw (once t p, h) (omega arith))

pub listed_leaf : (t : Tree) (p : List ℕ) → Memᴰ p (leaf_paths t) → ends_at_scalar t p ≡ true
listed_leaf t p m = of_one (ends_at_scalar t p) (rw once at (often_listed p (leaf_paths t) m))
  where
    of_one : (b : Bool) → 1 ≤ one_if b → b ≡ true
    of_one true h = refl
    of_one false h = absurd (omega arith)

often_at : (ps : List (List ℕ)) (j : ℕ) → j < length ps → 1 ≤ how_often (get_or ps j []) ps
unfolding how_often
often_at [] j h = absurd (omega arith)
often_at (p ∷ ps) zero h = rw (path_self p) (omega arith)
often_at (p ∷ ps) (suc j) h = let r : 1 ≤ how_often (get_or ps j []) ps = often_at ps j (omega arith) in omega arith

often_twice : (ps : List (List ℕ)) (i j : ℕ) → i < j → j < length ps → get_or ps i [] ≡ get_or ps j [] → 2 ≤ how_often (get_or ps j []) ps
unfolding how_often
often_twice [] i j lt h e = absurd (omega arith)
often_twice (p ∷ ps) i zero lt h e = absurd (omega arith)
often_twice (p ∷ ps) zero (suc j) lt h e =
    let r : 1 ≤ how_often (get_or ps j []) ps = often_at ps j (omega arith) in
    let s : same_path (get_or ps j []) p ≡ true = rw e (path_self (get_or ps j [])) in
    rw s (omega arith)
often_twice (p ∷ ps) (suc i) (suc j) lt h e =
    let r : 2 ≤ how_often (get_or ps j []) ps = often_twice ps i j (omega arith) (omega arith) e in
    omega arith

one_at_most : (b : Bool) → one_if b ≤ 1
one_at_most true = omega arith
one_at_most false = omega arith

pub never_twice : (t : Tree) (i j : ℕ) → i < j → j < length (leaf_paths t) → get_or (leaf_paths t) i [] ≡ get_or (leaf_paths t) j [] → ⊥
never_twice t i j lt h e =
    omega (arith, often_twice (leaf_paths t) i j lt h e, once t (get_or (leaf_paths t) j []), one_at_most (ends_at_scalar t (get_or (leaf_paths t) j [])))
