-- The tests of the two sides agree: alignment, that more than two eightbytes are MEMORY (no piece of the domain reaches past two, so clean-up (c)
-- applies), and that a touched eightbyte has a class.
use Prim.Native.Nat.{ℕ, suc, ◌+◌, ◌-◌, ◌*◌, ◌%◌, ◌≤◌, ◌<◌}
use mathlib.Core.Path.{◌≡◌, refl, sym, ap₂, subst, ◌∙◌}
use mathlib.Core.Bool.{Bool, true, false, cond, not, ◌&&◌, ◌||◌, and-true as and_end, or-true, false≢true}
use mathlib.Core.List.{List, [], ◌∷◌}
use mathlib.Core.Option.{Option}
use mathlib.Core.Option.Option.{none}
use native.Mathlib.Omega.{arith}
use borrow.Author.Tests.{ltb-true, lt-ltb, le-ltb, eqb-true, eq-eqb, not-false}
use lib.Dec.{eqb, leb, ltb}
use lib.ListN.{length}
use Rattle.shape.proofs.Bools.{both_true, both_false, second_fails}
use Rattle.shape.specs.declared.Piece.{Piece}
use Rattle.shape.specs.Lists.{any}
use Rattle.shape.specs.Numbers.{integer, x87_extended, quad}
use Rattle.eightbytes.specs.Reach.{last_of, aligned, fits}
use Rattle.eightbytes.proofs.At.{all_fit}
use Rattle.psabi.specs.Psabi.{Class, INTEGER, SSE, SSEUP, X87, X87UP, COMPLEX-X87, NO-CLASS, MEMORY, is, either, is_x87, low_of, high_of, merge, lies_in, field_class, merged_in, classes_from, any_unaligned, all_up, is_one_vector, any_memory, lone_x87_up, cleaned, eightbytes_in, classified}
use Rattle.psabi.proofs.Clauses.{Usual, int1, int2, int4, int8, int16, single4, double8, x87_16, quad16, Regular, Each, done, more}
use Rattle.psabi.proofs.Agree.{Ready, usual_pos, cond_in, classes_length}

-- ---- alignment

-- an alignment of 1 asks nothing
one_test : {k s : ℕ} → Usual k s → (o : ℕ) → leb s 1 || eqb (o % s) 0 ≡ eqb (o % s) 0
one_test int1 o = let e : o % 1 ≡ 0 = omega arith in sym (eq-eqb _ _ e)
one_test int2 o = refl
one_test int4 o = refl
one_test int8 o = refl
one_test int16 o = refl
one_test single4 o = refl
one_test double8 o = refl
one_test x87_16 o = refl
one_test quad16 o = refl

fit_one : (size : ℕ) (p : Piece) → size ≤ 16 → Regular size p → fits (eightbytes_in size) p ≡ eqb (p.offset % p.align) 0
unfolding fits
fit_one size p h r =
    let s : 0 < p.size = usual_pos r.usual in
    let i : p.offset + p.size ≤ size = r.inside in
    let l : last_of p < eightbytes_in size = omega arith in
    let a : aligned p ≡ eqb (p.offset % p.align) 0 =
    subst (λ z. leb z 1 || eqb (p.offset % z) 0 ≡ eqb (p.offset % z) 0) (sym r.natural) (one_test r.usual p.offset) in
    ap₂ ◌&&◌ a (lt-ltb _ _ l) ∙ and_end _

and_not : (a b : Bool) → a && not b ≡ not (not a || b)
and_not true b = refl
and_not false b = refl

pub all_fit_lem : (size : ℕ) (ps : List Piece) → size ≤ 16 → Each (Regular size) ps → all_fit (eightbytes_in size) ps ≡ not (any_unaligned ps)
unfolding all_fit any_unaligned
all_fit_lem size [] h done = refl
all_fit_lem size (p ∷ ps) h (more r rs) = ap₂ ◌&&◌ (fit_one size p h r) (all_fit_lem size ps h rs) ∙ and_not (eqb (p.offset % p.align) 0) (any_unaligned ps)

-- an aligned piece stands at a multiple of its size
at_multiple : (size : ℕ) (p : Piece) (u : Bool) → Regular size p → not (eqb (p.offset % p.align) 0) || u ≡ false → p.offset % p.size ≡ 0
at_multiple size p u r h =
    let e : p.offset % p.align ≡ 0 = eqb-true _ _ (not-false _ (both_false (not (eqb (p.offset % p.align) 0)) u h).0) in
    subst (λ z. p.offset % z ≡ 0) r.natural e

pub ready : (size : ℕ) (ps : List Piece) → size ≤ 16 → Each (Regular size) ps → any_unaligned ps ≡ false → Each Ready ps
unfolding any_unaligned
ready size [] h done u = done
ready size (p ∷ ps) h (more r rs) u =
    let i : p.offset + p.size ≤ size = r.inside in
    more (record { usual = r.usual; at_size = at_multiple size p (any_unaligned ps) r u; small = omega arith })
    (ready size ps h rs (both_false (not (eqb (p.offset % p.align) 0)) _ u).1)

pub unaligned : (size : ℕ) (ps : List Piece) → any_unaligned ps ≡ true → classified size ps ≡ none
unfolding classified
unaligned size ps u = rw (u, or-true (ltb 64 size))

pub small : (size : ℕ) (ps : List Piece) → size ≤ 16 → any_unaligned ps ≡ false → classified size ps ≡ cleaned (classes_from ps 0 (eightbytes_in size))
unfolding classified
small size ps h u = rw (u, le-ltb 64 size (omega arith))

-- ---- what holds of two classes, of MEMORY, INTEGER and SSE, holds of their merge; and what holds of the basic types' classes, of a field's

merge_in : (P : Class → Type 0) (a b : Class) → P a → P b → P MEMORY → P INTEGER → P SSE → P (merge a b)
unfolding merge
merge_in P a b x y m i s =
    cond_in P (is a b) _ _ x
    (cond_in P (is NO-CLASS a) _ _ y
    (cond_in P (is NO-CLASS b) _ _ x
    (cond_in P (either MEMORY a b) _ _ m
    (cond_in P (either INTEGER a b) _ _ i
    (cond_in P (is_x87 a || is_x87 b) _ _ m s)))))

low_in : (P : Class → Type 0) (k : ℕ) → P INTEGER → P X87 → P SSE → P (low_of k)
unfolding low_of
low_in P k i x s = cond_in P (eqb k integer) _ _ i (cond_in P (eqb k x87_extended) _ _ x s)

high_in : (P : Class → Type 0) (k : ℕ) → P INTEGER → P X87UP → P SSEUP → P SSE → P (high_of k)
unfolding high_of
high_in P k i x u s = cond_in P (eqb k integer) _ _ i (cond_in P (eqb k x87_extended) _ _ x (cond_in P (eqb k quad) _ _ u s))

-- ---- more than two eightbytes: the third is never SSEUP

-- an aligned Quad has no high eightbyte there
third : {k s : ℕ} → Usual k s → (o : ℕ) → o % s ≡ 0 → o < 16 → 16 < o + s → is SSEUP (high_of k) ≡ false
unfolding high_of
third int1 o e a b = refl
third int2 o e a b = refl
third int4 o e a b = refl
third int8 o e a b = refl
third int16 o e a b = refl
third single4 o e a b = refl
third double8 o e a b = refl
third x87_16 o e a b = refl
third quad16 o e a b = absurd (omega arith)

third_half : (p : Piece) → Usual p.kind p.size → p.offset % p.size ≡ 0 → lies_in p 2 ≡ true → is SSEUP (field_class p 2) ≡ false
third_half p r e t = go (ltb p.offset 16) refl
  where
    b : 16 < p.offset + p.size
    b = ltb-true _ _ (both_true (ltb p.offset 24) (ltb 16 (p.offset + p.size)) t).1

    go : (u : Bool) → ltb p.offset 16 ≡ u → is SSEUP (cond u (high_of p.kind) (low_of p.kind)) ≡ false
    go true h = third r p.offset e (ltb-true _ _ h) b
    go false h = low_in (λ z. is SSEUP z ≡ false) p.kind refl refl refl

no_up : (size : ℕ) (ps : List Piece) (c : Class) → Each (Regular size) ps → any_unaligned ps ≡ false → is SSEUP c ≡ false → is SSEUP (merged_in c ps 2) ≡ false
unfolding merged_in any_unaligned
no_up size [] c done u h = h
no_up size (p ∷ ps) c (more r rs) u h = go (λ d. no_up size ps d rs (both_false (not (eqb (p.offset % p.align) 0)) _ u).1) (lies_in p 2) refl
  where
    b : Class
    b = field_class p 2

    go : ((d : Class) → is SSEUP d ≡ false → is SSEUP (merged_in d ps 2) ≡ false) → (t : Bool) → lies_in p 2 ≡ t
        → is SSEUP (merged_in (cond t (merge c b) c) ps 2) ≡ false
    go ih false t = ih c h
    go ih true t =
        let x : is SSEUP b ≡ false = third_half p r.usual (at_multiple size p (any_unaligned ps) r u) t in
        ih (merge c b) (merge_in (λ z. is SSEUP z ≡ false) c b h x refl refl refl)

no_vector : (ps : List Piece) (n : ℕ) → is SSEUP (merged_in NO-CLASS ps 2) ≡ false → is_one_vector (classes_from ps 0 (suc (suc (suc n)))) ≡ false
unfolding classes_from is_one_vector all_up
no_vector ps n h = rw h (second_fails (is SSE (merged_in NO-CLASS ps 0)) _ (second_fails (is SSEUP (merged_in NO-CLASS ps 1)) false refl))

all_none : (a b : Bool) (o : Option (List Class)) → o ≡ none → cond a none (cond b none o) ≡ none
all_none true b o e = refl
all_none false true o e = refl
all_none false false o e = e

clean_large : (cs : List Class) → 2 < length cs → is_one_vector cs ≡ false → cleaned cs ≡ none
unfolding cleaned
clean_large cs l v = all_none (any_memory cs) (lone_x87_up NO-CLASS cs) _ (rw (lt-ltb 2 (length cs) l, v))

pub large : (size : ℕ) (ps : List Piece) → 16 < size → Each (Regular size) ps → classified size ps ≡ none
unfolding classified
large size ps h rs = go (ltb 64 size) (any_unaligned ps) refl
  where
    cs : List Class
    cs = classes_from ps 0 (eightbytes_in size)

    go : (t u : Bool) → any_unaligned ps ≡ u → cond (t || u) none (cleaned cs) ≡ none
    go true u e = refl
    go false true e = refl
    go false false e =
        let n : eightbytes_in size ≡ suc (suc (suc (eightbytes_in size - 3))) = omega arith in
        let v : is_one_vector cs ≡ false =
        subst (λ z. is_one_vector (classes_from ps 0 z) ≡ false) (sym n) (no_vector ps (eightbytes_in size - 3) (no_up size ps NO-CLASS rs e refl)) in
        clean_large cs (omega (arith, classes_length ps 0 (eightbytes_in size))) v

-- ---- a touched eightbyte has a class

abbrev Named : Class → Type 0
Named c = is NO-CLASS c ≡ false

field_class_lem : (p : Piece) (k : ℕ) → Named (field_class p k)
field_class_lem p k = cond_in Named (ltb p.offset (8 * k)) _ _ (high_in Named p.kind refl refl refl refl) (low_in Named p.kind refl refl refl)

merge_first : (b : Class) → merge NO-CLASS b ≡ b
unfolding merge
merge_first INTEGER = refl
merge_first SSE = refl
merge_first SSEUP = refl
merge_first X87 = refl
merge_first X87UP = refl
merge_first COMPLEX-X87 = refl
merge_first NO-CLASS = refl
merge_first MEMORY = refl

merge_class : (a b : Class) → Named b → Named (merge a b)
merge_class NO-CLASS b h = rw (merge_first b) h
merge_class INTEGER b h = merge_in Named INTEGER b refl h refl refl refl
merge_class SSE b h = merge_in Named SSE b refl h refl refl refl
merge_class SSEUP b h = merge_in Named SSEUP b refl h refl refl refl
merge_class X87 b h = merge_in Named X87 b refl h refl refl refl
merge_class X87UP b h = merge_in Named X87UP b refl h refl refl refl
merge_class COMPLEX-X87 b h = merge_in Named COMPLEX-X87 b refl h refl refl refl
merge_class MEMORY b h = merge_in Named MEMORY b refl h refl refl refl

keeps_class : (ps : List Piece) (c : Class) (k : ℕ) → Named c → Named (merged_in c ps k)
unfolding merged_in
keeps_class [] c k h = h
keeps_class (p ∷ ps) c k h = keeps_class ps _ k (cond_in Named (lies_in p k) _ _ (merge_class c (field_class p k) (field_class_lem p k)) h)

pub has_class : (ps : List Piece) (c : Class) (k : ℕ) → any (λ p. lies_in p k) ps ≡ true → Named (merged_in c ps k)
unfolding merged_in any
has_class [] c k h = absurd (false≢true h)
has_class (p ∷ ps) c k h = go (has_class ps c k) (lies_in p k) h
  where
    b : Class
    b = field_class p k

    go : (any (λ p. lies_in p k) ps ≡ true → Named (merged_in c ps k)) → (t : Bool) → t || any (λ p. lies_in p k) ps ≡ true
        → Named (merged_in (cond t (merge c b) c) ps k)
    go ih true e = keeps_class ps (merge c b) k (merge_class c b (field_class_lem p k))
    go ih false e = ih e
