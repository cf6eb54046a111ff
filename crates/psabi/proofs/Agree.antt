-- The class of each eightbyte that no X87 piece lies in: what the pieces leave there, one after the other, is the psABI's class, since the two
-- merges differ only where an X87 class meets another.
use Prim.Native.Nat.{ℕ, zero, suc, ◌+◌, ◌*◌, ◌%◌, ◌≤◌, ◌<◌}
use mathlib.Core.Path.{◌≡◌, refl, sym, ap, subst, ◌∙◌}
use mathlib.Core.Bool.{Bool, true, false, cond, ◌&&◌, true≢false}
use mathlib.Core.List.{List, [], ◌∷◌, map}
use native.Mathlib.Omega.{arith}
use native.Mathlib.Decide.{dec_le}
use borrow.Author.Tests.{ltb-true, ltb-false, lt-ltb}
use lib.Dec.{eqb, ltb}
use lib.Seq.{ext_get_or}
use lib.ListN.{length, get_or, replicate, get_or-replicate, length-replicate, get_or-map, length-map}
use Rattle.shape.proofs.Bools.{both_true, both_false}
use Rattle.shape.specs.declared.Piece.{Piece}
use Rattle.shape.specs.Lists.{any}
use Rattle.eightbytes.specs.declared.Class as our_class
use Rattle.eightbytes.specs.Class as ours
use Rattle.eightbytes.specs.declared.Class.TheVariants.{None}
use Rattle.eightbytes.specs.Class.{kind_class, later}
use Rattle.eightbytes.specs.Eightbytes.{mark}
use Rattle.eightbytes.specs.Reach.{first_of}
use Rattle.eightbytes.proofs.Marks.{mark_length}
use Rattle.eightbytes.proofs.At.{mark_below, mark_past, mark_first, mark_later, mark_all}
use Rattle.psabi.specs.Psabi.{Class, INTEGER, SSE, SSEUP, X87, X87UP, COMPLEX-X87, NO-CLASS, MEMORY, low_of, high_of, merge, lies_in, field_class, merged_in, classes_from}
use Rattle.psabi.specs.Domain.{is_x87_piece, x87_in}
use Rattle.psabi.proofs.Clauses.{Usual, int1, int2, int4, int8, int16, single4, double8, x87_16, quad16, Each, done, more}

-- the classifier's class for one of the psABI's
unfoldable pub rep : Class → our_class.Class
rep INTEGER = our_class.TheVariants.Integer
rep SSE = our_class.TheVariants.Sse
rep SSEUP = our_class.TheVariants.SseUp
rep X87 = our_class.TheVariants.X87
rep X87UP = our_class.TheVariants.X87
rep COMPLEX-X87 = our_class.TheVariants.X87
rep NO-CLASS = our_class.TheVariants.None
rep MEMORY = our_class.TheVariants.Memory

-- a piece of a small shape at a multiple of its size
pub record Ready (p : Piece) : Type 0 where
  pub usual : Usual p.kind p.size
  pub at_size : p.offset % p.size ≡ 0
  pub small : p.offset + p.size ≤ 16

pub usual_pos : {k s : ℕ} → Usual k s → 0 < s
usual_pos int1 = omega arith
usual_pos int2 = omega arith
usual_pos int4 = omega arith
usual_pos int8 = omega arith
usual_pos int16 = omega arith
usual_pos single4 = omega arith
usual_pos double8 = omega arith
usual_pos x87_16 = omega arith
usual_pos quad16 = omega arith

-- ---- one piece at one eightbyte

lower : {k s : ℕ} → Usual k s → kind_class k ≡ rep (low_of k)
unfolding rep low_of
lower int1 = refl
lower int2 = refl
lower int4 = refl
lower int8 = refl
lower int16 = refl
lower single4 = refl
lower double8 = refl
lower x87_16 = refl
lower quad16 = refl

-- a piece that runs from below an eightbyte into it is wider than eight bytes
upper : {k s : ℕ} → Usual k s → (o n : ℕ) → o % s ≡ 0 → o < 8 * n → 8 * n < o + s → later (kind_class k) ≡ rep (high_of k)
unfolding rep high_of ours.same ours.code
upper int1 o n e a b = refl
upper int2 o n e a b = refl
upper int4 o n e a b = refl
upper int8 o n e a b = refl
upper int16 o n e a b = refl
upper single4 o n e a b = absurd (omega arith)
upper double8 o n e a b = absurd (omega arith)
upper x87_16 o n e a b = refl
upper quad16 o n e a b = refl

module _ (cs : List our_class.Class) (p : Piece) (k : ℕ) (r : Ready p) where
  pos : 0 < p.size
  pos = usual_pos r.usual

  lies_yes : k < length cs → lies_in p k ≡ true → get_or (mark cs p) k None ≡ ours.merge (get_or cs k None) (rep (field_class p k))
  lies_yes l t = go (ltb p.offset (8 * k)) refl
    where
      ab : (ltb p.offset (8 * k + 8) ≡ true) × (ltb (8 * k) (p.offset + p.size) ≡ true)
      ab = both_true (ltb p.offset (8 * k + 8)) (ltb (8 * k) (p.offset + p.size)) t

      a : p.offset < 8 * k + 8
      a = ltb-true _ _ ab.0

      b : 8 * k < p.offset + p.size
      b = ltb-true _ _ ab.1

      go : (u : Bool) → ltb p.offset (8 * k) ≡ u
          → get_or (mark cs p) k None ≡ ours.merge (get_or cs k None) (rep (cond u (high_of p.kind) (low_of p.kind)))
      go true e =
          let c : p.offset < 8 * k = ltb-true _ _ e in
          let s : p.offset + p.size ≤ 16 = r.small in
          mark_later cs p k (omega (arith, pos)) (omega (arith, pos, b)) l ∙ ap (ours.merge (get_or cs k None)) (upper r.usual p.offset k r.at_size c b)
      go false e =
          let c : 8 * k ≤ p.offset = ltb-false _ _ e in
          let s : p.offset + p.size ≤ 16 = r.small in
          let q : first_of p ≡ k = omega (arith, a) in
          let m : get_or (mark cs p) (first_of p) None ≡ ours.merge (get_or cs (first_of p) None) (kind_class p.kind) = mark_first cs p (omega (arith, pos)) (omega (arith, a)) in
          subst (λ n. get_or (mark cs p) n None ≡ ours.merge (get_or cs n None) (kind_class p.kind)) q m ∙ ap (ours.merge (get_or cs k None)) (lower r.usual)

  lies_no : lies_in p k ≡ false → get_or (mark cs p) k None ≡ get_or cs k None
  lies_no t = go (dec_le (p.offset + p.size) (8 * k)) (dec_le (8 * k + 8) p.offset)
    where
      s : p.offset + p.size ≤ 16
      s = r.small

      go : Dec (p.offset + p.size ≤ 8 * k) → Dec (8 * k + 8 ≤ p.offset) → get_or (mark cs p) k None ≡ get_or cs k None
      go x (yes f) = mark_below cs p k (omega (arith, s))
      go (yes e) (no f) = mark_past cs p k (omega (arith, pos)) (omega (arith, pos, s))
      go (no e) (no f) = absurd (true≢false (sym (rw (lt-ltb p.offset (8 * k + 8) (omega arith), lt-ltb (8 * k) (p.offset + p.size) (omega arith)) refl) ∙ t))

-- ---- all pieces at one eightbyte

-- classes that no X87 value has: on them the two merges are one
pub data Plain : Class → Type 0 where
  blank : Plain NO-CLASS
  int : Plain INTEGER
  vec : Plain SSE
  up : Plain SSEUP

same_merge : {a b : Class} → Plain a → Plain b → (ours.merge (rep a) (rep b) ≡ rep (merge a b)) × Plain (merge a b)
unfolding rep merge ours.merge ours.same ours.code
same_merge blank blank = (refl, blank)
same_merge blank int = (refl, int)
same_merge blank vec = (refl, vec)
same_merge blank up = (refl, up)
same_merge int blank = (refl, int)
same_merge int int = (refl, int)
same_merge int vec = (refl, int)
same_merge int up = (refl, int)
same_merge vec blank = (refl, vec)
same_merge vec int = (refl, int)
same_merge vec vec = (refl, vec)
same_merge vec up = (refl, vec)
same_merge up blank = (refl, up)
same_merge up int = (refl, int)
same_merge up vec = (refl, vec)
same_merge up up = (refl, up)

pub cond_in : (P : Class → Type 0) (t : Bool) (a b : Class) → P a → P b → P (cond t a b)
cond_in P true a b x y = x
cond_in P false a b x y = y

plain_half : (k : ℕ) (u : Bool) → eqb k 3 ≡ false → Plain (cond u (high_of k) (low_of k))
unfolding high_of low_of
plain_half k u e =
    rw e (cond_in Plain u _ _ (cond_in Plain (eqb k 0) _ _ int (cond_in Plain (eqb k 4) _ _ up vec)) (cond_in Plain (eqb k 0) _ _ int vec))

pub and-false : (a b : Bool) → a && b ≡ false → b ≡ true → a ≡ false
and-false true b h t = absurd (true≢false (sym t ∙ h))
and-false false b h t = refl

-- no X87 piece lies in it
pub plain_agrees : (ps : List Piece) (cs : List our_class.Class) (c : Class) (k : ℕ) → Each Ready ps → k < length cs → any (λ p. x87_in p k) ps ≡ false → Plain c
    → get_or cs k None ≡ rep c → (get_or (mark_all cs ps) k None ≡ rep (merged_in c ps k)) × Plain (merged_in c ps k)
unfolding mark_all merged_in any
plain_agrees [] cs c k done l x pl e = (e, pl)
plain_agrees (p ∷ ps) cs c k (more r rs) l x pl e = go (λ d. plain_agrees ps (mark cs p) d k rs long (both_false (x87_in p k) _ x).1) (lies_in p k) refl
  where
    long : k < length (mark cs p)
    long = rw (mark_length cs p) l

    b : Class
    b = field_class p k

    go : ((d : Class) → Plain d → get_or (mark cs p) k None ≡ rep d → (get_or (mark_all (mark cs p) ps) k None ≡ rep (merged_in d ps k)) × Plain (merged_in d ps k))
        → (t : Bool) → lies_in p k ≡ t
        → (get_or (mark_all (mark cs p) ps) k None ≡ rep (merged_in (cond t (merge c b) c) ps k)) × Plain (merged_in (cond t (merge c b) c) ps k)
    go ih true t =
        let x' : is_x87_piece p ≡ false = and-false (is_x87_piece p) (lies_in p k) (both_false (x87_in p k) _ x).0 t in
        let m = same_merge pl (plain_half p.kind (ltb p.offset (8 * k)) x') in
        ih (merge c b) m.1 (lies_yes cs p k r l t ∙ ap (λ z. ours.merge z (rep b)) e ∙ m.0)
    go ih false t = ih c pl (lies_no cs p k r t ∙ e)

-- ---- all eightbytes of a shape without an X87 piece

-- no X87 piece: none lies anywhere
nowhere : (ps : List Piece) (k : ℕ) → any is_x87_piece ps ≡ false → any (λ p. x87_in p k) ps ≡ false
unfolding any
nowhere [] k h = refl
nowhere (p ∷ ps) k h = let e : is_x87_piece p ≡ false = (both_false (is_x87_piece p) _ h).0 in rw (e, nowhere ps k (both_false (is_x87_piece p) _ h).1)

classes_at : (ps : List Piece) (k n j : ℕ) → j < n → get_or (classes_from ps k n) j NO-CLASS ≡ merged_in NO-CLASS ps (k + j)
unfolding classes_from
classes_at ps k zero j h = absurd (omega arith)
classes_at ps k (suc n) zero h = let e : k + 0 ≡ k = omega arith in rw e
classes_at ps k (suc n) (suc j) h = let e : k + 1 + j ≡ k + suc j = omega arith in classes_at ps (k + 1) n j (omega arith) ∙ ap (merged_in NO-CLASS ps) e

pub classes_length : (ps : List Piece) (k n : ℕ) → length (classes_from ps k n) ≡ n
unfolding classes_from
classes_length ps k zero = refl
classes_length ps k (suc n) = ap suc (classes_length ps (k + 1) n)

mark_all_length : (cs : List our_class.Class) (ps : List Piece) → length (mark_all cs ps) ≡ length cs
unfolding mark_all
mark_all_length cs [] = refl
mark_all_length cs (p ∷ ps) = mark_all_length (mark cs p) ps ∙ mark_length cs p

module _ (ps : List Piece) (n : ℕ) (rs : Each Ready ps) (x : any is_x87_piece ps ≡ false) where
  at : (k : ℕ) → k < n → (get_or (mark_all (replicate n None) ps) k None ≡ rep (merged_in NO-CLASS ps k)) × Plain (merged_in NO-CLASS ps k)
  unfolding rep
  at k h = plain_agrees ps (replicate n None) NO-CLASS k rs (rw (length-replicate n None) h) (nowhere ps k x) blank (get_or-replicate n k None None h)

  pub plain_at : (k : ℕ) → k < n → Plain (merged_in NO-CLASS ps k)
  plain_at k h = (at k h).1

  pub classes_agree : mark_all (replicate n None) ps ≡ map rep (classes_from ps 0 n)
  unfolding rep
  classes_agree =
      let l : length (mark_all (replicate n None) ps) ≡ n = mark_all_length (replicate n None) ps ∙ length-replicate n None in
      ext_get_or None _ _ (l ∙ sym (length-map (classes_from ps 0 n) rep ∙ classes_length ps 0 n))
      (λ k h.
      let b : k < n = omega arith in
      let e : 0 + k ≡ k = omega arith in
      (at k b).0 ∙ sym (get_or-map rep (classes_from ps 0 n) k NO-CLASS ∙ ap rep (classes_at ps 0 n k b ∙ ap (merged_in NO-CLASS ps) e)))
