-- An X87 piece in a shape of at most 16 bytes is all of that shape: it fills both eightbytes, where no other kind may lie, and there is but one.
use Prim.Native.Nat.{ℕ, suc, ◌+◌, ◌*◌, ◌%◌, ◌≤◌, ◌<◌}
use mathlib.Core.Path.{◌≡◌, refl, sym, ap, ap₂, subst, ◌∙◌}
use mathlib.Core.Bool.{Bool, true, false, cond, not, ◌&&◌, ◌||◌, true≢false, false≢true}
use mathlib.Core.List.{List, [], ◌∷◌}
use native.Mathlib.Omega.{arith}
use native.Mathlib.Decide.{dec_le}
use borrow.Author.Tests.{ltb-true, lt-ltb, eqb-true}
use lib.Dec.{eqb, ltb}
use lib.ListN.{length}
use Rattle.shape.proofs.Bools.{both_true, both_false}
use Rattle.shape.specs.declared.Piece.{Piece}
use Rattle.shape.specs.declared.Shape.{Shape}
use Rattle.shape.specs.Lists.{any}
use Rattle.shape.specs.Words.{piece}
use Rattle.shape.specs.Questions.{all_of, is_all_of}
use Rattle.slots.specs.Search.{nothing}
use Rattle.find.specs.Find.{found_if, floats_at, x87_stack}
use Rattle.psabi.specs.Psabi.{lies_in}
use Rattle.psabi.specs.Domain.{how_many, is_x87_piece, x87_in, other_in, Domain}
use Rattle.psabi.proofs.Clauses.{Usual, int1, int2, int4, int8, int16, single4, double8, x87_16, quad16, Regular, Each, done, more, above_0, regular, touched, apart, at_most_one}
use Rattle.psabi.proofs.Agree.{usual_pos}

x87_size : {k s : ℕ} → Usual k s → eqb k 3 ≡ true → s ≡ 16
x87_size int1 e = absurd (false≢true e)
x87_size int2 e = absurd (false≢true e)
x87_size int4 e = absurd (false≢true e)
x87_size int8 e = absurd (false≢true e)
x87_size int16 e = absurd (false≢true e)
x87_size single4 e = absurd (false≢true e)
x87_size double8 e = absurd (false≢true e)
x87_size x87_16 e = refl
x87_size quad16 e = absurd (false≢true e)

lies : (p : Piece) (k : ℕ) → p.offset < 8 * k + 8 → 8 * k < p.offset + p.size → lies_in p k ≡ true
lies p k a b = ap₂ ◌&&◌ (lt-ltb _ _ a) (lt-ltb _ _ b)

-- one that is there lies in both eightbytes, and the size is 16
in_both : (size : ℕ) (ps : List Piece) → size ≤ 16 → Each (Regular size) ps → any is_x87_piece ps ≡ true
    → (any (λ p. x87_in p 0) ps ≡ true) × (any (λ p. x87_in p 1) ps ≡ true) × (16 ≤ size)
unfolding any
in_both size [] h done x = absurd (false≢true x)
in_both size (p ∷ ps) h (more r rs) x = go (in_both size ps h rs) (is_x87_piece p) refl x
  where
    go : (any is_x87_piece ps ≡ true → (any (λ p. x87_in p 0) ps ≡ true) × (any (λ p. x87_in p 1) ps ≡ true) × (16 ≤ size))
        → (t : Bool) → is_x87_piece p ≡ t → t || any is_x87_piece ps ≡ true
        → ((t && lies_in p 0) || any (λ p. x87_in p 0) ps ≡ true) × ((t && lies_in p 1) || any (λ p. x87_in p 1) ps ≡ true) × (16 ≤ size)
    go ih false q e = ih e
    go ih true q e =
        let s : p.size ≡ 16 = x87_size r.usual q in
        let i : p.offset + p.size ≤ size = r.inside in (
          ap (λ z. z || any (λ p. x87_in p 0) ps) (lies p 0 (omega arith) (omega arith)),
          ap (λ z. z || any (λ p. x87_in p 1) ps) (lies p 1 (omega arith) (omega arith)),
          omega arith,
        )

-- no piece of another kind lies in either: every piece is X87
all_x87 : (size : ℕ) (ps : List Piece) → size ≤ 16 → Each (Regular size) ps → any (λ p. other_in p 0) ps ≡ false → any (λ p. other_in p 1) ps ≡ false
    → how_many is_x87_piece ps ≡ length ps
unfolding any how_many
all_x87 size [] h done a b = refl
all_x87 size (p ∷ ps) h (more r rs) a b =
    go (all_x87 size ps h rs (both_false (other_in p 0) _ a).1 (both_false (other_in p 1) _ b).1)
    (is_x87_piece p) (both_false (other_in p 0) _ a).0 (both_false (other_in p 1) _ b).0 (dec_le 8 p.offset)
  where
    go : how_many is_x87_piece ps ≡ length ps → (x : Bool) → not x && lies_in p 0 ≡ false → not x && lies_in p 1 ≡ false → Dec (8 ≤ p.offset)
        → cond x 1 0 + how_many is_x87_piece ps ≡ suc (length ps)
    go ih true u v w = omega arith
    go ih false u v (yes w) =
        let s = usual_pos r.usual in
        let i : p.offset + p.size ≤ size = r.inside in
        absurd (true≢false (sym (lies p 1 (omega arith) (omega arith)) ∙ v))
    go ih false u v (no w) = let s = usual_pos r.usual in absurd (true≢false (sym (lies p 0 (omega arith) (omega arith)) ∙ u))

pub record Lone (shape : Shape) (ps : List Piece) : Type 0 where
  pub whole : shape.size ≡ 16
  pub only : ps ≡ piece 3 16 16 0 ∷ []

or_end : (t : Bool) → t || false ≡ true → t ≡ true
or_end true h = refl
or_end false h = h

-- one X87 piece and no other: it stands at 0, and the shape ends where it does
lone_piece : (shape : Shape) (p : Piece) → Domain shape (p ∷ []) → is_x87_piece p ≡ true → Lone shape (p ∷ [])
unfolding any
lone_piece shape p d e = go (regular d)
  where
    low : p.offset < 8
    low = ltb-true _ _ (both_true (ltb p.offset 8) (ltb 0 (p.offset + p.size)) (or_end (lies_in p 0) (touched d 0 (above_0 d)))).0

    ends : p.size ≡ 16 → p.offset ≡ 0 → Dec (shape.size ≤ 16) → p.offset + p.size ≤ shape.size → shape.size ≡ 16
    ends s z (yes h) i = omega arith
    ends s z (no h) i =
        let t : 16 < p.offset + p.size = ltb-true _ _ (both_true (ltb p.offset 24) (ltb 16 (p.offset + p.size)) (or_end (lies_in p 2) (touched d 2 (omega arith)))).1 in
        absurd (omega arith)

    go : Each (Regular shape.size) (p ∷ []) → Lone shape (p ∷ [])
    go (more r done) =
        let s : p.size ≡ 16 = x87_size r.usual e in
        let o : p.offset % 16 ≡ 0 = r.x87_at e in
        let z : p.offset ≡ 0 = omega (arith, low) in
        let k : p.kind ≡ 3 = eqb-true _ _ e in
        let a : p.align ≡ 16 = r.natural ∙ s in
        record { whole = ends s z (dec_le shape.size 16) r.inside; only = λ j. piece (k j) (s j) (a j) (z j) ∷ [] }

one_piece : (shape : Shape) (ps : List Piece) → Domain shape ps → shape.size ≤ 16 → any is_x87_piece ps ≡ true → length ps ≤ 1
one_piece shape ps d h x =
    let y = in_both shape.size ps h (regular d) x in
    let z : 16 ≤ shape.size = y.2 in
    let a : any (λ p. other_in p 0) ps ≡ false = subst (λ z. z && any (λ p. other_in p 0) ps ≡ false) y.0 (apart d 0 (omega arith)) in
    let b : any (λ p. other_in p 1) ps ≡ false = subst (λ z. z && any (λ p. other_in p 1) ps ≡ false) y.1 (apart d 1 (omega arith)) in
    let c : how_many is_x87_piece ps ≡ length ps = all_x87 shape.size ps h (regular d) a b in
    let m : how_many is_x87_piece ps ≤ 1 = at_most_one d in
    omega arith

lone : (shape : Shape) (ps : List Piece) → Domain shape ps → shape.size ≤ 16 → any is_x87_piece ps ≡ true → Lone shape ps
unfolding any
lone shape [] d h x = absurd (false≢true x)
lone shape (p ∷ []) d h x = lone_piece shape p d (or_end (is_x87_piece p) x)
lone shape (p ∷ q ∷ ps) d h x = let l : length (p ∷ q ∷ ps) ≤ 1 = one_piece shape (p ∷ q ∷ ps) d h x in absurd (omega arith)

-- a shape of the domain is an X87 value, or a small one has no X87 piece
pub data Kinds (shape : Shape) (ps : List Piece) : Type 0 where
  x87_value : Lone shape ps → Kinds shape ps
  no_x87 : (shape.size ≤ 16 → any is_x87_piece ps ≡ false) → Kinds shape ps

pub kinds : (shape : Shape) (ps : List Piece) → Domain shape ps → Kinds shape ps
kinds shape ps d = go (dec_le shape.size 16) (any is_x87_piece ps) refl
  where
    go : Dec (shape.size ≤ 16) → (x : Bool) → any is_x87_piece ps ≡ x → Kinds shape ps
    go (yes h) true x = x87_value (lone shape ps d h x)
    go (yes h) false x = no_x87 (λ _. x)
    go (no h) b x = no_x87 (λ g. absurd (omega arith))

-- and then it is nothing for the x87 stack
not_two : (p q : Piece) (ps : List Piece) → how_many is_x87_piece (p ∷ q ∷ ps) ≤ 1 → all_of 3 (p ∷ q ∷ ps) ≡ false
unfolding how_many all_of
not_two p q ps h = go (is_x87_piece p) (is_x87_piece q) h
  where
    go : (x y : Bool) → cond x 1 0 + (cond y 1 0 + how_many is_x87_piece ps) ≤ 1 → x && (y && all_of 3 ps) ≡ false
    go true true g = absurd (omega arith)
    go true false g = refl
    go false y g = refl

pub no_stack : (shape : Shape) (ps : List Piece) → Domain shape ps → (shape.size ≤ 16 → any is_x87_piece ps ≡ false) → x87_stack shape ps ≡ nothing
unfolding x87_stack is_all_of all_of found_if any
no_stack shape [] d n = refl
no_stack shape (p ∷ q ∷ ps) d n = rw (not_two p q ps (at_most_one d))
no_stack shape (p ∷ []) d n = go (is_x87_piece p) refl
  where
    go : (x : Bool) → is_x87_piece p ≡ x → found_if ((x && true) && true) (floats_at 3 (p ∷ [])) ≡ nothing
    go false x = refl
    go true x =
        let w : shape.size ≡ 16 = (lone_piece shape p d x).whole in
        absurd (true≢false (sym x ∙ (both_false (is_x87_piece p) false (n (omega arith))).0))
