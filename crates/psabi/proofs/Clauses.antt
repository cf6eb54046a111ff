-- What the domain's clauses say, as facts: each is read off the test that computes it.
use Prim.Native.Nat.{ℕ, zero, suc, ◌+◌, ◌*◌, ◌%◌, ◌≤◌, ◌<◌}
use mathlib.Core.Path.{◌≡◌, refl, sym, subst₂}
use mathlib.Core.Bool.{Bool, true, false, not, ◌&&◌, ◌||◌, false≢true}
use mathlib.Core.List.{List, [], ◌∷◌}
use native.Mathlib.Omega.{arith}
use native.Mathlib.Decide.{dec_le}
use borrow.Author.Tests.{eqb-true, ltb-true, leb-true, le-leb, not-true}
use lib.Dec.{eqb, leb}
use Rattle.shape.proofs.Bools.{both_true}
use Rattle.shape.specs.declared.Arg.TheVariants.{Aggregate}
use Rattle.shape.specs.declared.Piece.{Piece}
use Rattle.shape.specs.declared.Shape.{Shape}
use Rattle.shape.specs.Lists.{every, any}
use Rattle.shape.specs.Numbers.{integer, single, double, x87_extended, quad, accepted}
use Rattle.shape.specs.Words.{pieces_of}
use Rattle.checks.specs.Check.{extent_refusal}
use Rattle.checks.proofs.Accepted.{else_none, inside_first, inside_shape}
use Rattle.describe.specs.Description.{terms_of}
use Rattle.abis.specs.Abis.{described}
use Rattle.classify.specs.declared.Call.{Call}
use Rattle.classify.specs.Answers.{state_refusal, arg_refusal, checked, refusal_by, row_refusal, refusal_of}
use Rattle.psabi.specs.Psabi.{lies_in, eightbytes_in}
use Rattle.psabi.specs.Domain.{how_many, at_each, is_x87_piece, x87_in, other_in, is_integer_size, is_of_kind, is_inside, Domain}

-- ---- tests

by_or : {P : Type 0} (a b : Bool) → (a ≡ true → P) → (b ≡ true → P) → a || b ≡ true → P
by_or true b f g h = f refl
by_or false b f g h = g h

-- ---- kinds and sizes

pub data Usual : ℕ → ℕ → Type 0 where
  int1 : Usual 0 1
  int2 : Usual 0 2
  int4 : Usual 0 4
  int8 : Usual 0 8
  int16 : Usual 0 16
  single4 : Usual 1 4
  double8 : Usual 2 8
  x87_16 : Usual 3 16
  quad16 : Usual 4 16

module _ (k s : ℕ) where
  both : {a b : ℕ} → Usual a b → eqb k a ≡ true → eqb s b ≡ true → Usual k s
  both {a} {b} u e f = subst₂ Usual (sym (eqb-true k a e)) (sym (eqb-true s b f)) u

  of_integer : eqb k integer ≡ true → is_integer_size s ≡ true → Usual k s
  of_integer e h =
      by_or _ (eqb s 16)
      (by_or _ (eqb s 8) (by_or _ (eqb s 4) (by_or (eqb s 1) (eqb s 2) (both int1 e) (both int2 e)) (both int4 e)) (both int8 e))
      (both int16 e)
      h

  pub usual : is_of_kind k s ≡ true → Usual k s
  usual h =
      by_or _ ((eqb k x87_extended || eqb k quad) && eqb s 16)
      (by_or _ (eqb k double && eqb s 8)
      (by_or (eqb k integer && is_integer_size s) (eqb k single && eqb s 4)
      (λ a. let x = both_true (eqb k integer) (is_integer_size s) a in of_integer x.0 x.1)
      (λ a. let x = both_true (eqb k single) (eqb s 4) a in both single4 x.0 x.1))
      (λ a. let x = both_true (eqb k double) (eqb s 8) a in both double8 x.0 x.1))
      (λ a.
      let x = both_true (eqb k x87_extended || eqb k quad) (eqb s 16) a in
      by_or (eqb k x87_extended) (eqb k quad) (λ e. both x87_16 e x.1) (λ e. both quad16 e x.1) x.0)
      h

-- ---- pieces

pub record Regular (size : ℕ) (p : Piece) : Type 0 where
  pub usual : Usual p.kind p.size
  pub natural : p.align ≡ p.size
  pub inside : p.offset + p.size ≤ size
  pub x87_at : is_x87_piece p ≡ true → p.offset % 16 ≡ 0

pub data Each (P : Piece → Type 0) : List Piece → Type 0 where
  done : Each P []
  more : {p : Piece} {ps : List Piece} → P p → Each P ps → Each P (p ∷ ps)

x87_multiple : (x : Bool) (n : ℕ) → not x || eqb n 0 ≡ true → x ≡ true → n ≡ 0
x87_multiple true n h e = eqb-true n 0 h
x87_multiple false n h e = absurd (false≢true e)

each_regular : (size : ℕ) (ps : List Piece) → every (λ p. leb (p.offset + p.size) size) ps ≡ true → every (λ p. eqb p.align p.size) ps ≡ true
    → every (λ p. is_of_kind p.kind p.size) ps ≡ true → every (λ p. not (is_x87_piece p) || eqb (p.offset % 16) 0) ps ≡ true → Each (Regular size) ps
unfolding every
each_regular size [] i n s a = done
each_regular size (p ∷ ps) i n s a =
    let i' = both_true (leb (p.offset + p.size) size) _ i in
    let n' = both_true (eqb p.align p.size) _ n in
    let s' = both_true (is_of_kind p.kind p.size) _ s in
    let a' = both_true (not (is_x87_piece p) || eqb (p.offset % 16) 0) _ a in
    more
    (record {
      usual = usual p.kind p.size s'.0;
      natural = eqb-true _ _ n'.0;
      inside = leb-true _ _ i'.0;
      x87_at = x87_multiple (is_x87_piece p) _ a'.0;
    })
    (each_regular size ps i'.1 n'.1 s'.1 a'.1)

-- ---- eightbytes

at_each_lem : (n : ℕ) (f : ℕ → Bool) → at_each n f ≡ true → (k : ℕ) → k < n → f k ≡ true
unfolding at_each
at_each_lem zero f h k l = absurd (omega arith)
at_each_lem (suc n) f h k l = go (both_true (f n) (at_each n f) h).0 (at_each_lem n f (both_true (f n) (at_each n f) h).1 k) (dec_le n k)
  where
    go : f n ≡ true → (k < n → f k ≡ true) → Dec (n ≤ k) → f k ≡ true
    go e ih (yes g) = let q : k ≡ n = omega arith in rw q e
    go e ih (no g) = ih (omega arith)

-- ---- the clauses

module _ {shape : Shape} {ps : List Piece} (d : Domain shape ps) where
  pub above_0 : 0 < shape.size
  above_0 = ltb-true _ _ d.positive

  pub regular : Each (Regular shape.size) ps
  regular = each_regular shape.size ps d.inside d.natural d.sized d.aligned

  within : (k : ℕ) → 8 * k < shape.size → k < eightbytes_in shape.size
  within k h = omega arith

  pub touched : (k : ℕ) → 8 * k < shape.size → any (λ p. lies_in p k) ps ≡ true
  touched k h = at_each_lem _ (λ k. any (λ p. lies_in p k) ps) d.touched k (within k h)

  pub apart : (k : ℕ) → 8 * k < shape.size → any (λ p. x87_in p k) ps && any (λ p. other_in p k) ps ≡ false
  apart k h = not-true _ (at_each_lem _ (λ k. not (any (λ p. x87_in p k) ps && any (λ p. other_in p k) ps)) d.apart k (within k h))

  pub at_most_one : how_many is_x87_piece ps ≤ 1
  at_most_one = leb-true _ _ d.lone

-- ---- one clause holds of every aggregate that an operation on a call accepts: BAD_EXTENT refuses all others

each_inside : (size : ℕ) (ps : List Piece) → extent_refusal size ps ≡ accepted → every (λ p. leb (p.offset + p.size) size) ps ≡ true
unfolding every
each_inside size [] e = refl
each_inside size (p ∷ ps) e = let x = inside_first size p ps e in rw (le-leb _ _ x.0, each_inside size ps x.1)

pub accepted_inside : (c : Call) (shape : Shape) (words : List ℕ) → refusal_of c (Aggregate shape) words ≡ accepted → is_inside shape (pieces_of words) ≡ true
unfolding refusal_of refusal_by checked arg_refusal
accepted_inside c shape words e =
    let of_value = (else_none (state_refusal (terms_of (described c.abi)) c) _ (else_none (row_refusal c.abi) _ e).1).1 in
    each_inside shape.size (pieces_of words) (inside_shape shape words of_value)
