-- The scalars that a list can have: nine, each with its own size and aligned to it.
use Prim.Native.Nat.{ℕ, ◌≤◌}
use mathlib.Core.Path.{◌≡◌, refl}
use mathlib.Core.Bool.{Bool, true, false, ◌||◌, not, cond, false≢true}
use native.Mathlib.Omega.{arith}
use borrow.Author.Tests.{ltb-false, eqb-true, eqb-false, not-false}
use lib.Dec.{ltb, eqb}
use Rattle.shape.specs.declared.Scalar.{Scalar}
use Rattle.shape.specs.Numbers.{integer, single, double, x87_extended, quad, accepted, most_size, most_align}
use Rattle.shape.specs.Words.{scalar}
use Rattle.shape.proofs.Bools.{both_false}
use Rattle.checks.proofs.Accepted.{refuse_none}
use Rattle.varargs.specs.Lists.{is_own_size, unnamed_refusal}

pub data Listed : Scalar → Type 0 where
  integer_1 : Listed (scalar integer 1 1)
  integer_2 : Listed (scalar integer 2 2)
  integer_4 : Listed (scalar integer 4 4)
  integer_8 : Listed (scalar integer 8 8)
  integer_16 : Listed (scalar integer 16 16)
  a_single : Listed (scalar single 4 4)
  a_double : Listed (scalar double 8 8)
  an_x87 : Listed (scalar x87_extended 16 16)
  a_quad : Listed (scalar quad 16 16)

-- ---- its size and its alignment

pub sized : (s : Scalar) → Listed s → (1 ≤ s.size) × (s.size ≤ 16)
sized s integer_1 = (omega arith, omega arith)
sized s integer_2 = (omega arith, omega arith)
sized s integer_4 = (omega arith, omega arith)
sized s integer_8 = (omega arith, omega arith)
sized s integer_16 = (omega arith, omega arith)
sized s a_single = (omega arith, omega arith)
sized s a_double = (omega arith, omega arith)
sized s an_x87 = (omega arith, omega arith)
sized s a_quad = (omega arith, omega arith)

-- ---- one that is accepted is one of them

-- an integer, by its size
integers : (z : ℕ) (b1 b2 b4 b8 b16 : Bool) → eqb z 1 ≡ b1 → eqb z 2 ≡ b2 → eqb z 4 ≡ b4 → eqb z 8 ≡ b8 → eqb z 16 ≡ b16
    → ((((b1 || b2) || b4) || b8) || b16) ≡ true → Listed (scalar integer z z)
integers z true b2 b4 b8 b16 e1 e2 e4 e8 e16 h = rw (eqb-true z 1 e1) integer_1
integers z false true b4 b8 b16 e1 e2 e4 e8 e16 h = rw (eqb-true z 2 e2) integer_2
integers z false false true b8 b16 e1 e2 e4 e8 e16 h = rw (eqb-true z 4 e4) integer_4
integers z false false false true b16 e1 e2 e4 e8 e16 h = rw (eqb-true z 8 e8) integer_8
integers z false false false false true e1 e2 e4 e8 e16 h = rw (eqb-true z 16 e16) integer_16
integers z false false false false false e1 e2 e4 e8 e16 h = absurd (false≢true h)

-- a scalar, by its kind
kinds : (k z : ℕ) (b0 b1 b2 b3 : Bool) → eqb k integer ≡ b0 → eqb k single ≡ b1 → eqb k double ≡ b2 → eqb k x87_extended ≡ b3 → k ≤ quad
    → cond b0 ((((eqb z 1 || eqb z 2) || eqb z 4) || eqb z 8) || eqb z 16) (cond b1 (eqb z 4) (cond b2 (eqb z 8) (eqb z 16))) ≡ true → Listed (scalar k z z)
kinds k z true b1 b2 b3 e0 e1 e2 e3 l h = rw (eqb-true k integer e0) (integers z _ _ _ _ _ refl refl refl refl refl h)
kinds k z false true b2 b3 e0 e1 e2 e3 l h = rw (eqb-true k single e1, eqb-true z 4 h) a_single
kinds k z false false true b3 e0 e1 e2 e3 l h = rw (eqb-true k double e2, eqb-true z 8 h) a_double
kinds k z false false false true e0 e1 e2 e3 l h = rw (eqb-true k x87_extended e3, eqb-true z 16 h) an_x87
kinds k z false false false false e0 e1 e2 e3 l h =
    let q : k ≡ quad = omega (arith, eqb-false k integer e0, eqb-false k single e1, eqb-false k double e2, eqb-false k x87_extended e3) in
    rw (q, eqb-true z 16 h) a_quad

pub own_listed : (k z : ℕ) → k ≤ quad → is_own_size k z ≡ true → Listed (scalar k z z)
unfolding is_own_size
own_listed k z l h = kinds k z _ _ _ _ refl refl refl refl l h

pub listed : (s : Scalar) → unnamed_refusal s ≡ accepted → Listed s
unfolding unnamed_refusal
listed s e =
    let k = refuse_none (ltb quad s.kind) 3 _ e in
    let z = refuse_none (ltb most_size s.size || not (is_own_size s.kind s.size)) 4 _ k.1 in
    let a = refuse_none (ltb most_align s.align || not (eqb s.align s.size)) 5 _ z.1 in
    let aligned : s.align ≡ s.size = eqb-true _ _ (not-false _ (both_false (ltb most_align s.align) _ a.0).1) in
    rw aligned (own_listed s.kind s.size (ltb-false _ _ k.0) (not-false _ (both_false (ltb most_size s.size) _ z.0).1))
