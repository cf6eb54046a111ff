-- The shapes for which row 0 is the psABI (REFERENCE 12), clause by clause. Each clause is a test that computes.
use Rattle.std.specs.Prelude.{ℕ, zero, suc, ◌+◌, ◌%◌, ◌≡◌, Bool, true, cond, not, ◌&&◌, ◌||◌, List, [], ◌∷◌, eqb, leb, ltb}
use Rattle.shape.specs.declared.Piece.{Piece}
use Rattle.shape.specs.declared.Shape.{Shape}
use Rattle.shape.specs.Lists.{every, any}
use Rattle.shape.specs.Numbers.{integer, single, double, x87_extended, quad}
use Rattle.psabi.specs.Psabi.{lies_in, eightbytes_in}

-- ---- what the clauses are made of

unfoldable pub how_many : (Piece → Bool) → List Piece → ℕ
how_many f [] = 0
how_many f (p ∷ ps) = cond (f p) 1 0 + how_many f ps

-- at each of the first so many eightbytes
unfoldable pub at_each : ℕ → (ℕ → Bool) → Bool
at_each zero f = true
at_each (suc n) f = f n && at_each n f

abbrev pub is_x87_piece : Piece → Bool
is_x87_piece p = eqb p.kind x87_extended

-- an X87 piece lies in an eightbyte, and a piece of another kind
abbrev pub x87_in : Piece → ℕ → Bool
x87_in p k = is_x87_piece p && lies_in p k

abbrev pub other_in : Piece → ℕ → Bool
other_in p k = not (is_x87_piece p) && lies_in p k

-- integer 1, 2, 4, 8, 16; Single 4; Double 8; X87 and Quad 16
abbrev pub is_integer_size : ℕ → Bool
is_integer_size size = (((eqb size 1 || eqb size 2) || eqb size 4) || eqb size 8) || eqb size 16

abbrev pub is_of_kind : ℕ → ℕ → Bool
is_of_kind kind size =
    (((eqb kind integer && is_integer_size size) || (eqb kind single && eqb size 4)) || (eqb kind double && eqb size 8))
    || ((eqb kind x87_extended || eqb kind quad) && eqb size 16)

-- ---- the clauses

-- a size above 0
abbrev pub is_positive : Shape → Bool
is_positive shape = ltb 0 shape.size

-- no complex flag
abbrev pub is_plain : Shape → Bool
is_plain shape = not shape.complex

-- every piece inside the size
abbrev pub is_inside : Shape → List Piece → Bool
is_inside shape ps = every (λ p. leb (p.offset + p.size) shape.size) ps

-- its alignment equal to its size
abbrev pub is_natural : List Piece → Bool
is_natural ps = every (λ p. eqb p.align p.size) ps

-- its size as its kind has it
abbrev pub is_sized : List Piece → Bool
is_sized ps = every (λ p. is_of_kind p.kind p.size) ps

-- each eightbyte touched
abbrev pub is_touched : Shape → List Piece → Bool
is_touched shape ps = at_each (eightbytes_in shape.size) (λ k. any (λ p. lies_in p k) ps)

-- none touched by X87 and another kind
abbrev pub is_apart : Shape → List Piece → Bool
is_apart shape ps = at_each (eightbytes_in shape.size) (λ k. not (any (λ p. x87_in p k) ps && any (λ p. other_in p k) ps))

-- at most one X87 piece
abbrev pub is_lone : List Piece → Bool
is_lone ps = leb (how_many is_x87_piece ps) 1

-- its offset a multiple of 16
abbrev pub is_aligned : List Piece → Bool
is_aligned ps = every (λ p. not (is_x87_piece p) || eqb (p.offset % 16) 0) ps

-- all of them, in this order
abbrev pub clauses : Shape → List Piece → List Bool
clauses shape ps =
    is_positive shape
    ∷ is_plain shape
    ∷ is_inside shape ps
    ∷ is_natural ps
    ∷ is_sized ps
    ∷ is_touched shape ps
    ∷ is_apart shape ps
    ∷ is_lone ps
    ∷ is_aligned ps
    ∷ []

pub record Domain (shape : Shape) (ps : List Piece) : Type 0 where
  pub positive : is_positive shape ≡ true
  pub plain : is_plain shape ≡ true
  pub inside : is_inside shape ps ≡ true
  pub natural : is_natural ps ≡ true
  pub sized : is_sized ps ≡ true
  pub touched : is_touched shape ps ≡ true
  pub apart : is_apart shape ps ≡ true
  pub lone : is_lone ps ≡ true
  pub aligned : is_aligned ps ≡ true
