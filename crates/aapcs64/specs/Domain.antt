-- The aggregates for which description 1 is held against AAPCS64 (REFERENCE 12), clause by clause: each is a test on a shape and its pieces.
use Rattle.std.specs.Prelude.{ℕ, zero, suc, ◌+◌, ◌<◌, ◌≤◌, max, ◌≡◌, List, [], ◌∷◌, Bool, true, ◌&&◌, ◌||◌, leb, ltb, eqb}
use Rattle.shape.specs.declared.Piece.{Piece}
use Rattle.shape.specs.declared.Shape.{Shape}
use Rattle.shape.specs.Lists.{every, any}
use Rattle.shape.specs.Numbers.{integer, single, double}

-- floats only Single, of size and alignment 4, and Double, of size and alignment 8
abbrev pub is_scalar : ℕ → ℕ → Piece → Bool
is_scalar kind size p = eqb p.kind kind && eqb p.size size && eqb p.align size

abbrev pub is_usual : Piece → Bool
is_usual p = eqb p.kind integer || is_scalar single 4 p || is_scalar double 8 p

-- one past a piece's last byte, where its size isn't 0
abbrev pub end : Piece → ℕ
end p = p.offset + p.size

-- no piece starts before one that stands before it
unfoldable pub in_order : List Piece → Bool
in_order [] = true
in_order (p ∷ ps) = every (λ (q : Piece). leb p.offset q.offset) ps && in_order ps

-- of two pieces one ends before the other starts
unfoldable pub apart : List Piece → Bool
apart [] = true
apart (p ∷ ps) = every (λ (q : Piece). leb (end p) q.offset || leb (end q) p.offset) ps && apart ps

-- where the pieces end
unfoldable pub furthest : List Piece → ℕ
furthest [] = 0
furthest (p ∷ ps) = max (end p) (furthest ps)

-- every byte up to there is a piece's
abbrev pub holds : ℕ → Piece → Bool
holds byte p = leb p.offset byte && ltb byte (end p)

unfoldable pub below : ℕ → (ℕ → Bool) → Bool
below zero f = true
below (suc n) f = f n && below n f

abbrev pub covered : List Piece → Bool
covered ps = below (furthest ps) (λ (byte : ℕ). any (holds byte) ps)

pub record Domain (shape : Shape) (ps : List Piece) : Type 0 where
  -- of size above 0
  pub some : 0 < shape.size
  -- the shape's alignment at most 8
  pub shape_align : shape.align ≤ 8
  -- all pieces' alignments at most 8
  pub aligns : every (λ (p : Piece). leb p.align 8) ps ≡ true
  -- floats only Single (size and alignment 4) and Double (8)
  pub usual : every is_usual ps ≡ true
  -- pieces of nonzero size
  pub sizes : every (λ (p : Piece). ltb 0 p.size) ps ≡ true
  -- in offset order
  pub order : in_order ps ≡ true
  -- without overlap
  pub no_overlap : apart ps ≡ true
  -- or holes
  pub no_holes : covered ps ≡ true
  -- ending at the size
  pub ends : furthest ps ≡ shape.size
