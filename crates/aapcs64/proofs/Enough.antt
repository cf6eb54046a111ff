-- The clauses of the domain that the theorem uses. It holds without the other three (nonzero sizes, no holes, the end at the size): what they leave out,
-- the standard and the description judge alike. Needed.antt shows that it doesn't hold without any of these six.
use Prim.Native.Nat.{◌<◌, ◌≤◌}
use mathlib.Core.Path.{◌≡◌}
use mathlib.Core.List.{List}
use mathlib.Core.Bool.{true}
use lib.Dec.{leb}
use Rattle.shape.specs.declared.Piece.{Piece}
use Rattle.shape.specs.declared.Shape.{Shape}
use Rattle.shape.specs.Lists.{every}
use Rattle.aapcs64.specs.Domain.{is_usual, in_order, apart, Domain}

pub record Enough (shape : Shape) (ps : List Piece) : Type 0 where
  pub some : 0 < shape.size
  pub shape_align : shape.align ≤ 8
  pub aligns : every (λ (p : Piece). leb p.align 8) ps ≡ true
  pub usual : every is_usual ps ≡ true
  pub order : in_order ps ≡ true
  pub no_overlap : apart ps ≡ true

pub enough : (shape : Shape) (ps : List Piece) → Domain shape ps → Enough shape ps
enough shape ps d =
    record {
      some = d.some;
      shape_align = d.shape_align;
      aligns = d.aligns;
      usual = d.usual;
      order = d.order;
      no_overlap = d.no_overlap;
    }
