-- The laws of the questions about pieces.
use Prim.Native.Nat.{ℕ}
use mathlib.Core.Path.{◌≡◌, refl, ◌∙◌}
use mathlib.Core.List.{List, [], ◌∷◌}
use mathlib.Core.Bool.{true, false}
use native.Mathlib.Omega.{arith}
use lib.Dec.{leb}
use Rattle.std.proofs.lemmas.Bool.{le-leb}
use lib.ListN.{length}
use Rattle.shape.specs.declared.Piece.{Piece}
use Rattle.shape.specs.Words.{pieces_of}
use Rattle.shape.specs.Questions.{all_of, is_all_of}

-- there is a piece where there are words for one
pub all_where_any : (kind : ℕ) (ws : List ℕ) → true ≡ all_of kind (pieces_of ws) → leb 4 (length ws) ≡ is_all_of kind (pieces_of ws)
unfolding pieces_of is_all_of
all_where_any kind [] t = refl
all_where_any kind (k ∷ []) t = refl
all_where_any kind (k ∷ s ∷ []) t = refl
all_where_any kind (k ∷ s ∷ a ∷ []) t = refl
all_where_any kind (k ∷ s ∷ a ∷ o ∷ ws) t = le-leb 4 (length (k ∷ s ∷ a ∷ o ∷ ws)) (omega arith) ∙ t

-- one piece of another kind, and not all are of this one
pub not_all_none : (kind : ℕ) (ps : List Piece) → false ≡ all_of kind ps → false ≡ is_all_of kind ps
unfolding is_all_of
not_all_none kind [] t = refl
not_all_none kind (p ∷ ps) t = t
