-- Names as bytes: what comparing them tells.
use Prim.Native.Nat.{ℕ}
use mathlib.Core.Path.{◌≡◌, refl}
use mathlib.Core.List.{List, [], ◌∷◌}
use mathlib.Core.Bool.{Bool, true, false, ◌&&◌}
use borrow.Author.Tests.{eqb-true, eq-eqb}
use lib.Dec.{eqb}
use Rattle.std.specs.Cmp.Lexicographic.{pointwise}
use Rattle.attributes.specs.Attributes.{same_bytes}

-- the comparison of two slices, element by element
pub same_heads : (as' bs : List ℕ) → pointwise eqb as' bs ≡ same_bytes as' bs
unfolding same_bytes
same_heads [] [] = refl
same_heads [] (b ∷ bs) = refl
same_heads (a ∷ as') [] = refl
same_heads (a ∷ as') (b ∷ bs) = rw (same_heads as' bs)

cons_same : (p : Bool) (a b : ℕ) (as' bs : List ℕ) (q : Bool) → eqb a b ≡ p → (p && q) ≡ true → (q ≡ true → as' ≡ bs) → a ∷ as' ≡ b ∷ bs
cons_same true a b as' bs q e r rest = cc (eqb-true a b e, rest r)
cons_same false a b as' bs q e r rest = cc

-- the bytes are the same exactly where the lists are
pub same_eq : (as' bs : List ℕ) → same_bytes as' bs ≡ true → as' ≡ bs
unfolding same_bytes
same_eq [] [] e = refl
same_eq [] (b ∷ bs) e = cc
same_eq (a ∷ as') [] e = cc
same_eq (a ∷ as') (b ∷ bs) e = cons_same (eqb a b) a b as' bs (same_bytes as' bs) refl e (same_eq as' bs)

pub same_refl : (as' : List ℕ) → same_bytes as' as' ≡ true
unfolding same_bytes
same_refl [] = refl
same_refl (a ∷ as') = rw (eq-eqb a a refl) (same_refl as')
