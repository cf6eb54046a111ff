-- What antt computes over a list, and the laws that give it at each number: a test, also of what stands past the list, and an equation.
use mathlib.Core.Path.{◌≡◌, sym, ap, ap₂, ◌∙◌}
use mathlib.Core.Bool.{Bool}
use mathlib.Core.List.{List, [], ◌∷◌, map}
use Prim.Native.Nat.{ℕ, zero, suc, ◌<◌}
use native.Mathlib.Nat.{le_of_suc-le-suc, not-suc-le-zero}
use lib.Dec.{T}
use lib.ListN.{length, get_or, get_or-map}
use Rattle.shape.specs.Lists.{every}
use Rattle.shape.proofs.Bools.{and_left, and_right}

pub within : {A : Type 0} (f : A → Bool) (xs : List A) (a : A) → T (every f xs) → (k : ℕ) → k < length xs → T (f (get_or xs k a))
unfolding every
within f [] a t k h = absurd (not-suc-le-zero h)
within f (x ∷ xs) a t zero h = and_left (f x) (every f xs) t
within f (x ∷ xs) a t (suc k) h = within f xs a (and_right (f x) (every f xs) t) k (le_of_suc-le-suc h)

pub anywhere : {A : Type 0} (f : A → Bool) (xs : List A) (a : A) → T (every f xs) → T (f a) → (k : ℕ) → T (f (get_or xs k a))
unfolding every
anywhere f [] a t p k = p
anywhere f (x ∷ xs) a t p zero = and_left (f x) (every f xs) t
anywhere f (x ∷ xs) a t p (suc k) = anywhere f xs a (and_right (f x) (every f xs) t) p k

-- what a table computes, at each of its entries; past its end stands the first
module _ {A B : Type 0} (f g : A → B) (x : A) (xs : List A) (e : map f (x ∷ xs) ≡ map g (x ∷ xs)) where
  pub same_at : (n : ℕ) → f (get_or (x ∷ xs) n x) ≡ g (get_or (x ∷ xs) n x)
  same_at n = sym (get_or-map f (x ∷ xs) n x) ∙ ap₂ (λ l z. get_or l n z) e (ap (λ l. get_or l 0 (f x)) e) ∙ get_or-map g (x ∷ xs) n x
