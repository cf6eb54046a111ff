-- A refusal's number tells it apart from the others, and from none.
use Prim.Native.Nat.{ℕ, ◌-◌}
use mathlib.Core.Path.{◌≡◌, refl, ap, sym, ◌∙◌}
use mathlib.Core.List.{[], ◌∷◌}
use native.Mathlib.Omega.{arith}
use lib.ListN.{get_or}
use Rattle.std.specs.Prelude.{Ok, Err, Result}
use Rattle.shape.specs.declared.refusals.Refusal.{Refusal}
use Rattle.shape.specs.declared.refusals.Refusal.TheVariants.{BadAbi, BadCall, BadList, BadKind, BadSize, BadAlign, NoRoom, BadArea, BadExtent, BadType, TooDeep}
use Rattle.shape.specs.Numbers.{accepted}
use Rattle.shape.specs.Refusals.{number_of, refusal_of}

-- the refusal of a number, from 1 on
abbrev of_number : ℕ → Refusal
of_number n = get_or (BadAbi ∷ BadCall ∷ BadList ∷ BadKind ∷ BadSize ∷ BadAlign ∷ NoRoom ∷ BadArea ∷ BadExtent ∷ BadType ∷ TooDeep ∷ []) (n - 1) BadAbi

of_its_number : (r : Refusal) → of_number (number_of r) ≡ r
of_its_number BadAbi = refl
of_its_number BadCall = refl
of_its_number BadList = refl
of_its_number BadKind = refl
of_its_number BadSize = refl
of_its_number BadAlign = refl
of_its_number NoRoom = refl
of_its_number BadArea = refl
of_its_number BadExtent = refl
of_its_number BadType = refl
of_its_number TooDeep = refl

pub number_decides : (r q : Refusal) → number_of r ≡ number_of q → r ≡ q
number_decides r q e = sym (of_its_number r) ∙ ap of_number e ∙ of_its_number q

-- no refusal's number is that of none
pub number_refuses : (r : Refusal) → number_of r ≡ accepted → ⊥
number_refuses BadAbi e = omega arith
number_refuses BadCall e = omega arith
number_refuses BadList e = omega arith
number_refuses BadKind e = omega arith
number_refuses BadSize e = omega arith
number_refuses BadAlign e = omega arith
number_refuses NoRoom e = omega arith
number_refuses BadArea e = omega arith
number_refuses BadExtent e = omega arith
number_refuses BadType e = omega arith
number_refuses TooDeep e = omega arith

-- so an answer that tells no more than its refusal is decided by the number, and another where its value is, too
pub answer_decides : {A : Type 0} (a b : Result A Refusal) → refusal_of a ≡ refusal_of b → ((x y : A) → a ≡ Ok x → b ≡ Ok y → x ≡ y) → a ≡ b
answer_decides (Ok x) (Ok y) e same = ap Ok (same x y refl refl)
answer_decides (Ok x) (Err q) e same = absurd (number_refuses q (sym e))
answer_decides (Err r) (Ok y) e same = absurd (number_refuses r e)
answer_decides (Err r) (Err q) e same = ap Err (number_decides r q e)

pub refusal_of_decides : (a b : Result Unit Refusal) → refusal_of a ≡ refusal_of b → a ≡ b
refusal_of_decides a b e = answer_decides a b e (λ x y p q. refl)
