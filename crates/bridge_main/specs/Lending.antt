-- What a closure may do at two `&mut`: at a `&mut` to x and one to y it may give r, and leave x' and y' there.
use Rattle.std.specs.Prelude.{◌≡◌}
use Rattle.std.specs.Fn.{Once}
use Rattle.std.specs.Borrow.{MutBor}

pub record ReturnsAtMuts {F T U R : Type 0} (g : Once F (MutBor T × (MutBor U × Unit {0})) (R × (MutBor T × (MutBor U × Unit {0})))) (f : F) (x : T) (y : U) (r : R) (x' : T) (y' : U) : Type 0 where
  pub first : MutBor T
  pub second : MutBor U
  pub shows : (first.now ≡ x) × (second.now ≡ y)
  pub first_left : MutBor T
  pub second_left : MutBor U
  pub met : g.post f (first, (second, tt)) (r, (first_left, (second_left, tt)))
  pub leaves : (first_left.now ≡ x') × (second_left.now ≡ y')
