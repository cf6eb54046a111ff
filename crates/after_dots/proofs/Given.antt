-- What travels as Memory is given nothing (REFERENCE 9.1), also behind an even start and where nothing is spent.
use Prim.Native.Nat.{ℕ}
use mathlib.Core.Path.{refl}
use mathlib.Core.Bool.{Bool, true, false, cond}
use Rattle.describe.specs.declared.Dots.{Dots}
use Rattle.spend.specs.declared.Decision.{Decision}
use Rattle.spend.specs.declared.Spent.{Spent}
use Rattle.spend.specs.Ways.{NoneGiven}
use Rattle.spend.proofs.Given.{Ungiven}
use Rattle.after_dots.specs.AfterDots.{is_ignored, settled_for}

pub settled_ungiven : (dots : Dots) (I skipped : ℕ) (d : Decision) → Ungiven d → Ungiven (settled_for dots I skipped d)
unfolding settled_for
settled_ungiven dots I skipped d h w =
    either dots.emptied _ _ (refl, refl) (either dots.starts_even _ _ (either (is_ignored d.way) _ _ (refl, refl) (h w)) (h w))
  where
    either : (b : Bool) (x y : Spent) → NoneGiven x → NoneGiven y → NoneGiven (cond b x y)
    either true x y p q = p
    either false x y p q = q
