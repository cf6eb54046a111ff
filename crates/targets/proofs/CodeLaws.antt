-- What codes stand for: what a test of a code says, and that a code and what it stands for decide each other.
use Prim.Native.Nat.{ℕ, zero, suc, ◌+◌, ◌-◌, ◌≤◌}
use mathlib.Core.Path.{◌≡◌, refl, ap, sym, ◌∙◌}
use mathlib.Core.Bool.{Bool, true, false, not}
use native.Mathlib.Omega.{arith}
use borrow.Author.Tests.{leb-true, lt-leb, not-false, not-true}
use lib.ListN.{get_or-eq_default}
use Rattle.shape.proofs.Bools.{both_true}
use Rattle.targets.specs.Codes.{is_convention, conventions, convention_of, convention_code}
use Rattle.targets.specs.declared.codes.Convention.{Convention}
use Rattle.targets.specs.declared.codes.Convention.TheVariants.{Target, Ms, Sysv, Stdcall, Fastcall, Regparm, NoCalleeSaved, PreserveNone}

-- a test that let the code go on, and one that didn't
pub known : {b r : Bool} → r ≡ b → not r ≡ false → b ≡ true
known e t = sym e ∙ not-false _ t

pub unknown : {b r : Bool} → r ≡ b → not r ≡ true → b ≡ false
unknown e t = sym e ∙ not-true _ t

-- above the named conventions there is regparm alone
module _ (code : ℕ) (above : 7 ≤ code) where
  pub regparm_convention : Regparm (code - 256) ≡ convention_of code
  unfolding convention_of
  regparm_convention = sym (get_or-eq_default conventions (Regparm (code - 256)) above)

  pub regparm_code : is_convention code ≡ true → 256 ≤ code
  regparm_code h = leb-true 256 code (both_true _ _ (rw (lt-leb code 6 above) at h)).0

-- a convention's code tells which it is
pub code_tells : (convention : Convention) → convention_of (convention_code convention) ≡ convention
unfolding convention_of convention_code
code_tells Target = refl
code_tells Ms = refl
code_tells Sysv = refl
code_tells Stdcall = refl
code_tells Fastcall = refl
code_tells NoCalleeSaved = refl
code_tells PreserveNone = refl
code_tells (Regparm n) =
    let e : 256 + n - 256 ≡ n = omega arith in
    sym (regparm_convention (256 + n) (omega arith)) ∙ ap Regparm e

-- and of a known code, what it stands for has that code
pub known_code : (code : ℕ) → is_convention code ≡ true → convention_code (convention_of code) ≡ code
unfolding convention_of convention_code
known_code zero h = refl
known_code (suc zero) h = refl
known_code (suc (suc zero)) h = refl
known_code (suc (suc (suc zero))) h = refl
known_code (suc (suc (suc (suc zero)))) h = refl
known_code (suc (suc (suc (suc (suc zero))))) h = refl
known_code (suc (suc (suc (suc (suc (suc zero)))))) h = refl
known_code (suc (suc (suc (suc (suc (suc (suc n))))))) h =
    let low : 256 ≤ suc (suc (suc (suc (suc (suc (suc n)))))) = regparm_code _ (omega arith) h in omega arith
