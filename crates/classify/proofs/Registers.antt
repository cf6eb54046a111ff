-- The Rust counts the registers that a size takes as the spending rules do, though each says it in its own way.
use Prim.Native.Nat.{ℕ, suc, ◌+◌, ◌-◌, ◌*◌, ◌/◌, ◌%◌, ◌<◌, max}
use mathlib.Core.Path.{◌≡◌, refl}
use mathlib.Core.Bool.{Bool, true, false}
use native.Mathlib.Omega.{arith}
use native.Mathlib.Nat.{div-add-mod', mod-lt, suc-mul}
use borrow.Author.Tests.{ltb-true, ltb-false}
use lib.Arith.{digits_div}
use lib.Dec.{ltb}
use Rattle.shape.specs.Numbers.{one_if}
use Rattle.slots.specs.Cut.{ceil_div}
use Rattle.spend.specs.Spending.{want_of}
use Rattle.classify.specs.Classify.{div_ceil, registers}

-- the quotient and one more for what is left over, or what the quotient becomes with a divisor less one added: a rounded quotient both times
rounded : (n d : ℕ) → 0 < d → div_ceil n d ≡ ceil_div n d
rounded n d p = go (ltb 0 (n % d)) refl
  where
    l : n % d < d
    l = mod-lt n p

    whole : n / d * d + n % d ≡ n
    whole = div-add-mod' n d

    go : (b : Bool) → ltb 0 (n % d) ≡ b → n / d + one_if b ≡ ceil_div n d
    go true t =
        let h : 0 < n % d = ltb-true 0 (n % d) t in
        let m : suc (n / d) * d ≡ n / d * d + d = suc-mul (n / d) d in
        let e : n + (d - 1) ≡ suc (n / d) * d + (n % d - 1) = omega (arith, whole, l) in
        rw (e, digits_div (suc (n / d)) {m = d} {r = n % d - 1} (omega (arith, l))) (omega arith)
    go false t =
        let h : n % d ≡ 0 = omega (arith, ltb-false 0 (n % d) t) in
        let e : n + (d - 1) ≡ n / d * d + (d - 1) = omega (arith, whole) in
        rw (e, digits_div (n / d) {m = d} {r = d - 1} (omega arith)) (omega arith)

pub registers_wanted : (size width : ℕ) → registers size width ≡ want_of size width
unfolding registers want_of
registers_wanted size width = rw (rounded size (max width 1) (omega arith)) refl
