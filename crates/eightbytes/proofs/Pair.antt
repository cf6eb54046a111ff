-- At most two eightbytes whose classes come before SseUp: they stay as they are, a slot for each.
use Rattle.std.specs.Prelude as Prelude
use Prim.Native.Nat.{ℕ, zero, suc, ◌+◌, ◌-◌, ◌≤◌}
use mathlib.Core.Path.{◌≡◌, refl, sym, ap}
use mathlib.Core.Bool.{Bool, true, false, not}
use borrow.Author.Tests.{not-false}
use mathlib.Core.List.{List, [], ◌∷◌}
use mathlib.Core.Option.Option.{some}
use native.Mathlib.Omega.{arith}
use denote.Enum.Bare.{sameb}
use lib.ListN.{length, get_or, take, drop, replicate, length-take, take-append-drop}
use Rattle.shape.specs.Numbers.{one_if}
use Rattle.slots.specs.Search.{counted, found_of}
use Rattle.eightbytes.specs.contracts.Class.{the_type}
use Rattle.eightbytes.specs.Class.{Class, None, Sse, code, same, is_plain}
use Rattle.eightbytes.specs.Eightbytes.{spoiled, mend, settled, slots_found, eight_of, slot_count}
use Rattle.eightbytes.proofs.OneClass.{same_is, plain_mended, plain_spoils, plain_up}
use Rattle.eightbytes.proofs.Counts.{sses_in, slots_length, slots_floats}

plain_settled : (m : ℕ) (xs : List Class) → m ≤ 2 → length xs ≡ 8 → is_plain (get_or xs 0 None) ≡ true → is_plain (get_or xs 1 None) ≡ true
    → settled (take m xs) ≡ some (take m xs)
unfolding settled spoiled mend
plain_settled m [] z l h k = absurd (omega arith)
plain_settled m (x ∷ []) z l h k = absurd (omega arith)
plain_settled zero (x ∷ y ∷ xs) z l h k = refl
plain_settled (suc zero) (x ∷ y ∷ xs) z l h k = rw (plain_spoils x h, plain_mended None x h)
plain_settled (suc (suc zero)) (x ∷ y ∷ xs) z l h k = rw (plain_spoils x h, plain_spoils y k, plain_mended None x h, plain_mended x y k)
plain_settled (suc (suc (suc m))) (x ∷ y ∷ xs) z l h k = absurd (omega arith)

plain_count : (m : ℕ) (xs : List Class) → m ≤ 2 → length xs ≡ 8 → is_plain (get_or xs 0 None) ≡ true → is_plain (get_or xs 1 None) ≡ true
    → slot_count (take m xs) ≡ m
unfolding slot_count
plain_count m [] z l h k = absurd (omega arith)
plain_count m (x ∷ []) z l h k = absurd (omega arith)
plain_count zero (x ∷ y ∷ xs) z l h k = refl
plain_count (suc zero) (x ∷ y ∷ xs) z l h k = rw (plain_up x h)
plain_count (suc (suc zero)) (x ∷ y ∷ xs) z l h k = rw (plain_up x h, plain_up y k)
plain_count (suc (suc (suc m))) (x ∷ y ∷ xs) z l h k = absurd (omega arith)

none_same : (x : Class) → x ≡ None → same x Sse ≡ false
unfolding same code
none_same x e = rw e

-- what stands behind the shape's eightbytes is no float
plain_floats : (m : ℕ) (xs : List Class) → m ≤ 2 → length xs ≡ 8 → drop m xs ≡ replicate (8 - m) None
    → sses_in (take m xs) ≡ one_if (same (get_or xs 0 None) Sse) + one_if (same (get_or xs 1 None) Sse)
unfolding sses_in
plain_floats m [] z l d = absurd (omega arith)
plain_floats m (x ∷ []) z l d = absurd (omega arith)
plain_floats zero (x ∷ y ∷ xs) z l d =
    rw (none_same x (ap (λ (r : List Class). get_or r 0 None) d), none_same y (ap (λ (r : List Class). get_or r 1 None) d))
plain_floats (suc zero) (x ∷ y ∷ xs) z l d = rw (none_same y (ap (λ (r : List Class). get_or r 0 None) d))
plain_floats (suc (suc zero)) (x ∷ y ∷ xs) z l d = omega arith
plain_floats (suc (suc (suc m))) (x ∷ y ∷ xs) z l d = absurd (omega arith)

module _ (n : ℕ) (xs : List Class) (two : n ≤ 2) (l : length xs ≡ 8) (d : drop n xs ≡ replicate (8 - n) None)
    (b : Bool) (eb : b ≡ is_plain (get_or xs 0 None)) (h : not b ≡ false) (b' : Bool) (eb' : b' ≡ is_plain (get_or xs 1 None)) (k : not b' ≡ false) where
  both : (is_plain (get_or xs 0 None) ≡ true) × (is_plain (get_or xs 1 None) ≡ true)
  both = (rw (← eb) (not-false b h), rw (← eb') (not-false b' k))

  pub pair_found : (size : ℕ) (u v : Bool) (f g : ℕ) → u ≡ sameb the_type (get_or xs 0 None) Sse → v ≡ sameb the_type (get_or xs 1 None) Sse
      → f ≡ one_if u → g ≡ one_if v → Prelude.Some (counted n (f + g)) ≡ found_of (slots_found size (settled (take n xs)))
  unfolding slots_found found_of
  pair_found size u v f g eu ev ef eg =
      let fu : f ≡ one_if (same (get_or xs 0 None) Sse) = rw (ef, eu, same_is) in
      let gv : g ≡ one_if (same (get_or xs 1 None) Sse) = rw (eg, ev, same_is) in
      rw (plain_settled n xs two l both.0 both.1, slots_length, slots_floats, plain_count n xs two l both.0 both.1, plain_floats n xs two l d, fu, gv)

  pub pair_classes : xs ≡ eight_of (settled (take n xs))
  unfolding eight_of
  pair_classes =
      let e : length (take n xs) ≡ n = simp length-take (omega (arith, two)) in
      rw (plain_settled n xs two l both.0 both.1, e, ← d) (sym (take-append-drop n xs))
