-- A text up to its first dot: where a search for that stands, and what is appended of it.
use Prim.Native.Nat.{ℕ, ◌+◌, ◌-◌, ◌≤◌, ◌<◌}
use mathlib.Core.Path.{◌≡◌, refl, ap, sym}
use mathlib.Core.List.{List, [], ◌∷◌, ◌++◌, append-nil}
use mathlib.Core.Bool.{Bool, true, false, cond}
use native.Mathlib.Omega.{arith}
use lib.Dec.{leb, ltb, eqb}
use lib.ListN.{length, take, drop, length-drop, take-append-drop, drop_of_length-le}
use Rattle.std.specs.Prelude.{Some, None, position}
use Rattle.std.specs.List.{position_or_len}
use Rattle.std.specs.Option.{unwrap_or}
use Rattle.std.proofs.lemmas.List.Sums.{prefix_len-le-length}
use Rattle.std.proofs.lemmas.List.Recursion.{is_position_or_len}
use Rattle.std.proofs.lemmas.Bool.Decides.{nat_tests}
use Rattle.shape.specs.Words.{pick_words, put_at}
use Rattle.text.specs.Text.{dot, up_to_dot, end_from, append_end}

-- ---- the search

up_to_first : (bs : List ℕ) → length (up_to_dot bs) ≡ position_or_len (λ b. eqb b dot) bs
unfolding up_to_dot
up_to_first = is_position_or_len (λ bs. length (up_to_dot bs)) (λ b. eqb b dot) refl (λ b bs. by (eqb b dot) b bs)
  where
    by : (c : Bool) (b : ℕ) (bs : List ℕ) → length (cond c [] (b ∷ up_to_dot bs)) ≡ cond c 0 (1 + length (up_to_dot bs))
    by true b bs = refl
    by false b bs = omega arith

up_to_within : (bs : List ℕ) → length (up_to_dot bs) ≤ length bs
up_to_within bs = rw (up_to_first bs) (prefix_len-le-length _ bs)

at_end : (bs : List ℕ) (i : ℕ) → length bs ≤ i → up_to_dot (drop i bs) ≡ []
unfolding up_to_dot
at_end bs i h = rw (drop_of_length-le bs h)

module _ (bs : List ℕ) (start : ℕ) where
  -- no text starts behind the last
  pub end_nowhere : length bs < start → start ≡ end_from bs start
  unfolding end_from
  end_nowhere h = rw (at_end bs start (omega arith)) (omega arith)

  pub end_found : (text : List ℕ) (r : ℕ) → text ≡ drop start bs → r ≡ unwrap_or (position (λ b. eqb b dot) text) (length text)
      → start + r ≡ end_from bs start
  unfolding end_from
  end_found text r e f = rw (f, up_to_first, e) (by (position_or_len (λ b. eqb b dot) (drop start bs)) (length (drop start bs)) (rw (up_to_first (drop start bs)) at (up_to_within (drop start bs))))
    where
      by : (n m : ℕ) → n ≤ m → start + unwrap_or (cond (ltb n m) (Some n) None) m ≡ start + n
      by n m h = grind (arith, nat_tests)

-- ---- where it ends

module _ (bs : List ℕ) (start end : ℕ) (e : end ≡ end_from bs start) where
  pub end_behind : start ≤ end
  unfolding end_from
  end_behind = omega arith

  pub end_within : start ≤ length bs → end ≤ length bs
  unfolding end_from
  end_within h =
      let n = up_to_within (drop start bs) in
      let l : length (drop start bs) ≡ length bs - start = length-drop start bs in
      omega (arith, e)

-- ---- what is appended

front : (bs : List ℕ) → take (length (up_to_dot bs)) bs ≡ up_to_dot bs
unfolding up_to_dot
front [] = refl
front (b ∷ bs) = by (eqb b dot) (front bs)
  where
    by : (c : Bool) → take (length (up_to_dot bs)) bs ≡ up_to_dot bs → take (length (cond c [] (b ∷ up_to_dot bs))) (b ∷ bs) ≡ cond c [] (b ∷ up_to_dot bs)
    by true h = refl
    by false h = ap (λ (r : List ℕ). b ∷ r) h

module _ (bs : List ℕ) (start end : ℕ) (e : end ≡ end_from bs start) where
  part : take (end - start) (drop start bs) ≡ up_to_dot (drop start bs)
  unfolding end_from
  part =
      let n : end - start ≡ length (up_to_dot (drop start bs)) = omega (arith, e) in
      rw n (front (drop start bs))

  module _ (out : List ℕ) (at : ℕ) where
    pub part_end : (to : ℕ) → to ≡ append_end (length out) at (take (end - start) (drop start bs)) → to ≡ append_end (length out) at (up_to_dot (drop start bs))
    part_end to h = rw part at h

    pub part_appended : (after : List ℕ) → after ≡ put_at out at (take (end - start) (drop start bs)) → after ≡ put_at out at (up_to_dot (drop start bs))
    part_appended after h = rw part at h

module _ (out : List ℕ) (at : ℕ) where
  none_by : (b : Bool) → (at ≡ cond b (at + 0) at) × (out ≡ pick_words b (take at out ++ [] ++ drop (at + 0) out) out)
  none_by true =
      let z : at + 0 ≡ at = omega arith in
      (omega arith, rw (z, append-nil) (sym (take-append-drop at out)))
  none_by false = (refl, refl)

  pub nothing_there : (bs : List ℕ) (start : ℕ) → length bs < start
      → (at ≡ append_end (length out) at (up_to_dot (drop start bs))) × (out ≡ put_at out at (up_to_dot (drop start bs)))
  unfolding append_end put_at
  nothing_there bs start h = rw (at_end bs start (omega arith)) (none_by (leb (at + 0) (length out)))
