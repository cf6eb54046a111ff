-- What a place behind others is: bytes that stand there begin at the offset or behind it, with less padding than their rounding, at a multiple of it, and
-- the next offset is where they end; where none do, the offset stays. The next offset is never below the offset, nor past the limit.
use Prim.Native.Nat.{ℕ, ◌+◌, ◌%◌, ◌≤◌, ◌<◌, max}
use mathlib.Core.Path.{◌≡◌, refl, sym}
use mathlib.Core.Bool.{Bool, true, false, ◌&&◌, not, cond}
use mathlib.Core.Logic.{◌⊎◌, inl, inr}
use native.Mathlib.Omega.{arith}
use native.Mathlib.Nat.{mul-mod_left}
use borrow.Author.Tests.{ltb-false, eqb-true, eqb-false}
use lib.Dec.{eqb, ltb}
use Rattle.shape.specs.Numbers.{accepted, no_room}
use Rattle.shape.specs.Arithmetic.{round_up}
use Rattle.shape.proofs.Rounding.{round_least, round_bound}
use Rattle.stack_place.specs.declared.Area.{Area}
use Rattle.stack_place.specs.Stacked.{Placed}
use Rattle.stack_place.specs.Stacked.{most_stack, rounding_of, is_packed, in_words, length_of, stands, nowhere, without_room, from, behind}

pub record Stands (stack bytes rounding : ℕ) (p : Placed) : Type 0 where
  pub one_refusal : (p.refusal ≡ accepted) ⊎ (p.refusal ≡ no_room)
  pub whole : p.refusal ≡ accepted → p.stacked.bytes ≡ bytes
  pub starts_behind : 0 < p.stacked.bytes → stack ≤ p.stacked.at
  pub little_padding : 0 < p.stacked.bytes → p.stacked.at < stack + rounding
  pub at_multiple : 0 < p.stacked.bytes → p.stacked.at % rounding ≡ 0
  pub goes_on : 0 < p.stacked.bytes → p.next ≡ p.stacked.at + p.stacked.bytes
  pub stays : p.stacked.bytes ≡ 0 → (p.stacked.at ≡ 0) × (p.next ≡ stack)
  pub grows : stack ≤ p.next
  pub within : stack ≤ most_stack → p.next ≤ most_stack

module _ (stack bytes rounding : ℕ) (some : 0 < rounding) where
  abbrev start : ℕ
  start = round_up stack rounding

  -- with no bytes, refused or because there are none
  empty : (n : ℕ) → (n ≡ accepted) ⊎ (n ≡ no_room) → (n ≡ accepted → bytes ≡ 0) → Stands stack bytes rounding (record { refusal = n; stacked = stands 0 0; next = stack })
  empty n one none =
      record {
        one_refusal = one;
        whole = λ x. sym (none x);
        starts_behind = λ x. absurd (omega arith);
        little_padding = λ x. absurd (omega arith);
        at_multiple = λ x. absurd (omega arith);
        goes_on = λ x. absurd (omega arith);
        stays = λ x. (refl, refl);
        grows = omega arith;
        within = λ x. x;
      }

  there : (bytes ≡ 0 → ⊥) → start + bytes ≤ most_stack → Stands stack bytes rounding (from start bytes)
  unfolding round_up
  there z h =
      record {
        one_refusal = inl refl;
        whole = λ x. refl;
        starts_behind = λ x. round_least stack rounding some;
        little_padding = λ x. round_bound stack rounding some;
        at_multiple = λ x. mul-mod_left _ rounding;
        goes_on = λ x. refl;
        stays = λ x. absurd (z x);
        grows = omega (arith, round_least stack rounding some);
        within = λ x. h;
      }

  pub behind_stands : Stands stack bytes rounding (behind stack bytes rounding)
  unfolding behind
  behind_stands = go (eqb bytes 0) (ltb most_stack (start + bytes)) refl refl
    where
      go : (x y : Bool) → eqb bytes 0 ≡ x → ltb most_stack (start + bytes) ≡ y
          → Stands stack bytes rounding (cond x (nowhere stack) (cond y (without_room stack) (from start bytes)))
      go true y ex ey = empty accepted (inl refl) (λ _. eqb-true bytes 0 ex)
      go false true ex ey = empty no_room (inr refl) (λ h. absurd (omega arith))
      go false false ex ey = there (eqb-false bytes 0 ex) (ltb-false _ _ ey)

  -- bytes that aren't refused stand at the next multiple
  pub behind_accepted : (behind stack bytes rounding).refusal ≡ accepted → (bytes ≡ 0 → ⊥) → behind stack bytes rounding ≡ from start bytes
  unfolding behind
  behind_accepted e z = go (eqb bytes 0) (ltb most_stack (start + bytes)) refl e
    where
      go : (x y : Bool) → eqb bytes 0 ≡ x → (cond x (nowhere stack) (cond y (without_room stack) (from start bytes))).refusal ≡ accepted
          → cond x (nowhere stack) (cond y (without_room stack) (from start bytes)) ≡ from start bytes
      go true y ex r = absurd (z (eqb-true bytes 0 ex))
      go false true ex r = absurd (omega arith)
      go false false ex r = refl

-- ---- roundings and lengths

pub rounding_some : (area : Area) (n : ℕ) → 0 < rounding_of area n
rounding_some area n = omega arith

-- what stands there has all bytes that go there
pub length_least : (area : Area) (bytes : ℕ) → bytes ≤ length_of area bytes
length_least area bytes = go (is_packed area.arguments && not area.dots)
  where
    go : (b : Bool) → bytes ≤ cond b bytes (in_words bytes area.width)
    go true = omega arith
    go false = round_least bytes (max area.width 1) (omega arith)
