-- The laws of the placing: each way out of the code is one line of a definition. Sums that stop at 64 bits have passed the limit before.
use Prim.Native.Nat.{ℕ, ◌+◌, ◌*◌, ◌-◌, ◌≤◌, ◌<◌, min, max}
use mathlib.Core.Path.{◌≡◌, refl, sym, subst, ◌∙◌}
use mathlib.Core.Bool.{Bool, true, false, ◌&&◌, not, cond}
use mathlib.Core.Logic.{⊎_elim}
use native.Mathlib.Nat.{mul-le-mul_left}
use native.Mathlib.Omega.{arith}
use borrow.Author.Tests.{lt-ltb, le-ltb, eq-eqb, ne_eqb, eqb-true}
use lib.Dec.{T, eqb}
use Rattle.shape.specs.declared.Scalar.{Scalar}
use Rattle.shape.specs.Numbers.{most_word, accepted}
use Rattle.shape.specs.Arithmetic.{plus, times, round_up, rounded}
use Rattle.shape.proofs.Rounding.{at_most, round_zero}
use Rattle.describe.specs.declared.ReturnPointer.{ReturnPointer}
use Rattle.describe.specs.declared.ReturnPointer.TheVariants.{FirstArgument, FirstArgumentPopped}
use Rattle.describe.specs.declared.StackArgs.{StackArgs}
use Rattle.describe.specs.declared.StackArgs.TheVariants.{RegisterSized, Packed}
use Rattle.spend.specs.declared.Spent.{Spent}
use Rattle.spend.specs.declared.Way.{Way}
use Rattle.spend.specs.declared.Way.TheVariants.{Ignore, Direct, Pieces, Reference, Memory}
use Rattle.stack_place.specs.declared.Area.{Area}
use Rattle.stack_place.proofs.Standing.{length_least}
use Rattle.stack_place.specs.Stacked.{Placed}
use Rattle.stack_place.specs.Stacked.{most_stack, pointer_bytes, address_bytes, return_bytes, scalar_rest, scalar_bytes, slots_beyond, aggregate_bytes, is_held, value_rounding, wide_or, scalar_rounding, aggregate_rounding, rounding_of, in_words, length_of, stands, nowhere, without_room, behind, placed_of, return_placed, scalar_placed}

-- ---- how many bytes

module _ (spent : Spent) (w : ℕ) where
  pub pointer_placed : spent.integers_given ≡ 0 → w ≡ pointer_bytes spent w
  pointer_placed h = rw (eq-eqb spent.integers_given 0 h)

  pub pointer_given : (spent.integers_given ≡ 0 → ⊥) → 0 ≡ pointer_bytes spent w
  pointer_given h = rw (ne_eqb spent.integers_given 0 h)

  module _ (r : ℕ) (er : r ≡ pointer_bytes spent w) where
    pub address_first : (pointer : ReturnPointer) → pointer ≡ FirstArgument → r ≡ address_bytes pointer spent w
    address_first pointer e = rw e er

    pub address_popped : (pointer : ReturnPointer) → pointer ≡ FirstArgumentPopped → r ≡ address_bytes pointer spent w
    address_popped pointer e = rw e er

    pub scalar_pointer : (way : Way) (size : ℕ) → way ≡ Reference → r ≡ scalar_bytes way spent size w
    scalar_pointer way size e = rw e er

    pub aggregate_pointer : (way : Way) (slots size : ℕ) → way ≡ Reference → w ≤ most_word → r ≡ min (aggregate_bytes way spent slots size w) most_word
    aggregate_pointer way slots size e l = rw (e, er) (go (eqb spent.integers_given 0))
      where
        go : (b : Bool) → cond b w 0 ≡ min (cond b w 0) most_word
        go true = omega arith
        go false = refl

  pub return_address : (way : Way) (pointer : ReturnPointer) → way ≡ Reference → (r : ℕ) → r ≡ address_bytes pointer spent w → r ≡ return_bytes way pointer spent w
  return_address way pointer e r er = rw e er

  pub aggregate_slots : (way : Way) (slots size : ℕ) → way ≡ Pieces → (b : ℕ) → b ≡ slots_beyond spent slots → (r : ℕ) → r ≡ times w b
      → r ≡ min (aggregate_bytes way spent slots size w) most_word
  aggregate_slots way slots size e b eb r er = rw (e, ← eb) er

  pub aggregate_ignored : (way : Way) (slots size : ℕ) → way ≡ Ignore → 0 ≡ min (aggregate_bytes way spent slots size w) most_word
  aggregate_ignored way slots size e = rw e

  module _ (way : Way) (slots size : ℕ) (l : size ≤ most_word) where
    pub aggregate_direct : way ≡ Direct → size ≡ min (aggregate_bytes way spent slots size w) most_word
    aggregate_direct e = rw e (omega arith)

    pub aggregate_memory : way ≡ Memory → size ≡ min (aggregate_bytes way spent slots size w) most_word
    aggregate_memory e = rw e (omega arith)

  module _ (size : ℕ) where
    pub rest_in_float : 0 < spent.floats_given → 0 ≡ scalar_rest spent size w
    rest_in_float h = rw (lt-ltb _ _ h)

    module _ (f : spent.floats_given ≤ 0) where
      pub rest_whole : spent.integers_given ≡ 0 → size ≡ scalar_rest spent size w
      rest_whole h = rw (le-ltb _ _ f, h) (omega arith)

      module _ (g : spent.integers_given ≡ 0 → ⊥) where
        pub rest_held : size ≤ w → 0 ≡ scalar_rest spent size w
        rest_held h =
            let m : w * 1 ≤ w * spent.integers_given = mul-le-mul_left w (omega arith) in
            rw (le-ltb _ _ f) (omega arith)

        module _ (p : ℕ) (ep : p ≡ times w spent.integers_given) where
          pub rest_none : size ≤ p → 0 ≡ scalar_rest spent size w
          rest_none h = rw (le-ltb _ _ f) (omega arith)

          pub rest_left : size ≤ most_word → p < size → size - p ≡ scalar_rest spent size w
          rest_left l h = rw (le-ltb _ _ f) (omega arith)

    module _ (way : Way) (r : ℕ) (er : r ≡ scalar_rest spent size w) where
      pub scalar_direct : way ≡ Direct → r ≡ scalar_bytes way spent size w
      scalar_direct e = rw e er

      pub scalar_pieces : way ≡ Pieces → r ≡ scalar_bytes way spent size w
      scalar_pieces e = rw e er

-- one register holds what is no wider than it
pub one_holds : (size w n : ℕ) → (n ≡ 0 → ⊥) → size ≤ w → size - w * n ≡ 0
one_holds size w n some h =
    let m : w * 1 ≤ w * n = mul-le-mul_left w (omega arith) in
    omega arith

-- ---- what is held by registers

module _ (way : Way) (spent : Spent) (slots : ℕ) where
  pub held_slots : way ≡ Pieces → (b : ℕ) → b ≡ slots_beyond spent slots → eqb b 0 ≡ is_held way spent slots
  held_slots e b eb = rw (e, ← eb)

  pub held_address : way ≡ Reference → not (eqb spent.integers_given 0) ≡ is_held way spent slots
  held_address e = rw e

-- has no bytes for the stack
pub held_none : (way : Way) (spent : Spent) (slots size w : ℕ) → is_held way spent slots ≡ true → aggregate_bytes way spent slots size w ≡ 0
held_none Ignore spent slots size w h = refl
held_none Direct spent slots size w h = absurd (subst T (sym h) tt)
held_none Pieces spent slots size w h = rw (eqb-true (slots_beyond spent slots) 0 h) (omega arith)
held_none Reference spent slots size w h = go (eqb spent.integers_given 0) h
  where
    go : (b : Bool) → not b ≡ true → cond b w 0 ≡ 0
    go true e = absurd (subst T (sym e) tt)
    go false e = refl
held_none Memory spent slots size w h = absurd (subst T (sym h) tt)

-- ---- what the offset is rounded to

module _ (align step : ℕ) where
  pub wide_sixteen : align ≡ 16 → 16 ≡ wide_or align step
  wide_sixteen h = rw (eq-eqb align 16 h)

  pub wide_step : (align ≡ 16 → ⊥) → step ≡ wide_or align step
  wide_step n = rw (ne_eqb align 16 n)

module _ (way : Way) (area : Area) (r : ℕ) where
  module _ (s : Scalar) where
    pub rounding_word : area.arguments ≡ RegisterSized → (own : ℕ) → own ≡ wide_or s.align area.width → r ≡ value_rounding way area.width own → r ≡ scalar_rounding way area s
    rounding_word e own eo er = rw (e, ← eo) er

    pub rounding_size : area.arguments ≡ Packed → (own : ℕ) → own ≡ wide_or s.align s.size → r ≡ value_rounding way area.width own → r ≡ scalar_rounding way area s
    rounding_size e own eo er = rw (e, ← eo) er

  module _ (align : ℕ) where
    pub rounding_words : area.arguments ≡ RegisterSized → (m : ℕ) → m ≡ max align area.width → r ≡ value_rounding way area.width m → r ≡ aggregate_rounding way area align
    rounding_words e m em er = rw (e, ← em) er

    pub rounding_own : area.arguments ≡ Packed → r ≡ value_rounding way area.width align → r ≡ aggregate_rounding way area align
    rounding_own e er = rw e er

module _ (area : Area) (rounding r : ℕ) where
  pub rounding_dots : area.dots ≡ true → (a : ℕ) → a ≡ max rounding 8 → r ≡ max a 1 → r ≡ rounding_of area rounding
  rounding_dots h a ea er = rw (h, ← ea) er

  pub rounding_plain : area.dots ≡ false → r ≡ max rounding 1 → r ≡ rounding_of area rounding
  rounding_plain h er = rw h er

-- ---- how long it is there

module _ (dots : Bool) (bytes w : ℕ) where
  pub packed_dots : dots ≡ true → (r : ℕ) → r ≡ rounded bytes w → r ≡ min (cond dots (in_words bytes w) bytes) most_word
  packed_dots h r er = rw h er

  pub packed_plain : dots ≡ false → bytes ≤ most_word → bytes ≡ min (cond dots (in_words bytes w) bytes) most_word
  packed_plain h l = rw h (omega arith)

module _ (area : Area) (bytes r : ℕ) where
  pub length_words : area.arguments ≡ RegisterSized → r ≡ rounded bytes area.width → r ≡ min (length_of area bytes) most_word
  length_words e er = rw e er

  pub length_packed : area.arguments ≡ Packed → r ≡ min (cond area.dots (in_words bytes area.width) bytes) most_word → r ≡ min (length_of area bytes) most_word
  length_packed e er = rw e (go area.dots er)
    where
      go : (b : Bool) → r ≡ min (cond b (in_words bytes area.width) bytes) most_word → r ≡ min (cond (true && not b) bytes (in_words bytes area.width)) most_word
      go true x = x
      go false x = x

pub no_length : (area : Area) → length_of area 0 ≡ 0
no_length area = go area.arguments area.dots
  where
    words : in_words 0 area.width ≡ 0
    words = round_zero (max area.width 1) (omega arith)

    go : (a : StackArgs) (b : Bool) → length_of (record { width = area.width; arguments = a; dots = b }) 0 ≡ 0
    go RegisterSized b = words
    go Packed true = words
    go Packed false = refl

-- ---- its place

module _ (stack bytes rounding : ℕ) (r : Placed) where
  pub behind_nothing : bytes ≡ 0 → r ≡ nowhere stack → r ≡ behind stack bytes (max rounding 1)
  unfolding behind
  behind_nothing h er = rw (eq-eqb bytes 0 h) er

module _ (stack bytes rounding : ℕ) (some : bytes ≡ 0 → ⊥) (at : ℕ) (ea : at ≡ rounded stack rounding) (next : ℕ) (en : next ≡ plus at bytes) where
  abbrev start : ℕ
  start = round_up stack (max rounding 1)

  pub behind_past : most_stack < next → without_room stack ≡ behind stack bytes (max rounding 1)
  unfolding behind
  behind_past h = rw (ne_eqb bytes 0 some, lt-ltb most_stack (start + bytes) (omega arith))

  pub behind_there : next ≤ most_stack → ◌≡◌ {A = Placed} (record { refusal = accepted; stacked = stands at bytes; next = next }) (behind stack bytes (max rounding 1))
  unfolding behind
  behind_there h =
      let e : at ≡ start = omega arith in
      let f : next ≡ start + bytes = omega arith in
      rw (e, f, ne_eqb bytes 0 some, le-ltb most_stack (start + bytes) (omega arith))

-- what is as long as the largest number, or longer, has no room
past : (stack rounding bytes : ℕ) → most_word ≤ bytes → behind stack bytes rounding ≡ without_room stack
unfolding behind
past stack rounding bytes h = rw (ne_eqb bytes 0 (λ z. omega arith), lt-ltb most_stack (round_up stack rounding + bytes) (omega arith))

-- so a length that stops at 64 bits has no more room than the whole, nor have bytes that do
capped : (stack bytes rounding : ℕ) → behind stack (min bytes most_word) rounding ≡ behind stack bytes rounding
capped stack bytes rounding = ⊎_elim
    (λ (h : bytes ≤ most_word). let e : min bytes most_word ≡ bytes = omega arith in rw e)
    (λ (h : most_word < bytes). past stack rounding (min bytes most_word) (omega arith) ∙ sym (past stack rounding bytes (omega arith)))
    (at_most bytes most_word)

pub place_capped : (area : Area) (stack bytes rounding : ℕ) → placed_of area stack (min bytes most_word) rounding ≡ placed_of area stack bytes rounding
place_capped area stack bytes rounding = ⊎_elim
    (λ (h : bytes ≤ most_word). let e : min bytes most_word ≡ bytes = omega arith in rw e)
    (λ (h : most_word < bytes).
    past stack (rounding_of area rounding) (length_of area (min bytes most_word)) (omega (arith, length_least area (min bytes most_word)))
    ∙ sym (past stack (rounding_of area rounding) (length_of area bytes) (omega (arith, length_least area bytes))))
    (at_most bytes most_word)

-- a length that stops at 64 bits, behind what stands there, is the whole value's place
pub place_by_length : (area : Area) (stack bytes rounding : ℕ)
    → behind stack (min (length_of area bytes) most_word) (max (rounding_of area rounding) 1) ≡ placed_of area stack bytes rounding
place_by_length area stack bytes rounding =
    let m : max (rounding_of area rounding) 1 ≡ rounding_of area rounding = omega arith in
    rw m (capped stack (length_of area bytes) (rounding_of area rounding))

module _ (area : Area) (stack bytes rounding : ℕ) (r : Placed) where
  pub place_is : (l : ℕ) → l ≡ min (length_of area bytes) most_word → (a : ℕ) → a ≡ rounding_of area rounding → r ≡ behind stack l (max a 1) → r ≡ placed_of area stack bytes rounding
  place_is l el a ea er = er ∙ (rw (ea, el) (place_by_length area stack bytes rounding))

pub aggregate_placed : (area : Area) (stack : ℕ) (way : Way) (bytes align a : ℕ) → a ≡ aggregate_rounding way area align → (r : Placed) → r ≡ placed_of area stack bytes a
    → r ≡ placed_of area stack bytes (aggregate_rounding way area align)
aggregate_placed area stack way bytes align a ea r er = rw (← ea) er

-- no bytes have no place
pub place_none : (area : Area) (stack bytes rounding : ℕ) → bytes ≡ 0 → nowhere stack ≡ placed_of area stack bytes rounding
unfolding behind
place_none area stack bytes rounding h = rw (h, no_length area)

module _ (area : Area) (stack : ℕ) (way : Way) (spent : Spent) (bytes : ℕ) (r : Placed) where
  module _ (pointer : ReturnPointer) (eb : bytes ≡ return_bytes way pointer spent area.width) where
    pub return_nowhere : bytes ≡ 0 → r ≡ nowhere stack → r ≡ return_placed area stack way pointer spent
    unfolding return_placed
    return_nowhere h er = rw (← eb) (er ∙ place_none area stack bytes area.width h)

    pub return_placed_lem : r ≡ placed_of area stack bytes area.width → r ≡ return_placed area stack way pointer spent
    unfolding return_placed
    return_placed_lem er = rw (← eb) er

  module _ (s : Scalar) (eb : bytes ≡ scalar_bytes way spent s.size area.width) where
    pub scalar_nowhere : bytes ≡ 0 → r ≡ nowhere stack → r ≡ scalar_placed area stack way spent s
    unfolding scalar_placed
    scalar_nowhere h er = rw (← eb) (er ∙ place_none area stack bytes (scalar_rounding way area s) h)

    pub scalar_placed_lem : (a : ℕ) → a ≡ scalar_rounding way area s → r ≡ placed_of area stack bytes a → r ≡ scalar_placed area stack way spent s
    unfolding scalar_placed
    scalar_placed_lem a ea er = rw (← eb, ← ea) er
