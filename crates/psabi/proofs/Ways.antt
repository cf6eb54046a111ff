-- What row 0 and the psABI answer for one eightbyte and for two, by their classes and by how many registers are left.
use Prim.Native.Nat.{ℕ, zero, suc, ◌-◌, ◌≤◌, ◌<◌, min}
use mathlib.Core.Path.{◌≡◌, refl, ap, ◌∙◌}
use mathlib.Core.Bool.{Bool, true, false, cond, ◌&&◌, true≢false}
use mathlib.Core.List.{List, [], ◌∷◌, map}
use mathlib.Core.Option.Option.{none, some}
use native.Mathlib.Omega.{arith}
use borrow.Author.Tests.{le-leb, lt-leb}
use lib.Dec.{eqb, leb}
use lib.Seq.{drop-cons, drop-length}
use lib.ListN.{length, drop, get_or}
use Rattle.shape.specs.Numbers.{quad}
use Rattle.shape.proofs.Bools.{second_fails}
use Rattle.slots.specs.declared.Slot.{Slot}
use Rattle.slots.specs.Words.{slot, float_slot}
use Rattle.slots.specs.Search.{Search, found, nothing, floats_in}
use Rattle.eightbytes.specs.Class.{same, code}
use Rattle.eightbytes.specs.Eightbytes.{spoiled, mend, settled, slots_from, slots_found}
use Rattle.classify.specs.Pass.{pieces, reference, memory}
use Rattle.classify.specs.Classify.{Passed, counts, passed}
use Rattle.psabi.specs.Psabi as psabi
use Rattle.psabi.specs.Psabi.{Class, INTEGER, SSE, SSEUP, NO-CLASS, Register, rdi, is, any_memory, lone_x87_up, converted, cleaned, passing, returning}
use Rattle.psabi.specs.Reading.{integers, floats, last_of, standing, places_of, read_argument, read_result}
use Rattle.psabi.proofs.Agree.{rep, Plain, blank, int, vec, up}

-- ---- registers

pub none_left : (rs : List Register) → last_of 0 rs ≡ []
unfolding last_of
none_left rs = let e : length rs - 0 ≡ length rs = omega arith in rw e (drop-length rs)

pub next : (rs : List Register) (n : ℕ) → n < length rs → last_of (suc n) rs ≡ get_or rs (length rs - suc n) rdi ∷ last_of n rs
unfolding last_of
next rs n h =
    let e : suc (length rs - suc n) ≡ length rs - n = omega arith in
    drop-cons rs (length rs - suc n) rdi (omega arith) ∙ ap (λ k. get_or rs (length rs - suc n) rdi ∷ drop k rs) e

-- ---- arguments

-- what row 0 does with what its eightbytes find
unfoldable pub spend : ℕ → ℕ → Search → Passed
spend i f nothing = passed memory (counts i f)
spend i f (found ss) =
    cond (leb (length ss - floats_in ss) i && leb (floats_in ss) f)
    (passed (pieces ss) (counts (i - (length ss - floats_in ss)) (f - floats_in ss)))
    (passed memory (counts i f))

module _ (ss : List Slot) (i f a b : ℕ) (ea : length ss - floats_in ss ≡ a) (eb : floats_in ss ≡ b) where
  fits : a ≤ i → b ≤ f → (n m : ℕ) → i - a ≡ n → f - b ≡ m → spend i f (found ss) ≡ passed (pieces ss) (counts n m)
  unfolding spend
  fits h g n m en em = rw (ea, eb, le-leb a i h, le-leb b f g, en, em)

  short_general : i < a → spend i f (found ss) ≡ passed memory (counts i f)
  unfolding spend
  short_general h = rw (ea, eb, lt-leb a i h)

  short_vector : f < b → spend i f (found ss) ≡ passed memory (counts i f)
  unfolding spend
  short_vector h = rw (ea, eb, lt-leb b f h, second_fails (leb a i) false refl)

-- these slots are what the psABI has for these classes
abbrev Agree : ℕ → ℕ → List Slot → List Class → Type 0
Agree i f ss cs =
    read_argument (counts i f) (spend i f (found ss)) ≡ some (psabi.passed (standing i f) (some cs))

-- a float of one eightbyte
record Chunk (k : ℕ) : Type 0 where
  float : eqb k 0 ≡ false
  not_x87 : eqb k 3 ≡ false
  not_quad : eqb k 4 ≡ false

chunk : (b : Bool) → Chunk (cond b 1 2)
chunk true = record { float = refl; not_x87 = refl; not_quad = refl }
chunk false = record { float = refl; not_x87 = refl; not_quad = refl }

i_only : (i f s : ℕ) → i ≤ 6 → Agree i f (slot 0 0 s ∷ []) (INTEGER ∷ [])
unfolding passing places_of floats_in
i_only zero f s h = rw (short_general (slot 0 0 s ∷ []) 0 f 1 0 refl refl (omega arith), none_left integers)
i_only (suc n) f s h =
    rw
    (fits (slot 0 0 s ∷ []) (suc n) f 1 0 refl refl (omega arith) (omega arith) n f (omega arith) (omega arith), next integers n (omega arith))

v_only : (i f k : ℕ) → Chunk k → f ≤ 8 → Agree i f (float_slot k 0 ∷ []) (SSE ∷ [])
unfolding passing places_of floats_in
v_only i zero k c h = rw (short_vector (float_slot k 0 ∷ []) i 0 0 1 (rw c.float) (rw c.float) (omega arith), none_left floats)
v_only i (suc m) k c h =
    rw (
      fits (float_slot k 0 ∷ []) i (suc m) 0 1 (rw c.float) (rw c.float) (omega arith) (omega arith) i m (omega arith) (omega arith),
      next floats m (omega arith),
      c.float,
      c.not_x87,
      c.not_quad,
    )

i_i : (i f s t : ℕ) → i ≤ 6 → Agree i f (slot 0 0 s ∷ slot 0 8 t ∷ []) (INTEGER ∷ INTEGER ∷ [])
unfolding passing places_of floats_in
i_i zero f s t h = rw (short_general (slot 0 0 s ∷ slot 0 8 t ∷ []) 0 f 2 0 refl refl (omega arith), none_left integers)
i_i (suc zero) f s t h =
    rw
    (short_general (slot 0 0 s ∷ slot 0 8 t ∷ []) 1 f 2 0 refl refl (omega arith), next integers 0 (omega arith), none_left integers)
i_i (suc (suc n)) f s t h =
    rw (
      fits (slot 0 0 s ∷ slot 0 8 t ∷ []) (suc (suc n)) f 2 0 refl refl (omega arith) (omega arith) n f (omega arith) (omega arith),
      next integers (suc n) (omega arith),
      next integers n (omega arith),
    )

i_v : (i f s k : ℕ) → Chunk k → i ≤ 6 → f ≤ 8 → Agree i f (slot 0 0 s ∷ float_slot k 8 ∷ []) (INTEGER ∷ SSE ∷ [])
unfolding passing places_of floats_in
i_v zero f s k c h g = rw (short_general (slot 0 0 s ∷ float_slot k 8 ∷ []) 0 f 1 1 (rw c.float) (rw c.float) (omega arith), none_left integers)
i_v (suc n) zero s k c h g =
    rw (
      short_vector (slot 0 0 s ∷ float_slot k 8 ∷ []) (suc n) 0 1 1 (rw c.float) (rw c.float) (omega arith),
      next integers n (omega arith),
      none_left floats,
    )
i_v (suc n) (suc m) s k c h g =
    rw (
      fits (slot 0 0 s ∷ float_slot k 8 ∷ []) (suc n) (suc m) 1 1 (rw c.float) (rw c.float) (omega arith) (omega arith) n m (omega arith) (omega arith),
      next integers n (omega arith),
      next floats m (omega arith),
      c.float,
      c.not_x87,
      c.not_quad,
    )

v_i : (i f k t : ℕ) → Chunk k → i ≤ 6 → f ≤ 8 → Agree i f (float_slot k 0 ∷ slot 0 8 t ∷ []) (SSE ∷ INTEGER ∷ [])
unfolding passing places_of floats_in
v_i i zero k t c h g = rw (short_vector (float_slot k 0 ∷ slot 0 8 t ∷ []) i 0 1 1 (rw c.float) (rw c.float) (omega arith), none_left floats)
v_i zero (suc m) k t c h g =
    rw (
      short_general (float_slot k 0 ∷ slot 0 8 t ∷ []) 0 (suc m) 1 1 (rw c.float) (rw c.float) (omega arith),
      next floats m (omega arith),
      none_left integers,
    )
v_i (suc n) (suc m) k t c h g =
    rw (
      fits (float_slot k 0 ∷ slot 0 8 t ∷ []) (suc n) (suc m) 1 1 (rw c.float) (rw c.float) (omega arith) (omega arith) n m (omega arith) (omega arith),
      next integers n (omega arith),
      next floats m (omega arith),
      c.float,
      c.not_x87,
      c.not_quad,
    )

v_v : (i f k l : ℕ) → Chunk k → Chunk l → f ≤ 8 → Agree i f (float_slot k 0 ∷ float_slot l 8 ∷ []) (SSE ∷ SSE ∷ [])
unfolding passing places_of floats_in
v_v i zero k l c d h =
    rw (
      short_vector (float_slot k 0 ∷ float_slot l 8 ∷ []) i 0 0 2 (rw (c.float, d.float)) (rw (c.float, d.float)) (omega arith),
      none_left floats,
    )
v_v i (suc zero) k l c d h =
    rw (
      short_vector (float_slot k 0 ∷ float_slot l 8 ∷ []) i 1 0 2 (rw (c.float, d.float)) (rw (c.float, d.float)) (omega arith),
      next floats 0 (omega arith),
      none_left floats,
    )
v_v i (suc (suc m)) k l c d h =
    rw (
      fits (float_slot k 0 ∷ float_slot l 8 ∷ []) i (suc (suc m)) 0 2 (rw (c.float, d.float)) (rw (c.float, d.float)) (omega arith) (omega arith) i m (omega arith) (omega arith),
      next floats (suc m) (omega arith),
      next floats m (omega arith),
      c.float,
      c.not_x87,
      c.not_quad,
      d.float,
      d.not_x87,
      d.not_quad,
    )

wide : (i f : ℕ) → f ≤ 8 → Agree i f (float_slot quad 0 ∷ []) (SSE ∷ SSEUP ∷ [])
unfolding passing places_of floats_in
wide i zero h = rw (short_vector (float_slot quad 0 ∷ []) i 0 0 1 refl refl (omega arith), none_left floats)
wide i (suc m) h =
    rw (fits (float_slot quad 0 ∷ []) i (suc m) 0 1 refl refl (omega arith) (omega arith) i m (omega arith) (omega arith), next floats m (omega arith))

-- ---- results

-- what row 0 does with what its eightbytes find
unfoldable pub give : ℕ → ℕ → Search → Passed
give i f nothing = passed reference (counts (i - 1) f)
give i f (found ss) = passed (pieces ss) (counts i f)

pub in_memory : (i f : ℕ) → i ≤ 6 → read_result (counts i f) (give i f nothing) ≡ some (psabi.returned (standing i f) none)
unfolding give
in_memory zero f h = rw (none_left integers)
in_memory (suc n) f h = let e : suc n - 1 ≡ n = omega arith in rw (e, next integers n (omega arith))

-- ---- one eightbyte and two, by the classes that the pieces left there

module _ (i f size : ℕ) (hi : i ≤ 6) (hf : f ≤ 8) where
  abbrev Argument : List Class → Type 0
  Argument cs = read_argument (counts i f) (spend i f (slots_found size (settled (map rep cs)))) ≡ some (psabi.passed (standing i f) (cleaned cs))

  abbrev Result : List Class → Type 0
  Result cs = read_result (counts i f) (give i f (slots_found size (settled (map rep cs)))) ≡ some (psabi.returned (standing i f) (cleaned cs))

  low : Chunk (cond (leb size 4) 1 2)
  low = chunk (leb size 4)

  high : Chunk (cond (leb (size - 8) 4) 1 2)
  high = chunk (leb (size - 8) 4)

  pub argument_one : {c : Class} → Plain c → is NO-CLASS c ≡ false → Argument (c ∷ [])
  unfolding slots_found settled spoiled mend slots_from same code rep cleaned any_memory lone_x87_up converted
  argument_one blank h = absurd (true≢false h)
  argument_one int h = i_only i f (min size 8) hi
  argument_one vec h = v_only i f _ low hf
  argument_one up h = v_only i f _ low hf

  pub argument_two : {c d : Class} → Plain c → Plain d → is NO-CLASS c ≡ false → is NO-CLASS d ≡ false → Argument (c ∷ d ∷ [])
  unfolding slots_found settled spoiled mend slots_from same code rep cleaned any_memory lone_x87_up converted
  argument_two blank q h g = absurd (true≢false h)
  argument_two int blank h g = absurd (true≢false g)
  argument_two int int h g = i_i i f (min size 8) (min (size - 8) 8) hi
  argument_two int vec h g = i_v i f (min size 8) _ high hi hf
  argument_two int up h g = i_v i f (min size 8) _ high hi hf
  argument_two vec blank h g = absurd (true≢false g)
  argument_two vec int h g = v_i i f _ (min (size - 8) 8) low hi hf
  argument_two vec vec h g = v_v i f _ _ low high hf
  argument_two vec up h g = wide i f hf
  argument_two up blank h g = absurd (true≢false g)
  argument_two up int h g = v_i i f _ (min (size - 8) 8) low hi hf
  argument_two up vec h g = v_v i f _ _ low high hf
  argument_two up up h g = wide i f hf

  pub result_one : {c : Class} → Plain c → is NO-CLASS c ≡ false → Result (c ∷ [])
  unfolding give slots_found settled spoiled mend slots_from same code rep cleaned any_memory lone_x87_up converted returning places_of
  result_one blank h = absurd (true≢false h)
  result_one int h = refl
  result_one vec h = rw (low.float, low.not_x87, low.not_quad)
  result_one up h = rw (low.float, low.not_x87, low.not_quad)

  pub result_two : {c d : Class} → Plain c → Plain d → is NO-CLASS c ≡ false → is NO-CLASS d ≡ false → Result (c ∷ d ∷ [])
  unfolding give slots_found settled spoiled mend slots_from same code rep cleaned any_memory lone_x87_up converted returning places_of
  result_two blank q h g = absurd (true≢false h)
  result_two int blank h g = absurd (true≢false g)
  result_two int int h g = refl
  result_two int vec h g = rw (high.float, high.not_x87, high.not_quad)
  result_two int up h g = rw (high.float, high.not_x87, high.not_quad)
  result_two vec blank h g = absurd (true≢false g)
  result_two vec int h g = rw (low.float, low.not_x87, low.not_quad)
  result_two vec vec h g = rw (low.float, low.not_x87, low.not_quad, high.float, high.not_x87, high.not_quad)
  result_two vec up h g = refl
  result_two up blank h g = absurd (true≢false g)
  result_two up int h g = rw (low.float, low.not_x87, low.not_quad)
  result_two up vec h g = rw (low.float, low.not_x87, low.not_quad, high.float, high.not_x87, high.not_quad)
  result_two up up h g = refl
