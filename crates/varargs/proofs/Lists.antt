-- The laws of where a scalar stands: what each test decides, and that what is located lies in its area.
use Prim.Native.Nat.{ℕ, ◌+◌, ◌-◌, ◌*◌, ◌/◌, ◌≤◌, ◌<◌}
use mathlib.Core.Path.{◌≡◌, refl, sym, ◌∙◌, ap}
use mathlib.Core.List.{List, []}
use mathlib.Core.Bool.{Bool, true, false, ◌&&◌, ◌||◌, not, cond}
use native.Mathlib.Omega.{arith}
use borrow.Author.Tests.{lt-ltb, le-ltb, le-leb, eq-eqb, ne_eqb, ltb-false, leb-true, eqb-true, eqb-false, not-true, not-false}
use lib.Dec.{ltb, leb, eqb}
use Rattle.std.specs.Prelude.{Result, Ok, Err}
use lib.ListN.{length, take, drop, length-drop}
use lib.Seq.{take-take, length-take-le}
use Rattle.shape.specs.declared.Scalar.{Scalar}
use Rattle.shape.specs.Numbers.{integer, x87_extended, quad, accepted, bad_kind, bad_size, bad_align, bad_area, most_size, most_align}
use Rattle.shape.specs.declared.refusals.Refusal.{Refusal}
use Rattle.shape.specs.Refusals.{number_of}
use Rattle.shape.proofs.Bools.{both_true}
use Rattle.shape.proofs.Refused.{number_decides, number_refuses}
use Rattle.shape.specs.Arithmetic.{round_up}
use Rattle.varargs.specs.declared.Offsets.{Offsets}
use Rattle.varargs.specs.declared.Area as areas
use Rattle.varargs.specs.declared.Located as places
use Rattle.varargs.specs.declared.Reading.{Reading}
use Rattle.varargs.specs.Lists.{Located, Area, Nowhere, Save, Overflow, area_of, placed, told, in_bank, shown, Shown, integer_end, float_place, float_start, is_float_offset, float_end, save_bytes, is_integer_offset, is_own_size, unnamed_refusal, is_save_area, located_nowhere, overflow_start, in_overflow, in_integers, in_floats, standing, located, bytes_of, room_of, Inside, part_of, shown_at}
use Rattle.varargs.proofs.Scalars.{sized, own_listed, listed}

-- ---- so many bytes behind a start

module _ (bytes : List ℕ) (start count : ℕ) (h : start + count ≤ length bytes) where
  pub first_left : take count (take (length bytes - start) (drop start bytes)) ≡ take count (drop start bytes)
  first_left = take-take count (length bytes - start) (drop start bytes) (omega arith)

  pub counted : count ≡ length (take count (take (length bytes - start) (drop start bytes)))
  counted = sym (ap length first_left ∙ length-take-le count (drop start bytes) (omega (arith, length-drop start bytes)))

-- ---- the refusals of a scalar: each test's law takes what the tests before it left. Of its own size it keeps the limits of every scalar

or-true : (a b : Bool) → b ≡ true → a || b ≡ true
or-true true b e = refl
or-true false b e = e

module _ (s : Scalar) where
  pub kind_refused : quad < s.kind → bad_kind ≡ unnamed_refusal s
  unfolding unnamed_refusal
  kind_refused k = rw (lt-ltb _ _ k)

  module _ (k : s.kind ≤ quad) (own : Bool) (is : own ≡ is_own_size s.kind s.size) where
    pub size_refused : not own ≡ true → bad_size ≡ unnamed_refusal s
    unfolding unnamed_refusal
    size_refused z = rw (le-ltb _ _ k, or-true (ltb most_size s.size) _ (rw is at z))

    module _ (z : not own ≡ false) where
      small : s.size ≤ 16
      small = (sized _ (own_listed s.kind s.size k (sym is ∙ not-false _ z))).1

      pub align_refused : (s.align ≡ s.size → ⊥) → bad_align ≡ unnamed_refusal s
      unfolding unnamed_refusal
      align_refused a =
          rw (le-ltb _ _ k, le-ltb most_size s.size (omega (arith, small)), ← is, z, ne_eqb _ _ a, or-true (ltb most_align s.align) true refl)

      pub scalar_taken : s.align ≡ s.size → accepted ≡ unnamed_refusal s
      unfolding unnamed_refusal
      scalar_taken a =
          rw (le-ltb _ _ k, le-ltb most_size s.size (omega (arith, small)), ← is, z, a, le-ltb most_align s.size (omega (arith, small)), eq-eqb s.size s.size refl)

pub ruleset scalar_laws = (kind_refused, size_refused, align_refused, scalar_taken)

-- ---- the overflow area

rounded_at : (n : ℕ) (b : Bool) → (n ≤ cond b ((n + 15) / 16 * 16) n) × (cond b ((n + 15) / 16 * 16) n < n + 16)
rounded_at n true = (omega arith, omega arith)
rounded_at n false = (omega arith, omega arith)

pub start_at : (overflow align : ℕ) → (overflow ≤ overflow_start overflow align) × (overflow_start overflow align < overflow + 16)
unfolding overflow_start round_up
start_at overflow align = rounded_at overflow (ltb 8 align)

module _ (bytes : ℕ) (at : Offsets) (s : Scalar) where
  pub ends_before : bytes < at.overflow → located_nowhere bad_area at ≡ in_overflow bytes at s
  unfolding in_overflow
  ends_before h = rw (lt-ltb bytes (overflow_start at.overflow s.align + s.size) (omega (arith, (start_at at.overflow s.align).0)))

  pub ends_within : bytes < overflow_start at.overflow s.align + s.size → located_nowhere bad_area at ≡ in_overflow bytes at s
  unfolding in_overflow
  ends_within h = rw (lt-ltb bytes (overflow_start at.overflow s.align + s.size) h)

  pub lies_there : overflow_start at.overflow s.align + s.size ≤ bytes
      → record {
        refusal = accepted;
        area = Overflow;
        start = overflow_start at.overflow s.align;
        length = s.size;
        next = record { integer = at.integer; float = at.float; overflow = overflow_start at.overflow s.align + round_up s.size 8 };
      } ≡ in_overflow bytes at s
  unfolding in_overflow
  lies_there h = rw (le-ltb bytes (overflow_start at.overflow s.align + s.size) h)

-- ---- the save area

pub rounded_small : (size : ℕ) → (1 ≤ size) × (size ≤ 16) → (n : ℕ) → n ≡ round_up size 8 → n ≤ 16
unfolding round_up
rounded_small size small n is = omega (arith, is, small.1)

-- where the integer places that it needs are left, it stands in them
module _ (bytes : ℕ) (at : Offsets) (s : Scalar) (small : (1 ≤ s.size) × (s.size ≤ 16)) (n : ℕ) (is : n ≡ round_up s.size 8) where
  pub integers_left : at.integer ≤ integer_end - n
      → record { refusal = accepted; area = Save; start = at.integer; length = s.size; next = record { integer = at.integer + n; float = at.float; overflow = at.overflow } } ≡ in_integers bytes at s
  unfolding in_integers
  integers_left h = rw (← is, le-leb (at.integer + n) integer_end (omega (arith, rounded_small s.size small n is)))

save_area : (n : ℕ) (at : Offsets) → true ≡ is_save_area n at → (n ≡ save_bytes) × (at.integer ≤ integer_end) × (at.float ≤ float_end)
save_area n at h =
    let both = both_true (eqb n save_bytes && is_integer_offset at.integer) (is_float_offset at.float) (sym h) in
    let first = both_true (eqb n save_bytes) (is_integer_offset at.integer) both.0 in (
      eqb-true n save_bytes first.0,
      leb-true at.integer integer_end (both_true (leb at.integer integer_end) _ first.1).0,
      leb-true at.float float_end (both_true (leb float_start at.float) _ (both_true (leb float_start at.float && leb at.float float_end) _ both.1).0).1,
    )

-- the next offset of a bank is a number
pub integers_end : (n : ℕ) (at : Offsets) → true ≡ is_save_area n at → (size : ℕ) → (1 ≤ size) × (size ≤ 16) → at.integer + round_up size 8 ≤ 64
integers_end n at h size small = omega (arith, (save_area n at h).1, rounded_small size small (round_up size 8) refl)

pub floats_end : (n : ℕ) (at : Offsets) → true ≡ is_save_area n at → at.float + float_place ≤ 192
floats_end n at h = omega (arith, (save_area n at h).2)

-- ---- which of them it is

pub taken_small : (s : Scalar) → accepted ≡ unnamed_refusal s → (1 ≤ s.size) × (s.size ≤ 16)
taken_small s taken = sized s (listed s (sym taken))

module _ (save overflow : ℕ) (at : Offsets) (s : Scalar) where
  pub refused_scalar : (r : Refusal) → number_of r ≡ unnamed_refusal s → located_nowhere (number_of r) at ≡ located save overflow at s
  unfolding located
  refused_scalar r is = rw (← is, ne_eqb (number_of r) accepted (number_refuses r))

  module _ (taken : accepted ≡ unnamed_refusal s) where
    pub refused_area : false ≡ is_save_area save at → located_nowhere bad_area at ≡ located save overflow at s
    unfolding located
    refused_area h = rw (← taken, ← h)

    module _ (h : true ≡ is_save_area save at) where
      stands : standing overflow at s ≡ located save overflow at s
      unfolding located
      stands = rw (← taken, ← h)

      pub stands_integer : s.kind ≡ integer
          → in_bank overflow at s at.integer (leb (at.integer + round_up s.size 8) integer_end) (record { integer = at.integer + round_up s.size 8; float = at.float; overflow = at.overflow })
          ≡ located save overflow at s
      unfolding standing in_integers
      stands_integer k = rw (eq-eqb s.kind integer k) at stands

      pub stands_x87 : s.kind ≡ x87_extended → in_overflow overflow at s ≡ located save overflow at s
      unfolding standing
      stands_x87 x = let k : s.kind ≡ integer → ⊥ = λ e. omega (arith, x, e) in rw (ne_eqb s.kind integer k, eq-eqb s.kind x87_extended x) at stands

      pub stands_float : (s.kind ≡ integer → ⊥) → (s.kind ≡ x87_extended → ⊥)
          → in_bank overflow at s at.float (leb (at.float + float_place) float_end) (record { integer = at.integer; float = at.float + float_place; overflow = at.overflow })
          ≡ located save overflow at s
      unfolding standing in_floats
      stands_float k x = rw (ne_eqb s.kind integer k, ne_eqb s.kind x87_extended x) at stands

-- ---- what is located lies in its area

by_test : (P : Located → Type 0) (b : Bool) (x y : Located) → (b ≡ true → P x) → (b ≡ false → P y) → P (cond b x y)
by_test P true x y f g = f refl
by_test P false x y f g = g refl

module _ (bytes : ℕ) (at : Offsets) (s : Scalar) (small : s.size ≤ 16) where
  overflow_inside : (save : ℕ) → Inside save bytes (in_overflow bytes at s)
  unfolding in_overflow
  overflow_inside save =
      by_test (Inside save bytes) (ltb bytes (overflow_start at.overflow s.align + s.size)) _ _ (λ h. omega arith)
      (λ h. ltb-false bytes (overflow_start at.overflow s.align + s.size) h)

  integers_inside : Inside save_bytes bytes (in_integers bytes at s)
  unfolding in_integers round_up
  integers_inside =
      by_test (Inside save_bytes bytes) (leb (at.integer + round_up s.size 8) integer_end) _ _
      (λ h. omega (arith, leb-true (at.integer + round_up s.size 8) integer_end h)) (λ h. overflow_inside save_bytes)

  floats_inside : Inside save_bytes bytes (in_floats bytes at s)
  unfolding in_floats
  floats_inside =
      by_test (Inside save_bytes bytes) (leb (at.float + float_place) float_end) _ _
      (λ h. omega (arith, small, leb-true (at.float + float_place) float_end h)) (λ h. overflow_inside save_bytes)

  standing_inside : Inside save_bytes bytes (standing bytes at s)
  unfolding standing
  standing_inside =
      by_test (Inside save_bytes bytes) (eqb s.kind integer) _ _ (λ h. integers_inside)
      (λ h. by_test (Inside save_bytes bytes) (eqb s.kind x87_extended) _ _ (λ h'. overflow_inside save_bytes) (λ h'. floats_inside))

pub located_inside : (save overflow : ℕ) (at : Offsets) (s : Scalar) → Inside save overflow (located save overflow at s)
unfolding located
located_inside save overflow at s =
    by_test (Inside save overflow) (not (eqb (unnamed_refusal s) accepted)) _ _ (λ h. omega arith) (λ h.
    let small : s.size ≤ 16 = (sized s (listed s (eqb-true _ _ (not-false _ h)))).1 in
    by_test (Inside save overflow) (not (is_save_area save at)) _ _ (λ h'. omega arith) (λ h'.
    rw ((save_area save at (sym (not-false _ h'))).0) (standing_inside overflow at s small)))

-- ---- it is refused, with the offsets that were handed in, or it is a part of the scalar's size

module _ (P : Located → Type 0) (s : Scalar) (at : Offsets) (short : P (located_nowhere bad_area at)) (part : (l : Located) → l.refusal ≡ accepted → l.length ≡ s.size → P l) where
  overflow_so : (bytes : ℕ) → P (in_overflow bytes at s)
  unfolding in_overflow
  overflow_so bytes = by_test P (ltb bytes (overflow_start at.overflow s.align + s.size)) _ _ (λ h. short) (λ h. part _ refl refl)

  standing_so : (bytes : ℕ) → P (standing bytes at s)
  unfolding standing in_integers in_floats
  standing_so bytes =
      by_test P (eqb s.kind integer) _ _ (λ h. by_test P (leb (at.integer + round_up s.size 8) integer_end) _ _ (λ h'. part _ refl refl) (λ h'. overflow_so bytes))
      (λ h. by_test P (eqb s.kind x87_extended) _ _ (λ h'. overflow_so bytes)
      (λ h'. by_test P (leb (at.float + float_place) float_end) _ _ (λ h''. part _ refl refl) (λ h''. overflow_so bytes)))

  pub located_so : (save overflow : ℕ) → ((unnamed_refusal s ≡ accepted → ⊥) → P (located_nowhere (unnamed_refusal s) at)) → P (located save overflow at s)
  unfolding located
  located_so save overflow wrong =
      by_test P (not (eqb (unnamed_refusal s) accepted)) _ _ (λ h. wrong (eqb-false _ _ (not-true _ h)))
      (λ h. by_test P (not (is_save_area save at)) _ _ (λ h'. short) (λ h'. standing_so overflow))

-- a part's bytes are as many as its length: it lies in its area
pub area_bytes : (l : Located) (save overflow : List ℕ) → room_of l.area (length save) (length overflow) ≡ length (bytes_of l.area save overflow)
area_bytes l save overflow = go l.area
  where
    go : (area : Area) → room_of area (length save) (length overflow) ≡ length (bytes_of area save overflow)
    go Nowhere = refl
    go Save = refl
    go Overflow = refl

pub part_length : (save overflow : List ℕ) (l : Located) → Inside (length save) (length overflow) l → length (part_of save overflow l) ≡ l.length
unfolding part_of
part_length save overflow l inside =
    length-take-le l.length _ (omega (arith, length-drop l.start (bytes_of l.area save overflow), area_bytes l save overflow, inside))

-- where it is refused there are none
pub nowhere_part : (save overflow : List ℕ) (refusal : ℕ) (at : Offsets) → part_of save overflow (located_nowhere refusal at) ≡ []
unfolding part_of
nowhere_part save overflow refusal at = refl

-- ---- an answer is decided by what it tells

area_back : Area → areas.Area
area_back Nowhere = areas.TheVariants.Save
area_back Save = areas.TheVariants.Save
area_back Overflow = areas.TheVariants.Overflow

same_area : (a : areas.Area) → area_back (area_of a) ≡ a
unfolding area_back
same_area areas.TheVariants.Save = refl
same_area areas.TheVariants.Overflow = refl

placed_back : Located → places.Located
placed_back l = record { area = area_back l.area; start = l.start; length = l.length; next = l.next }

same_place : (l : places.Located) → placed_back (placed l) ≡ l
unfolding placed_back
same_place l = rw (same_area l.area)

pub told_decides : (at : Offsets) (a b : Result places.Located Refusal) → told a at ≡ told b at → a ≡ b
told_decides at (Ok l) (Ok m) e = ap Ok (sym (same_place l) ∙ ap placed_back e ∙ same_place m)
told_decides at (Ok l) (Err q) e = absurd (number_refuses q (sym (ap (λ (x : Located). x.refusal) e)))
told_decides at (Err r) (Ok m) e = absurd (number_refuses r (ap (λ (x : Located). x.refusal) e))
told_decides at (Err r) (Err q) e = ap Err (number_decides r q (ap (λ (x : Located). x.refusal) e))

-- what shows the same at some offsets shows the same at all
pub shown_decides : (at : Offsets) (a b : Result Reading Refusal) → shown a at ≡ shown b at → shown a ≡ shown b
shown_decides at (Ok r) (Ok q) e = ap (λ (x : Shown). λ (at' : Offsets). x) e
shown_decides at (Ok r) (Err q) e = absurd (number_refuses q (sym (ap (λ (x : Shown). x.refusal) e)))
shown_decides at (Err r) (Ok q) e = absurd (number_refuses r (ap (λ (x : Shown). x.refusal) e))
shown_decides at (Err r) (Err q) e = ap (λ (n : ℕ). λ (at' : Offsets). record { refusal = n; bytes = []; next = at' }) (ap (λ (x : Shown). x.refusal) e)

-- what shows the parts of what is located shows it
pub shown_so : (save overflow : List ℕ) (l r : Located) (bytes : List ℕ) → r ≡ l → bytes ≡ part_of save overflow r
    → record { refusal = r.refusal; bytes = bytes; next = r.next } ≡ shown_at save overflow l
shown_so save overflow l r bytes e parts = rw (parts, e)

pub inside_so : (save overflow : ℕ) {r l : Located} → r ≡ l → Inside save overflow l → Inside save overflow r
inside_so save overflow e h = rw e h
