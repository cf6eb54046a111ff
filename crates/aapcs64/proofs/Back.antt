-- What an answer says in the standard's terms is all that it says: the way, the slots and what is left are read back from it.
use Prim.Native.Nat.{ℕ, ◌+◌, ◌-◌, ◌≤◌}
use mathlib.Core.Path.{◌≡◌, refl, ap, sym, ◌∙◌}
use mathlib.Core.List.{List, [], ◌∷◌, map}
use mathlib.Core.Bool.{Bool, true, false, not, cond}
use mathlib.Core.Option.{Option}
use mathlib.Core.Option.Option.{none, some}
use native.Mathlib.Omega.{arith}
use borrow.Author.Tests.{eqb-true}
use lib.Dec.{eqb, ltb}
use Rattle.slots.specs.declared.Slot.{Slot}
use Rattle.slots.specs.Words.{slot, integer_slot, float_slot}
use Rattle.spend.specs.declared.Left.{Left}
use Rattle.spend.specs.Ways.{no_mark}
use Rattle.classify.specs.Pass.{Pass, ignore, direct, pieces, reference, memory, way_of, pass_slots}
use Rattle.classify.specs.Classify.{Passed, passed, counts, leaves}
use Rattle.aapcs64.specs.Aapcs64.{Register, v, x, Part, Place, registers, stack, copy, copy_on_stack, State, Passing, passing}
use Rattle.aapcs64.specs.Reading.{state_of, parts_of, copy_of, place_of, passing_of, reads, reads_passed}

-- ---- reading back

abbrev pub format_of : ℕ → ℕ
format_of bytes = cond (eqb bytes 4) 1 (cond (eqb bytes 8) 2 (cond (eqb bytes 10) 3 4))

abbrev pub slot_in : Register → ℕ → ℕ → Slot
slot_in (v n) offset bytes = float_slot (format_of bytes) offset
slot_in (x n) offset bytes = integer_slot offset bytes

abbrev pub slot_for : Part → Slot
slot_for p = slot_in p.register p.offset p.bytes

abbrev pub pass_for : Place → Pass
pass_for (registers parts) = pieces (map slot_for parts)
pass_for stack = memory
pass_for (copy r) = reference
pass_for copy_on_stack = reference

abbrev pub left_for : State → Left
left_for s = counts (8 - s.NGRN) (8 - s.NSRN)

abbrev pub passed_for : Passing → Passed
passed_for p = passed (pass_for p.place) (left_for p.next)

-- ---- slots

-- an integer of any size, or a float in one of the four formats, whose size is 0
pub data Kept : ℕ → ℕ → Type 0 where
  integers : {n : ℕ} → Kept 0 n
  singles : Kept 1 0
  doubles : Kept 2 0
  x87s : Kept 3 0
  quads : Kept 4 0

pub data AllKept : List Slot → Type 0 where
  end : AllKept []
  then : {k o n : ℕ} {ss : List Slot} → Kept k n → AllKept ss → AllKept (slot k o n ∷ ss)

slot_back : (k o n : ℕ) (ss : List Slot) → Kept k n → ((N S : ℕ) → map slot_for (parts_of N S ss) ≡ ss) → (N S : ℕ)
    → map slot_for (parts_of N S (slot k o n ∷ ss)) ≡ slot k o n ∷ ss
unfolding parts_of
slot_back k o n ss integers back N S = rw (back (N + 1) S)
slot_back k o n ss singles back N S = rw (back N (S + 1))
slot_back k o n ss doubles back N S = rw (back N (S + 1))
slot_back k o n ss x87s back N S = rw (back N (S + 1))
slot_back k o n ss quads back N S = rw (back N (S + 1))

parts_back : {ss : List Slot} → AllKept ss → (N S : ℕ) → map slot_for (parts_of N S ss) ≡ ss
unfolding parts_of
parts_back end N S = refl
parts_back (then {k} {o} {n} {ss} h rest) N S = slot_back k o n ss h (λ n s. parts_back rest n s) N S

-- ---- answers

left_back : (i f : ℕ) → i ≤ 8 → f ≤ 8 → left_for (state_of (counts i f)) ≡ counts i f
left_back i f hi hf =
    let a : 8 - (8 - i) ≡ i = omega arith in
    let b : 8 - (8 - f) ≡ f = omega arith in
    rw (a, b)

module _ (before : Left) (i f : ℕ) (hi : i ≤ 8) (hf : f ≤ 8) (q : Passing) where
  back : (pass : Pass) → AllKept (pass_slots pass) → reads_passed before (passed pass (counts i f)) ≡ some q → passed_for q ≡ passed pass (counts i f)
  unfolding reads
  back ignore h e = absurd (let z : ◌≡◌ {A = ℕ} 0 1 = cc in omega arith)
  back direct h e = absurd (let z : ◌≡◌ {A = ℕ} 0 1 = cc in omega arith)
  back (pieces ss) h e =
      let z : q ≡ passing (registers (parts_of (8 - before.integer) (8 - before.float) ss)) (state_of (counts i f)) = cc in
      rw (z, parts_back h (8 - before.integer) (8 - before.float), left_back i f hi hf)
  back reference h e =
      let z : q ≡ passing (copy_of before (counts i f)) (state_of (counts i f)) = cc in
      rw (z, left_back i f hi hf) (go (ltb i before.integer))
    where
      go : (b : Bool) → passed (pass_for (cond b (copy (x (8 - before.integer))) copy_on_stack)) (counts i f) ≡ passed reference (counts i f)
      go true = refl
      go false = refl
  back memory h e =
      let z : q ≡ passing stack (state_of (counts i f)) = cc in
      rw (z, left_back i f hi hf)

  -- what reads in the standard's terms has no mark
  none_marked : (place : Option Place) (after : Left) → passing_of place after ≡ some q → after.integers_only ≡ no_mark
  none_marked none after e = absurd (let z : ◌≡◌ {A = ℕ} 0 1 = cc in omega arith)
  none_marked (some place) after e = go (eqb after.integers_only no_mark) refl e
    where
      go : (b : Bool) → eqb after.integers_only no_mark ≡ b → cond (not b) none (some (passing place (state_of after))) ≡ some q → after.integers_only ≡ no_mark
      go true t y = eqb-true _ _ t
      go false t y = absurd (let z : ◌≡◌ {A = ℕ} 0 1 = cc in omega arith)

  reads_unmarked : (p : Passed) → reads_passed before p ≡ some q → p.left.integers_only ≡ no_mark
  unfolding reads
  reads_unmarked p e = none_marked (place_of (way_of p.pass) before (pass_slots p.pass) p.left) p.left e

pub reads_back : (before : Left) (p : Passed) → AllKept (pass_slots p.pass) → p.left.integer ≤ 8 → p.left.float ≤ 8 → (q : Passing)
    → reads_passed before p ≡ some q → passed_for q ≡ p
reads_back before p h hi hf q e =
    let m : p.left ≡ counts p.left.integer p.left.float = λ j. leaves p.left.integer p.left.float (reads_unmarked before p.left.integer p.left.float hi hf q p e j) in
    back before p.left.integer p.left.float hi hf q p.pass h (ap (λ (l : Left). reads_passed before (passed p.pass l)) (sym m) ∙ e) ∙ ap (passed p.pass) (sym m)
