-- The pass after the merge: what is done and what is left decide the classes and the counts.
use Prim.Native.Nat.{ℕ, ◌+◌, ◌-◌, ◌≤◌, ◌<◌}
use mathlib.Core.Path.{◌≡◌, refl, ap₂, ◌∙◌}
use mathlib.Core.Bool.{Bool, true, false, cond, not, ◌||◌}
use mathlib.Core.List.{List, [], ◌∷◌, ◌++◌, append_assoc, append-nil}
use mathlib.Core.Option.Option.{none, some}
use native.Mathlib.Omega.{arith}
use native.Mathlib.Numerals.{add-one}
use native.Mathlib.Nat.{add-zero}
use denote.Enum.Bare.{sameb}
use lib.Dec.{leb}
use lib.ListN.{length, get_or, set, take, drop, replicate}
use Rattle.std.proofs.lemmas.List.{take_all}
use lib.Seq.{take-suc-set}
use Rattle.std.specs.Prelude as Prelude
use Rattle.shape.specs.Questions.{is_float}
use Rattle.slots.specs.declared.Slot.{Slot}
use Rattle.slots.specs.declared.Found.{Found}
use Rattle.shape.specs.Numbers.{one_if}
use Rattle.slots.specs.Search.{floats_in, counted, found_of}
use Rattle.eightbytes.specs.Class.{Class, None, Integer, Sse, SseUp, X87, Memory, code, same, mended}
use Rattle.eightbytes.specs.Eightbytes.{spoiled, mend, settled, own_slot, class_slot, up_first, slots_from, slots_found, eight_of, slot_count}
use Rattle.eightbytes.specs.contracts.Class.{the_type}
use Rattle.eightbytes.proofs.OneClass.{same_is, mended_spoils}
use Rattle.eightbytes.proofs.Rest.{rest_step, rest_set, rest_end}

-- a yes counts one at most
pub one_at_most : (u : Bool) (k : ℕ) → k ≡ one_if u → k ≤ 1
one_at_most true k e = omega arith
one_at_most false k e = omega arith

-- how many of some classes are the lower half of a float's slot
unfoldable pub sses_in : List Class → ℕ
sses_in [] = 0
sses_in (c ∷ cs) = one_if (same c Sse) + sses_in cs

format_float : (up small : Bool) → is_float (cond up 4 (cond small 1 2)) ≡ true
format_float true small = refl
format_float false true = refl
format_float false false = refl

-- slots and floats are counted by their classes
pub slots_length : (at left : ℕ) (cs : List Class) → length (slots_from at left cs) ≡ slot_count cs
unfolding slots_from slot_count
slots_length at left [] = refl
slots_length at left (c ∷ cs) = go (same c SseUp) (slots_length (at + 8) (left - 8) cs)
  where
    go : (up : Bool) → length (slots_from (at + 8) (left - 8) cs) ≡ slot_count cs
        → length (cond up [] (own_slot c (up_first cs) at left ∷ []) ++ slots_from (at + 8) (left - 8) cs) ≡ one_if (not up) + slot_count cs
    go true ih = omega arith
    go false ih = omega arith

float_one : (c : Class) (up : Bool) (at left : ℕ) → floats_in (class_slot c up at left) ≡ one_if (same c Sse)
unfolding floats_in same code
float_one None up at left = refl
float_one Integer up at left = refl
float_one Sse up at left = rw (format_float up (leb left 4))
float_one SseUp up at left = refl
float_one X87 up at left = refl
float_one Memory up at left = refl

floats_append : (ss ts : List Slot) → floats_in (ss ++ ts) ≡ floats_in ss + floats_in ts
unfolding floats_in
floats_append [] ts = omega arith
floats_append (s ∷ ss) ts = omega (arith, floats_append ss ts)

pub slots_floats : (at left : ℕ) (cs : List Class) → floats_in (slots_from at left cs) ≡ sses_in cs
unfolding slots_from sses_in floats_in
slots_floats at left [] = refl
slots_floats at left (c ∷ cs) =
    floats_append (class_slot c (up_first cs) at left) (slots_from (at + 8) (left - 8) cs)
    ∙ ap₂ ◌+◌ (float_one c (up_first cs) at left) (slots_floats (at + 8) (left - 8) cs)

-- the loop: `cs` are the classes as they are, mended before `i`
module _ (cs : List Class) (i : ℕ) (below : Class) (h : i < length cs) (class : Class) (e : class ≡ mended below (get_or cs i None)) where
  mend_step : mend below (drop i cs) ≡ class ∷ mend class (drop (i + 1) cs)
  unfolding mend
  mend_step = rw (rest_step cs i h, ← e)

  -- X87 or Memory stops it
  module _ (b s : Bool) (eb : b ≡ spoiled (drop i cs)) (es : s ≡ (same class X87 || same class Memory)) where
    spoil : b ≡ s || spoiled (drop (i + 1) cs)
    unfolding spoiled
    spoil = rw (eb, rest_step cs i h, es, e, mended_spoils)

    pub spoil_stop : s ≡ true → b ≡ true
    spoil_stop g = rw (spoil, g)

    pub spoil_step : s ≡ false → b ≡ spoiled (drop (i + 1) (set cs i class))
    spoil_step g = rw (spoil, g, rest_set cs i class)

  pub mend_turn : (all : List Class) → all ≡ take i cs ++ mend below (drop i cs) → all ≡ take (i + 1) (set cs i class) ++ mend class (drop (i + 1) (set cs i class))
  mend_turn all a =
      let t : take (i + 1) (set cs i class) ≡ take i cs ++ (class ∷ []) = rw add-one (take-suc-set cs i class h) in
      rw (a, mend_step, t, rest_set cs i class, append_assoc)

  pub count_turn : (m count k : ℕ) (u : Bool) → m ≡ count + slot_count (mend below (drop i cs)) → u ≡ not (sameb the_type class SseUp) → k ≡ one_if u
      → m ≡ count + k + slot_count (mend class (drop (i + 1) (set cs i class)))
  unfolding slot_count
  count_turn m count k u a eu ek =
      let s : slot_count (mend below (drop i cs)) ≡ k + slot_count (mend class (drop (i + 1) cs)) = rw (mend_step, ek, eu, same_is) in
      rw (rest_set cs i class) (omega arith)

  pub float_turn : (m floats k : ℕ) (u : Bool) → m ≡ floats + sses_in (mend below (drop i cs)) → u ≡ sameb the_type class Sse → k ≡ one_if u
      → m ≡ floats + k + sses_in (mend class (drop (i + 1) (set cs i class)))
  unfolding sses_in
  float_turn m floats k u a eu ek =
      let s : sses_in (mend below (drop i cs)) ≡ k + sses_in (mend class (drop (i + 1) cs)) = rw (mend_step, ek, eu, same_is) in
      rw (rest_set cs i class) (omega arith)

-- its end: `xs` are the classes of the shape's eightbytes at the start. The counts are the same at any size
module _ (xs : List Class) where
  settled_none : spoiled xs ≡ true → settled xs ≡ none
  unfolding settled
  settled_none s = rw s

  pub stop_found : (f : Prelude.Option Found) → spoiled xs ≡ true → f ≡ Prelude.None → (size : ℕ) → f ≡ found_of (slots_found size (settled xs))
  unfolding slots_found found_of
  stop_found f s e size = rw (settled_none s) e

  pub stop_classes : (cs : List Class) → spoiled xs ≡ true → cs ≡ eight_of none → cs ≡ eight_of (settled xs)
  stop_classes cs s e = rw (settled_none s) e

  module _ (cs : List Class) (i : ℕ) (below : Class) (past : length cs ≤ i) (s : spoiled xs ≡ spoiled (drop i cs)) where
    settled_some : settled xs ≡ some (mend None xs)
    unfolding settled spoiled
    settled_some = let c : spoiled xs ≡ false = rw (s, rest_end cs i past) in rw c

    pub end_found : (count floats : ℕ) → slot_count (mend None xs) ≡ count + slot_count (mend below (drop i cs))
        → sses_in (mend None xs) ≡ floats + sses_in (mend below (drop i cs))
        → (size : ℕ) → Prelude.Some (counted count floats) ≡ found_of (slots_found size (settled xs))
    unfolding slots_found found_of mend slot_count sses_in
    end_found count floats a b size =
        let ea : slot_count (mend None xs) ≡ count = rw (rest_end cs i past) at a ∙ add-zero count in
        let eb : sses_in (mend None xs) ≡ floats = rw (rest_end cs i past) at b ∙ add-zero floats in
        rw (settled_some, slots_length, slots_floats, ea, eb)

    pub end_classes : (n : ℕ) (behind : List Class) → length cs ≡ n → behind ≡ replicate (8 - n) None → mend None xs ≡ take i cs ++ mend below (drop i cs)
        → cs ++ behind ≡ eight_of (settled xs)
    unfolding eight_of mend
    end_classes n behind l z m =
        let t : mend None xs ≡ cs = m ∙ rw (rest_end cs i past, append-nil, take_all i cs past) in
        rw (settled_some, t, l, z)
