-- A list that ends with a rule that decides: the test for it is one that antt computes.
use mathlib.Core.Path.{◌≡◌, refl}
use mathlib.Core.Bool.{Bool, true, false, ◌&&◌}
use mathlib.Core.List.{List}
use Prim.Native.Nat.{◌-◌}
use lib.Dec.{T, ltb, ltb→lt}
use lib.ListN.{length, get_or}
use Rattle.shape.proofs.Bools.{and_left, and_right}
use Rattle.describe.specs.declared.Rule.{Rule}
use Rattle.describe.specs.declared.Test.{Test}
use Rattle.describe.specs.declared.Travel.{Travel}
use Rattle.describe.specs.declared.Short.{Short}
use Rattle.describe.specs.declared.Test.TheVariants.{Anything, Empty, SizeOneOf, SizeAtMost, Homogeneous, FloatPair, X87Stack, LoneFloat, FloatingMode, ComplexFloat, Eightbytes}
use Rattle.describe.specs.declared.Travel.TheVariants.{Ignore, AsFound, AsIntegers, AsOneInteger, ByReference, InMemory, InMemoryAndSpend}
use Rattle.describe.specs.declared.Short.TheVariants.{Unchanged, Memory, MemoryAndDrain, TryNextRule, Split}
use Rattle.describe.specs.Description.{Decides, Ends, past}

-- The test of a rule, part by part.
abbrev is_anything : Test → Bool
is_anything Anything = true
is_anything Empty = false
is_anything (SizeOneOf k a b c d) = false
is_anything (SizeAtMost limit) = false
is_anything (Homogeneous limit) = false
is_anything FloatPair = false
is_anything X87Stack = false
is_anything LoneFloat = false
is_anything FloatingMode = false
is_anything ComplexFloat = false
is_anything (Eightbytes limit) = false

anything : (t : Test) → T (is_anything t) → t ≡ Anything
anything Anything h = refl
anything Empty h = absurd h
anything (SizeOneOf k a b c d) h = absurd h
anything (SizeAtMost limit) h = absurd h
anything (Homogeneous limit) h = absurd h
anything FloatPair h = absurd h
anything X87Stack h = absurd h
anything LoneFloat h = absurd h
anything FloatingMode h = absurd h
anything ComplexFloat h = absurd h
anything (Eightbytes limit) h = absurd h

abbrev is_unsought : Travel → Bool
is_unsought Ignore = true
is_unsought AsFound = false
is_unsought AsIntegers = true
is_unsought AsOneInteger = true
is_unsought ByReference = true
is_unsought InMemory = true
is_unsought InMemoryAndSpend = true

unsought : (t : Travel) → T (is_unsought t) → t ≡ AsFound → ⊥
unsought t h e = rw e at h

abbrev is_staying : Short → Bool
is_staying Unchanged = true
is_staying Memory = true
is_staying MemoryAndDrain = true
is_staying TryNextRule = false
is_staying Split = true

stays : (s : Short) → T (is_staying s) → s ≡ TryNextRule → ⊥
stays s h e = rw e at h

abbrev pub is_deciding : Rule → Bool
is_deciding r = is_anything r.when && (is_unsought r.then && is_staying r.short)

pub decides : (r : Rule) → T (is_deciding r) → Decides r
decides r h =
    let rest = and_right (is_anything r.when) (is_unsought r.then && is_staying r.short) h in
    record {
      anything = anything r.when (and_left (is_anything r.when) (is_unsought r.then && is_staying r.short) h);
      unsought = unsought r.then (and_left (is_unsought r.then) (is_staying r.short) rest);
      stays = stays r.short (and_right (is_unsought r.then) (is_staying r.short) rest);
    }

abbrev pub is_ending : List Rule → Bool
is_ending rules = ltb 0 (length rules) && is_deciding (get_or rules (length rules - 1) past)

pub ends : (rules : List Rule) → T (is_ending rules) → Ends rules
ends rules h =
    record {
      some = ltb→lt 0 (length rules) (and_left (ltb 0 (length rules)) (is_deciding (get_or rules (length rules - 1) past)) h);
      last = decides (get_or rules (length rules - 1) past) (and_right (ltb 0 (length rules)) (is_deciding (get_or rules (length rules - 1) past)) h);
    }
