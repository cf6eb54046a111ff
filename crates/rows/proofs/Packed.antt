-- A list of rules as two numbers gives its first rule back, and the rules behind it; a row has the lists that were encoded in it. Assumes
-- nothing.
use mathlib.Core.Path.{◌≡◌, refl, ap, ◌∙◌}
use mathlib.Core.Bool.{Bool, true, false, ◌&&◌, cond}
use mathlib.Core.List.{List, [], ◌∷◌, map}
use Prim.Native.Nat.{ℕ, zero, suc, ◌+◌, ◌-◌, ◌*◌, ◌/◌, ◌%◌, ◌≤◌, ◌<◌}
use native.Mathlib.Omega.{arith}
use borrow.Author.Tests.{eq-eqb, ne_eqb, eqb-false}
use lib.Dec.{T, eqb, leb, ltb→lt, leb→le, lit<}
use lib.ListN.{length, get_or}
use Rattle.shape.proofs.Bools.{and_left, and_right}
use Rattle.describe.specs.declared.Rule.{Rule}
use Rattle.rows.specs.declared.Rules.{Rules}
use Rattle.describe.specs.declared.Short.{Short}
use Rattle.describe.specs.declared.Short.TheVariants.{Unchanged, Memory, MemoryAndDrain, TryNextRule, Split}
use Rattle.describe.specs.declared.Test.{Test}
use Rattle.describe.specs.declared.Test.TheVariants.{Anything, Empty, SizeOneOf, SizeAtMost, Homogeneous, FloatPair, X87Stack, LoneFloat, FloatingMode, ComplexFloat, Eightbytes}
use Rattle.describe.specs.Description.{Description, Decides, Ends}
use Rattle.rows.specs.Codes.{test_code, test_number, short_code}
use Rattle.rows.specs.Row.{encode, held_test, held_tests, held_rules, way_byte, packed, packed_tests, packed_ways, list_of, pair_of, tests_of, ways_of, first_rule, later_rules, listed_in, listed}
use Rattle.describe.specs.Questions.{register_size}
use Rattle.rows.proofs.Numbers.{travel_fits, size_back}
use Rattle.rows.proofs.Inverse.{rule_back}

-- What a test, its number and a way need.
code_fits : (t : Test) → (0 < test_code t) × (test_code t < 256)
code_fits Anything = (lit< tt, lit< tt)
code_fits Empty = (lit< tt, lit< tt)
code_fits (SizeOneOf k a b c d) = (lit< tt, lit< tt)
code_fits (SizeAtMost limit) = (lit< tt, lit< tt)
code_fits (Homogeneous limit) = (lit< tt, lit< tt)
code_fits FloatPair = (lit< tt, lit< tt)
code_fits X87Stack = (lit< tt, lit< tt)
code_fits LoneFloat = (lit< tt, lit< tt)
code_fits FloatingMode = (lit< tt, lit< tt)
code_fits ComplexFloat = (lit< tt, lit< tt)
code_fits (Eightbytes limit) = (lit< tt, lit< tt)

short_fits : (s : Short) → short_code s < 32
short_fits Unchanged = lit< tt
short_fits Memory = lit< tt
short_fits MemoryAndDrain = lit< tt
short_fits TryNextRule = lit< tt
short_fits Split = lit< tt

number_fits : (t : Test) → T (held_test t) → test_number t < 256
number_fits Anything h = lit< tt
number_fits Empty h = lit< tt
number_fits (SizeOneOf k a b c d) h =
    let ha = and_right (eqb k 4) (register_size a && (register_size b && (register_size c && register_size d))) h in
    let hb = and_right (register_size a) (register_size b && (register_size c && register_size d)) ha in
    let hc = and_right (register_size b) (register_size c && register_size d) hb in
    let fa = (size_back a (and_left (register_size a) (register_size b && (register_size c && register_size d)) ha)).1 in
    let fb = (size_back b (and_left (register_size b) (register_size c && register_size d) hb)).1 in
    let fc = (size_back c (and_left (register_size c) (register_size d) hc)).1 in
    let fd = (size_back d (and_right (register_size c) (register_size d) hc)).1 in
    omega arith
number_fits (SizeAtMost limit) h = ltb→lt limit 256 h
number_fits (Homogeneous limit) h = ltb→lt limit 256 h
number_fits FloatPair h = lit< tt
number_fits X87Stack h = lit< tt
number_fits LoneFloat h = lit< tt
number_fits FloatingMode h = lit< tt
number_fits ComplexFloat h = lit< tt
number_fits (Eightbytes limit) h = ltb→lt limit 256 h

way_fits : (r : Rule) → way_byte r < 256
way_fits r = let t = travel_fits r.then in let s = short_fits r.short in omega arith

-- Numbers in their places.
module _ (code number rest : ℕ) (hc : code < 256) (hn : number < 256) where
  low_byte : (code + 256 * number + 65536 * rest) % 256 ≡ code
  low_byte = omega arith

  high_byte : (code + 256 * number + 65536 * rest) / 256 % 256 ≡ number
  high_byte = omega arith

  rest_of_tests : (code + 256 * number + 65536 * rest) / 65536 ≡ rest
  rest_of_tests = omega arith

module _ (r : Rule) (rules : List Rule) (h : T (held_tests (r ∷ rules))) where
  held_first : T (held_test r.when)
  held_first = and_left (held_test r.when) (held_tests rules) h

  held_later : T (held_tests rules)
  held_later = and_right (held_test r.when) (held_tests rules) h

  first_back : first_rule (packed (r ∷ rules)) ≡ r
  unfolding first_rule packed
  first_back =
      let code = (code_fits r.when).1 in
      let number = number_fits r.when held_first in
      let way = way_fits r in
      let w : (way_byte r + 256 * packed_ways rules) % 256 ≡ way_byte r = omega arith in
      let tests = packed_tests rules in
      rw (low_byte (test_code r.when) (test_number r.when) tests code number, high_byte (test_code r.when) (test_number r.when) tests code number, w)
      (rule_back r held_first)

  later_back : later_rules (packed (r ∷ rules)) ≡ packed rules
  unfolding later_rules packed
  later_back =
      let code = (code_fits r.when).1 in
      let number = number_fits r.when held_first in
      let way = way_fits r in
      let w : (way_byte r + 256 * packed_ways rules) / 256 ≡ packed_ways rules = omega arith in
      simp (rest_of_tests (test_code r.when) (test_number r.when) (packed_tests rules) code number, w)

-- ---- the list that two numbers stand for

-- the number of the tests falls with each rule that is taken off
pub later_less : (R : Rules) → (R.tests ≡ 0 → ⊥) → (later_rules R).tests < R.tests
unfolding later_rules
later_less R h = omega arith

-- a number of turns that is large enough leaves nothing out
enough : (n m : ℕ) (R : Rules) → R.tests ≤ n → R.tests ≤ m → listed_in n R ≡ listed_in m R
enough zero zero R hn hm = refl
enough zero (suc m) R hn hm = rw (eq-eqb R.tests 0 (omega arith))
enough (suc n) zero R hn hm = rw (eq-eqb R.tests 0 (omega arith))
enough (suc n) (suc m) R hn hm =
    go (eqb R.tests 0) refl (λ (less : (later_rules R).tests < R.tests). enough n m (later_rules R) (omega (arith, less)) (omega (arith, less)))
  where
    go : (b : Bool) → eqb R.tests 0 ≡ b → ((later_rules R).tests < R.tests → listed_in n (later_rules R) ≡ listed_in m (later_rules R))
        → cond b [] (first_rule R ∷ listed_in n (later_rules R)) ≡ cond b [] (first_rule R ∷ listed_in m (later_rules R))
    go true e later = refl
    go false e later = ap (λ (rules : List Rule). first_rule R ∷ rules) (later (later_less R (eqb-false R.tests 0 e)))

pub listed_none : (R : Rules) → R.tests ≡ 0 → listed R ≡ []
unfolding listed
listed_none R e = rw e

pub listed_next : (R : Rules) → (R.tests ≡ 0 → ⊥) → listed R ≡ first_rule R ∷ listed (later_rules R)
unfolding listed
listed_next R h =
    let less = later_less R h in
    enough R.tests (suc R.tests) R (omega arith) (omega arith)
    ∙ rw (ne_eqb R.tests 0 h) (ap (λ (rules : List Rule). first_rule R ∷ rules) (enough R.tests (later_rules R).tests (later_rules R) (omega (arith, less)) (omega arith)))

-- a list that is packed stands for itself
pub listed_packed : (rules : List Rule) → T (held_tests rules) → listed (packed rules) ≡ rules
unfolding packed
listed_packed [] h = listed_none (packed []) refl
listed_packed (r ∷ rules) h =
    listed_next (packed (r ∷ rules)) (λ (e : (packed (r ∷ rules)).tests ≡ 0). let some = (code_fits r.when).0 in omega (arith, some, e))
    ∙ rw (first_back r rules h, later_back r rules h, listed_packed rules (held_later r rules h))

-- A rule that doesn't decide isn't the last of a list that ends.
pub ends_later : (r : Rule) (rules : List Rule) → Ends (r ∷ rules) → (Decides r → ⊥) → Ends rules
ends_later r [] ends open_still = absurd (open_still ends.last)
ends_later r (s ∷ rules) ends open_still =
    let one_less : length (r ∷ s ∷ rules) - 1 ≡ suc (length (s ∷ rules) - 1) = omega arith in
    record { some = (omega arith); last = rw one_less at ends.last }

-- The lists of a row: its tests and ways, each by its place.
abbrev test_at : List Rule → ℕ → ℕ
test_at rules i = pair_of (get_or (map (λ (r : Rule). test_code r.when) rules) i 0) (get_or (map (λ (r : Rule). test_number r.when) rules) i 0)

abbrev way_at : List Rule → ℕ → ℕ
way_at rules i = get_or (map way_byte rules) i 0

four_packed : (rules : List Rule) → T (leb (length rules) 4)
    → (tests_of (test_at rules 0) (test_at rules 1) (test_at rules 2) (test_at rules 3) ≡ packed_tests rules)
    × (ways_of (way_at rules 0) (way_at rules 1) (way_at rules 2) (way_at rules 3) ≡ packed_ways rules)
four_packed [] h = (refl, refl)
four_packed (a ∷ []) h = (refl, refl)
four_packed (a ∷ b ∷ []) h = (refl, refl)
four_packed (a ∷ b ∷ c ∷ []) h = (refl, refl)
four_packed (a ∷ b ∷ c ∷ d ∷ []) h = ((omega arith), (omega arith))
four_packed (a ∷ b ∷ c ∷ d ∷ e ∷ rules) h = absurd (let few = leb→le (length (a ∷ b ∷ c ∷ d ∷ e ∷ rules)) 4 h in omega arith)

module _ (D : Description) where
  pub returns_packed : T (held_rules D.returns) → list_of (encode D) 8 ≡ packed D.returns
  unfolding list_of packed
  returns_packed h =
      let four = four_packed D.returns (and_left (leb (length D.returns) 4) (held_tests D.returns) h) in
      simp (four.0, four.1)

  pub arguments_packed : T (held_rules D.arguments) → list_of (encode D) 20 ≡ packed D.arguments
  unfolding list_of packed
  arguments_packed h =
      let four = four_packed D.arguments (and_left (leb (length D.arguments) 4) (held_tests D.arguments) h) in
      simp (four.0, four.1)
