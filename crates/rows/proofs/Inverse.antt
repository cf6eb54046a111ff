-- Decoding is the inverse of encoding, for every description that a row can hold: each number is read back from its place.
use mathlib.Core.Path.{◌≡◌, refl}
use mathlib.Core.Bool.{Bool, true, false, ◌&&◌}
use mathlib.Core.Logic.{◌⊎◌, inl, inr, ⊎_elim}
use mathlib.Core.List.{List, [], ◌∷◌, map}
use Prim.Native.Nat.{ℕ, zero, suc, ◌+◌, ◌*◌, ◌/◌, ◌%◌, ◌<◌, ◌≤◌}
use native.Mathlib.Omega.{arith}
use borrow.Author.Tests.{lt-ltb, le-ltb, ltb-true, ltb-false}
use lib.Dec.{T, ltb, leb, leb→le, lit<}
use lib.ListN.{length, get_or, get_or-eq_default}
use Rattle.shape.proofs.Bools.{and_left, and_right}
use Rattle.describe.specs.declared.Banks.{Banks}
use Rattle.describe.specs.declared.Scalars.{Scalars}
use Rattle.describe.specs.declared.Rule.{Rule}
use Rattle.describe.specs.Description.{Description, past, terms_of, others_of}
use Rattle.shape.specs.Numbers.{one_if}
use Rattle.rows.specs.Codes.{test_code, test_number, travel_code, short_code, return_pointer_code, variadic_code, stack_args_code, narrow_code, bit_ints_code, cleanup_code, test_from, travel_from, short_from}
use Rattle.rows.specs.Row.{encode, decode, held, held_test, held_tests, held_rules, held_banks, held_formats, way_byte, rule_from, rule_of, return_rule, argument_rule, rules_from, banks_from, scalars_from, terms_from, others_from, bit, flags_byte, calls_byte}
use Rattle.rows.proofs.Numbers.{flag_back, flag_fits, test_back, test_stands, travel_back, travel_fits, short_back, return_pointer_back, return_pointer_fits, variadic_back, stack_args_back, stack_args_fits, narrow_back, narrow_fits, bit_ints_back, bit_ints_fits, cleanup_back}

-- The eight bits of a byte.
module _ (a b c d e f g h : ℕ) (ha : a < 2) (hb : b < 2) (hc : c < 2) (hd : d < 2) (he : e < 2) (hf : f < 2) (hg : g < 2) (hh : h < 2) where
  bit_1 : (a + 2 * b + 4 * c + 8 * d + 16 * e + 32 * f + 64 * g + 128 * h) / 1 % 2 ≡ a
  bit_1 = omega arith

  bit_2 : (a + 2 * b + 4 * c + 8 * d + 16 * e + 32 * f + 64 * g + 128 * h) / 2 % 2 ≡ b
  bit_2 = omega arith

  bit_4 : (a + 2 * b + 4 * c + 8 * d + 16 * e + 32 * f + 64 * g + 128 * h) / 4 % 2 ≡ c
  bit_4 = omega arith

  bit_8 : (a + 2 * b + 4 * c + 8 * d + 16 * e + 32 * f + 64 * g + 128 * h) / 8 % 2 ≡ d
  bit_8 = omega arith

  bit_16 : (a + 2 * b + 4 * c + 8 * d + 16 * e + 32 * f + 64 * g + 128 * h) / 16 % 2 ≡ e
  bit_16 = omega arith

  bit_32 : (a + 2 * b + 4 * c + 8 * d + 16 * e + 32 * f + 64 * g + 128 * h) / 32 % 2 ≡ f
  bit_32 = omega arith

  bit_64 : (a + 2 * b + 4 * c + 8 * d + 16 * e + 32 * f + 64 * g + 128 * h) / 64 % 2 ≡ g
  bit_64 = omega arith

  bit_128 : (a + 2 * b + 4 * c + 8 * d + 16 * e + 32 * f + 64 * g + 128 * h) / 128 % 2 ≡ h
  bit_128 = omega arith

-- The byte of the flags gives each of them back.
record FlagsBack (banks : Banks) (scalars : Scalars) : Type 0 where
  shared : bit (flags_byte banks scalars) 1 ≡ banks.shared
  wide_integer_is_all_or_nothing : bit (flags_byte banks scalars) 2 ≡ scalars.wide_integer_is_all_or_nothing
  wide_integer_starts_even : bit (flags_byte banks scalars) 4 ≡ scalars.wide_integer_starts_even
  wide_integer_drains : bit (flags_byte banks scalars) 8 ≡ scalars.wide_integer_drains
  wide_is_by_reference : bit (flags_byte banks scalars) 16 ≡ scalars.wide_is_by_reference
  wide_integer_in_memory : bit (flags_byte banks scalars) 32 ≡ scalars.wide_integer_in_memory
  decimal_in_integers : bit (flags_byte banks scalars) 64 ≡ scalars.decimal_in_integers
  quad_returns_by_reference : bit (flags_byte banks scalars) 128 ≡ scalars.quad_returns_by_reference

flags_back : (banks : Banks) (scalars : Scalars) → FlagsBack banks scalars
flags_back banks scalars =
    let a = one_if banks.shared in
    let b = one_if scalars.wide_integer_is_all_or_nothing in
    let c = one_if scalars.wide_integer_starts_even in
    let d = one_if scalars.wide_integer_drains in
    let e = one_if scalars.wide_is_by_reference in
    let f = one_if scalars.wide_integer_in_memory in
    let g = one_if scalars.decimal_in_integers in
    let h = one_if scalars.quad_returns_by_reference in
    let ha = flag_fits banks.shared in
    let hb = flag_fits scalars.wide_integer_is_all_or_nothing in
    let hc = flag_fits scalars.wide_integer_starts_even in
    let hd = flag_fits scalars.wide_integer_drains in
    let he = flag_fits scalars.wide_is_by_reference in
    let hf = flag_fits scalars.wide_integer_in_memory in
    let hg = flag_fits scalars.decimal_in_integers in
    let hh = flag_fits scalars.quad_returns_by_reference in
    record {
      shared = rw (bit_1 a b c d e f g h ha hb hc hd he hf hg hh) (flag_back banks.shared);
      wide_integer_is_all_or_nothing = rw (bit_2 a b c d e f g h ha hb hc hd he hf hg hh) (flag_back scalars.wide_integer_is_all_or_nothing);
      wide_integer_starts_even = rw (bit_4 a b c d e f g h ha hb hc hd he hf hg hh) (flag_back scalars.wide_integer_starts_even);
      wide_integer_drains = rw (bit_8 a b c d e f g h ha hb hc hd he hf hg hh) (flag_back scalars.wide_integer_drains);
      wide_is_by_reference = rw (bit_16 a b c d e f g h ha hb hc hd he hf hg hh) (flag_back scalars.wide_is_by_reference);
      wide_integer_in_memory = rw (bit_32 a b c d e f g h ha hb hc hd he hf hg hh) (flag_back scalars.wide_integer_in_memory);
      decimal_in_integers = rw (bit_64 a b c d e f g h ha hb hc hd he hf hg hh) (flag_back scalars.decimal_in_integers);
      quad_returns_by_reference = rw (bit_128 a b c d e f g h ha hb hc hd he hf hg hh) (flag_back scalars.quad_returns_by_reference);
    }

-- The byte of the two formats and the last flag.
module _ (m r f : ℕ) (hm : m ≤ 4) (hr : r ≤ 4) (hf : f < 2) where
  memory_part : (m + 8 * r + 64 * f) % 8 ≡ m
  memory_part = omega arith

  returns_part : (m + 8 * r + 64 * f) / 8 % 8 ≡ r
  returns_part = let eighth : (m + 8 * r + 64 * f) / 8 ≡ r + 8 * f = omega arith in rw eighth (omega arith)

  falls_part : (m + 8 * r + 64 * f) / 64 % 2 ≡ f
  falls_part = let rest : (m + 8 * r + 64 * f) / 64 ≡ f = omega arith in rw rest (omega arith)

-- The byte of stack arguments, narrow integers, bit-precise integers and cleanup.
module _ (s n b k : ℕ) (hs : s < 2) (hn : n < 4) (hb : b < 2) where
  stack_part : (s + 2 * n + 8 * b + 16 * k) % 2 ≡ s
  stack_part = omega arith

  narrow_part : (s + 2 * n + 8 * b + 16 * k) / 2 % 4 ≡ n
  narrow_part = let half : (s + 2 * n + 8 * b + 16 * k) / 2 ≡ n + 4 * b + 8 * k = omega arith in rw half (omega arith)

  bits_part : (s + 2 * n + 8 * b + 16 * k) / 8 % 2 ≡ b
  bits_part = let eighth : (s + 2 * n + 8 * b + 16 * k) / 8 ≡ b + 2 * k = omega arith in rw eighth (omega arith)

  cleanup_part : (s + 2 * n + 8 * b + 16 * k) / 16 ≡ k
  cleanup_part = omega arith

-- A rule is read back from its three bytes, and past the list's end from three zeros.
pub rule_back : (r : Rule) → T (held_test r.when) → rule_from (test_code r.when) (test_number r.when) (way_byte r) ≡ r
unfolding rule_from
rule_back r h =
    let fits = travel_fits r.then in
    let t : way_byte r % 8 ≡ travel_code r.then = omega arith in
    let s : way_byte r / 8 ≡ short_code r.short = omega arith in
    simp (test_back r.when h, t, s, travel_back, short_back)

abbrev tests : List Rule → List ℕ
tests = map (λ (r : Rule). test_code r.when)

abbrev numbers : List Rule → List ℕ
numbers = map (λ (r : Rule). test_number r.when)

rule_there : (rules : List Rule) → T (held_tests rules) → (i : ℕ) → rule_from (get_or (tests rules) i 0) (get_or (numbers rules) i 0) (get_or (map way_byte rules) i 0) ≡ get_or rules i past
unfolding rule_from test_from travel_from short_from
rule_there [] h i = refl
rule_there (r ∷ rules) h zero = rule_back r (and_left (held_test r.when) (held_tests rules) h)
rule_there (r ∷ rules) h (suc i) = rule_there rules (and_right (held_test r.when) (held_tests rules) h) i

-- Rule i of a list, from a row in which the list's rules stand from a place on.
four : (P : ℕ → Type 0) → P 0 → P 1 → P 2 → P 3 → (i : ℕ) → i < 4 → P i
four P a b c d zero h = a
four P a b c d (suc zero) h = b
four P a b c d (suc (suc zero)) h = c
four P a b c d (suc (suc (suc zero))) h = d
four P a b c d (suc (suc (suc (suc i)))) h = absurd (omega arith)

below_or_not : (i n : ℕ) (t : Bool) → ltb i n ≡ t → (i < n) ⊎ (n ≤ i)
below_or_not i n true e = inl (ltb-true i n e)
below_or_not i n false e = inr (ltb-false i n e)

abbrev pub There : List ℕ → ℕ → List Rule → ℕ → Type 0
There row first rules i =
    (get_or row (first + 3 * i) 0 ≡ get_or (tests rules) i 0)
    × (get_or row (first + 3 * i + 1) 0 ≡ get_or (numbers rules) i 0)
    × (get_or row (first + 3 * i + 2) 0 ≡ get_or (map way_byte rules) i 0)

module _ (row : List ℕ) (first : ℕ) (rules : List Rule) (fits : T (held_rules rules)) where
  list_back : ((i : ℕ) → i < 4 → There row first rules i) → (i : ℕ) → rule_of row first i ≡ get_or rules i past
  unfolding rule_of
  list_back there i =
      ⊎_elim
      (λ (h : i < 4). rw (lt-ltb i 4 h, (there i h).0, (there i h).1, (there i h).2) (rule_there rules (and_right (leb (length rules) 4) (held_tests rules) fits) i))
      (λ (h : 4 ≤ i). let l = leb→le (length rules) 4 (and_left (leb (length rules) 4) (held_tests rules) fits) in let p : length rules ≤ i = omega arith in rw (le-ltb i 4 h, get_or-eq_default rules past p))
      (below_or_not i 4 (ltb i 4) refl)

-- The list itself: it goes on as long as a rule stands at the next place.
rules_back : (row : List ℕ) (first : ℕ) (rules : List Rule) → length rules ≤ 4 →
    ((i : ℕ) → i < 4 → There row first rules i) →
    ((i : ℕ) → rule_of row first i ≡ get_or rules i past) →
    rules_from 4 row first 0 ≡ rules
rules_back row first [] h there back = simp (there 0 (lit< tt)).0
rules_back row first (a ∷ []) h there back = simp ((there 0 (lit< tt)).0, (there 1 (lit< tt)).0, back 0, test_stands)
rules_back row first (a ∷ b ∷ []) h there back =
    simp ((there 0 (lit< tt)).0, (there 1 (lit< tt)).0, (there 2 (lit< tt)).0, back 0, back 1, test_stands)
rules_back row first (a ∷ b ∷ c ∷ []) h there back =
    simp ((there 0 (lit< tt)).0, (there 1 (lit< tt)).0, (there 2 (lit< tt)).0, (there 3 (lit< tt)).0, back 0, back 1, back 2, test_stands)
rules_back row first (a ∷ b ∷ c ∷ d ∷ []) h there back =
    simp ((there 0 (lit< tt)).0, (there 1 (lit< tt)).0, (there 2 (lit< tt)).0, (there 3 (lit< tt)).0, back 0, back 1, back 2, back 3, test_stands)
rules_back row first (a ∷ b ∷ c ∷ d ∷ e ∷ rules) h there back = absurd (omega arith)

pub returns_there : (D : Description) (i : ℕ) → i < 4 → There (encode D) 8 D.returns i
returns_there D = four (There (encode D) 8 D.returns) (refl, refl, refl) (refl, refl, refl) (refl, refl, refl) (refl, refl, refl)

pub arguments_there : (D : Description) (i : ℕ) → i < 4 → There (encode D) 20 D.arguments i
arguments_there D = four (There (encode D) 20 D.arguments) (refl, refl, refl) (refl, refl, refl) (refl, refl, refl) (refl, refl, refl)

-- What a row that holds D says.
module _ (D : Description) (h : T (held D)) where
  parts : T (held_banks D.banks) × T (held_formats D.scalars) × T (held_rules D.returns) × T (held_rules D.arguments)
  unfolding held
  parts =
      let rest = and_right (held_banks D.banks) (held_formats D.scalars && (held_rules D.returns && held_rules D.arguments)) h in
      let rules = and_right (held_formats D.scalars) (held_rules D.returns && held_rules D.arguments) rest in (
        and_left (held_banks D.banks) (held_formats D.scalars && (held_rules D.returns && held_rules D.arguments)) h,
        and_left (held_formats D.scalars) (held_rules D.returns && held_rules D.arguments) rest,
        and_left (held_rules D.returns) (held_rules D.arguments) rules,
        and_right (held_rules D.returns) (held_rules D.arguments) rules,
      )

  pub return_rule_back : (i : ℕ) → return_rule (encode D) i ≡ get_or D.returns i past
  return_rule_back = list_back (encode D) 8 D.returns parts.2 (returns_there D)

  pub argument_rule_back : (i : ℕ) → argument_rule (encode D) i ≡ get_or D.arguments i past
  argument_rule_back = list_back (encode D) 20 D.arguments parts.3 (arguments_there D)

  flags : FlagsBack D.banks D.scalars
  flags = flags_back D.banks D.scalars

  banks_back : banks_from (encode D) ≡ D.banks
  unfolding banks_from
  banks_back = simp flags.shared

  scalars_back : scalars_from (encode D) ≡ D.scalars
  unfolding scalars_from
  scalars_back =
      let m = D.scalars.in_memory in
      let r = D.scalars.wide_integer_returns_in in
      let f = one_if D.scalars.float_falls_to_integers in
      let hm = leb→le m 4 (and_left (leb m 4) (leb r 4) parts.1) in
      let hr = leb→le r 4 (and_right (leb m 4) (leb r 4) parts.1) in
      let hf = flag_fits D.scalars.float_falls_to_integers in
      simp (flags.wide_integer_is_all_or_nothing, flags.wide_integer_starts_even, flags.wide_integer_drains, flags.wide_is_by_reference, flags.wide_integer_in_memory, flags.decimal_in_integers, flags.quad_returns_by_reference, memory_part m r f hm hr hf, returns_part m r f hm hr hf, falls_part m r f hm hr hf, flag_back)

  -- the two bytes of the fields beside these
  low : calls_byte D % 4 ≡ return_pointer_code D.return_pointer
  low = let pointer = return_pointer_fits D.return_pointer in omega arith

  high : calls_byte D / 4 ≡ variadic_code D.variadic
  high = let pointer = return_pointer_fits D.return_pointer in omega arith

  abbrev s : ℕ
  s = stack_args_code D.stack_args

  abbrev n : ℕ
  n = narrow_code D.narrow

  abbrev b : ℕ
  b = bit_ints_code D.bit_ints

  abbrev k : ℕ
  k = cleanup_code D.cleanup

  hs : s < 2
  hs = stack_args_fits D.stack_args

  hn : n < 4
  hn = narrow_fits D.narrow

  hb : b < 2
  hb = bit_ints_fits D.bit_ints

  pub terms_back : terms_from (encode D) ≡ terms_of D
  unfolding terms_from
  terms_back = simp (banks_back, scalars_back, low, high, stack_part s n b k hs hn hb, return_pointer_back, variadic_back, stack_args_back)

  pub others_back : others_from (encode D) ≡ others_of D
  unfolding others_from
  others_back = simp (narrow_part s n b k hs hn hb, bits_part s n b k hs hn hb, cleanup_part s n b k hs hn hb, narrow_back, bit_ints_back, cleanup_back)

  pub decode_back : decode D.name (encode D) ≡ D
  unfolding decode
  decode_back =
      let few_returns = leb→le (length D.returns) 4 (and_left (leb (length D.returns) 4) (held_tests D.returns) parts.2) in
      let few_arguments = leb→le (length D.arguments) 4 (and_left (leb (length D.arguments) 4) (held_tests D.arguments) parts.3) in
      simp (terms_back, others_back, rules_back (encode D) 8 D.returns few_returns (returns_there D) return_rule_back, rules_back (encode D) 20 D.arguments few_arguments (arguments_there D) argument_rule_back)
