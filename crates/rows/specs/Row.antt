-- A description as a row of 32 bytes, and the way back.
use Rattle.std.specs.Prelude.{ℕ, zero, suc, ◌+◌, ◌*◌, ◌/◌, ◌%◌, Bool, true, ◌&&◌, cond, List, [], ◌∷◌, map, eqb, leb, ltb, length, get_or, Option, None, Some, ◌≡◌}
use Rattle.std.specs.Iterator.{YieldsFirstBy}
use Rattle.describe.specs.declared.Banks.{Banks}
use Rattle.describe.specs.declared.Scalars.{Scalars}
use Rattle.describe.specs.declared.Terms.{Terms}
use Rattle.describe.specs.declared.Others.{Others}
use Rattle.describe.specs.declared.Rule.{Rule}
use Rattle.rows.specs.declared.Rules.{Rules}
use Rattle.describe.specs.declared.Test.{Test}
use Rattle.describe.specs.declared.Test.TheVariants.{Anything, Empty, SizeOneOf, SizeAtMost, Homogeneous, FloatPair, X87Stack, LoneFloat, FloatingMode, ComplexFloat, Eightbytes}
use Rattle.describe.specs.Description.{Description, past}
use Rattle.shape.specs.Numbers.{one_if}
use Rattle.rows.specs.Codes.{test_code, test_number, travel_code, short_code, return_pointer_code, variadic_code, stack_args_code, narrow_code, bit_ints_code, cleanup_code, test_from, travel_from, short_from, return_pointer_from, variadic_from, stack_args_from, narrow_from, bit_ints_from, cleanup_from}
use Rattle.describe.specs.Questions.{register_size}

-- The bytes, by their places.

abbrev pub flags_byte : Banks → Scalars → ℕ
flags_byte banks scalars =
    one_if banks.shared
    + 2 * one_if scalars.wide_integer_is_all_or_nothing
    + 4 * one_if scalars.wide_integer_starts_even
    + 8 * one_if scalars.wide_integer_drains
    + 16 * one_if scalars.wide_is_by_reference
    + 32 * one_if scalars.wide_integer_in_memory
    + 64 * one_if scalars.decimal_in_integers
    + 128 * one_if scalars.quad_returns_by_reference

-- the flags' byte is full, and the formats leave room for one
abbrev pub formats_byte : Scalars → ℕ
formats_byte scalars = scalars.in_memory + 8 * scalars.wide_integer_returns_in + 64 * one_if scalars.float_falls_to_integers

abbrev pub calls_byte : Description → ℕ
calls_byte D = return_pointer_code D.return_pointer + 4 * variadic_code D.variadic

abbrev pub stack_byte : Description → ℕ
stack_byte D =
    stack_args_code D.stack_args
    + 2 * narrow_code D.narrow
    + 8 * bit_ints_code D.bit_ints
    + 16 * cleanup_code D.cleanup

abbrev pub way_byte : Rule → ℕ
way_byte r = travel_code r.then + 8 * short_code r.short

-- The three bytes of rule i of a list, before what follows them: zeros where the list has ended.
abbrev pub rule_bytes : List Rule → ℕ → List ℕ → List ℕ
rule_bytes rules i rest =
    get_or (map (λ (r : Rule). test_code r.when) rules) i 0
    ∷ get_or (map (λ (r : Rule). test_number r.when) rules) i 0
    ∷ get_or (map way_byte rules) i 0
    ∷ rest

abbrev pub rules_bytes : List Rule → List ℕ → List ℕ
rules_bytes rules rest = rule_bytes rules 0 (rule_bytes rules 1 (rule_bytes rules 2 (rule_bytes rules 3 rest)))

abbrev pub encode : Description → List ℕ
encode D =
    D.banks.integer
    ∷ D.banks.float
    ∷ D.banks.integer_width
    ∷ D.banks.float_width
    ∷ flags_byte D.banks D.scalars
    ∷ formats_byte D.scalars
    ∷ calls_byte D
    ∷ stack_byte D
    ∷ rules_bytes D.returns (rules_bytes D.arguments [])

-- What the encoding can hold: numbers below 256, formats that are kinds, no list longer than four, and SizeOneOf of four sizes
-- that a register may have.
abbrev pub byte : ℕ → Bool
byte n = ltb n 256

abbrev pub held_test : Test → Bool
held_test Anything = true
held_test Empty = true
held_test (SizeOneOf k a b c d) = eqb k 4 && (register_size a && (register_size b && (register_size c && register_size d)))
held_test (SizeAtMost limit) = byte limit
held_test (Homogeneous limit) = byte limit
held_test FloatPair = true
held_test X87Stack = true
held_test LoneFloat = true
held_test FloatingMode = true
held_test ComplexFloat = true
held_test (Eightbytes limit) = byte limit

abbrev pub held_tests : List Rule → Bool
held_tests [] = true
held_tests (r ∷ rules) = held_test r.when && held_tests rules

abbrev pub held_rules : List Rule → Bool
held_rules rules = leb (length rules) 4 && held_tests rules

abbrev pub held_banks : Banks → Bool
held_banks banks =
    byte banks.integer && (byte banks.float && (byte banks.integer_width && byte banks.float_width))

abbrev pub held_formats : Scalars → Bool
held_formats scalars = leb scalars.in_memory 4 && leb scalars.wide_integer_returns_in 4

unfoldable pub held : Description → Bool
held D = held_banks D.banks && (held_formats D.scalars && (held_rules D.returns && held_rules D.arguments))

-- The way back, from any row.

-- the bit of a byte that has this value
abbrev pub bit : ℕ → ℕ → Bool
bit byte place = eqb (byte / place % 2) 1

unfoldable pub banks_from : List ℕ → Banks
banks_from row =
    record {
      integer = get_or row 0 0;
      float = get_or row 1 0;
      shared = bit (get_or row 4 0) 1;
      integer_width = get_or row 2 0;
      float_width = get_or row 3 0;
    }

unfoldable pub scalars_from : List ℕ → Scalars
scalars_from row =
    record {
      in_memory = get_or row 5 0 % 8;
      wide_integer_is_all_or_nothing = bit (get_or row 4 0) 2;
      wide_integer_starts_even = bit (get_or row 4 0) 4;
      wide_integer_drains = bit (get_or row 4 0) 8;
      wide_is_by_reference = bit (get_or row 4 0) 16;
      wide_integer_returns_in = get_or row 5 0 / 8 % 8;
      wide_integer_in_memory = bit (get_or row 4 0) 32;
      decimal_in_integers = bit (get_or row 4 0) 64;
      quad_returns_by_reference = bit (get_or row 4 0) 128;
      float_falls_to_integers = bit (get_or row 5 0) 64;
    }

unfoldable pub terms_from : List ℕ → Terms
terms_from row =
    record {
      banks = banks_from row;
      scalars = scalars_from row;
      return_pointer = return_pointer_from (get_or row 6 0 % 4);
      variadic = variadic_from (get_or row 6 0 / 4);
      stack_args = stack_args_from (get_or row 7 0 % 2);
    }

unfoldable pub others_from : List ℕ → Others
others_from row =
    record {
      narrow = narrow_from (get_or row 7 0 / 2 % 4);
      bit_ints = bit_ints_from (get_or row 7 0 / 8 % 2);
      cleanup = cleanup_from (get_or row 7 0 / 16);
    }

-- The rule that three bytes say, and rule i of the list whose first byte stands at a place.
unfoldable pub rule_from : ℕ → ℕ → ℕ → Rule
rule_from test number way = record { when = test_from test number; then = travel_from (way % 8); short = short_from (way / 8) }

abbrev pub rule_at : List ℕ → ℕ → Rule
rule_at row at = rule_from (get_or row at 0) (get_or row (at + 1) 0) (get_or row (at + 2) 0)

unfoldable pub rule_of : List ℕ → ℕ → ℕ → Rule
rule_of row first i = cond (ltb i 4) (rule_at row (first + 3 * i)) past

abbrev pub return_rule : List ℕ → ℕ → Rule
return_rule row i = rule_of row 8 i

abbrev pub argument_rule : List ℕ → ℕ → Rule
argument_rule row i = rule_of row 20 i

-- A list as two numbers, the first rule lowest: two bytes for a test and its number, a byte for a way.
abbrev pub packed_tests : List Rule → ℕ
packed_tests [] = 0
packed_tests (r ∷ rules) = test_code r.when + 256 * test_number r.when + 65536 * packed_tests rules

abbrev pub packed_ways : List Rule → ℕ
packed_ways [] = 0
packed_ways (r ∷ rules) = way_byte r + 256 * packed_ways rules

unfoldable pub packed : List Rule → Rules
packed rules = record { tests = packed_tests rules; ways = packed_ways rules }

-- the four rules whose first byte stands at a place of a row
abbrev pub pair_of : ℕ → ℕ → ℕ
pair_of code number = code + 256 * number

abbrev pub tests_of : ℕ → ℕ → ℕ → ℕ → ℕ
tests_of a b c d = a + 65536 * (b + 65536 * (c + 65536 * d))

abbrev pub ways_of : ℕ → ℕ → ℕ → ℕ → ℕ
ways_of a b c d = a + 256 * (b + 256 * (c + 256 * d))

unfoldable pub list_of : List ℕ → ℕ → Rules
list_of row first =
    record {
      tests =
          tests_of (pair_of (get_or row first 0) (get_or row (first + 1) 0)) (pair_of (get_or row (first + 3) 0) (get_or row (first + 4) 0))
          (pair_of (get_or row (first + 6) 0) (get_or row (first + 7) 0)) (pair_of (get_or row (first + 9) 0) (get_or row (first + 10) 0));
      ways = ways_of (get_or row (first + 2) 0) (get_or row (first + 5) 0) (get_or row (first + 8) 0) (get_or row (first + 11) 0);
    }

-- the first rule, and those behind it
unfoldable pub first_rule : Rules → Rule
first_rule R = rule_from (R.tests % 256) (R.tests / 256 % 256) (R.ways % 256)

unfoldable pub later_rules : Rules → Rules
later_rules R = record { tests = R.tests / 65536; ways = R.ways / 256 }

-- The list that two numbers stand for: rules are taken off as long as a test is left. Each takes some off the tests, so there are no more
-- turns than the tests' number.
abbrev pub listed_in : ℕ → Rules → List Rule
listed_in zero R = []
listed_in (suc n) R = cond (eqb R.tests 0) [] (first_rule R ∷ listed_in n (later_rules R))

unfoldable pub listed : Rules → List Rule
listed R = listed_in R.tests R

-- One turn of a walk gives the list itself, whose first rule is the turn's, and leaves the rules behind that; where none is left it gives none,
-- and leaves the list as it was.
abbrev pub turn_gives : Rules → Option Rules
turn_gives R = cond (eqb R.tests 0) None (Some R)

abbrev pub turn_leaves : Rules → Rules
turn_leaves R = cond (eqb R.tests 0) R (later_rules R)

abbrev pub Turns : Rules → Option Rules → Rules → Type 0
Turns R given left = YieldsFirstBy first_rule listed R given left × ((given ≡ turn_gives R) × (left ≡ turn_leaves R))

-- A list's rules, up to the first place where none stands.
abbrev pub rules_from : ℕ → List ℕ → ℕ → ℕ → List Rule
rules_from zero row first i = []
rules_from (suc n) row first i =
    cond (eqb (get_or row (first + 3 * i) 0) 0) [] (rule_of row first i ∷ rules_from n row first (i + 1))

unfoldable pub decode : List ℕ → List ℕ → Description
decode name row =
    record {
      name = name;
      banks = (terms_from row).banks;
      scalars = (terms_from row).scalars;
      returns = rules_from 4 row 8 0;
      arguments = rules_from 4 row 20 0;
      return_pointer = (terms_from row).return_pointer;
      variadic = (terms_from row).variadic;
      stack_args = (terms_from row).stack_args;
      narrow = (others_from row).narrow;
      bit_ints = (others_from row).bit_ints;
      cleanup = (others_from row).cleanup;
    }
