-- A description's fields and rules as numbers (REFERENCE 13): each enum by its number (rows/specs/Codes.antt).
use Rattle.std.specs.Prelude.{ℕ, ◌+◌, ◌*◌, ◌/◌, ◌%◌, cond, List, map, leb, get_or}
use Rattle.shape.specs.Numbers.{accepted, bad_abi, one_if}
use Rattle.describe.specs.declared.Rule.{Rule}
use Rattle.describe.specs.Description as described
use Rattle.rows.specs.Codes.{test_code, test_number, travel_code, short_code, return_pointer_code, variadic_code, stack_args_code, narrow_code, bit_ints_code, cleanup_code}
use Rattle.rows.specs.Row.{encode}
use Rattle.abis.specs.Abis as abis
use Rattle.export_questions.specs.declared.descriptions.Description.{Description}
use Rattle.export_questions.specs.declared.descriptions.RuleNumbers.{RuleNumbers}

abbrev pub fields_of : described.Description → Description
fields_of D =
    record {
      refusal = accepted;
      integer = D.banks.integer;
      float = D.banks.float;
      shared = one_if D.banks.shared;
      integer_width = D.banks.integer_width;
      float_width = D.banks.float_width;
      in_memory = D.scalars.in_memory;
      wide_integer_is_all_or_nothing = one_if D.scalars.wide_integer_is_all_or_nothing;
      wide_integer_starts_even = one_if D.scalars.wide_integer_starts_even;
      wide_integer_drains = one_if D.scalars.wide_integer_drains;
      wide_is_by_reference = one_if D.scalars.wide_is_by_reference;
      wide_integer_returns_in = D.scalars.wide_integer_returns_in;
      wide_integer_in_memory = one_if D.scalars.wide_integer_in_memory;
      decimal_in_integers = one_if D.scalars.decimal_in_integers;
      quad_returns_by_reference = one_if D.scalars.quad_returns_by_reference;
      return_pointer = return_pointer_code D.return_pointer;
      variadic = variadic_code D.variadic;
      stack_args = stack_args_code D.stack_args;
      narrow = narrow_code D.narrow;
      bit_ints = bit_ints_code D.bit_ints;
      cleanup = cleanup_code D.cleanup;
      float_falls_to_integers = one_if D.scalars.float_falls_to_integers;
    }

abbrev pub no_description : Description
no_description =
    record {
      refusal = bad_abi;
      integer = 0;
      float = 0;
      shared = 0;
      integer_width = 0;
      float_width = 0;
      in_memory = 0;
      wide_integer_is_all_or_nothing = 0;
      wide_integer_starts_even = 0;
      wide_integer_drains = 0;
      wide_is_by_reference = 0;
      wide_integer_returns_in = 0;
      wide_integer_in_memory = 0;
      decimal_in_integers = 0;
      quad_returns_by_reference = 0;
      return_pointer = 0;
      variadic = 0;
      stack_args = 0;
      narrow = 0;
      bit_ints = 0;
      cleanup = 0;
      float_falls_to_integers = 0;
    }

unfoldable pub description_answer : ℕ → Description
description_answer abi = cond (leb abis.description_count abi) no_description (fields_of (abis.described abi))

abbrev pub rule_made : ℕ → ℕ → ℕ → ℕ → ℕ → RuleNumbers
rule_made refusal test number travel short =
    record { refusal = refusal; test = test; number = number; travel = travel; short = short }

-- rule i of a list, all zeros where the list has ended
abbrev pub rule_in : List Rule → ℕ → RuleNumbers
rule_in rules i =
    rule_made accepted (get_or (map (λ (r : Rule). test_code r.when) rules) i 0)
    (get_or (map (λ (r : Rule). test_number r.when) rules) i 0) (get_or (map (λ (r : Rule). travel_code r.then) rules) i 0)
    (get_or (map (λ (r : Rule). short_code r.short) rules) i 0)

unfoldable pub return_rule_answer : ℕ → ℕ → RuleNumbers
return_rule_answer abi i =
    cond (leb abis.description_count abi) (rule_made bad_abi 0 0 0 0) (rule_in (abis.described abi).returns i)

unfoldable pub argument_rule_answer : ℕ → ℕ → RuleNumbers
argument_rule_answer abi i =
    cond (leb abis.description_count abi) (rule_made bad_abi 0 0 0 0) (rule_in (abis.described abi).arguments i)

-- ---- inside: a rule from the bytes of a row

abbrev pub rule_numbers : ℕ → ℕ → ℕ → ℕ → RuleNumbers
rule_numbers refusal test number way = rule_made refusal test number (way % 8) (way / 8)

unfoldable pub rule_numbers_at : List ℕ → ℕ → ℕ → RuleNumbers
rule_numbers_at row first i =
    cond (leb 4 i) (rule_numbers accepted 0 0 0)
    (rule_numbers accepted (get_or row (first + 3 * i) 0) (get_or row (first + 3 * i + 1) 0) (get_or row (first + 3 * i + 2) 0))

abbrev pub rule_told : ℕ → ℕ → ℕ → RuleNumbers
rule_told abi first i = cond (leb abis.description_count abi) (rule_made bad_abi 0 0 0 0) (rule_numbers_at (encode (abis.described abi)) first i)
