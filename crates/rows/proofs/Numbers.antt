-- The number of each case tells the cases apart, since it is read back.
use mathlib.Core.Path.{◌≡◌, refl, sym, ap, ◌∙◌}
use mathlib.Core.Bool.{Bool, true, false, ◌&&◌, ◌||◌}
use mathlib.Core.Logic.{⊎_elim}
use Prim.Native.Nat.{ℕ, ◌+◌, ◌*◌, ◌/◌, ◌%◌, ◌<◌}
use native.Mathlib.Omega.{arith}
use lib.Dec.{T, eqb, eqb→eq, lit<}
use Rattle.shape.proofs.Bools.{and_left, and_right, or_cases}
use Rattle.describe.specs.declared.Test.{Test}
use Rattle.describe.specs.declared.Test.TheVariants.{Anything, Empty, SizeOneOf, SizeAtMost, Homogeneous, FloatPair, X87Stack, LoneFloat, FloatingMode, ComplexFloat, Eightbytes}
use Rattle.describe.specs.declared.Travel.{Travel}
use Rattle.describe.specs.declared.Travel.TheVariants.{Ignore, AsFound, AsIntegers, AsOneInteger, ByReference, InMemory, InMemoryAndSpend}
use Rattle.describe.specs.declared.Short.{Short}
use Rattle.describe.specs.declared.Short.TheVariants.{Unchanged, Memory, MemoryAndDrain, TryNextRule, Split}
use Rattle.describe.specs.declared.ReturnPointer.{ReturnPointer}
use Rattle.describe.specs.declared.ReturnPointer.TheVariants.{FirstArgument, FirstArgumentPopped, Dedicated}
use Rattle.describe.specs.declared.Variadic.{Variadic}
use Rattle.describe.specs.declared.Variadic.TheVariants.{SameAsFixed, AlwaysMemory, BothBanks, IntegersOnly, UnnamedIntegers, UnnamedIntegersEven}
use Rattle.describe.specs.declared.StackArgs.{StackArgs}
use Rattle.describe.specs.declared.StackArgs.TheVariants.{RegisterSized, Packed}
use Rattle.describe.specs.declared.Narrow.{Narrow}
use Rattle.describe.specs.declared.Narrow.TheVariants.{Unspecified, ToInt, ArgsToInt}
use Rattle.describe.specs.declared.BitInts.{BitInts}
use Rattle.describe.specs.declared.BitInts.TheVariants.{SpareBits, Untaught}
use Rattle.describe.specs.declared.Cleanup.{Cleanup}
use Rattle.describe.specs.declared.Cleanup.TheVariants.{Caller, Callee}
use Rattle.shape.specs.Numbers.{one_if}
use Rattle.rows.specs.Codes.{test_code, size_code, test_number, travel_code, short_code, return_pointer_code, variadic_code, stack_args_code, narrow_code, bit_ints_code, cleanup_code, size_from, test_from, travel_from, short_from, return_pointer_from, variadic_from, stack_args_from, narrow_from, bit_ints_from, cleanup_from}
use Rattle.describe.specs.Questions.{register_size}
use Rattle.rows.specs.Row.{held_test}

pub flag_back : (b : Bool) → eqb (one_if b) 1 ≡ b
flag_back true = refl
flag_back false = refl

pub travel_back : (t : Travel) → travel_from (travel_code t) ≡ t
unfolding travel_from
travel_back Ignore = refl
travel_back AsFound = refl
travel_back AsIntegers = refl
travel_back AsOneInteger = refl
travel_back ByReference = refl
travel_back InMemory = refl
travel_back InMemoryAndSpend = refl

pub short_back : (s : Short) → short_from (short_code s) ≡ s
unfolding short_from
short_back Unchanged = refl
short_back Memory = refl
short_back MemoryAndDrain = refl
short_back TryNextRule = refl
short_back Split = refl

pub return_pointer_back : (p : ReturnPointer) → return_pointer_from (return_pointer_code p) ≡ p
unfolding return_pointer_from
return_pointer_back FirstArgument = refl
return_pointer_back FirstArgumentPopped = refl
return_pointer_back Dedicated = refl

pub variadic_back : (v : Variadic) → variadic_from (variadic_code v) ≡ v
unfolding variadic_from
variadic_back SameAsFixed = refl
variadic_back AlwaysMemory = refl
variadic_back BothBanks = refl
variadic_back IntegersOnly = refl
variadic_back UnnamedIntegers = refl
variadic_back UnnamedIntegersEven = refl

pub stack_args_back : (s : StackArgs) → stack_args_from (stack_args_code s) ≡ s
unfolding stack_args_from
stack_args_back RegisterSized = refl
stack_args_back Packed = refl

pub narrow_back : (n : Narrow) → narrow_from (narrow_code n) ≡ n
unfolding narrow_from
narrow_back Unspecified = refl
narrow_back ToInt = refl
narrow_back ArgsToInt = refl

pub bit_ints_back : (b : BitInts) → bit_ints_from (bit_ints_code b) ≡ b
unfolding bit_ints_from
bit_ints_back SpareBits = refl
bit_ints_back Untaught = refl

pub cleanup_back : (k : Cleanup) → cleanup_from (cleanup_code k) ≡ k
unfolding cleanup_from
cleanup_back Caller = refl
cleanup_back Callee = refl

-- what is read back has a number of its own
apart : {A : Type 0} (code : A → ℕ) (from : ℕ → A) → ((a : A) → from (code a) ≡ a) → (a b : A) → code a ≡ code b → a ≡ b
apart code from back a b e = sym (back a) ∙ (ap from e ∙ back b)

pub travel_apart : (a b : Travel) → travel_code a ≡ travel_code b → a ≡ b
travel_apart = apart travel_code travel_from travel_back

pub short_apart : (a b : Short) → short_code a ≡ short_code b → a ≡ b
short_apart = apart short_code short_from short_back

pub return_pointer_apart : (a b : ReturnPointer) → return_pointer_code a ≡ return_pointer_code b → a ≡ b
return_pointer_apart = apart return_pointer_code return_pointer_from return_pointer_back

pub variadic_apart : (a b : Variadic) → variadic_code a ≡ variadic_code b → a ≡ b
variadic_apart = apart variadic_code variadic_from variadic_back

pub stack_args_apart : (a b : StackArgs) → stack_args_code a ≡ stack_args_code b → a ≡ b
stack_args_apart = apart stack_args_code stack_args_from stack_args_back

pub narrow_apart : (a b : Narrow) → narrow_code a ≡ narrow_code b → a ≡ b
narrow_apart = apart narrow_code narrow_from narrow_back

pub bit_ints_apart : (a b : BitInts) → bit_ints_code a ≡ bit_ints_code b → a ≡ b
bit_ints_apart = apart bit_ints_code bit_ints_from bit_ints_back

pub cleanup_apart : (a b : Cleanup) → cleanup_code a ≡ cleanup_code b → a ≡ b
cleanup_apart = apart cleanup_code cleanup_from cleanup_back

-- A test is read back from its two numbers where the row can hold it.

abbrev pub SizeBack : ℕ → Type 0
SizeBack size = (size_from (size_code size) ≡ size) × (size_code size < 4)

size_at : (k size : ℕ) → SizeBack k → T (eqb size k) → SizeBack size
size_at k size h t = rw (eqb→eq size k t) h

pub size_back : (size : ℕ) → T (register_size size) → SizeBack size
unfolding size_from
size_back size h =
    ⊎_elim
    (λ h124. ⊎_elim
    (λ h12. ⊎_elim (size_at 1 size (refl, lit< tt)) (size_at 2 size (refl, lit< tt)) (or_cases (eqb size 1) (eqb size 2) h12))
    (size_at 4 size (refl, lit< tt))
    (or_cases (eqb size 1 || eqb size 2) (eqb size 4) h124))
    (size_at 8 size (refl, lit< tt))
    (or_cases ((eqb size 1 || eqb size 2) || eqb size 4) (eqb size 8) h)

-- four digits of two bits
module _ (a b c d : ℕ) (ha : a < 4) (hb : b < 4) (hc : c < 4) (hd : d < 4) where
  first_digit : (a + 4 * b + 16 * c + 64 * d) % 4 ≡ a
  first_digit = omega arith

  second_digit : (a + 4 * b + 16 * c + 64 * d) / 4 % 4 ≡ b
  second_digit = omega arith

  third_digit : (a + 4 * b + 16 * c + 64 * d) / 16 % 4 ≡ c
  third_digit = omega arith

  fourth_digit : (a + 4 * b + 16 * c + 64 * d) / 64 ≡ d
  fourth_digit = omega arith

sizes_back : (a b c d : ℕ) → SizeBack a → SizeBack b → SizeBack c → SizeBack d →
    test_from 3 (size_code a + 4 * size_code b + 16 * size_code c + 64 * size_code d) ≡ SizeOneOf 4 a b c d
unfolding test_from
sizes_back a b c d ha hb hc hd =
    simp (
      first_digit (size_code a) (size_code b) (size_code c) (size_code d) ha.1 hb.1 hc.1 hd.1,
      second_digit (size_code a) (size_code b) (size_code c) (size_code d) ha.1 hb.1 hc.1 hd.1,
      third_digit (size_code a) (size_code b) (size_code c) (size_code d) ha.1 hb.1 hc.1 hd.1,
      fourth_digit (size_code a) (size_code b) (size_code c) (size_code d) ha.1 hb.1 hc.1 hd.1,
      ha.0,
      hb.0,
      hc.0,
      hd.0,
    )

pub test_back : (t : Test) → T (held_test t) → test_from (test_code t) (test_number t) ≡ t
unfolding test_from
test_back Anything h = refl
test_back Empty h = refl
test_back (SizeOneOf k a b c d) h =
    let four : k ≡ 4 = eqb→eq k 4 (and_left (eqb k 4) (register_size a && (register_size b && (register_size c && register_size d))) h) in
    let ha = and_right (eqb k 4) (register_size a && (register_size b && (register_size c && register_size d))) h in
    let hb = and_right (register_size a) (register_size b && (register_size c && register_size d)) ha in
    let hc = and_right (register_size b) (register_size c && register_size d) hb in
    rw four (sizes_back
    a
    b
    c
    d
    (size_back a (and_left (register_size a) (register_size b && (register_size c && register_size d)) ha))
    (size_back b (and_left (register_size b) (register_size c && register_size d) hb))
    (size_back c (and_left (register_size c) (register_size d) hc))
    (size_back d (and_right (register_size c) (register_size d) hc)))
test_back (SizeAtMost limit) h = refl
test_back (Homogeneous limit) h = refl
test_back FloatPair h = refl
test_back X87Stack h = refl
test_back LoneFloat h = refl
test_back FloatingMode h = refl
test_back ComplexFloat h = refl
test_back (Eightbytes limit) h = refl

pub test_apart : (a b : Test) → T (held_test a) → T (held_test b) → test_code a ≡ test_code b → test_number a ≡ test_number b → a ≡ b
test_apart a b ha hb code number =
    sym (test_back a ha) ∙ (ap (λ (n : ℕ). test_from n (test_number a)) code ∙ (ap (test_from (test_code b)) number ∙ test_back b hb))

-- a test's number says that a rule stands there
pub test_stands : (t : Test) → eqb (test_code t) 0 ≡ false
test_stands Anything = refl
test_stands Empty = refl
test_stands (SizeOneOf k a b c d) = refl
test_stands (SizeAtMost limit) = refl
test_stands (Homogeneous limit) = refl
test_stands FloatPair = refl
test_stands X87Stack = refl
test_stands LoneFloat = refl
test_stands FloatingMode = refl
test_stands ComplexFloat = refl
test_stands (Eightbytes limit) = refl

-- each number has room in its byte
pub flag_fits : (b : Bool) → one_if b < 2
flag_fits true = lit< tt
flag_fits false = lit< tt

pub travel_fits : (t : Travel) → travel_code t < 8
travel_fits Ignore = lit< tt
travel_fits AsFound = lit< tt
travel_fits AsIntegers = lit< tt
travel_fits AsOneInteger = lit< tt
travel_fits ByReference = lit< tt
travel_fits InMemory = lit< tt
travel_fits InMemoryAndSpend = lit< tt

pub return_pointer_fits : (p : ReturnPointer) → return_pointer_code p < 4
return_pointer_fits FirstArgument = lit< tt
return_pointer_fits FirstArgumentPopped = lit< tt
return_pointer_fits Dedicated = lit< tt

pub stack_args_fits : (s : StackArgs) → stack_args_code s < 2
stack_args_fits RegisterSized = lit< tt
stack_args_fits Packed = lit< tt

pub narrow_fits : (n : Narrow) → narrow_code n < 4
narrow_fits Unspecified = lit< tt
narrow_fits ToInt = lit< tt
narrow_fits ArgsToInt = lit< tt

pub bit_ints_fits : (b : BitInts) → bit_ints_code b < 2
bit_ints_fits SpareBits = lit< tt
bit_ints_fits Untaught = lit< tt
