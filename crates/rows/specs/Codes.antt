-- The number of each case of an enum, as a row of bytes has it, and the way back.
use Rattle.std.specs.Prelude.{ℕ, ◌+◌, ◌*◌, ◌/◌, ◌%◌, cond, List, [], ◌∷◌, eqb, get_or}
use Rattle.describe.specs.declared.Test.{Test}
use Rattle.describe.specs.declared.Test.TheVariants.{Anything, Empty, SizeOneOf, SizeAtMost, Homogeneous, FloatPair, X87Stack, LoneFloat, FloatingMode, ComplexFloat, Eightbytes}
use Rattle.describe.specs.declared.Travel.{Travel}
use Rattle.describe.specs.declared.Travel.TheVariants.{Ignore, AsFound, AsIntegers, AsOneInteger, ByReference, InMemory, InMemoryAndSpend}
use Rattle.describe.specs.declared.Short.{Short}
use Rattle.describe.specs.declared.Short.TheVariants.{Unchanged, Memory, MemoryAndDrain, TryNextRule, Split}
use Rattle.describe.specs.declared.ReturnPointer.{ReturnPointer}
use Rattle.describe.specs.declared.ReturnPointer.TheVariants.{FirstArgument, FirstArgumentPopped, Dedicated}
use Rattle.describe.specs.declared.Variadic.{Variadic}
use Rattle.describe.specs.declared.Variadic.TheVariants.{SameAsFixed, AlwaysMemory, BothBanks, IntegersOnly, UnnamedIntegers, UnnamedIntegersEven}
use Rattle.describe.specs.declared.StackArgs.{StackArgs}
use Rattle.describe.specs.declared.StackArgs.TheVariants.{RegisterSized, Packed}
use Rattle.describe.specs.declared.Narrow.{Narrow}
use Rattle.describe.specs.declared.Narrow.TheVariants.{Unspecified, ToInt, ArgsToInt}
use Rattle.describe.specs.declared.BitInts.{BitInts}
use Rattle.describe.specs.declared.BitInts.TheVariants.{SpareBits, Untaught}
use Rattle.describe.specs.declared.Cleanup.{Cleanup}
use Rattle.describe.specs.declared.Cleanup.TheVariants.{Caller, Callee}

-- A test has a number from 1, since 0 says that a list has ended, and a number of its own.
abbrev pub test_code : Test → ℕ
test_code Anything = 1
test_code Empty = 2
test_code (SizeOneOf k a b c d) = 3
test_code (SizeAtMost limit) = 4
test_code (Homogeneous limit) = 5
test_code FloatPair = 6
test_code X87Stack = 7
test_code LoneFloat = 8
test_code FloatingMode = 9
test_code ComplexFloat = 10
test_code (Eightbytes limit) = 11

-- Four sizes are two bits each, the first lowest.
abbrev pub size_code : ℕ → ℕ
size_code size = cond (eqb size 1) 0 (cond (eqb size 2) 1 (cond (eqb size 4) 2 3))

abbrev pub test_number : Test → ℕ
test_number Anything = 0
test_number Empty = 0
test_number (SizeOneOf k a b c d) = size_code a + 4 * size_code b + 16 * size_code c + 64 * size_code d
test_number (SizeAtMost limit) = limit
test_number (Homogeneous limit) = limit
test_number FloatPair = 0
test_number X87Stack = 0
test_number LoneFloat = 0
test_number FloatingMode = 0
test_number ComplexFloat = 0
test_number (Eightbytes limit) = limit

abbrev pub travel_code : Travel → ℕ
travel_code Ignore = 0
travel_code AsFound = 1
travel_code AsIntegers = 2
travel_code AsOneInteger = 3
travel_code ByReference = 4
travel_code InMemory = 5
travel_code InMemoryAndSpend = 6

abbrev pub short_code : Short → ℕ
short_code Unchanged = 0
short_code Memory = 1
short_code MemoryAndDrain = 2
short_code TryNextRule = 3
short_code Split = 4

abbrev pub return_pointer_code : ReturnPointer → ℕ
return_pointer_code FirstArgument = 0
return_pointer_code FirstArgumentPopped = 1
return_pointer_code Dedicated = 2

abbrev pub variadic_code : Variadic → ℕ
variadic_code SameAsFixed = 0
variadic_code AlwaysMemory = 1
variadic_code BothBanks = 2
variadic_code IntegersOnly = 3
variadic_code UnnamedIntegers = 4
variadic_code UnnamedIntegersEven = 5

abbrev pub stack_args_code : StackArgs → ℕ
stack_args_code RegisterSized = 0
stack_args_code Packed = 1

abbrev pub narrow_code : Narrow → ℕ
narrow_code Unspecified = 0
narrow_code ToInt = 1
narrow_code ArgsToInt = 2

abbrev pub bit_ints_code : BitInts → ℕ
bit_ints_code SpareBits = 0
bit_ints_code Untaught = 1

abbrev pub cleanup_code : Cleanup → ℕ
cleanup_code Caller = 0
cleanup_code Callee = 1

-- The way back. A number past the last case is the last case.
unfoldable pub size_from : ℕ → ℕ
size_from code = get_or (1 ∷ 2 ∷ 4 ∷ []) code 8

abbrev pub first_tests : ℕ → List Test
first_tests number =
    Anything
    ∷ Anything
    ∷ Empty
    ∷ SizeOneOf 4 (size_from (number % 4)) (size_from (number / 4 % 4)) (size_from (number / 16 % 4)) (size_from (number / 64))
    ∷ SizeAtMost number
    ∷ Homogeneous number
    ∷ FloatPair
    ∷ X87Stack
    ∷ LoneFloat
    ∷ FloatingMode
    ∷ ComplexFloat
    ∷ []

unfoldable pub test_from : ℕ → ℕ → Test
test_from code number = get_or (first_tests number) code (Eightbytes number)

unfoldable pub travel_from : ℕ → Travel
travel_from code =
    get_or (Ignore ∷ AsFound ∷ AsIntegers ∷ AsOneInteger ∷ ByReference ∷ InMemory ∷ []) code InMemoryAndSpend

unfoldable pub short_from : ℕ → Short
short_from code = get_or (Unchanged ∷ Memory ∷ MemoryAndDrain ∷ TryNextRule ∷ []) code Split

unfoldable pub return_pointer_from : ℕ → ReturnPointer
return_pointer_from code = get_or (FirstArgument ∷ FirstArgumentPopped ∷ []) code Dedicated

unfoldable pub variadic_from : ℕ → Variadic
variadic_from code = get_or (SameAsFixed ∷ AlwaysMemory ∷ BothBanks ∷ IntegersOnly ∷ UnnamedIntegers ∷ []) code UnnamedIntegersEven

unfoldable pub stack_args_from : ℕ → StackArgs
stack_args_from code = get_or (RegisterSized ∷ []) code Packed

unfoldable pub narrow_from : ℕ → Narrow
narrow_from code = get_or (Unspecified ∷ ToInt ∷ []) code ArgsToInt

unfoldable pub bit_ints_from : ℕ → BitInts
bit_ints_from code = get_or (SpareBits ∷ []) code Untaught

unfoldable pub cleanup_from : ℕ → Cleanup
cleanup_from code = get_or (Caller ∷ []) code Callee
