-- The descriptions (REFERENCE 5.5), in the order of their numbers: thirty that the Rust has, and behind them three that it hasn't. What several share is written once. Comments say why a
-- description is as it is; where compilers or a standard part from it, docs/COMPILERS.md and docs/DIFFERENCES.md say so.
use Rattle.std.specs.Prelude.{ℕ, Bool, true, false, List, [], ◌∷◌, get_or}
use Rattle.shape.specs.Numbers.{integer, x87_extended, quad}
use Rattle.describe.specs.declared.Rule.{Rule}
use Rattle.describe.specs.declared.Test.TheVariants.{Anything, Empty, SizeOneOf, SizeAtMost, Homogeneous, FloatPair, X87Stack, LoneFloat, FloatingMode, ComplexFloat, Eightbytes}
use Rattle.describe.specs.declared.Travel.TheVariants.{Ignore, AsFound, AsIntegers, AsOneInteger, ByReference, InMemory, InMemoryAndSpend}
use Rattle.describe.specs.declared.Short.TheVariants.{Memory, MemoryAndDrain, TryNextRule, Split}
use Rattle.describe.specs.declared.ReturnPointer.{ReturnPointer}
use Rattle.describe.specs.declared.ReturnPointer.TheVariants.{FirstArgument, FirstArgumentPopped, Dedicated}
use Rattle.describe.specs.declared.Variadic.{Variadic}
use Rattle.describe.specs.declared.Variadic.TheVariants.{SameAsFixed, AlwaysMemory, BothBanks, IntegersOnly, UnnamedIntegers, UnnamedIntegersEven}
use Rattle.describe.specs.declared.StackArgs.{StackArgs}
use Rattle.describe.specs.declared.StackArgs.TheVariants.{RegisterSized, Packed}
use Rattle.describe.specs.declared.Narrow.{Narrow}
use Rattle.describe.specs.declared.Narrow.TheVariants.{Unspecified, ToInt, ArgsToInt}
use Rattle.describe.specs.declared.BitInts.TheVariants.{SpareBits, Untaught}
use Rattle.describe.specs.declared.Cleanup.{Cleanup}
use Rattle.describe.specs.declared.Cleanup.TheVariants.{Caller, Callee}
use Rattle.describe.specs.Description.{Description, rule, rule_short}
use Rattle.text.specs.Text.{bytes}

-- A format is the kind of a piece that has it; no format is the one kind that is no float's.
abbrev none : ℕ
none = integer

-- SysV AMD64: x86-64 but for Windows. An eightbyte goes in one register, so one integer in it takes the float beside it along. The limit
-- is two eightbytes: of more, only a value whose every later eightbyte is an upper half goes in registers, and that is a vector alone.

abbrev pub sysv_amd64 : Description
sysv_amd64 =
    record {
      name = bytes "SysV AMD64";
      banks = record { integer = 6; float = 8; shared = false; integer_width = 8; float_width = 16 };
      scalars = record {
        -- No register takes an x87 value as an argument.
        in_memory = x87_extended;
        -- Half a value would take a register that a later argument could use whole.
        wide_integer_is_all_or_nothing = true;
        wide_integer_starts_even = false;
        wide_integer_drains = false;
        wide_is_by_reference = false;
        wide_integer_returns_in = none;
        wide_integer_in_memory = false;
        decimal_in_integers = false;
        quad_returns_by_reference = false;
        float_falls_to_integers = false;
      };
      -- An x87 value comes back on the x87's own stack, which holds its 80 bits: in st0, the second part of a complex one in st1.
      returns = rule Empty Ignore ∷ rule X87Stack AsFound ∷ rule (Eightbytes 16) AsFound ∷ rule Anything ByReference ∷ [];
      -- One that doesn't fit leaves the registers to later arguments that do: psABI 3.2.3 frees what it had been assigned. AAPCS64
      -- drains instead.
      arguments = rule Empty Ignore ∷ rule_short (Eightbytes 16) AsFound Memory ∷ rule Anything InMemory ∷ [];
      return_pointer = FirstArgument;
      -- The callee keeps both banks in its register save area (3.5.7), so an argument after the dots needs no other place.
      variadic = SameAsFixed;
      stack_args = RegisterSized;
      -- The psABI is silent. gcc and clang extend arguments, clang's callees rely on it, and so does assembly of the Linux kernel.
      narrow = ArgsToInt;
      -- The psABI leaves these bits open, and gcc keeps to it: each side reads the bits of its type alone.
      bit_ints = SpareBits;
      cleanup = Caller;
    }

-- AArch64: AAPCS64, and the two that differ from it by what the arguments of this say. Darwin's starts wide integers anywhere,
-- sends arguments after the dots to memory, packs stack arguments and extends narrow integers; Windows' differs after the dots.
-- Up to four equal floats and nothing else go in float registers, a register each; any other aggregate up to 16 bytes in integer ones.

abbrev aapcs64_with : List ℕ → Bool → Variadic → StackArgs → Narrow → Description
aapcs64_with name starts_even variadic stack_args narrow =
    record {
      name = name;
      banks = record { integer = 8; float = 8; shared = false; integer_width = 8; float_width = 16 };
      scalars = record {
        in_memory = none;
        wide_integer_is_all_or_nothing = false;
        wide_integer_starts_even = starts_even;
        wide_integer_drains = true;
        wide_is_by_reference = false;
        wide_integer_returns_in = none;
        wide_integer_in_memory = false;
        decimal_in_integers = false;
        quad_returns_by_reference = false;
        float_falls_to_integers = false;
      };
      returns = rule Empty Ignore ∷ rule (Homogeneous 4) AsFound ∷ rule (SizeAtMost 16) AsIntegers ∷ rule Anything ByReference ∷ [];
      -- What finds too few registers goes to memory and takes the rest of its bank along (C.3, C.13): no later argument may fill the
      -- hole. So the ninth argument isn't classified as the first is.
      arguments =
          rule Empty Ignore
          ∷ rule_short (Homogeneous 4) AsFound MemoryAndDrain
          ∷ rule_short (SizeAtMost 16) AsIntegers MemoryAndDrain
          ∷ rule Anything ByReference
          ∷ [];
      -- x8, which is no argument register: all eight stay for what the function is called with.
      return_pointer = Dedicated;
      variadic = variadic;
      stack_args = stack_args;
      narrow = narrow;
      -- The document has rules of their own for them. Nobody has checked these here, as on all rows below: a generator refuses them.
      bit_ints = Untaught;
      cleanup = Caller;
    }

-- C.10 rounds up to an even register for an alignment of 16: a 16-byte integer behind an int is in x2 and x3, and x1 stays empty. The
-- document leaves the bits above a narrow integer open.
abbrev pub aapcs64 : Description
aapcs64 = aapcs64_with (bytes "AAPCS64") true SameAsFixed RegisterSized Unspecified

-- Apple's choices, as clang for its targets has them. A 16-byte integer behind an int is in x1 and x2. With everything after the dots in
-- memory, a function with dots can't be called without its prototype: printf prints garbage then. Whoever takes a word for each packed
-- argument finds garbage from the ninth on. clang's callees and callers rely on narrow integers being extended.
abbrev pub darwin_arm64 : Description
darwin_arm64 = aapcs64_with (bytes "Darwin arm64") false AlwaysMemory Packed ToInt

-- The callee of a function with dots stores x0 to x7 right below the arguments in memory and walks the whole run with one pointer: so
-- every argument has to be in that run, named floats too. A record isn't split between x7 and the stack, though Microsoft's document
-- allows it: clang doesn't split it.
abbrev pub windows_arm64 : Description
windows_arm64 = aapcs64_with (bytes "Windows arm64") true IntegersOnly RegisterSized Unspecified

-- Windows x64. Its one rule goes by the size of the object, whatever is in it: 1, 2, 4 or 8 bytes are an integer of that size, two floats
-- too, and anything else is the address of a copy, 3 bytes as well as 300.

abbrev pub win64 : Description
win64 =
    record {
      name = bytes "Windows x64";
      -- rcx, rdx, r8, r9 and xmm0 to xmm3 are the same four positions: an int and then a double are in rcx and xmm1.
      banks = record { integer = 4; float = 0; shared = true; integer_width = 8; float_width = 16 };
      scalars = record {
        in_memory = none;
        wide_integer_is_all_or_nothing = false;
        wide_integer_starts_even = false;
        wide_integer_drains = false;
        -- The rule reaches scalars: a long double and an integer of 16 are addresses too.
        wide_is_by_reference = true;
        -- gcc's own answer, for the convention has no integer of 16: it comes back in xmm0. A float of 16 comes back through the
        -- address.
        wide_integer_returns_in = quad;
        wide_integer_in_memory = false;
        -- gcc keeps the vector registers for float and double.
        decimal_in_integers = true;
        quad_returns_by_reference = false;
        float_falls_to_integers = false;
      };
      returns = rule Empty Ignore ∷ rule (SizeOneOf 4 1 2 4 8) AsOneInteger ∷ rule Anything ByReference ∷ [];
      -- No rule for an empty one, though there is one for what comes back: its size is none of the four, so gcc passes an address, and
      -- that takes a position. Left out, it shifts all later arguments by one position: gcc's torture test va-arg-22 finds that.
      arguments = rule (SizeOneOf 4 1 2 4 8) AsOneInteger ∷ rule Anything ByReference ∷ [];
      -- In rcx: all arguments move on by one position.
      return_pointer = FirstArgument;
      -- The callee doesn't know which bank to read, so a float is in both. Its form is the same: to classification a fixed argument.
      variadic = BothBanks;
      stack_args = RegisterSized;
      narrow = Unspecified;
      bit_ints = Untaught;
      cleanup = Caller;
    }

-- RISC-V LP64D. A record of one or two floats goes in float registers, one of a float and an integer in one register of each bank.

abbrev pub riscv_lp64d : Description
riscv_lp64d =
    record {
      name = bytes "RISC-V LP64D";
      -- A float register has 8 bytes, so a long double of 16 goes by integers and is no float to FloatPair.
      banks = record { integer = 8; float = 8; shared = false; integer_width = 8; float_width = 8 };
      scalars = record {
        in_memory = none;
        wide_integer_is_all_or_nothing = false;
        wide_integer_starts_even = false;
        wide_integer_drains = false;
        wide_is_by_reference = false;
        wide_integer_returns_in = none;
        wide_integer_in_memory = false;
        decimal_in_integers = false;
        quad_returns_by_reference = false;
        float_falls_to_integers = false;
      };
      returns = rule Empty Ignore ∷ rule FloatPair AsFound ∷ rule (SizeAtMost 16) AsIntegers ∷ rule Anything ByReference ∷ [];
      -- FloatPair is a bonus: where its registers aren't left, the size's rule may still find integer registers. The draining is the
      -- Rust's; the psABI and compilers split such a record between a7 and the stack (DIFFERENCES).
      arguments =
          rule Empty Ignore
          ∷ rule_short FloatPair AsFound TryNextRule
          ∷ rule_short (SizeAtMost 16) AsIntegers MemoryAndDrain
          ∷ rule Anything ByReference
          ∷ [];
      return_pointer = FirstArgument;
      -- The callee stores a0 to a7 right below the arguments in memory, so that one pointer walks all unnamed ones; named floats keep
      -- their registers.
      variadic = UnnamedIntegers;
      stack_args = RegisterSized;
      -- The psABI widens by the type's own sign to 32 bits and then to the register, the caller for arguments, the callee for results.
      narrow = ToInt;
      bit_ints = Untaught;
      cleanup = Caller;
    }

-- 32-bit x86: one base, and what the conventions on it set.

record I386 : Type 0 where
  integer : ℕ
  wide_integer_is_all_or_nothing : Bool
  wide_integer_drains : Bool
  wide_integer_in_memory : Bool
  arguments : List Rule

abbrev i386 : I386 → List ℕ → List Rule → ReturnPointer → Cleanup → Description
i386 registers name returns pointer cleanup =
    record {
      name = name;
      -- There are no float registers. An integer width of 4 is also what a place in the argument area takes, and what a result is cut
      -- into.
      banks = record { integer = registers.integer; float = 0; shared = false; integer_width = 4; float_width = 8 };
      scalars = record {
        -- cdecl has no bank to keep an x87 value from; on the other conventions the Rust gives it integer registers (DIFFERENCES).
        in_memory = none;
        wide_integer_is_all_or_nothing = registers.wide_integer_is_all_or_nothing;
        wide_integer_starts_even = false;
        wide_integer_drains = registers.wide_integer_drains;
        wide_is_by_reference = false;
        wide_integer_returns_in = none;
        wide_integer_in_memory = registers.wide_integer_in_memory;
        decimal_in_integers = false;
        -- No register holds a result of 16: st0 is for the 80-bit format, and edx:eax ends at 8.
        quad_returns_by_reference = true;
        float_falls_to_integers = false;
      };
      returns = returns;
      arguments = registers.arguments;
      return_pointer = pointer;
      -- cdecl has everything in memory already. Compilers make a function with dots cdecl, whatever its attribute says (COMPILERS).
      variadic = SameAsFixed;
      stack_args = RegisterSized;
      narrow = Unspecified;
      bit_ints = Untaught;
      cleanup = cleanup;
    }

-- No argument registers; the first n words of arguments in registers; two registers for small integers.

abbrev cdecl : I386
cdecl =
    record {
      integer = 0;
      wide_integer_is_all_or_nothing = false;
      wide_integer_drains = false;
      wide_integer_in_memory = false;
      arguments = rule Empty Ignore ∷ rule Anything InMemory ∷ [];
    }

-- gcc's, in eax, edx and ecx; the Linux kernel is built with three. gcc counts words, and a record is its words; one that doesn't fit takes
-- the registers left along. A record of one float has that float's mode, so it is on the stack like it and spends nothing. gcc lets an
-- integer that doesn't fit drain too, but all or nothing is asked first, and the Rust keeps the registers (DIFFERENCES).
abbrev regparm : ℕ → I386
regparm n =
    record {
      integer = n;
      wide_integer_is_all_or_nothing = true;
      wide_integer_drains = true;
      wide_integer_in_memory = false;
      arguments = rule Empty Ignore ∷ rule LoneFloat InMemory ∷ rule_short Anything AsIntegers MemoryAndDrain ∷ [];
    }

-- ecx and edx, for integers of a word at most; the rest is what gcc was seen to do. A wider integer is on the stack and takes both along.
-- A record is on the stack, and its words count against the registers all the same; a complex, and what has a floating mode, counts as
-- nothing.
abbrev fastcall : I386
fastcall =
    record {
      integer = 2;
      wide_integer_is_all_or_nothing = false;
      wide_integer_drains = false;
      wide_integer_in_memory = true;
      arguments = rule Empty Ignore ∷ rule FloatingMode InMemory ∷ rule Anything InMemoryAndSpend ∷ [];
    }

-- Where an aggregate comes back: in memory but for a complex float; in registers by its size, a lone float as a float; and by
-- its size alone.

-- On Linux every structure comes back in memory. A complex float is none: gcc has it in edx:eax, and libgcc's __mulsc3 answers so.
abbrev sysv_returns : List Rule
sysv_returns = rule Empty Ignore ∷ rule ComplexFloat AsIntegers ∷ rule Anything ByReference ∷ []

-- gcc's rule: what has a machine mode comes back in a register. 1, 2, 4 and 8 bytes have an integer's, a record of one float or double
-- has the float's, in st0. It is mingw's default, and -freg-struct-return elsewhere: the Linux kernel is built with it, where page table
-- entries are records of a word.
abbrev reg_struct_returns : List Rule
reg_struct_returns =
    rule Empty Ignore ∷ rule LoneFloat AsFound ∷ rule (SizeOneOf 4 1 2 4 8) AsIntegers ∷ rule Anything ByReference ∷ []

-- To Microsoft's compiler a record of one float is a record like any other.
abbrev msvc_returns : List Rule
msvc_returns = rule Empty Ignore ∷ rule (SizeOneOf 4 1 2 4 8) AsIntegers ∷ rule Anything ByReference ∷ []

-- The callee takes the address of a result off the stack (ret $4), and the caller has to know: its stack is a word shorter then.
abbrev pub i386_sysv : Description
i386_sysv = i386 cdecl (bytes "i386 SysV") sysv_returns FirstArgumentPopped Caller

-- With regparm the address of a result is in eax: nothing is on the stack to be popped.
abbrev pub i386_sysv_regparm_1 : Description
i386_sysv_regparm_1 = i386 (regparm 1) (bytes "i386 SysV regparm(1)") sysv_returns FirstArgument Caller

abbrev pub i386_sysv_regparm_2 : Description
i386_sysv_regparm_2 = i386 (regparm 2) (bytes "i386 SysV regparm(2)") sysv_returns FirstArgument Caller

abbrev pub i386_sysv_regparm_3 : Description
i386_sysv_regparm_3 = i386 (regparm 3) (bytes "i386 SysV regparm(3)") sysv_returns FirstArgument Caller

abbrev pub i386_sysv_reg_struct : Description
i386_sysv_reg_struct = i386 cdecl (bytes "i386 SysV -freg-struct-return") reg_struct_returns FirstArgumentPopped Caller

abbrev pub i386_sysv_regparm_1_reg_struct : Description
i386_sysv_regparm_1_reg_struct =
    i386 (regparm 1) (bytes "i386 SysV regparm(1) -freg-struct-return") reg_struct_returns FirstArgument Caller

abbrev pub i386_sysv_regparm_2_reg_struct : Description
i386_sysv_regparm_2_reg_struct =
    i386 (regparm 2) (bytes "i386 SysV regparm(2) -freg-struct-return") reg_struct_returns FirstArgument Caller

abbrev pub i386_sysv_regparm_3_reg_struct : Description
i386_sysv_regparm_3_reg_struct =
    i386 (regparm 3) (bytes "i386 SysV regparm(3) -freg-struct-return") reg_struct_returns FirstArgument Caller

-- The callee takes the whole argument area off (ret $n), the address of a result with it: that isn't popped apart.
abbrev pub i386_sysv_stdcall : Description
i386_sysv_stdcall = i386 cdecl (bytes "i386 SysV stdcall") sysv_returns FirstArgument Callee

abbrev pub i386_sysv_regparm_1_stdcall : Description
i386_sysv_regparm_1_stdcall = i386 (regparm 1) (bytes "i386 SysV stdcall regparm(1)") sysv_returns FirstArgument Callee

abbrev pub i386_sysv_regparm_2_stdcall : Description
i386_sysv_regparm_2_stdcall = i386 (regparm 2) (bytes "i386 SysV stdcall regparm(2)") sysv_returns FirstArgument Callee

abbrev pub i386_sysv_regparm_3_stdcall : Description
i386_sysv_regparm_3_stdcall = i386 (regparm 3) (bytes "i386 SysV stdcall regparm(3)") sysv_returns FirstArgument Callee

abbrev pub i386_sysv_reg_struct_stdcall : Description
i386_sysv_reg_struct_stdcall =
    i386 cdecl (bytes "i386 SysV stdcall -freg-struct-return") reg_struct_returns FirstArgument Callee

abbrev pub i386_sysv_regparm_1_reg_struct_stdcall : Description
i386_sysv_regparm_1_reg_struct_stdcall =
    i386 (regparm 1) (bytes "i386 SysV stdcall regparm(1) -freg-struct-return") reg_struct_returns FirstArgument Callee

abbrev pub i386_sysv_regparm_2_reg_struct_stdcall : Description
i386_sysv_regparm_2_reg_struct_stdcall =
    i386 (regparm 2) (bytes "i386 SysV stdcall regparm(2) -freg-struct-return") reg_struct_returns FirstArgument Callee

abbrev pub i386_sysv_regparm_3_reg_struct_stdcall : Description
i386_sysv_regparm_3_reg_struct_stdcall =
    i386 (regparm 3) (bytes "i386 SysV stdcall regparm(3) -freg-struct-return") reg_struct_returns FirstArgument Callee

-- The address of a result is in ecx, and ret $n doesn't count it. There is none with regparm: fastcall names its own registers.
abbrev pub i386_sysv_fastcall : Description
i386_sysv_fastcall = i386 fastcall (bytes "i386 SysV fastcall") sysv_returns FirstArgument Callee

abbrev pub i386_sysv_reg_struct_fastcall : Description
i386_sysv_reg_struct_fastcall =
    i386 fastcall (bytes "i386 SysV fastcall -freg-struct-return") reg_struct_returns FirstArgument Callee

-- On Windows the caller takes the address of a result off with the arguments: the callee ends in a plain ret.
abbrev pub i386_mingw : Description
i386_mingw = i386 cdecl (bytes "i386 Windows (mingw)") reg_struct_returns FirstArgument Caller

abbrev pub i386_msvc : Description
i386_msvc = i386 cdecl (bytes "i386 Windows (MSVC)") msvc_returns FirstArgument Caller

-- Nearly all of the Windows API is declared so (WINAPI, CALLBACK). A function with dots can't be: only its caller knows what it pushed.
abbrev pub i386_mingw_stdcall : Description
i386_mingw_stdcall = i386 cdecl (bytes "i386 Windows stdcall (mingw)") reg_struct_returns FirstArgument Callee

abbrev pub i386_mingw_fastcall : Description
i386_mingw_fastcall = i386 fastcall (bytes "i386 Windows fastcall (mingw)") reg_struct_returns FirstArgument Callee

abbrev pub i386_msvc_stdcall : Description
i386_msvc_stdcall = i386 cdecl (bytes "i386 Windows stdcall (MSVC)") msvc_returns FirstArgument Callee

abbrev pub i386_msvc_fastcall : Description
i386_msvc_fastcall = i386 fastcall (bytes "i386 Windows fastcall (MSVC)") msvc_returns FirstArgument Callee

-- RISC-V by its own book, for three kinds of board: no float registers, those that hold a float, those that hold a double. Each has eight of its
-- width, or none. They go as row 5 does but for what the Rust has otherwise: each of the three comments here says one.

abbrev pub riscv_with : List ℕ → ℕ → ℕ → Description
riscv_with name float_registers float_width =
    record {
      name = name;
      banks = record { integer = 8; float = float_registers; shared = false; integer_width = 8; float_width = float_width };
      scalars = record {
        in_memory = none;
        wide_integer_is_all_or_nothing = false;
        wide_integer_starts_even = false;
        wide_integer_drains = false;
        wide_is_by_reference = false;
        wide_integer_returns_in = none;
        wide_integer_in_memory = false;
        decimal_in_integers = false;
        quad_returns_by_reference = false;
        -- Behind the last float register a float is passed by the integer convention.
        float_falls_to_integers = true;
      };
      returns = rule Empty Ignore ∷ rule FloatPair AsFound ∷ rule (SizeAtMost 16) AsIntegers ∷ rule Anything ByReference ∷ [];
      -- Two words with one register left are split between it and the stack: no register is skipped, so none is drained.
      arguments =
          rule Empty Ignore
          ∷ rule_short FloatPair AsFound TryNextRule
          ∷ rule_short (SizeAtMost 16) AsIntegers Split
          ∷ rule Anything ByReference
          ∷ [];
      return_pointer = FirstArgument;
      -- An unnamed value of two words that is aligned to both is in an aligned pair of registers.
      variadic = UnnamedIntegersEven;
      stack_args = RegisterSized;
      narrow = ToInt;
      bit_ints = Untaught;
      cleanup = Caller;
    }

-- No register holds a float, of a width of 0 none but an empty one.
abbrev pub riscv_psabi_lp64 : Description
riscv_psabi_lp64 = riscv_with (bytes "RISC-V LP64 psABI") 0 0

abbrev pub riscv_psabi_lp64f : Description
riscv_psabi_lp64f = riscv_with (bytes "RISC-V LP64F psABI") 8 4

abbrev pub riscv_psabi_lp64d : Description
riscv_psabi_lp64d = riscv_with (bytes "RISC-V LP64D psABI") 8 8

unfoldable pub descriptions : List Description
descriptions =
    sysv_amd64
    ∷ aapcs64
    ∷ darwin_arm64
    ∷ windows_arm64
    ∷ win64
    ∷ riscv_lp64d
    ∷ i386_sysv
    ∷ i386_sysv_regparm_1
    ∷ i386_sysv_regparm_2
    ∷ i386_sysv_regparm_3
    ∷ i386_sysv_reg_struct
    ∷ i386_sysv_regparm_1_reg_struct
    ∷ i386_sysv_regparm_2_reg_struct
    ∷ i386_sysv_regparm_3_reg_struct
    ∷ i386_sysv_stdcall
    ∷ i386_sysv_regparm_1_stdcall
    ∷ i386_sysv_regparm_2_stdcall
    ∷ i386_sysv_regparm_3_stdcall
    ∷ i386_sysv_reg_struct_stdcall
    ∷ i386_sysv_regparm_1_reg_struct_stdcall
    ∷ i386_sysv_regparm_2_reg_struct_stdcall
    ∷ i386_sysv_regparm_3_reg_struct_stdcall
    ∷ i386_sysv_fastcall
    ∷ i386_sysv_reg_struct_fastcall
    ∷ i386_mingw
    ∷ i386_msvc
    ∷ i386_mingw_stdcall
    ∷ i386_mingw_fastcall
    ∷ i386_msvc_stdcall
    ∷ i386_msvc_fastcall
    ∷ riscv_psabi_lp64
    ∷ riscv_psabi_lp64f
    ∷ riscv_psabi_lp64d
    ∷ []

-- What stands past the last: nothing in any field, so that readers of rows need no refusal.
abbrev pub blank : Description
blank =
    record {
      name = [];
      banks = record { integer = 0; float = 0; shared = false; integer_width = 0; float_width = 0 };
      scalars = record {
        in_memory = none;
        wide_integer_is_all_or_nothing = false;
        wide_integer_starts_even = false;
        wide_integer_drains = false;
        wide_is_by_reference = false;
        wide_integer_returns_in = none;
        wide_integer_in_memory = false;
        decimal_in_integers = false;
        quad_returns_by_reference = false;
        float_falls_to_integers = false;
      };
      returns = [];
      arguments = [];
      return_pointer = FirstArgument;
      variadic = SameAsFixed;
      stack_args = RegisterSized;
      narrow = Unspecified;
      bit_ints = SpareBits;
      cleanup = Caller;
    }

-- How many there are.
abbrev pub description_count : ℕ
description_count = 33

-- The description of a number.
unfoldable pub described : ℕ → Description
described d = get_or descriptions d blank
