-- The Rust's behaviour, restated over readable descriptions, shapes and calls, function by function in the order of classify.rs: how each value
-- travels, its slots, and the counts left as the Rust computes them. Subtraction stops at 0, as the Rust's saturating one does. What is passed
-- over and given is not here: that is spend/specs/Spending.antt, spend_scalar/specs/Spending.antt and Spending.antt beside this file, and a theorem
-- has the two agree. Most reasons stand there, too, and at the fields of descriptions (describe/src/lib.rt). Three things aren't the Rust's, and each
-- says so; rows 0 to 29 have none of them (abis/proofs/Apart.antt, riscv_psabi), so that there all is the Rust's.
use Rattle.std.specs.Prelude.{ℕ, ◌+◌, ◌*◌, ◌-◌, ◌/◌, ◌%◌, max, List, [], ◌∷◌, Bool, true, false, ◌&&◌, ◌||◌, not, cond, eqb, leb, ltb, length}
use Rattle.std.proofs.Math.Option.{Option}
use Rattle.std.proofs.Math.Option.Option.{none, some}
use Rattle.shape.specs.declared.Arg as args
use Rattle.shape.specs.declared.Piece.{Piece}
use Rattle.shape.specs.declared.Scalar.{Scalar}
use Rattle.shape.specs.declared.Shape.{Shape}
use Rattle.shape.specs.Numbers.{integer, one_if}
use Rattle.shape.specs.Questions.{is_float}
use Rattle.slots.specs.declared.Slot.{Slot}
use Rattle.slots.specs.Words.{integer_slot, float_slot}
use Rattle.slots.specs.Cut.{cut}
use Rattle.slots.specs.Search.{Search, found, nothing, floats_in}
use Rattle.describe.specs.declared.Scalars.{Scalars}
use Rattle.describe.specs.declared.Rule.{Rule}
use Rattle.describe.specs.declared.Travel.{Travel}
use Rattle.describe.specs.declared.Travel.TheVariants.{Ignore, AsFound, AsIntegers, AsOneInteger, ByReference, InMemory, InMemoryAndSpend}
use Rattle.describe.specs.declared.Short.{Short}
use Rattle.describe.specs.declared.Short.TheVariants.{Unchanged, Memory, MemoryAndDrain, TryNextRule, Split}
use Rattle.describe.specs.declared.ReturnPointer.{ReturnPointer}
use Rattle.describe.specs.declared.ReturnPointer.TheVariants.{FirstArgument, FirstArgumentPopped, Dedicated}
use Rattle.describe.specs.declared.Variadic.{Variadic}
use Rattle.describe.specs.declared.Variadic.TheVariants.{SameAsFixed, AlwaysMemory, BothBanks, IntegersOnly, UnnamedIntegers, UnnamedIntegersEven}
use Rattle.describe.specs.Description.{Description}
use Rattle.describe.specs.Questions.{is_by_reference, returns_by_reference}
use Rattle.spend.specs.declared.Left.{Left}
use Rattle.spend.specs.Ways.{no_mark, marked, with_mark}
use Rattle.find.specs.Matches.{matches}
use Rattle.classify.specs.Pass.{Pass, ignore, direct, pieces, reference, memory, is_ignore}

-- what a call has left: integers, floats, and the integers-only mark, which is set where it isn't 0
abbrev pub leaves : ℕ → ℕ → ℕ → Left
leaves i f only = record { integer = i; float = f; integers_only = only }

-- the same, without the mark
abbrev pub counts : ℕ → ℕ → Left
counts i f = leaves i f no_mark

-- how a value travels, and what the call has left then
pub record Passed : Type 0 where
  pub pass : Pass
  pub left : Left

abbrev pub passed : Pass → Left → Passed
passed p l = record { pass = p; left = l }

-- so many integers, or so many of each, fewer
abbrev pub less : ℕ → Left → Left
less n left = leaves (left.integer - n) left.float left.integers_only

abbrev pub less_both : ℕ → ℕ → Left → Left
less_both n m left = leaves (left.integer - n) (left.float - m) left.integers_only

-- ---- call, variadic

-- the start of a call, with every argument register still to spend
abbrev pub call : Description → Left
call D = counts D.banks.integer D.banks.float

-- whether floats of a variadic function's call go in integer registers alone, for the named arguments too: its callee walks all arguments with
-- one pointer. So the call itself is marked, before any argument
abbrev pub is_integers_only : Variadic → Bool
is_integers_only SameAsFixed = false
is_integers_only AlwaysMemory = false
is_integers_only BothBanks = false
is_integers_only IntegersOnly = true
is_integers_only UnnamedIntegers = false
is_integers_only UnnamedIntegersEven = false

-- the same call, to a variadic function
abbrev pub variadic : Description → Left → Left
variadic D left = cond (is_integers_only D.variadic) (with_mark left) left

-- ---- registers, which stands further down in the Rust

-- a division that rounds up: one more where something is left over
abbrev pub div_ceil : ℕ → ℕ → ℕ
div_ceil n d = n / d + one_if (ltb 0 (n % d))

-- how many registers of a width a value of a size takes, which is at least one. The Rust has the count in 32 bits, and no size of the domain comes
-- near their end
unfoldable pub registers : ℕ → ℕ → ℕ
registers size width = max (div_ceil size (max width 1)) 1

-- ---- scalar

-- an integer that wants several registers: an even register first, and one that doesn't fit then may spend what is left (C.10, C.13)
abbrev pub after_even : Scalars → ℕ → Left → Left
after_even S start left =
    cond (S.wide_integer_starts_even && eqb ((start - left.integer) % 2) 1) (less 1 left) left

abbrev pub after_pair : Scalars → ℕ → Left → Left
after_pair S want left =
    cond (leb want left.integer) (less want left)
    (cond S.wide_integer_drains (leaves 0 left.float left.integers_only) left)

-- a float that a float register holds takes one. Not the Rust's: with none left it takes what an integer of its size would, where the description
-- says so
abbrev pub after_float : Description → Left → ℕ → Left
after_float D left want = cond D.scalars.float_falls_to_integers (cond (eqb left.float 0) (less want left) (less_both 0 1 left)) (less_both 0 1 left)

-- what is left after a scalar that travels in registers as itself
unfoldable pub after_scalar : Description → Left → Scalar → ℕ → Left
after_scalar D left s want =
    cond D.banks.shared (less 1 left)
    (cond (is_float s.kind && leb s.size D.banks.float_width) (after_float D left want)
    (cond (is_float s.kind) (less want left)
    (cond D.scalars.wide_integer_is_all_or_nothing (cond (leb want left.integer) (less want left) left)
    (cond (ltb 1 want && (D.scalars.wide_integer_starts_even || D.scalars.wide_integer_drains))
    (after_pair D.scalars want (after_even D.scalars D.banks.integer left))
    (less want left)))))

unfoldable pub scalar : Description → Left → Scalar → Passed
scalar D left s =
    let want : ℕ = registers s.size D.banks.integer_width in
    cond (is_by_reference D.scalars s.size) (passed reference (less 1 left))
    (cond (is_float s.kind && eqb s.kind D.scalars.in_memory) (passed direct left)
    (cond ((D.scalars.wide_integer_in_memory && eqb s.kind integer) && ltb 1 want)
    (passed direct (leaves 0 left.float left.integers_only))
    (cond (marked left && is_float s.kind) (passed (pieces (cut s.size D.banks.integer_width)) (less want left))
    (passed direct (after_scalar D left s want)))))

-- ---- travel

-- the address of a return value travels with the arguments, and so takes a register from them
abbrev pub is_first : ReturnPointer → Bool
is_first FirstArgument = true
is_first FirstArgumentPopped = true
is_first Dedicated = false

-- what a run of slots costs: integers, then floats
abbrev pub integer_cost_of : Bool → List Slot → ℕ
integer_cost_of shared ss = cond shared (length ss) (length ss - floats_in ss)

abbrev pub float_cost_of : Bool → List Slot → ℕ
float_cost_of shared ss = cond shared 0 (floats_in ss)

abbrev pub drained_to : ℕ → ℕ → ℕ
drained_to cost left = cond (ltb left cost) 0 left

unfoldable pub short_of : Short → Left → List Slot → ℕ → ℕ → Option Passed
short_of Unchanged left ss i f = some (passed (pieces ss) (less_both i f left))
short_of Memory left ss i f = some (passed memory left)
short_of MemoryAndDrain left ss i f =
    some (passed memory (leaves (drained_to i left.integer) (drained_to f left.float) left.integers_only))
short_of TryNextRule left ss i f = none
-- not the Rust's: the slots all the same, with what registers there are; and memory, with no integer register left
short_of Split left ss i f = some (cond (eqb left.integer 0) (passed memory left) (passed (pieces ss) (less_both i f left)))

unfoldable pub slots_in_registers : Bool → Left → Short → List Slot → Bool → Option Passed
slots_in_registers shared left short ss returning =
    let i : ℕ = integer_cost_of shared ss in
    let f : ℕ = float_cost_of shared ss in
    cond returning (some (passed (pieces ss) left))
    (cond (leb i left.integer && leb f left.float) (some (passed (pieces ss) (less_both i f left))) (short_of short left ss i f))

abbrev pub travel_in : Travel → Description → Left → Short → List Slot → Shape → Bool → Option Passed
travel_in Ignore D left short ss shape returning = some (passed ignore left)
travel_in InMemory D left short ss shape returning = some (passed memory left)
travel_in InMemoryAndSpend D left short ss shape returning =
    some (passed memory (cond returning left (less (registers shape.size D.banks.integer_width) left)))
travel_in ByReference D left short ss shape returning =
    some (passed reference (cond (not returning || is_first D.return_pointer) (less 1 left) left))
travel_in AsFound D left short ss shape returning = slots_in_registers D.banks.shared left short ss returning
travel_in AsIntegers D left short ss shape returning =
    slots_in_registers D.banks.shared left short (cut shape.size D.banks.integer_width) returning
travel_in AsOneInteger D left short ss shape returning =
    slots_in_registers D.banks.shared left short (integer_slot 0 shape.size ∷ []) returning

-- the pass that a matched rule produces, or none if it ran short and said to try the next one
unfoldable pub travel : Description → Left → Rule → List Slot → Shape → Bool → Option Passed
travel D left rule ss shape returning = travel_in rule.then D left rule.short ss shape returning

-- ---- apply

abbrev pub or_rest : Option Passed → Passed → Passed
or_rest (some p) rest = p
or_rest none rest = rest

-- a rule whose test came back, before the rules after it: one that found a float for an argument that may not use one is skipped; the value
-- that comes back of a variadic function is where it always is
abbrev pub tried : Search → Description → Left → Rule → Shape → Bool → Passed → Passed
tried nothing D left rule shape returning rest = rest
tried (found ss) D left rule shape returning rest =
    cond ((marked left && not returning) && ltb 0 (floats_in ss)) rest (or_rest (travel D left rule ss shape returning) rest)

-- the first rule whose test matches, with what it costs. Every list ends with a rule that decides (REFERENCE 5.6), so the empty list is never
-- come to
unfoldable pub apply : Description → Left → List Rule → Shape → List Piece → Bool → Passed
apply D left [] shape ps returning = passed memory left
apply D left (rule ∷ rules) shape ps returning =
    tried (matches D.banks rule.when shape ps) D left rule shape returning (apply D left rules shape ps returning)

-- ---- returns, argument, variadic_argument

abbrev pub returned_scalar : Description → Left → Scalar → Passed
returned_scalar D left s =
    cond (not (returns_by_reference D.scalars s.size)) (passed direct left)
    (cond (eqb s.kind integer && not (eqb D.scalars.wide_integer_returns_in integer))
    (passed (pieces (float_slot D.scalars.wide_integer_returns_in 0 ∷ [])) left)
    (passed reference (cond (is_first D.return_pointer) (less 1 left) left)))

-- how the return value comes back. It is asked before the arguments: its address may take the register of one of them
unfoldable pub returns : Description → Left → args.Arg → List Piece → Passed
returns D left args.TheVariants.Void ps = passed ignore left
returns D left (args.TheVariants.Scalar s) ps = returned_scalar D left s
returns D left (args.TheVariants.Aggregate shape) ps = apply D left D.returns shape ps true

-- how the next fixed argument travels
unfoldable pub argument : Description → Left → args.Arg → List Piece → Passed
argument D left args.TheVariants.Void ps = passed ignore left
argument D left (args.TheVariants.Scalar s) ps = scalar D left s
argument D left (args.TheVariants.Aggregate shape) ps = apply D left D.arguments shape ps false

-- after the dots, where such an argument always is in memory: classified as though no register were left, so that every rule which wants one
-- falls short, and none is spent, for the registers are the fixed arguments'
abbrev pub in_memory_always : Description → Left → args.Arg → List Piece → Passed
in_memory_always D left args.TheVariants.Void ps = passed ignore left
in_memory_always D left (args.TheVariants.Scalar s) ps = passed direct left
in_memory_always D left (args.TheVariants.Aggregate shape) ps =
    passed (apply D (leaves 0 0 left.integers_only) D.arguments shape ps false).pass left

-- after the dots, where such an argument is integers-only for itself alone: named ones keep their float registers
abbrev pub as_integers : Description → Left → args.Arg → List Piece → Passed
as_integers D left arg ps =
    let p : Passed = argument D (with_mark left) arg ps in
    passed p.pass (counts p.left.integer p.left.float)

-- not the Rust's: the same, and a value that is aligned to two words and no larger begins at an even register, with one fewer left where an odd number
-- is used. What is ignored costs nothing
abbrev pub is_aligned_pair : Description → args.Arg → Bool
is_aligned_pair D args.TheVariants.Void = false
is_aligned_pair D (args.TheVariants.Scalar s) = eqb s.align (2 * D.banks.integer_width) && leb s.size (2 * D.banks.integer_width)
is_aligned_pair D (args.TheVariants.Aggregate shape) = eqb shape.align (2 * D.banks.integer_width) && leb shape.size (2 * D.banks.integer_width)

abbrev pub from_even_start : Description → Left → args.Arg → Left
from_even_start D left arg = cond (is_aligned_pair D arg && eqb ((D.banks.integer - left.integer) % 2) 1) (less 1 left) left

abbrev pub as_integers_even : Description → Left → args.Arg → List Piece → Passed
as_integers_even D left arg ps =
    let p : Passed = as_integers D (from_even_start D left arg) arg ps in
    cond (is_ignore p.pass) (passed p.pass left) p

-- how the next argument after the dots travels. BothBanks says which registers a bridge has to write, and not in which form; under IntegersOnly
-- the mark of the call has said all
abbrev pub variadic_by : Variadic → Description → Left → args.Arg → List Piece → Passed
variadic_by SameAsFixed D left arg ps = argument D left arg ps
variadic_by BothBanks D left arg ps = argument D left arg ps
variadic_by IntegersOnly D left arg ps = argument D left arg ps
variadic_by UnnamedIntegers D left arg ps = as_integers D left arg ps
variadic_by UnnamedIntegersEven D left arg ps = as_integers_even D left arg ps
variadic_by AlwaysMemory D left arg ps = in_memory_always D left arg ps

unfoldable pub variadic_argument : Description → Left → args.Arg → List Piece → Passed
variadic_argument D left arg ps = variadic_by D.variadic D left arg ps

-- ---- in_memory: stack_align/specs/InMemory.antt
