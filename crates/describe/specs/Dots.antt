-- What a variadic kind comes to (REFERENCE 9.5): whether a call to a variadic function is marked, whether an argument after the dots finds its
-- banks emptied and spends nothing, whether it goes in integer registers alone, and whether a pair of words begins at an even one.
use Rattle.std.specs.Prelude.{Bool, true, false}
use Rattle.describe.specs.declared.Dots.{Dots}
use Rattle.describe.specs.declared.Variadic.{Variadic}
use Rattle.describe.specs.declared.Variadic.TheVariants.{SameAsFixed, AlwaysMemory, BothBanks, IntegersOnly, UnnamedIntegers, UnnamedIntegersEven}

abbrev pub dots : Bool → Bool → Bool → Bool → Dots
dots mark emptied integers_only starts_even = record { mark = mark; emptied = emptied; integers_only = integers_only; starts_even = starts_even }

-- a fixed argument and a return
abbrev pub as_fixed : Dots
as_fixed = dots false false false false

abbrev pub dots_of : Variadic → Dots
dots_of SameAsFixed = as_fixed
-- emptied: with no register left every rule falls short, and that is what "always in memory" means
dots_of AlwaysMemory = dots false true false false
-- which registers are written, and not the form of the value
dots_of BothBanks = as_fixed
-- a mark of the whole call, for the callee walks named arguments with the same pointer
dots_of IntegersOnly = dots true false false false
-- of the argument alone, for named ones keep their float registers
dots_of UnnamedIntegers = dots false false true false
-- a pair of words begins at an even register, so that it is aligned where the callee stores its registers
dots_of UnnamedIntegersEven = dots false false true true
