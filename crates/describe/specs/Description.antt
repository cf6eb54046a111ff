-- What a description says (REFERENCE 5). Banks, scalar rules, rules and the enums are the code's own types; src/lib.rt says why there is
-- each of their fields and cases. What differs between conventions is data here, which of a few searches to ask, in which order and with
-- which limits; the searches themselves, eightbytes first of all, are code, since a table of them would be an interpreter.
use Rattle.std.specs.Prelude.{ℕ, ◌<◌, ◌-◌, ◌≡◌, List, length, get_or}
use Rattle.describe.specs.declared.Banks.{Banks}
use Rattle.describe.specs.declared.Scalars.{Scalars}
use Rattle.describe.specs.declared.Rule.{Rule}
use Rattle.describe.specs.declared.Test.{Test}
use Rattle.describe.specs.declared.Travel.{Travel}
use Rattle.describe.specs.declared.Short.{Short}
use Rattle.describe.specs.declared.Test.TheVariants.{Anything}
use Rattle.describe.specs.declared.Travel.TheVariants.{Ignore, AsFound}
use Rattle.describe.specs.declared.Short.TheVariants.{Unchanged, TryNextRule}
use Rattle.describe.specs.declared.ReturnPointer.{ReturnPointer}
use Rattle.describe.specs.declared.Variadic.{Variadic}
use Rattle.describe.specs.declared.StackArgs.{StackArgs}
use Rattle.describe.specs.declared.Narrow.{Narrow}
use Rattle.describe.specs.declared.BitInts.{BitInts}
use Rattle.describe.specs.declared.Cleanup.{Cleanup}
use Rattle.describe.specs.declared.Terms.{Terms}
use Rattle.describe.specs.declared.Others.{Others}

-- One calling convention, completely. The name is its bytes.
pub record Description : Type 0 where
  pub name : List ℕ
  pub banks : Banks
  pub scalars : Scalars
  -- two lists, since a value may come back where none is passed: on the x87's stack, in edx:eax where every argument is in memory
  pub returns : List Rule
  pub arguments : List Rule
  -- an address may be an argument more, so this decides about the registers of all others
  pub return_pointer : ReturnPointer
  pub variadic : Variadic
  pub stack_args : StackArgs
  -- what classification doesn't read: a description says the whole convention, so that a generator has one place to look
  pub narrow : Narrow
  pub bit_ints : BitInts
  pub cleanup : Cleanup

-- What classification reads of it beside the rules, and what it doesn't, as the code's own records have them.
abbrev pub terms_of : Description → Terms
terms_of D =
    record {
      banks = D.banks;
      scalars = D.scalars;
      return_pointer = D.return_pointer;
      variadic = D.variadic;
      stack_args = D.stack_args;
    }

abbrev pub others_of : Description → Others
others_of D =
    record {
      narrow = D.narrow;
      bit_ints = D.bit_ints;
      cleanup = D.cleanup;
    }

-- A rule whose shortage has its own answer, and one that can't run short.
abbrev pub rule_short : Test → Travel → Short → Rule
rule_short when then short = record { when = when; then = then; short = short }

abbrev pub rule : Test → Travel → Rule
rule when then = rule_short when then Unchanged

-- What stands past the end of a list of rules. Nothing comes to it: every list ends before (Ends, below).
abbrev pub past : Rule
past = rule Anything Ignore

-- A rule that leaves nothing to the rules after it (REFERENCE 5.6): it matches anything, travels in a way that needs no slots
-- that a test found, and where it falls short doesn't pass on to the next rule. The Rust would panic past such a rule, and has a test
-- against it; here it is a law of all thirty (abis/proofs/Lists.antt).
pub record Decides (r : Rule) : Type 0 where
  pub anything : r.when ≡ Anything
  pub unsought : r.then ≡ AsFound → ⊥
  pub stays : r.short ≡ TryNextRule → ⊥

-- A list of rules that ends so.
pub record Ends (rules : List Rule) : Type 0 where
  pub some : 0 < length rules
  pub last : Decides (get_or rules (length rules - 1) past)
