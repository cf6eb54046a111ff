-- What the four forms over a lent call promise, as claims: each contract is the fact of its claim, at every model of the logic and by computation,
-- so a loosened promise fails here. (The checker makes such claims itself, too, in each function's Reads; these are said once for the three operations.)
use mathlib.Core.Path.{◌≡◌, refl}
use mathlib.Core.List.{List}
use Prim.Native.Nat.{ℕ}
use seplogic.Ra.Ura.{Ura}
use base.Logic.{SProp}
use prog.Memory.{Memory}
use prog.Routine.{Routine}
use types.Logic.{Logic}
use contract.Monad.{Fun, fact}
use contract.Lifetimes.{Lfts}
use denote.Triple.Clauses.{AtExit}
use borrow.Fn.World.{ArgsD}
use Rattle.shape.specs.declared.Arg.{Arg}
use Rattle.classify.specs.declared.Call.{Call}
use Rattle.classify.specs.declared.Answer.{Answer}
use Rattle.classify.specs.declared.Outcome.{Outcome}
use Rattle.classify.specs.Answers.{variadic_answer, returns_answer, returns_written, argument_answer, argument_written, variadic_argument_answer, variadic_argument_written}
use Rattle.bridge.specs.Lent.{arg_of, Lends}
use Rattle.bridge.specs.contracts.barkpaddle_bridge_variadic as variadic
use Rattle.bridge.specs.contracts.barkpaddle_bridge_returns as returns
use Rattle.bridge.specs.contracts.barkpaddle_bridge_argument as argument
use Rattle.bridge.specs.contracts.barkpaddle_bridge_variadic_argument as dots

-- of the mark: the outcome, and the call that stands behind the reference at exit
abbrev pub Marks : (κs : Lfts 1) → ArgsD variadic.signature κs → Outcome → AtExit variadic.ended κs → Type 0
Marks κs a r e = (r ≡ (variadic_answer a.0.now).outcome) × (e.0.now ≡ (variadic_answer a.0.now).next)

-- of an operation on a value, by its two definitions: the outcome, the call at exit, and the words in the slot buffer at exit
abbrev Promise : Type 1
Promise = (κs : Lfts 3) → ArgsD argument.signature κs → Outcome → AtExit argument.ended κs → Type 0

abbrev pub Asks : (Call → Arg → List ℕ → List ℕ → Answer) → (Call → Arg → List ℕ → List ℕ → List ℕ) → Promise
Asks answer written κs a r e =
    Lends (answer a.0.now (arg_of a.1.0) a.1.1.0.now a.1.1.1.0.now)
    (written a.0.now (arg_of a.1.0) a.1.1.0.now a.1.1.1.0.now) r e.0.now e.1.1.1.0.now

abbrev pub Returns : Promise
Returns = Asks returns_answer returns_written

abbrev pub Passes : Promise
Passes = Asks argument_answer argument_written

abbrev pub PassesVariadic : Promise
PassesVariadic = Asks variadic_argument_answer variadic_argument_written

module _ {M : Type 1} {𝓤 : Ura M} (𝓛 : Logic 𝓤) (mem : Memory → SProp 𝓤) (run : Routine → Fun 𝓤) where
  pub variadic_promises : (κs : Lfts 1) (a : ArgsD variadic.signature κs) (r : Outcome) (e : AtExit variadic.ended κs)
      → (variadic.clauses 𝓛 mem run κs a).ensures tt r e ≡ fact 𝓤 (Marks κs a r e)
  variadic_promises κs a r e = refl

  pub returns_promises : (κs : Lfts 3) (a : ArgsD returns.signature κs) (r : Outcome) (e : AtExit returns.ended κs)
      → (returns.clauses 𝓛 mem run κs a).ensures tt r e ≡ fact 𝓤 (Returns κs a r e)
  returns_promises κs a r e = refl

  pub argument_promises : (κs : Lfts 3) (a : ArgsD argument.signature κs) (r : Outcome) (e : AtExit argument.ended κs)
      → (argument.clauses 𝓛 mem run κs a).ensures tt r e ≡ fact 𝓤 (Passes κs a r e)
  argument_promises κs a r e = refl

  pub variadic_argument_promises : (κs : Lfts 3) (a : ArgsD dots.signature κs) (r : Outcome) (e : AtExit dots.ended κs)
      → (dots.clauses 𝓛 mem run κs a).ensures tt r e ≡ fact 𝓤 (PassesVariadic κs a r e)
  variadic_argument_promises κs a r e = refl
