-- What `read` promises, as a claim: its contract is the fact of the claim, at every model of the logic and by computation, so a loosened promise
-- fails here. (The checker makes such claims itself, too, in each function's Reads; this one says what the reading shows.)
use mathlib.Core.Path.{◌≡◌, refl}
use seplogic.Ra.Ura.{Ura}
use base.Logic.{SProp}
use prog.Memory.{Memory}
use prog.Routine.{Routine}
use types.Logic.{Logic}
use contract.Monad.{Fun, fact}
use contract.Lifetimes.{Lfts}
use denote.Triple.Clauses.{AtExit}
use borrow.Fn.World.{ArgsD}
use Rattle.std.specs.Prelude.{Result}
use Rattle.shape.specs.declared.refusals.Refusal.{Refusal}
use Rattle.varargs.specs.declared.Reading.{Reading}
use Rattle.varargs.specs.Lists.{shown, reads_as}
use Rattle.varargs.specs.contracts.read as read

abbrev pub Reads : (κs : Lfts 1) → ArgsD read.signature κs → Result Reading Refusal → AtExit read.ended κs → Type 0
Reads κs a r e = shown r a.1.1.0 ≡ reads_as a.0.now a.1.0.now a.1.1.0 a.1.1.1.0

module _ {M : Type 1} {𝓤 : Ura M} (𝓛 : Logic 𝓤) (mem : Memory → SProp 𝓤) (run : Routine → Fun 𝓤) where
  pub read_promises : (κs : Lfts 1) (a : ArgsD read.signature κs) (r : Result Reading Refusal) (e : AtExit read.ended κs)
      → (read.clauses 𝓛 mem run κs a).ensures tt r e ≡ fact 𝓤 (Reads κs a r e)
  read_promises κs a r e = refl
