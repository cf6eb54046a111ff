-- `barkpaddle_variadic_argument_void` hands on what the call answers where nothing travels.
use mathlib.Core.Path.{refl}
use mathlib.Core.Bool.{true, false}
use Rattle.classify.proofs.Operations.{by_void}
use Rattle.export_variadic.proofs.barkpaddle_variadic_argument_void.Goals as goal

pub returns : goal.returns
returns c = by_void false true _ _ _ _ _ refl cc
