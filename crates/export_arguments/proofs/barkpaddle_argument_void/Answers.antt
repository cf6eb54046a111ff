-- `barkpaddle_argument_void` hands on what the call answers where nothing travels.
use mathlib.Core.Path.{refl}
use mathlib.Core.Bool.{false}
use Rattle.classify.proofs.Operations.{by_void}
use Rattle.export_arguments.proofs.barkpaddle_argument_void.Goals as goal

pub returns : goal.returns
returns c = by_void false false _ _ _ _ _ refl cc
