-- `barkpaddle_return_void` hands on what the call answers where nothing travels.
use mathlib.Core.Path.{refl}
use mathlib.Core.Bool.{true, false}
use Rattle.classify.proofs.Operations.{by_void}
use Rattle.export_returns.proofs.barkpaddle_return_void.Goals as goal

pub returns : goal.returns
returns c = by_void true false _ _ _ _ _ refl cc
