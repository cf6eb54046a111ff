-- `four_at` reads four words by their number.
use mathlib.Core.List.{[]}
use native.Mathlib.Omega.{arith}
use Rattle.types.proofs.Reading.{four_there, no_four}
use Rattle.types.proofs.four_at.Goals as goal

pub returns-in-Some : goal.returns-in-Some
returns-in-Some c =
    let here = c.in-Some.ensures.lookup.3 in
    four_there _ _ (omega arith) _ (rw c.as_chunks.ensures.front at (here.1 []))

pub returns-in-None : goal.returns-in-None
returns-in-None c = let none = c.in-None.ensures.lookup.3 in no_four _ _ (omega arith)
