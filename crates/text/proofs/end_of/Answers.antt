-- `end_of` answers where the next dot stands.
use mathlib.Core.Path.{◌∙◌}
use native.Mathlib.Omega.{arith}
use Rattle.std.proofs.lemmas.Slice.{between_to_end}
use Rattle.text.proofs.Dots.{end_nowhere, end_found}
use Rattle.text.proofs.end_of.Goals as goal

pub returns-in_default : goal.returns-in_default
returns-in_default c = end_nowhere _ _ (grind arith)

pub returns : goal.returns
returns c =
    let behind = c.in-Some.ensures.lookup.0.2 ∙ between_to_end c.args.texts.now c.args.start _ (omega arith) in
    end_found _ _ _ _ behind (rw c.first_dot.ensures at c.unwrap_or.ensures)
