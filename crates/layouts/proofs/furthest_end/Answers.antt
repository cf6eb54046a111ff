use mathlib.Core.Path.{◌∙◌}
use Prim.Native.Nat.{max}
use Rattle.std.proofs.Common.{rules, tests}
use Rattle.std.proofs.lemmas.Iterator.Consumers.{fold_from_yields_List, YieldsList-from_first}
use Rattle.shape.specs.Words.{pieces_of, pieces_left}
use Rattle.shape.specs.Questions.{end_of}
use Rattle.layouts.proofs.Making.{max_fold}
use Rattle.layouts.proofs.furthest_end.Goals as goal

pub returns : goal.returns
returns c =
    fold_from_yields_List {all = pieces_of c.args.words.now} _ (λ b p. max b (end_of p)) 0 _ c.fold.ensures.ran
    (YieldsList-from_first (λ x. x) pieces_left _ (cc)) (λ a x b q k. search (rules, tests))
    ∙ max_fold end_of _
