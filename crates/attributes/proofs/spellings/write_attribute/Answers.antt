-- `write_attribute` writes the name that there is.
use mathlib.Core.Path.{◌≡◌}
use borrow.Author.Rules.{rules}
use Rattle.std.specs.Prelude.{Ok, Err}
use Rattle.attributes.proofs.SpellingLaws.{spelled}
use Rattle.attributes.proofs.spellings.write_attribute.Goals as goal

pub returns-in_err-length : goal.returns-in_err-length
returns-in_err-length c =
    let r : c.from_residual.result ≡ Err c.in_err-length.field-0.0 = search rules in
    rw r (spelled _ c.in-Some.ensures c.args.out.now (Err c.in_err-length.field-0.0) c.in_err-length.ensures)

pub returns : goal.returns
returns c = spelled _ c.in-Some.ensures c.args.out.now (Ok c.in_ok-length.length) c.in_ok-length.ensures
