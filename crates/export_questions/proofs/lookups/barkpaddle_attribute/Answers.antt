-- `barkpaddle_attribute` hands on what `attribute` answers and writes.
use mathlib.Core.Path.{◌≡◌}
use Rattle.std.specs.Prelude.{Ok, Some, None}
use Rattle.export_questions.proofs.Looked.{looked}
use Rattle.export_questions.proofs.lookups.barkpaddle_attribute.Goals as goal

pub returns-in-Ok-Some : goal.returns-in-Ok-Some
returns-in-Ok-Some c =
    let e : c.attribute.result ≡ Ok (Some c.in-Ok-Some.length) = cc in
    let p = c.attribute.ensures in
    (looked _ _ _ _ _ p.0 e c.from.ensures, p.1)

pub returns-in-Ok-None : goal.returns-in-Ok-None
returns-in-Ok-None c =
    let e : c.attribute.result ≡ Ok None = cc in
    let p = c.attribute.ensures in
    (looked _ _ _ _ _ p.0 e c.from-in-Ok-None.ensures, p.1)

pub returns-in-Err : goal.returns-in-Err
returns-in-Err c =
    let p = c.attribute.ensures in
    (looked _ _ _ _ _ p.0 c.in-Err.is c.from-in-Err.ensures, p.1)
