-- `read`: what `find` locates lies in the areas, which `part` asks for.
use mathlib.Core.Path.{sym}
use mathlib.Core.List.{[]}
use lib.ListN.{length}
use Rattle.std.proofs.lemmas.Result.{err_from_is_err_and}
use Rattle.varargs.proofs.Lists.{located_inside, inside_so, nowhere_part, shown_so}
use Rattle.varargs.specs.Lists.{placed}
use Rattle.varargs.proofs.read.Goals as goal

pub returns-in_err-found : goal.returns-in_err-found
returns-in_err-found c =
    let p = err_from_is_err_and c.from_residual.result c.from_residual.ensures.1 in
    rw (p.1, p.2) (shown_so c.args.save.now c.args.overflow.now _ _ [] c.in_err-found.ensures (sym (nowhere_part c.args.save.now c.args.overflow.now _ c.args.at)))

pub part-part-requires : goal.part-part-requires
part-part-requires c =
    inside_so _ _ c.in_ok-found.ensures (located_inside (length c.args.save.now) (length c.args.overflow.now) c.args.at c.args.s)

pub returns : goal.returns
returns c = shown_so c.args.save.now c.args.overflow.now _ (placed c.in_ok-found.found) c.part-part.result.now c.in_ok-found.ensures c.part-part.ensures
