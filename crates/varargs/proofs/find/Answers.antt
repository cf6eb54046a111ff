-- `find`: the refusals in their order, and then the kind says where to look.
use mathlib.Core.Path.{◌∙◌}
use native.Mathlib.Omega.{arith}
use Rattle.std.proofs.lemmas.Result.{err_from_is_err_and}
use Rattle.varargs.proofs.Lists.{taken_small, integers_end, floats_end, refused_scalar, refused_area, stands_integer, stands_x87, stands_float}
use Rattle.varargs.proofs.find.Goals as goal

pub returns-in_err-check_unnamed : goal.returns-in_err-check_unnamed
returns-in_err-check_unnamed c =
    let p = err_from_is_err_and c.from_residual.result c.from_residual.ensures.1 in rw (p.1, p.2) (refused_scalar _ _ c.args.at c.args.s _ (c.in_err-check_unnamed.ensures))

pub returns-then-not-is_save_area : goal.returns-then-not-is_save_area
returns-then-not-is_save_area c = refused_area _ _ c.args.at c.args.s (c.in_ok-check_unnamed.ensures) (c.if-not-is_save_area.ensures)

pub rounded-requires : goal.rounded-requires
rounded-requires c = (taken_small c.args.s (c.in_ok-check_unnamed.ensures)).1

pub overflow_add-integer : goal.overflow_add-integer
overflow_add-integer c =
    record {
      fits = omega (arith, c.rounded.ensures, integers_end _ c.args.at (c.if-not-is_save_area.ensures) c.args.s.size (taken_small c.args.s (c.in_ok-check_unnamed.ensures)));
    }

pub overflow_add-float : goal.overflow_add-float
overflow_add-float c = record { fits = omega (arith, floats_end _ c.args.at (c.if-not-is_save_area.ensures)) }

pub in_bank-requires : goal.in_bank-requires
in_bank-requires c = taken_small c.args.s (c.in_ok-check_unnamed.ensures)

pub in_overflow-requires : goal.in_overflow-requires
in_overflow-requires c = taken_small c.args.s (c.in_ok-check_unnamed.ensures)

pub in_bank-requires-in_default : goal.in_bank-requires-in_default
in_bank-requires-in_default c = taken_small c.args.s (c.in_ok-check_unnamed.ensures)

pub returns-in-0 : goal.returns-in-0
returns-in-0 c =
    c.in_bank.ensures
    ∙ rw (c.rounded.ensures) (stands_integer _ _ c.args.at c.args.s (c.in_ok-check_unnamed.ensures) (c.if-not-is_save_area.ensures) c.in-0.is)

pub returns-in-3 : goal.returns-in-3
returns-in-3 c =
    c.in_overflow.ensures ∙ stands_x87 _ _ c.args.at c.args.s (c.in_ok-check_unnamed.ensures) (c.if-not-is_save_area.ensures) c.in-3.is

pub returns-in_default : goal.returns-in_default
returns-in_default c =
    c.in_bank-in_default.ensures ∙ stands_float _ _ c.args.at c.args.s (c.in_ok-check_unnamed.ensures) (c.if-not-is_save_area.ensures) (λ e. omega arith) (λ e. omega arith)
