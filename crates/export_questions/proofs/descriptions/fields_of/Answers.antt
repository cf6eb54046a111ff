-- `fields_of` says each field of a description by its number.
use mathlib.Core.Path.{◌≡◌}
use Rattle.describe.specs.Description.{others_of}
use Rattle.abis.specs.Abis.{described}
use Rattle.abis.proofs.Rows.{row_others}
use Rattle.export_questions.proofs.Described.{flag_number}
use Rattle.export_questions.proofs.descriptions.fields_of.Goals as goal

pub returns : goal.returns
returns c =
    let others : c.others_of-narrow.result ≡ others_of (described c.args.abi) = rw (c.others_of-narrow.ensures, c.row.ensures) (row_others c.args.abi) in
    simp
    (c.read.ensures, others, flag_number, c.from.ensures, c.from-2.ensures, c.from-3.ensures, c.from-4.ensures, c.from-5.ensures, c.from-6.ensures, c.from-7.ensures, c.from-8.ensures, c.from-9.ensures, c.return_pointer_number.ensures, c.variadic_number.ensures, c.stack_args_number.ensures, c.narrow_number.ensures, c.bit_ints_number.ensures, c.cleanup_number.ensures)
