-- `take_records` takes records as long as a line has room: what is left of the input is what the chunks have left.
use Rattle.std.proofs.Common.{◌≡◌, drop}
use Rattle.std.specs.Slice.Iter.{chunks_exact_rest, chunks_exact_size}
use Rattle.sheet_records.specs.Records.{record_size}
use Rattle.sheet.specs.Sheet.{between}
use Rattle.sheet.proofs.StepsLaws.{Left}
use Rattle.sheet.proofs.take_records.Given as goal

abbrev pub invariant-loop-record : goal.invariant-loop-record
invariant-loop-record l =
    Left (between l.fn.first l.initial.pieces l.initial.slots) l.input l.initial.out (between l.steps.next l.pieces l.slots) l.steps.used l.steps.at l.out
    × (chunks_exact_rest l.record-iterator ≡ drop l.steps.used l.input)
    × (chunks_exact_size l.record-iterator ≡ record_size)
