-- What the entries that ask answer, as numbers (REFERENCE 13.2 to 13.6).
use Rattle.std.specs.Prelude.{ℕ}
use Rattle.shape.specs.Numbers.{one_if}
use Rattle.text.specs.Text.{Written}
use Rattle.layouts.specs.Answers.{Placed, Recorded}
use Rattle.abis.specs.Answers.{Asked, AskedFormat}
use Rattle.classify.specs.Answers.{InMemory}
use Rattle.export_numbers.specs.declared.Told.{Told}
use Rattle.export_numbers.specs.Numbers.{told}
use Rattle.export_questions.specs.declared.members.RecordNumbers.{RecordNumbers}

abbrev pub align_told : InMemory → Told
align_told a = told a.refusal a.align

abbrev pub count_told : Placed → Told
count_told a = told a.refusal a.count

abbrev pub length_told : Written → Told
length_told a = told a.refusal a.length

abbrev pub yes_told : Asked → Told
yes_told a = told a.refusal (one_if a.answer)

abbrev pub format_told : AskedFormat → Told
format_told a = told a.refusal a.format

abbrev pub record_numbers : Recorded → RecordNumbers
record_numbers a =
    record {
      refusal = a.refusal;
      size = a.shape.size;
      align = a.shape.align;
      complex = one_if a.shape.complex;
      floating = one_if a.shape.floating;
    }

-- the version of include/barkpaddle.h
abbrev pub header_version : ℕ
header_version = 7
