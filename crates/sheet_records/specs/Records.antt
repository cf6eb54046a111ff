-- Bytes to records (REFERENCE 11): a record is 48 bytes, six little-endian words.
use Rattle.std.specs.Prelude.{ℕ, List}
use Rattle.words.specs.Packed.{word_at}
use Rattle.sheet_records.specs.declared.records.Record.{Record}

-- bytes of a record
abbrev pub record_size : ℕ
record_size = 48

unfoldable pub record_of : List ℕ → Record
record_of bs =
    record {
      first = word_at bs 0;
      second = word_at bs 8;
      third = word_at bs 16;
      fourth = word_at bs 24;
      fifth = word_at bs 32;
      sixth = word_at bs 40;
    }
