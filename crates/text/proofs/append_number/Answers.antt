-- `append_number` puts a mark and the digits behind it.
use native.Mathlib.Omega.{arith}
use Rattle.text.proofs.Digits.{number_left_out, number_end_lem, number_written_lem}
use Rattle.text.proofs.append_number.Goals as goal

pub returns-then-out-lt-MOST_PART : goal.returns-then-out-lt-MOST_PART
returns-then-out-lt-MOST_PART c = number_left_out _ _ _ _ (omega arith)

pub returns-then-at-out : goal.returns-then-at-out
returns-then-at-out c = number_left_out _ _ _ _ (omega arith)

pub put_decimal-requires : goal.put_decimal-requires
put_decimal-requires c = omega arith

pub returns : goal.returns
returns c = (search (number_end_lem), search (number_written_lem))
