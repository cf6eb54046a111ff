use native.Mathlib.Omega.{arith}
use Rattle.text.proofs.Digits.{digits_none, digits_last, digits_further}
use Rattle.text.proofs.+put_digits.Goals as goal

pub returns-then-digits-eq0 : goal.returns-then-digits-eq0
returns-then-digits-eq0 t c = (search (digits_none), omega arith)

pub returns-then-n-lt10 : goal.returns-then-n-lt10
returns-then-n-lt10 t c = (search (digits_last), omega arith)

pub returns : goal.returns
returns t c = (search (digits_further), omega arith)
