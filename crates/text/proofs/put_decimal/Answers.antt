-- `put_decimal` writes one digit by itself, and more by `put_digits`.
use Rattle.text.proofs.Digits.{decimal_one_digit}
use Rattle.text.proofs.put_decimal.Goals as goal

pub returns-then-n-lt10 : goal.returns-then-n-lt10
returns-then-n-lt10 c = search (decimal_one_digit)
