-- `put_digits` writes the digits before the last by a call of itself. The measure is how many digits there may be.
use Rattle.text.proofs.+put_digits.Given as goal

abbrev pub decreases-put_digits : goal.decreases-put_digits
decreases-put_digits l = l.digits
