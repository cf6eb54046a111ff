-- `row` reads the table inside it: antt computes that the table is the code of every description. Past it the zeros are the code of none.
use mathlib.Core.Path.{refl}
use borrow.Author.Rules.{rules}
use Rattle.rows.specs.Row.{encode}
use Rattle.abis.specs.Abis.{described, descriptions}
use Rattle.abis.proofs.Rows.{indexed, past_last}
use Rattle.abis.proofs.row.Goals as goal

pub returns-then-d-lt-DESCRIPTIONS : goal.returns-then-d-lt-DESCRIPTIONS
unfolding described descriptions
returns-then-d-lt-DESCRIPTIONS c = indexed encode _ _ refl c.args.d (search rules)

pub returns-else-d-lt-DESCRIPTIONS : goal.returns-else-d-lt-DESCRIPTIONS
unfolding described descriptions
returns-else-d-lt-DESCRIPTIONS c = past_last c.args.d (search rules)
