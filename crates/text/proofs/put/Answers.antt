-- `put` meets its contract: what fits is appended to nothing.
use borrow.Author.Rules.{rules}
use native.Mathlib.Omega.{arith}
use Rattle.text.proofs.Copy.{refused, put_answer_lem}
use Rattle.text.proofs.put.Goals as goal

pub returns-then-bytes-out : goal.returns-then-bytes-out
returns-then-bytes-out c = search (refused)

pub returns : goal.returns
returns c = (put_answer_lem _ _ _ (omega arith) (search rules), search rules)
