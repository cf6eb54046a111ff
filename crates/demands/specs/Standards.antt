-- What it means that an answer on description 1 is AAPCS64's: its slots, read back from the buffer's words, and the counts left are what the standard
-- gives an aggregate of these members, x and v registers by number, and the counts as NGRN and NSRN.
use Rattle.std.specs.Prelude.{ℕ, ◌≡◌, List}
use Rattle.std.proofs.Math.Option.Option.{some}
use Rattle.shape.specs.declared.Shape.{Shape}
use Rattle.shape.specs.Words.{pieces_of}
use Rattle.slots.specs.declared.Slot.{Slot}
use Rattle.abis.specs.Abis.{described}
use Rattle.spend.specs.Ways.{way_from}
use Rattle.classify.specs.declared.Call.{Call}
use Rattle.classify.specs.declared.Answer.{Answer}
use Rattle.aapcs64.specs.Aapcs64.{parameter, result}
use Rattle.aapcs64.specs.Reading.{state_of, reads, reads_result, composite}
use Rattle.aapcs64.proofs.Answered as row_1

abbrev pub SaysArgument : Call → Shape → List ℕ → ℕ → Answer → List ℕ → List ℕ → Type 0
SaysArgument c shape words natural a out after =
    row_1.Answers a out after
    (λ (slots : List Slot).
    reads c.left (way_from a.outcome.way) slots a.next.left ≡ some (parameter (state_of c.left) (composite natural shape (pieces_of words))))

abbrev pub SaysResult : Call → Shape → List ℕ → ℕ → Answer → List ℕ → List ℕ → Type 0
SaysResult c shape words natural a out after =
    row_1.Answers a out after
    (λ (slots : List Slot).
    reads_result (described 1).return_pointer (way_from a.outcome.way) slots a.next.left ≡ some (result (state_of c.left) (composite natural shape (pieces_of words))))
