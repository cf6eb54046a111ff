-- On RISC-V's own descriptions a register is passed over for an even start and for nothing else (REFERENCE 10): the next one, of which it is said here in
-- whose part it is. `past` are the answers to the operations `ops` from the call c on.
use Rattle.std.specs.Prelude.{ℕ, ◌+◌, ◌-◌, ◌%◌, ◌≡◌, List, Bool, true, false, ◌&&◌, not, cond, eqb, take}
use Rattle.std.proofs.Math.Option.Option.{some}
use Rattle.std.proofs.Math.ListN.{get_elem?}
use Rattle.describe.specs.Description.{Description}
use Rattle.spend.specs.declared.Way.TheVariants.{Ignore}
use Rattle.spend.specs.Ways.{way_number}
use Rattle.classify.specs.declared.Call.{Call}
use Rattle.classify.specs.declared.Answer.{Answer}
use Rattle.classify.specs.Classify.{is_aligned_pair}
use Rattle.ledger.specs.Ledger.{Operation, mark, return, argument, variadic_argument, integers, floats, start_of, left_in, passed_over, call_after, run_at, InPassedOver}

-- an argument after the dots that is aligned to two words and no larger
abbrev pub wants_even : Description → Operation → Bool
wants_even D mark = false
wants_even D (return arg words out) = false
wants_even D (argument arg words out) = false
wants_even D (variadic_argument arg words out) = is_aligned_pair D arg

-- a value that is refused or ignored doesn't travel
abbrev pub travels : Answer → Bool
travels a = not (eqb a.outcome.way (way_number Ignore))

-- how many integer registers are used before an operation, which is the number of the next one
abbrev pub used : Description → Call → ℕ
used D c = start_of integers D.banks - left_in integers c

-- how many it passes over: one where it travels, wants an even start and an odd number is used
abbrev pub even_start : Description → Operation → Call → Answer → ℕ
even_start D op c a = cond (travels a && (wants_even D op && eqb (used D c % 2) 1)) 1 0

pub record EvenStart (D : Description) (c : Call) (ops : List Operation) (past : List Answer) : Type 0 where
  -- an operation passes over so many integer registers, and no float register
  pub passes : (k : ℕ) (op : Operation) → get_elem? ops k ≡ some op → (a : Answer) → get_elem? past k ≡ some a
      → passed_over integers a ≡ even_start D op (call_after c (take k past)) a
  pub passes_no_float : (k : ℕ) (op : Operation) → get_elem? ops k ≡ some op → (a : Answer) → get_elem? past k ≡ some a → passed_over floats a ≡ 0
  -- the register of an even start is the next one, and it is in the operation's part passed over
  pub in_part : (k : ℕ) (op : Operation) → get_elem? ops k ≡ some op → (a : Answer) → get_elem? past k ≡ some a
      → even_start D op (call_after c (take k past)) a ≡ 1 → InPassedOver (run_at integers D.banks c past k) (used D (call_after c (take k past)))
  -- what such an operation is given begins at an even one
  pub begins_even : (k : ℕ) (op : Operation) → get_elem? ops k ≡ some op → (a : Answer) → get_elem? past k ≡ some a → travels a ≡ true → wants_even D op ≡ true
      → ((run_at integers D.banks c past k).first + (run_at integers D.banks c past k).passes) % 2 ≡ 0
