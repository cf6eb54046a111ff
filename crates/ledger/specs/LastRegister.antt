-- On RISC-V's own descriptions nothing is on the stack while an integer register is left (REFERENCE 10): they pass over one for an even start and
-- nothing else, and split what finds too few. So what is partly in registers stands at 0. `past` are the answers to operations from the call c on.
use Rattle.std.specs.Prelude.{ℕ, ◌<◌, ◌≡◌, List}
use Rattle.std.proofs.Math.Option.Option.{some}
use Rattle.std.proofs.Math.ListN.{get_elem?}
use Rattle.classify.specs.declared.Call.{Call}
use Rattle.classify.specs.declared.Answer.{Answer}
use Rattle.ledger.specs.Ledger.{call_after, integers, left_in, given, range_of}

pub record LastRegister (c : Call) (past : List Answer) : Type 0 where
  -- the offset is 0 while one is left
  pub none_behind : 0 < (call_after c past).stack → left_in integers (call_after c past) ≡ 0
  -- an operation that has bytes there leaves none
  pub leaves_none : (k : ℕ) (a : Answer) → get_elem? past k ≡ some a → 0 < (range_of a).bytes → left_in integers a.next ≡ 0
  -- and if it was given one, its bytes begin at 0
  pub split_at_zero : (k : ℕ) (a : Answer) → get_elem? past k ≡ some a → 0 < (range_of a).bytes → 0 < given integers a → (range_of a).at ≡ 0
