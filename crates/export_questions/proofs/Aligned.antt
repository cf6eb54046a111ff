-- What a value is aligned to, in numbers.
use Prim.Native.Nat.{ℕ}
use mathlib.Core.Path.{◌≡◌}
use Rattle.std.specs.Prelude.{Result, Ok, Err}
use Rattle.shape.specs.declared.refusals.Refusal.{Refusal}
use Rattle.classify.specs.Answers.{InMemory, memory_told}
use Rattle.export_numbers.specs.declared.Told.{Told}
use Rattle.export_numbers.specs.Numbers.{told_of}
use Rattle.export_questions.specs.Answers.{align_told}

pub aligned : (a : Result ℕ Refusal) (m : InMemory) (r : Told) → memory_told a ≡ m → r ≡ told_of a → r ≡ align_told m
aligned (Ok n) m r e f = rw (← e) f
aligned (Err q) m r e f = rw (← e) f
