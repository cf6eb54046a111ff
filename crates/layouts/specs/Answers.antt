-- What `pieces` and `record` answer, with the refusal as its number beside what is answered where there is none.
use Rattle.std.specs.Prelude.{ℕ, false, Ok, Err, Result}
use Rattle.shape.specs.declared.Shape.{Shape}
use Rattle.shape.specs.declared.refusals.Refusal.{Refusal}
use Rattle.shape.specs.Numbers.{accepted}
use Rattle.shape.specs.Refusals.{number_of}

-- how many pieces were written, or the refusal
pub record Placed : Type 0 where
  pub refusal : ℕ
  pub count : ℕ

abbrev pub placed_told : Result ℕ Refusal → Placed
placed_told (Ok n) = record { refusal = accepted; count = n }
placed_told (Err r) = record { refusal = number_of r; count = 0 }

-- the shape, or the refusal with an empty one
pub record Recorded : Type 0 where
  pub refusal : ℕ
  pub shape : Shape

abbrev pub record_told : Result Shape Refusal → Recorded
record_told (Ok s) = record { refusal = accepted; shape = s }
record_told (Err r) = record { refusal = number_of r; shape = record { size = 0; align = 0; complex = false; floating = false } }
