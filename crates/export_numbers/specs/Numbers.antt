-- Calls, shapes and what is asked about, from the numbers that C and Rust hand in (REFERENCE 13).
use Rattle.std.specs.Prelude.{ℕ, Bool, not, eqb, Ok, Err, Result}
use Rattle.shape.specs.Numbers.{accepted}
use Rattle.shape.specs.declared.refusals.Refusal.{Refusal}
use Rattle.shape.specs.Refusals.{number_of}
use Rattle.shape.specs.declared.Arg as args
use Rattle.shape.specs.declared.Shape.{Shape}
use Rattle.classify.specs.declared.Call.{Call}
use Rattle.classify.specs.Classify.{leaves}
use Rattle.classify.specs.Answers.{call_with}
use Rattle.export_numbers.specs.declared.Told.{Told}

-- ---- in

-- yes is any number but 0
abbrev pub is_set : ℕ → Bool
is_set n = not (eqb n 0)

abbrev pub call_from : ℕ → ℕ → ℕ → ℕ → ℕ → Call
call_from abi integer float mark stack = call_with abi (leaves integer float mark) stack

abbrev pub shape_from : ℕ → ℕ → ℕ → ℕ → Shape
shape_from size align complex floating =
    record { size = size; align = align; complex = is_set complex; floating = is_set floating }

abbrev pub void_arg : args.Arg
void_arg = args.TheVariants.Void

abbrev pub scalar_from : ℕ → ℕ → ℕ → args.Arg
scalar_from kind size align = args.TheVariants.Scalar (record { kind = kind; size = size; align = align })

abbrev pub aggregate_from : ℕ → ℕ → ℕ → ℕ → args.Arg
aggregate_from size align complex floating = args.TheVariants.Aggregate (shape_from size align complex floating)

-- ---- out

abbrev pub told : ℕ → ℕ → Told
told refusal value = record { refusal = refusal; value = value }

-- an answer's number, or the number of its refusal beside 0
abbrev pub told_of : Result ℕ Refusal → Told
told_of (Ok value) = told accepted value
told_of (Err r) = told (number_of r) 0
