-- One shape on one call, with both answers, each computed by antt: what Needed.antt and Examples.antt are tables of.
use Prim.Native.Nat.{ℕ, ◌-◌}
use mathlib.Core.Path.{◌≡◌}
use mathlib.Core.List.{List}
use mathlib.Core.Bool.{true, false, ◌&&◌}
use mathlib.Core.Option.Option.{some}
use lib.Dec.{leb}
use Rattle.shape.specs.declared.Arg.TheVariants.{Aggregate}
use Rattle.shape.specs.declared.Piece.{Piece}
use Rattle.shape.specs.declared.Shape.{Shape}
use Rattle.abis.specs.Abis.{described}
use Rattle.classify.specs.Classify.{Passed, counts, argument, returns}
use Rattle.aapcs64.specs.Aapcs64.{state, Passing, parameter, Returning, result}
use Rattle.aapcs64.specs.Reading.{composite, most_natural, reads_passed, reads_returned}

abbrev pub shaped : ℕ → ℕ → Shape
shaped size align = record { size = size; align = align; complex = false; floating = false }

-- a shape, its pieces and its natural alignment, and how many integer and float registers the call has left
pub record Case : Type 0 where
  pub shape : Shape
  pub pieces : List Piece
  pub natural : ℕ
  pub integers : ℕ
  pub floats : ℕ

abbrev pub on : Shape → List Piece → ℕ → ℕ → ℕ → Case
on shape ps natural I F = record { shape = shape; pieces = ps; natural = natural; integers = I; floats = F }

module _ (k : Case) where
  abbrev pub row_argument : Passed
  row_argument = argument (described 1) (counts k.integers k.floats) (Aggregate k.shape) k.pieces

  abbrev pub row_result : Passed
  row_result = returns (described 1) (counts k.integers k.floats) (Aggregate k.shape) k.pieces

  abbrev pub standard_argument : Passing
  standard_argument = parameter (state (8 - k.integers) (8 - k.floats)) (composite k.natural k.shape k.pieces)

  abbrev pub standard_result : Returning
  standard_result = result (state (8 - k.integers) (8 - k.floats)) (composite k.natural k.shape k.pieces)

  -- what `argument_is_aapcs64` and `returns_is_aapcs64` say of it, and what they ask beside the domain
  abbrev pub Same : Type 0
  Same = reads_passed (counts k.integers k.floats) row_argument ≡ some standard_argument

  abbrev pub SameResult : Type 0
  SameResult = reads_returned (described 1).return_pointer row_result ≡ some standard_result

  abbrev pub Allowed : Type 0
  Allowed = leb k.natural (most_natural k.shape k.pieces) && leb k.integers 8 && leb k.floats 8 ≡ true
