-- Where a value stands, whatever it is: behind the offset, at its rounding, and what goes there is there whole.
use Prim.Native.Nat.{ℕ, ◌<◌}
use mathlib.Core.Bool.{Bool}
use mathlib.Core.List.{List}
use native.Mathlib.Omega.{arith}
use Rattle.shape.specs.declared.Arg as args
use Rattle.shape.specs.declared.Piece.{Piece}
use Rattle.describe.specs.declared.Dots.{Dots}
use Rattle.describe.specs.declared.Rule.{Rule}
use Rattle.describe.specs.declared.Terms.{Terms}
use Rattle.spend.specs.declared.Spent.{Spent}
use Rattle.spend.specs.declared.Way.{Way}
use Rattle.stack_place.specs.Stacked.{length_of}
use Rattle.stack_place.proofs.Standing.{Stands, behind_stands, rounding_some}
use Rattle.classify.specs.Stacking.{area_of, bytes_for, rounding_for, stacked_of}

module _ (T : Terms) (rules : List Rule) (returning : Bool) (dots : Dots) where
  some_rounding : (arg : args.Arg) (ps : List Piece) (way : Way) → 0 < rounding_for T rules returning dots arg ps way
  some_rounding args.TheVariants.Void ps way = omega arith
  some_rounding (args.TheVariants.Scalar s) ps way = rounding_some (area_of T dots) _
  some_rounding (args.TheVariants.Aggregate shape) ps way = rounding_some (area_of T dots) _

  pub stacked_stands : (stack : ℕ) (arg : args.Arg) (ps : List Piece) (way : Way) (spent : Spent) (slots : ℕ)
      → Stands stack (length_of (area_of T dots) (bytes_for T returning arg way spent slots)) (rounding_for T rules returning dots arg ps way)
      (stacked_of T rules returning dots stack arg ps way spent slots)
  unfolding stacked_of
  stacked_stands stack arg ps way spent slots = behind_stands stack _ _ (some_rounding arg ps way)
