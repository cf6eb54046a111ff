-- Where a value of a call stands on the stack (REFERENCE 9.9): the lines of stack_place/specs/Stacked.antt, by what is asked about. What comes back
-- has its address there at most; of an aggregate argument `in_memory` says the alignment.
use Rattle.std.specs.Prelude.{ℕ, Bool, cond, List}
use Rattle.shape.specs.declared.Arg as args
use Rattle.shape.specs.declared.Piece.{Piece}
use Rattle.describe.specs.declared.Dots.{Dots}
use Rattle.describe.specs.declared.Rule.{Rule}
use Rattle.describe.specs.declared.Terms.{Terms}
use Rattle.spend.specs.declared.Spent.{Spent}
use Rattle.spend.specs.declared.Way.{Way}
use Rattle.stack_align.specs.InMemory.{in_memory_by}
use Rattle.stack_place.specs.declared.Area.{Area}
use Rattle.stack_place.specs.Stacked.{Placed}
use Rattle.stack_place.specs.Stacked.{return_bytes, scalar_bytes, aggregate_bytes, scalar_rounding, aggregate_rounding, rounding_of, length_of, behind}

-- what placing reads of a description. No row's number is asked: a packed area is a field's, and banks that are emptied after the dots are the
-- variadic kind's
abbrev pub area_of : Terms → Dots → Area
area_of T dots = record { width = T.banks.integer_width; arguments = T.stack_args; dots = dots.emptied }

-- how many bytes of a value go there, and what their offset is rounded to, in the lines of the table: what comes back, a scalar argument, an
-- aggregate argument; `rules` are those for arguments where the value is one
abbrev pub bytes_for : Terms → Bool → args.Arg → Way → Spent → ℕ → ℕ
bytes_for T returning args.TheVariants.Void way spent slots = 0
bytes_for T returning (args.TheVariants.Scalar s) way spent slots =
    cond returning (return_bytes way T.return_pointer spent T.banks.integer_width) (scalar_bytes way spent s.size T.banks.integer_width)
bytes_for T returning (args.TheVariants.Aggregate shape) way spent slots =
    cond returning (return_bytes way T.return_pointer spent T.banks.integer_width)
    (aggregate_bytes way spent slots shape.size T.banks.integer_width)

abbrev pub rounding_for : Terms → List Rule → Bool → Dots → args.Arg → List Piece → Way → ℕ
rounding_for T rules returning dots args.TheVariants.Void ps way = 1
rounding_for T rules returning dots (args.TheVariants.Scalar s) ps way =
    rounding_of (area_of T dots) (cond returning T.banks.integer_width (scalar_rounding way (area_of T dots) s))
rounding_for T rules returning dots (args.TheVariants.Aggregate shape) ps way =
    rounding_of (area_of T dots) (cond returning T.banks.integer_width (aggregate_rounding way (area_of T dots) (in_memory_by T rules shape ps)))

-- a value on a call whose next offset is `stack`, which travels this way, passes over and is given this, and has so many slots
unfoldable pub stacked_of : Terms → List Rule → Bool → Dots → ℕ → args.Arg → List Piece → Way → Spent → ℕ → Placed
stacked_of T rules returning dots stack arg ps way spent slots =
    behind stack (length_of (area_of T dots) (bytes_for T returning arg way spent slots)) (rounding_for T rules returning dots arg ps way)
