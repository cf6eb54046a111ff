-- A whole call of aggregates: the result first, then the arguments in order, each with the registers that those before it left free. By the psABI,
-- and by row 0.
use Rattle.std.specs.Prelude.{List, [], ◌∷◌}
use Rattle.std.proofs.Math.Option.{Option}
use Rattle.shape.specs.declared.Arg.TheVariants.{Aggregate}
use Rattle.shape.specs.declared.Piece.{Piece}
use Rattle.shape.specs.declared.Shape.{Shape}
use Rattle.abis.specs.Abis.{described}
use Rattle.spend.specs.declared.Left.{Left}
use Rattle.classify.specs.Classify.{Passed, call, argument, returns}
use Rattle.psabi.specs.Psabi.{Free, free, argument_generals, argument_vectors, Travels, in_registers, on_stack, by_address, psabi_argument, psabi_result}
use Rattle.psabi.specs.Domain.{Domain}
use Rattle.psabi.specs.Reading.{read_argument, read_result}

pub record Value : Type 0 where
  pub shape : Shape
  pub pieces : List Piece

-- each is of the domain
pub data All : List Value → Type 0 where
  ended : All []
  also : {v : Value} {vs : List Value} → Domain v.shape v.pieces → All vs → All (v ∷ vs)

-- ---- the psABI's

abbrev pub afterwards : Travels → Free
afterwards (in_registers ps left) = left
afterwards (on_stack left) = left
afterwards (by_address r left) = left

unfoldable pub psabi_arguments : Free → List Value → List Travels
psabi_arguments before [] = []
psabi_arguments before (v ∷ vs) =
    let t : Travels = psabi_argument before v.shape.size v.pieces in
    t ∷ psabi_arguments (afterwards t) vs

unfoldable pub psabi_call : Value → List Value → List Travels
psabi_call result vs =
    let t : Travels = psabi_result (free argument_generals argument_vectors) result.shape.size result.pieces in
    t ∷ psabi_arguments (afterwards t) vs

-- ---- row 0's

unfoldable pub row_arguments : Left → List Value → List (Option Travels)
row_arguments left [] = []
row_arguments left (v ∷ vs) =
    let p : Passed = argument (described 0) left (Aggregate v.shape) v.pieces in
    read_argument left p ∷ row_arguments p.left vs

unfoldable pub row_call : Value → List Value → List (Option Travels)
row_call result vs =
    let p : Passed = returns (described 0) (call (described 0)) (Aggregate result.shape) result.pieces in
    read_result (call (described 0)) p ∷ row_arguments p.left vs
