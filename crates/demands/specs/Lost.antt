-- What it means that nothing of an argument is lost (REFERENCE 9.9): each byte of it is in a register that it was given or on the stack, or its address is.
-- By the way that it travels; w is the width of an integer register. Of one that travels as Ignore there is nothing.
use Rattle.std.specs.Prelude.{ℕ, ◌+◌, ◌*◌, ◌≤◌, ◌<◌, ◌⊎◌}
use Rattle.shape.specs.declared.Arg.{Arg}
use Rattle.shape.specs.declared.Arg.TheVariants.{Void, Scalar, Aggregate}
use Rattle.shape.specs.declared.Scalar as scalars
use Rattle.shape.specs.declared.Shape.{Shape}
use Rattle.spend.specs.declared.Way.{Way}
use Rattle.spend.specs.declared.Way.TheVariants.{Ignore, Direct, Pieces, Reference, Memory}
use Rattle.classify.specs.declared.Answer.{Answer}
use Rattle.ledger.specs.Ledger.{integers, floats, given, range_of}

-- an address has a register, or a word on the stack
abbrev pub HasAddress : ℕ → Answer → Type 0
HasAddress w a = (0 < given integers a) ⊎ (w ≤ (range_of a).bytes)

-- a float register holds a scalar, or the integer registers that it was given and its bytes on the stack do
abbrev pub Holds : ℕ → ℕ → Answer → Type 0
Holds size w a = (0 < given floats a) ⊎ (size ≤ w * given integers a + (range_of a).bytes)

-- it stands on the stack whole
abbrev pub OnStack : ℕ → Answer → Type 0
OnStack size a = size ≤ (range_of a).bytes

-- each slot has a given register or a word there
abbrev pub SlotsHeld : ℕ → Answer → Type 0
SlotsHeld w a = w * a.outcome.slots ≤ w * (given integers a + given floats a) + (range_of a).bytes

abbrev pub ScalarHeld : Way → scalars.Scalar → ℕ → Answer → Type 0
ScalarHeld Ignore s w a = Unit {0}
ScalarHeld Direct s w a = Holds s.size w a
ScalarHeld Pieces s w a = Holds s.size w a
ScalarHeld Reference s w a = HasAddress w a
ScalarHeld Memory s w a = OnStack s.size a

abbrev pub AggregateHeld : Way → Shape → ℕ → Answer → Type 0
AggregateHeld Ignore shape w a = Unit {0}
AggregateHeld Direct shape w a = OnStack shape.size a
AggregateHeld Pieces shape w a = SlotsHeld w a
AggregateHeld Reference shape w a = HasAddress w a
AggregateHeld Memory shape w a = OnStack shape.size a

abbrev pub NothingLost : Arg → Way → ℕ → Answer → Type 0
NothingLost Void way w a = Unit {0}
NothingLost (Scalar s) way w a = ScalarHeld way s w a
NothingLost (Aggregate shape) way w a = AggregateHeld way shape w a
