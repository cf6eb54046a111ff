-- `lent` leaves the call that the operation answered.
use mathlib.Core.Path.{refl}
use Rattle.bridge.proofs.lent.Goals as goal

pub returns : goal.returns
returns g c =
    (c.operation-answer.result, record { lends = _; shows = refl; left = _; met = c.operation-answer.ensures; leaves = refl }, refl, refl)
