-- No second answer meets the promise of a public function.
use mathlib.Core.Path.{sym, ◌∙◌}
use contract.Lifetimes.{Lfts}
use Rattle.shape.proofs.OneAnswer.{OneAnswer}
use Rattle.stack_place.proofs.Told.{told_decides, told_place}
use Rattle.stack_place.proofs.Area.place_return.Reads as place_return
use Rattle.stack_place.proofs.Area.place_scalar.Reads as place_scalar
use Rattle.stack_place.proofs.Area.place_aggregate.Reads as place_aggregate
use Rattle.stack_place.proofs.is_held.Reads as is_held_lem
use Rattle.stack_place.proofs.aggregate_bytes.Reads as aggregate_bytes
use Rattle.stack_place.proofs.Place.nowhere.Reads as nowhere

place_return_decides : (κs : Lfts 0) → OneAnswer (place_return.Post κs)
place_return_decides κs a r q s t p p' = told_decides _ r q (p ∙ sym p')

place_scalar_decides : (κs : Lfts 0) → OneAnswer (place_scalar.Post κs)
place_scalar_decides κs a r q s t p p' = told_decides _ r q (p ∙ sym p')

place_aggregate_decides : (κs : Lfts 0) → OneAnswer (place_aggregate.Post κs)
place_aggregate_decides κs a r q s t p p' = told_decides _ r q (p ∙ sym p')

is_held_decides : (κs : Lfts 0) → OneAnswer (is_held_lem.Post κs)
is_held_decides κs a r q s t p p' = p ∙ sym p'

aggregate_bytes_decides : (κs : Lfts 0) → OneAnswer (aggregate_bytes.Post κs)
aggregate_bytes_decides κs a r q s t p p' = p ∙ sym p'

nowhere_decides : (κs : Lfts 0) → OneAnswer (nowhere.Post κs)
nowhere_decides κs a r q s t p p' = told_place a.0 r q (p ∙ sym p')
