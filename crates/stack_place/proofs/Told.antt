-- What is told of an answer tells it apart from any other.
use Prim.Native.Nat.{ℕ}
use mathlib.Core.Path.{◌≡◌, ap, sym}
use Rattle.std.specs.Prelude.{Ok, Err, Result}
use Rattle.shape.specs.declared.refusals.Refusal.{Refusal}
use Rattle.shape.proofs.Refused.{number_decides, number_refuses}
use Rattle.stack_place.specs.declared.Place.{Place}
use Rattle.stack_place.specs.Stacked.{Placed, told}

-- a place as its two parts
abbrev part : Placed → Place
part p = record { stacked = p.stacked; next = p.next }

pub told_place : (stack : ℕ) (r q : Place) → told stack (Ok r) ≡ told stack (Ok q) → r ≡ q
told_place stack r q e = ap part e

pub told_decides : (stack : ℕ) (r q : Result Place Refusal) → told stack r ≡ told stack q → r ≡ q
told_decides stack (Ok r) (Ok q) e = ap Ok (told_place stack r q e)
told_decides stack (Ok r) (Err q) e = absurd (number_refuses q (sym (ap (λ (p : Placed). p.refusal) e)))
told_decides stack (Err r) (Ok q) e = absurd (number_refuses r (ap (λ (p : Placed). p.refusal) e))
told_decides stack (Err r) (Err q) e = ap Err (number_decides r q (ap (λ (p : Placed). p.refusal) e))
