-- What `pieces` and `record` answer is decided by what it tells.
use Prim.Native.Nat.{ℕ}
use mathlib.Core.Path.{◌≡◌, refl, ap}
use Rattle.std.specs.Prelude.{Ok, Err, Result}
use Rattle.shape.specs.declared.Shape.{Shape}
use Rattle.shape.specs.declared.refusals.Refusal.{Refusal}
use Rattle.shape.specs.Refusals.{refusal_of}
use Rattle.shape.proofs.Refused.{answer_decides}
use Rattle.layouts.specs.Answers.{placed_told, record_told}

placed_refusal : (a : Result ℕ Refusal) → refusal_of a ≡ (placed_told a).refusal
placed_refusal (Ok n) = refl
placed_refusal (Err r) = refl

pub placed_told_decides : (a b : Result ℕ Refusal) → placed_told a ≡ placed_told b → a ≡ b
placed_told_decides a b e =
    answer_decides a b
    (rw (placed_refusal a, placed_refusal b) (ap (λ p. p.refusal) e))
    (λ x y p q. rw (p, q) at (ap (λ t. t.count) e))

record_refusal : (a : Result Shape Refusal) → refusal_of a ≡ (record_told a).refusal
record_refusal (Ok s) = refl
record_refusal (Err r) = refl

pub record_told_decides : (a b : Result Shape Refusal) → record_told a ≡ record_told b → a ≡ b
record_told_decides a b e =
    answer_decides a b
    (rw (record_refusal a, record_refusal b) (ap (λ r. r.refusal) e))
    (λ x y p q. rw (p, q) at (ap (λ t. t.shape) e))
