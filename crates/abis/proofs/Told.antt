-- What an answer tells decides it.
use Prim.Native.Nat.{ℕ}
use mathlib.Core.Path.{◌≡◌, refl, sym, ap, ◌∙◌}
use mathlib.Core.Bool.{Bool}
use Rattle.std.specs.Prelude.{Result, Ok, Err}
use Rattle.shape.specs.declared.refusals.Refusal.{Refusal}
use Rattle.shape.specs.Refusals.{refusal_of}
use Rattle.shape.proofs.Refused.{answer_decides}
use Rattle.abis.specs.Answers.{Asked, AskedFormat, told_yes, told_format}

yes_refusal : (a : Result Bool Refusal) → (told_yes a).refusal ≡ refusal_of a
yes_refusal (Ok a) = refl
yes_refusal (Err r) = refl

pub told_yes_decides : (a b : Result Bool Refusal) → told_yes a ≡ told_yes b → a ≡ b
told_yes_decides a b e =
    answer_decides a b (sym (yes_refusal a) ∙ ap (λ (w : Asked). w.refusal) e ∙ yes_refusal b) (λ x y p q. ap (λ (w : Asked). w.answer) (rw (p, q) at e))

format_refusal : (a : Result ℕ Refusal) → (told_format a).refusal ≡ refusal_of a
format_refusal (Ok format) = refl
format_refusal (Err r) = refl

pub told_format_decides : (a b : Result ℕ Refusal) → told_format a ≡ told_format b → a ≡ b
told_format_decides a b e =
    answer_decides a b (sym (format_refusal a) ∙ ap (λ (w : AskedFormat). w.refusal) e ∙ format_refusal b) (λ x y p q. ap (λ (w : AskedFormat). w.format) (rw (p, q) at e))
