-- What an attribute's name comes to, in numbers.
use Prim.Native.Nat.{ℕ}
use mathlib.Core.Path.{◌≡◌}
use mathlib.Core.List.{List}
use mathlib.Core.Option as maybe
use Rattle.std.specs.Prelude.{Option, Result}
use Rattle.shape.specs.declared.refusals.Refusal.{Refusal}
use Rattle.attributes.specs.Spellings.{spelling_put, spelling_answer}
use Rattle.attributes.proofs.SpellingLaws.{told_spelling, spelling_told}
use Rattle.export_numbers.specs.declared.Told.{Told}
use Rattle.export_questions.specs.Answers.{length_told}

pub looked : (o : maybe.Option (List ℕ)) (room : ℕ) (a b : Result (Option ℕ) Refusal) (r : Told) → a ≡ spelling_put o room → a ≡ b → r ≡ length_told (told_spelling b)
    → r ≡ length_told (spelling_answer o room)
looked o room a b r e f g = rw (← spelling_told o room, ← e, f) g
