-- What it means that a function itself, by its own contract as the checker reads it, always answers so: whatever answer and whatever words behind
-- its last lent reference at exit meet the contract for these arguments, `says` holds of them.
use Rattle.std.specs.Prelude.{ℕ, List}

abbrev pub Answers : {A R S : Type 0} → (A → R → S → Type 0) → (S → List ℕ) → A → (R → List ℕ → Type 0) → Type 0
Answers {A} {R} {S} Post last a says = (r : R) (s : S) → Post a r s → says r (last s)

-- of a function that is lent nothing to write to
abbrev pub AnswersAlone : {A R S : Type 0} → (A → R → S → Type 0) → A → (R → Type 0) → Type 0
AnswersAlone {A} {R} {S} Post a says = (r : R) (s : S) → Post a r s → says r
