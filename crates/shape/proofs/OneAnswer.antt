-- What it means that a contract decides: no two answers to the same arguments both meet it. Each crate's Unique.antt shows it of its public
-- functions, from the contract that the checker itself reads, so that a loosened promise fails there.
use mathlib.Core.Path.{◌≡◌}

-- the answer is decided: `Post arguments answer exit` is a function's contract
abbrev pub OneAnswer : {A R S : Type 0} → (A → R → S → Type 0) → Type 0
OneAnswer {A} {R} {S} Post = (a : A) (r q : R) (s t : S) → Post a r s → Post a q t → r ≡ q

-- what stands behind a lent reference at exit is decided: `last` is its place in the exit
abbrev pub OneExit : {A R S L : Type 0} → (A → R → S → Type 0) → (S → L) → Type 0
OneExit {A} {R} {S} {L} Post last = (a : A) (r q : R) (s t : S) → Post a r s → Post a q t → last s ≡ last t

-- what an answer shows is decided, where it holds a reference: a reference is more than what stands behind it
abbrev pub OneShown : {A R S L : Type 0} → (A → R → S → Type 0) → (R → L) → Type 0
OneShown {A} {R} {S} {L} Post show = (a : A) (r q : R) (s t : S) → Post a r s → Post a q t → show r ≡ show q
