-- Writing a name, as a Result.
use Prim.Native.Nat.{ℕ}
use mathlib.Core.Path.{◌≡◌, refl, ◌∙◌}
use mathlib.Core.List.{List}
use mathlib.Core.Bool.{Bool, true, false, cond}
use lib.Dec.{leb}
use lib.ListN.{length}
use mathlib.Core.Option as maybe
use Rattle.std.specs.Prelude.{Option, Some, None, Result, Ok, Err}
use Rattle.targets.specs.Decoded.{optional}
use Rattle.shape.specs.Numbers.{accepted, no_room}
use Rattle.shape.specs.declared.refusals.Refusal.{Refusal}
use Rattle.shape.specs.declared.refusals.Refusal.TheVariants.{NoRoom}
use Rattle.shape.specs.Refusals.{number_of}
use Rattle.targets.specs.Codes.{none_number}
use Rattle.text.specs.Text.{Written, told, wrote, put_answer, put_written}
use Rattle.text.proofs.Copy.{told_decides}
use Rattle.attributes.specs.Spellings.{spelling_put, spelling_answer, spelling_written}

-- what `put` tells is that all bytes went, or that there was no room
pub put_found : (r : Result ℕ Refusal) (name : List ℕ) (room : ℕ) → told r ≡ put_answer name room
    → r ≡ cond (leb (length name) room) (Ok (length name)) (Err NoRoom)
unfolding put_answer
put_found r name room e = told_decides r _ (e ∙ fits (leb (length name) room))
  where
    fits : (b : Bool) → cond b (wrote accepted (length name)) (wrote no_room 0) ≡ told (cond b (Ok (length name)) (Err NoRoom))
    fits true = refl
    fits false = refl

-- a name that there is, and what writing it gave, told as `spelling_put` has it
abbrev pub some_put : Result ℕ Refusal → Result (Option ℕ) Refusal
some_put (Ok n) = Ok (Some n)
some_put (Err r) = Err r

pub spelled : (o : maybe.Option (List ℕ)) {name : List ℕ} → Some name ≡ optional o → (out : List ℕ) (r : Result ℕ Refusal) {out' : List ℕ}
    → (told r ≡ put_answer name (length out)) × (out' ≡ put_written name out) → (some_put r ≡ spelling_put o (length out)) × (out' ≡ spelling_written o out)
unfolding spelling_put spelling_written
spelled maybe.none e out r p = cc
spelled (maybe.some text) {name} e out r p =
    let same : name ≡ text = cc in
    rw (← same) (put (leb (length name) (length out)) (put_found r name (length out) p.0), p.1)
  where
    put : (b : Bool) → r ≡ cond b (Ok (length name)) (Err NoRoom) → some_put r ≡ cond b (Ok (Some (length name))) (Err NoRoom)
    put true h = rw h
    put false h = rw h

-- what writing a name gave, in numbers
abbrev pub told_spelling : Result (Option ℕ) Refusal → Written
told_spelling (Ok None) = wrote accepted none_number
told_spelling (Ok (Some n)) = wrote accepted n
told_spelling (Err r) = wrote (number_of r) 0

pub spelling_told : (o : maybe.Option (List ℕ)) (room : ℕ) → told_spelling (spelling_put o room) ≡ spelling_answer o room
unfolding spelling_put spelling_answer put_answer
spelling_told maybe.none room = refl
spelling_told (maybe.some name) room = go (leb (length name) room)
  where
    go : (b : Bool) → told_spelling (cond b (Ok (Some (length name))) (Err NoRoom)) ≡ cond b (wrote accepted (length name)) (wrote no_room 0)
    go true = refl
    go false = refl
