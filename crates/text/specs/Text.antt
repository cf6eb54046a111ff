-- Texts as bytes, and what writing one into a buffer answers and leaves (REFERENCE 3, 5.5, 6.4).
use Rattle.std.specs.Prelude.{ℕ, Ok, Err, Result, ◌+◌, ◌≤◌, ◌≡◌, List, [], ◌∷◌, cond, leb, eqb, length, drop}
use Prim.Native.Char.{code}
use Prim.Native.String.{String, [] as ends, ◌∷◌ as ◌then◌}
use Rattle.shape.specs.Numbers.{accepted, no_room}
use Rattle.shape.specs.Words.{put_at}
use Rattle.shape.specs.declared.refusals.Refusal.{Refusal}
use Rattle.shape.specs.Refusals.{number_of}

-- the bytes of a text of ASCII characters
abbrev pub bytes : String → List ℕ
bytes ends = []
bytes (c then s) = code c ∷ bytes s

-- a refusal's number, or 0 and how many bytes were written
pub record Written : Type 0 where
  pub refusal : ℕ
  pub length : ℕ

abbrev pub wrote : ℕ → ℕ → Written
wrote refusal count = record { refusal = refusal; length = count }

-- what the code's answer tells
abbrev pub told : Result ℕ Refusal → Written
told (Ok count) = wrote accepted count
told (Err r) = wrote (number_of r) 0

-- the number of bytes, or NO_ROOM where they don't all fit
unfoldable pub put_answer : List ℕ → ℕ → Written
put_answer name room = cond (leb (length name) room) (wrote accepted (length name)) (wrote no_room 0)

-- the bytes at the front, where they fit; every byte behind them keeps its value
abbrev pub put_written : List ℕ → List ℕ → List ℕ
put_written name out = put_at out 0 name

-- the place behind some bytes that were put at a place, or the same place where they didn't fit, by the length of the buffer
unfoldable pub append_end : ℕ → ℕ → List ℕ → ℕ
append_end room at bs = cond (leb (at + length bs) room) (at + length bs) at

-- `text` stands from `at` on, where it fits, and ends at `to`; all other bytes are as they were
pub record Put (before : List ℕ) (at : ℕ) (text : List ℕ) (to : ℕ) (after : List ℕ) : Type 0 where
  pub ends : to ≡ at + length text
  pub put : after ≡ put_at before at text
  pub fits : at + length text ≤ length before

abbrev pub dot : ℕ
dot = 46

-- the bytes up to the first dot, all where there is none
unfoldable pub up_to_dot : List ℕ → List ℕ
up_to_dot [] = []
up_to_dot (b ∷ bs) = cond (eqb b dot) [] (b ∷ up_to_dot bs)

-- where the text that starts at a place ends
unfoldable pub end_from : List ℕ → ℕ → ℕ
end_from bs start = start + length (up_to_dot (drop start bs))
