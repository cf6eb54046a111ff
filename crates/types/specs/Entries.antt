-- A list of types as it stands in words (REFERENCE 4.5): four words an entry, of which the fourth isn't read, and beside it the list of members, a
-- word each. And what an entry says.
use Rattle.std.specs.Prelude.{ℕ, zero, suc, ◌+◌, ◌*◌, List, [], ◌∷◌, Bool, true, ◌&&◌, ◌||◌, cond, ltb, eqb, get_or}
use Rattle.shape.specs.declared.Piece.{Piece}
use Rattle.shape.specs.declared.Scalar.{Scalar}
use Rattle.shape.specs.Lists.{every}
use Rattle.shape.specs.Numbers.{most_word}
use Rattle.shape.specs.Words.{scalar, piece_at}
use Rattle.types.specs.declared.Form.{Form}
use Rattle.types.specs.declared.Form.TheVariants.{One, Members, Elements}

-- words of an entry
abbrev pub entry_size : ℕ
entry_size = 4

-- kinds of entries that aren't scalars; further kinds of scalars have room below
abbrev pub record_kind : ℕ
record_kind = 256

abbrev pub union_kind : ℕ
union_kind = 257

abbrev pub array_kind : ℕ
array_kind = 258

-- the most that is accepted of each; of leaves it is the most pieces
abbrev pub most_entries : ℕ
most_entries = 1024

abbrev pub most_members : ℕ
most_members = 4096

abbrev pub most_elements : ℕ
most_elements = 1024

abbrev pub most_levels : ℕ
most_levels = 16

-- the number of no entry, which a member past the list's end has: it refers to none
abbrev pub nowhere : ℕ
nowhere = most_word

-- an entry: of a scalar its size and alignment, of a record or a union its first member's place and their count, of an array its element and their
-- count
pub record Entry : Type 0 where
  pub kind : ℕ
  pub second : ℕ
  pub third : ℕ

-- an entry's words stand as a piece's do
abbrev pub entry_from : Piece → Entry
entry_from p = record { kind = p.kind; second = p.size; third = p.align }

-- all zeros where there is no such entry
abbrev pub entry_at : List ℕ → ℕ → Entry
entry_at ts e = entry_from (piece_at ts (entry_size * e))

-- so many members from a place on
unfoldable pub members_from : List ℕ → ℕ → ℕ → List ℕ
members_from ms at zero = []
members_from ms at (suc n) = get_or ms at nowhere ∷ members_from ms (at + 1) n

-- ---- what an entry says

pub data Meaning : Type 0 where
  -- one scalar; of an unknown kind too, which is refused by that
  one : Scalar → Meaning
  -- members by their entries' numbers, all at 0 where they are overlaid
  several : Bool → List ℕ → Meaning
  -- so many of one entry
  repeated : ℕ → ℕ → Meaning

abbrev pub has_members : ℕ → Bool
has_members kind = eqb kind record_kind || eqb kind union_kind

unfoldable pub meaning_of : List ℕ → Entry → Meaning
meaning_of ms x =
    cond (has_members x.kind) (several (eqb x.kind union_kind) (members_from ms x.second x.third))
    (cond (eqb x.kind array_kind) (repeated x.second x.third) (one (scalar x.kind x.second x.third)))

-- what the code has of an entry, and what that means beside the members
unfoldable pub form_of : Entry → Form
form_of x =
    cond (has_members x.kind) (Members (eqb x.kind union_kind) x.second x.third)
    (cond (eqb x.kind array_kind) (Elements x.second x.third) (One (scalar x.kind x.second x.third)))

abbrev pub form_meaning : List ℕ → Form → Meaning
form_meaning ms (One s) = one s
form_meaning ms (Members overlaid first count) = several overlaid (members_from ms first count)
form_meaning ms (Elements m n) = repeated m n

abbrev pub meaning_at : List ℕ → List ℕ → ℕ → Meaning
meaning_at ts ms e = meaning_of ms (entry_at ts e)

-- the entries that it refers to, whatever the counts
unfoldable pub referred : Meaning → List ℕ
referred (one s) = []
referred (several overlaid ms) = ms
referred (repeated m n) = m ∷ []

-- every entry that entry e refers to is earlier
abbrev pub refers_back : ℕ → Meaning → Bool
refers_back e x = every (λ m. ltb m e) (referred x)

-- so many entries from e on
unfoldable pub all_refer_back : List ℕ → List ℕ → ℕ → ℕ → Bool
all_refer_back ts ms e zero = true
all_refer_back ts ms e (suc n) = refers_back e (meaning_at ts ms e) && all_refer_back ts ms (e + 1) n
