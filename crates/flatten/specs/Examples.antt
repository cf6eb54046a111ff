-- Lists to look at (REFERENCE 4.5): for each, the type's size and alignment and its pieces; or what it is refused with.
use Rattle.std.specs.Prelude.{ℕ, zero, suc, List, [], ◌∷◌, ◌++◌, replicate}
use Rattle.shape.specs.Numbers.{integer, accepted, bad_list, bad_kind, bad_size, no_room, bad_type, too_deep}
use Rattle.types.specs.Entries.{record_kind, union_kind, array_kind}
use Rattle.flatten.specs.declared.Flattened.{Flattened}
use Rattle.flatten.specs.Flattened.{flattened, flatten_answer, flatten_written, front_words}

pub record Example : Type 0 where
  pub types : List ℕ
  pub members : List ℕ
  pub refusal : ℕ
  pub size : ℕ
  pub align : ℕ
  pub count : ℕ
  -- four words to a piece
  pub pieces : List ℕ

-- ---- entries and pieces; an entry's fourth word isn't read

abbrev scalar_entry : ℕ → ℕ → ℕ → List ℕ
scalar_entry kind size align = kind ∷ size ∷ align ∷ 7 ∷ []

abbrev record_entry : ℕ → ℕ → List ℕ
record_entry first count = record_kind ∷ first ∷ count ∷ 7 ∷ []

abbrev union_entry : ℕ → ℕ → List ℕ
union_entry first count = union_kind ∷ first ∷ count ∷ 7 ∷ []

abbrev array_entry : ℕ → ℕ → List ℕ
array_entry element count = array_kind ∷ element ∷ count ∷ 7 ∷ []

abbrev integer_at : ℕ → ℕ → ℕ → List ℕ
integer_at size align offset = integer ∷ size ∷ align ∷ offset ∷ []

abbrev byte : List ℕ
byte = scalar_entry integer 1 1

abbrev int : List ℕ
int = scalar_entry integer 4 4

-- an integer of 12 bytes aligned to 16, which C doesn't have
abbrev wide : List ℕ
wide = scalar_entry integer 12 16

-- so many arrays of so many, each of the one before, from entry e on
unfoldable pub arrays_from : ℕ → ℕ → ℕ → List ℕ
arrays_from e count zero = []
arrays_from e count (suc n) = array_entry e count ++ arrays_from (suc e) count n

abbrev answers : List ℕ → List ℕ → ℕ → ℕ → ℕ → List ℕ → Example
answers types members size align count pieces =
    record { types = types; members = members; refusal = accepted; size = size; align = align; count = count; pieces = pieces }

abbrev refuses : List ℕ → List ℕ → ℕ → Example
refuses types members refusal = record { types = types; members = members; refusal = refusal; size = 0; align = 0; count = 0; pieces = [] }

abbrev pub examples : List Example
examples =
    -- struct { char c; int i; } [3]
    answers (byte ++ int ++ record_entry 0 2 ++ array_entry 2 3) (0 ∷ 1 ∷ []) 24 4 6
    (integer_at 1 1 0 ++ integer_at 4 4 4 ++ integer_at 1 1 8 ++ integer_at 4 4 12 ++ integer_at 1 1 16 ++ integer_at 4 4 20)
    -- union { char c; struct { char c; int i; } s; }: all members at 0
    ∷ answers (byte ++ int ++ record_entry 0 2 ++ union_entry 2 2) (0 ∷ 1 ∷ 0 ∷ 2 ∷ []) 8 4 3 (integer_at 1 1 0 ++ integer_at 1 1 0 ++ integer_at 4 4 4)
    -- struct { char c; struct { char c; int i; } s; char d; }: the record's rounded size moves d on, its parent's offset moves its members
    ∷ answers (byte ++ int ++ record_entry 0 2 ++ record_entry 2 3) (0 ∷ 1 ∷ 0 ∷ 2 ∷ 0 ∷ []) 16 4 4
    (integer_at 1 1 0 ++ integer_at 1 1 4 ++ integer_at 4 4 8 ++ integer_at 1 1 12)
    -- a scalar moves the next member on by its own size
    ∷ answers (wide ++ byte ++ record_entry 0 2) (0 ∷ 1 ∷ []) 16 16 2 (integer_at 12 16 0 ++ integer_at 1 1 12)
    -- and in an array by its rounded one, which is also its size where it is wanted itself
    ∷ answers (wide ++ array_entry 0 2) [] 32 16 2 (integer_at 12 16 0 ++ integer_at 12 16 16)
    ∷ answers wide [] 16 16 1 (integer_at 12 16 0)
    -- a scalar of size 0 ends a byte on, and moves the next one on by 0; in an array by 1
    ∷ answers (scalar_entry integer 0 1 ++ record_entry 0 2) (0 ∷ 0 ∷ []) 1 1 2 (integer_at 0 1 0 ++ integer_at 0 1 0)
    ∷ answers (scalar_entry integer 0 1 ++ array_entry 0 3) [] 3 1 3 (integer_at 0 1 0 ++ integer_at 0 1 1 ++ integer_at 0 1 2)
    -- alignment 0 counts as 1, and the piece keeps it
    ∷ answers (scalar_entry integer 2 0 ++ record_entry 0 1) (0 ∷ []) 2 1 1 (integer_at 2 0 0)
    -- struct { char c; int a[]; }: an array of 0 has no leaf, but its element's alignment
    ∷ answers (byte ++ int ++ array_entry 1 0 ++ record_entry 0 2) (0 ∷ 2 ∷ []) 4 4 1 (integer_at 1 1 0)
    -- a record and a union of no members, whose first isn't read
    ∷ answers (record_entry 9 0) [] 0 1 0 []
    ∷ answers (union_entry 9 0) [] 0 1 0 []
    -- sixteen levels, and no leaf under fifteen arrays of 1,024
    ∷ answers (byte ++ arrays_from 0 1 15) [] 1 1 1 (integer_at 1 1 0)
    ∷ answers (record_entry 0 0 ++ arrays_from 0 1024 15) [] 0 1 0 []
    -- what the last entry doesn't refer to may be deeper
    ∷ answers (byte ++ arrays_from 0 1 17 ++ int) [] 4 4 1 (integer_at 4 4 0)
    -- no entry, and words that aren't whole entries
    ∷ refuses [] [] bad_list
    ∷ refuses (byte ++ 0 ∷ []) [] bad_list
    -- an entry that refers to itself, to a later one, to a member past the list's end; before a kind that is none, in an array of 0 too
    ∷ refuses (array_entry 0 1) [] bad_type
    ∷ refuses (scalar_entry 5 1 1 ++ record_entry 0 1 ++ byte) (2 ∷ []) bad_type
    ∷ refuses (byte ++ union_entry 0 2) (0 ∷ []) bad_type
    ∷ refuses (array_entry 1 0 ++ byte) [] bad_type
    -- a seventeenth level, behind an array of 0 too, before a scalar that is too large
    ∷ refuses (scalar_entry integer 65 1 ++ arrays_from 0 0 16) [] too_deep
    -- the first entry that is refused by itself, reached or not
    ∷ refuses (scalar_entry 259 1 1 ++ scalar_entry integer 65 1 ++ byte) [] bad_kind
    ∷ refuses (byte ++ array_entry 0 1025 ++ byte) [] bad_size
    -- a byte under three arrays of 1,024 is too large; under two it is only too many leaves
    ∷ refuses (byte ++ arrays_from 0 1024 3) [] bad_size
    ∷ refuses (byte ++ arrays_from 0 1024 2) [] no_room
    -- seven pieces, and room for six
    ∷ refuses (byte ++ array_entry 0 7) [] no_room
    ∷ []

-- ---- what is found: the answer, and the words of the pieces

-- a buffer for six pieces, and three words behind them
abbrev room : List ℕ
room = replicate 27 9

abbrev pub found : Example → Flattened × List ℕ
found e =
    (flatten_answer e.types e.members room, front_words (flatten_answer e.types e.members room) (flatten_written e.types e.members room))

abbrev pub expected : Example → Flattened × List ℕ
expected e = (flattened e.refusal e.count e.size e.align, e.pieces)
