-- The table that holds, for each entry, what its later users ask of its type, and how it is filled: each row from the rows before.
use Rattle.std.specs.Prelude.{ℕ, zero, suc, ◌+◌, ◌*◌, ◌<◌, min, max, ◌≡◌, List, [], ◌∷◌, Bool, cond, ltb, eqb, length, get_or}
use Rattle.shape.specs.declared.Piece.{Piece}
use Rattle.shape.specs.Numbers.{accepted, bad_size, no_room, most_word, most_pieces}
use Rattle.shape.specs.Words.{scalar, piece, piece_at, piece_words, put_at}
use Rattle.shape.specs.Arithmetic.{plus, times, rounded}
use Rattle.checks.specs.Check.{refuse, or_else, unless_refused, scalar_refusal}
use Rattle.types.specs.declared.Form.{Form}
use Rattle.types.specs.declared.Form.TheVariants.{One, Members, Elements}
use Rattle.types.specs.declared.Row.{Row}
use Rattle.types.specs.Entries.{entry_size, most_elements, array_kind, Entry, Meaning, one, several, repeated, has_members, entry_at, meaning_at, referred}
use Rattle.types.specs.Tree.{Tree, align_of, reach_of, takes_of, levels_of, leaves_of}
use Rattle.types.specs.Trees.{type_at, entries, size_refusal, lists_refusal, references_refusal, trees_refusal}

abbrev pub row : ℕ → ℕ → ℕ → ℕ → Row
row t r a l = record { takes = t; reach = r; align = a; leaves = l }

-- a row's words stand as a piece's do
abbrev pub row_from : Piece → Row
row_from p = row p.kind p.size p.align p.offset

abbrev pub row_piece : Row → Piece
row_piece r = piece r.takes r.reach r.align r.leaves

abbrev pub row_at : List ℕ → ℕ → Row
row_at tb e = row_from (piece_at tb (entry_size * e))

abbrev pub put_row : List ℕ → ℕ → Row → List ℕ
put_row tb e r = put_at tb (entry_size * e) (piece_words (row_piece r))

-- leaves are counted up to one more than are accepted
abbrev pub counted : ℕ → ℕ
counted n = min n (most_pieces + 1)

-- what a type's row holds
abbrev pub row_of_tree : Tree → Row
row_of_tree t = row (takes_of t) (reach_of t) (align_of t) (counted (leaves_of t))

-- ---- a row from the rows before. Sums, products and roundings stay within 64 bits: what passes them is refused

abbrev pub place_from : Bool → ℕ → ℕ → ℕ
place_from overlaid end align = cond overlaid 0 (rounded end align)

-- members, with the end of the one before, the furthest end, the largest alignment and the leaves so far
unfoldable pub members_row : List ℕ → Bool → ℕ → ℕ → ℕ → ℕ → List ℕ → Row
members_row tb overlaid end far align leaves [] = row (rounded far align) (rounded far align) align leaves
members_row tb overlaid end far align leaves (m ∷ ms) =
    members_row tb overlaid
    (plus (place_from overlaid end (row_at tb m).align) (row_at tb m).takes)
    (max far (plus (place_from overlaid end (row_at tb m).align) (row_at tb m).reach))
    (max align (row_at tb m).align)
    (counted (plus leaves (row_at tb m).leaves))
    ms

abbrev pub elements_row : Row → ℕ → Row
elements_row r n = row (times n (rounded r.reach r.align)) (times n (rounded r.reach r.align)) r.align (counted (times n r.leaves))

unfoldable pub row_of : List ℕ → Meaning → Row
row_of tb (one s) = row s.size (max s.size 1) (max s.align 1) 1
row_of tb (several overlaid ms) = members_row tb overlaid 0 0 1 0 ms
row_of tb (repeated m n) = elements_row (row_at tb m) n

-- what is refused of an entry with its row
unfoldable pub entry_refusal : Entry → Row → ℕ
entry_refusal x r =
    cond (has_members x.kind) (size_refusal r.reach)
    (cond (eqb x.kind array_kind) (refuse (ltb most_elements x.third) bad_size (size_refusal r.reach))
    (scalar_refusal (scalar x.kind x.second x.third)))

-- the same, where it is known what the entry says
abbrev pub form_refusal : Form → Row → ℕ
form_refusal (One s) r = scalar_refusal s
form_refusal (Members overlaid first count) r = size_refusal r.reach
form_refusal (Elements m n) r = refuse (ltb most_elements n) bad_size (size_refusal r.reach)

-- so many rows from entry e on, up to the first that is refused
abbrev pub row_here : List ℕ → List ℕ → List ℕ → ℕ → Row
row_here ts ms tb e = row_of tb (meaning_at ts ms e)

abbrev pub refusal_here : List ℕ → List ℕ → List ℕ → ℕ → ℕ
refusal_here ts ms tb e = entry_refusal (entry_at ts e) (row_here ts ms tb e)

unfoldable pub filled_refusal : List ℕ → List ℕ → List ℕ → ℕ → ℕ → ℕ
filled_refusal ts ms tb e zero = accepted
filled_refusal ts ms tb e (suc n) = or_else (refusal_here ts ms tb e) (filled_refusal ts ms (put_row tb e (row_here ts ms tb e)) (e + 1) n)

unfoldable pub filled : List ℕ → List ℕ → List ℕ → ℕ → ℕ → List ℕ
filled ts ms tb e zero = tb
filled ts ms tb e (suc n) = unless_refused (refusal_here ts ms tb e) (filled ts ms (put_row tb e (row_here ts ms tb e)) (e + 1) n) tb

-- ---- the whole: a table that is too short is refused, and a refusal of the lists or the references leaves it

unfoldable pub table_refusal : List ℕ → List ℕ → List ℕ → ℕ
table_refusal ts ms tb = or_else (lists_refusal ts ms) (or_else (references_refusal ts ms) (refuse (ltb (length tb) (length ts)) no_room accepted))

unfoldable pub measure_refusal : List ℕ → List ℕ → List ℕ → ℕ
measure_refusal ts ms tb = or_else (table_refusal ts ms tb) (trees_refusal ts ms 0 (entries ts))

-- every row below n is that of the entry's own type
pub record Measured (ts ms tb : List ℕ) (n : ℕ) : Type 0 where
  pub row_is : (m : ℕ) → m < n → row_at tb m ≡ row_of_tree (type_at ts ms m)

-- ---- levels, from those of the entries before

-- one more than the deepest, of those before and of some entries; 0 where one of these isn't earlier than entry e
unfoldable pub level_above : List ℕ → ℕ → ℕ → List ℕ → ℕ
level_above lv e best [] = plus best 1
level_above lv e best (m ∷ ms) = cond (ltb m e) (level_above lv e (max best (get_or lv m 0)) ms) 0

abbrev pub level_of : List ℕ → ℕ → Meaning → ℕ
level_of lv e x = level_above lv e 0 (referred x)

-- every word below n is the levels of the entry's type, as far as 64 bits go
pub record Levelled (ts ms lv : List ℕ) (n : ℕ) : Type 0 where
  pub level_is : (m : ℕ) → m < n → get_or lv m 0 ≡ min (levels_of (type_at ts ms m)) most_word
