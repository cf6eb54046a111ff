-- The readable types of a list's entries, each from those before it (REFERENCE 4.5), and what is refused of them.
use Rattle.std.specs.Prelude.{ℕ, zero, suc, ◌+◌, ◌-◌, ◌/◌, ◌%◌, List, [], ◌∷◌, ◌++◌, Bool, not, cond, ltb, eqb, length, get_or}
use Rattle.shape.specs.Numbers.{accepted, bad_list, bad_size, bad_type, too_deep, most_offset}
use Rattle.shape.specs.Arithmetic.{round_up}
use Rattle.checks.specs.Check.{refuse, or_else, scalar_refusal}
use Rattle.types.specs.Entries.{entry_size, most_entries, most_members, most_elements, most_levels, Meaning, one, several, repeated, meaning_at, all_refer_back}
use Rattle.types.specs.Tree.{Tree, Forest, leaf, group, array, empty, child, align_of, size_of, takes_of, levels_of}

-- where a member stands: at 0 where the members are overlaid, else at the next multiple of its alignment from the end of the one before on
abbrev pub offset_from : Bool → ℕ → ℕ → ℕ
offset_from overlaid end align = cond overlaid 0 (round_up end align)

-- members, each behind the one before
unfoldable pub laid_out : (ℕ → Tree) → Bool → ℕ → List ℕ → Forest
laid_out g overlaid end [] = empty
laid_out g overlaid end (m ∷ ms) =
    child (offset_from overlaid end (align_of (g m))) (g m)
    (laid_out g overlaid (offset_from overlaid end (align_of (g m)) + takes_of (g m)) ms)

-- an entry's type, from those of the entries that it refers to
unfoldable pub tree_of : (ℕ → Tree) → Meaning → Tree
tree_of g (one s) = leaf s
tree_of g (several overlaid ms) = group (laid_out g overlaid 0 ms)
tree_of g (repeated m n) = array (g m) n

-- the type of no entry
abbrev pub no_type : Tree
no_type = group empty

-- the types of the first n entries
unfoldable pub trees : List ℕ → List ℕ → ℕ → List Tree
trees ts ms zero = []
trees ts ms (suc n) = trees ts ms n ++ tree_of (λ m. get_or (trees ts ms n) m no_type) (meaning_at ts ms n) ∷ []

-- the type of entry e
abbrev pub type_at : List ℕ → List ℕ → ℕ → Tree
type_at ts ms e = get_or (trees ts ms (suc e)) e no_type

-- the number of entries, and the type wanted: the last one
abbrev pub entries : List ℕ → ℕ
entries ts = length ts / entry_size

abbrev pub wanted : List ℕ → List ℕ → Tree
wanted ts ms = type_at ts ms (entries ts - 1)

-- ---- refusals

-- the words don't make whole entries, no entry, too many, or too many members
unfoldable pub lists_refusal : List ℕ → List ℕ → ℕ
lists_refusal ts ms =
    refuse (ltb 0 (length ts % entry_size)) bad_list
    (refuse (eqb (entries ts) 0) bad_list
    (refuse (ltb most_entries (entries ts)) bad_list (refuse (ltb most_members (length ms)) bad_list accepted)))

-- an entry that refers to itself, to a later one or to none
abbrev pub back_refusal : List ℕ → List ℕ → ℕ
back_refusal ts ms = refuse (not (all_refer_back ts ms 0 (entries ts))) bad_type accepted

-- that; then a level too many below the last entry
unfoldable pub references_refusal : List ℕ → List ℕ → ℕ
references_refusal ts ms =
    refuse (not (all_refer_back ts ms 0 (entries ts))) bad_type
    (refuse (ltb most_levels (levels_of (wanted ts ms))) too_deep accepted)

-- a type of a list: a scalar by kind, size, alignment; an array's count; then its own size
abbrev pub size_refusal : ℕ → ℕ
size_refusal size = refuse (ltb most_offset size) bad_size accepted

unfoldable pub tree_refusal : Tree → ℕ
tree_refusal (leaf s) = scalar_refusal s
tree_refusal (group f) = size_refusal (size_of (group f))
tree_refusal (array t n) = refuse (ltb most_elements n) bad_size (size_refusal (size_of (array t n)))

-- the types of so many entries from e on
unfoldable pub trees_refusal : List ℕ → List ℕ → ℕ → ℕ → ℕ
trees_refusal ts ms e zero = accepted
trees_refusal ts ms e (suc n) = or_else (tree_refusal (type_at ts ms e)) (trees_refusal ts ms (e + 1) n)

-- all of it but the room
unfoldable pub types_refusal : List ℕ → List ℕ → ℕ
types_refusal ts ms = or_else (lists_refusal ts ms) (or_else (references_refusal ts ms) (trees_refusal ts ms 0 (entries ts)))
