-- A type that a function flattened (REFERENCE 4.5): what it means that an answer, and the words of the buffer afterwards, meet the contract of such a
-- function, as the checker reads it. And when each refusal is given, from the request that types inside types be flattened.
use Rattle.std.specs.Prelude.{ℕ, ◌/◌, ◌<◌, ◌≤◌, ◌≡◌, true, false, List, [], ◌∷◌, length}
use contract.Lifetimes.{Lfts}
use Rattle.std.specs.Borrow.{Bor, MutBor}
use Rattle.shape.specs.Numbers.{accepted, bad_list, bad_kind, bad_size, bad_align, no_room, bad_type, too_deep, most_pieces}
use Rattle.shape.specs.Words.{piece_size, scalars_of}
use Rattle.layouts.specs.Record.{is_floating, recorded, record_answer}
use Rattle.layouts.specs.Members.{placed, pieces_answer, pieces_written}
use Rattle.types.specs.Entries.{most_levels, all_refer_back}
use Rattle.types.specs.Tree.{levels_of, leaves_of}
use Rattle.types.specs.Trees.{type_at, entries, wanted, lists_refusal, tree_refusal, types_refusal}
use Rattle.flatten.specs.declared.Flattened.{Flattened}
use Rattle.flatten.specs.Flattened.{flattened, front_words}
use Rattle.flatten.proofs.flatten.Reads as on_flatten
use Rattle.export_flatten.proofs.barkpaddle_flatten.Reads as entry_flatten
use Rattle.demands.specs.Refusals.{IsRefusal, OneOf, RefusedAs}
use Rattle.demands.specs.Rust.{record_align}
use Rattle.demands.specs.Performed.{Met}

-- ---- flattened

-- a function that is lent these lists and this buffer answers so, and leaves the buffer so
pub data IsFlattened (types members out : List ℕ) (r : Flattened) (after : List ℕ) : Type 0 where
  flatten : (κs : Lfts 3) (ts ms : Bor (List ℕ)) (pieces : MutBor (List ℕ)) → ts.now ≡ types → ms.now ≡ members → pieces.now ≡ out
      → Met (on_flatten.Post κs) (λ s. s.1.1.0.now) (ts, (ms, (pieces, tt))) r after → IsFlattened types members out r after
  barkpaddle_flatten : (κs : Lfts 3) (ts ms : Bor (List ℕ)) (pieces : MutBor (List ℕ)) → ts.now ≡ types → ms.now ≡ members → pieces.now ≡ out
      → Met (entry_flatten.Post κs) (λ s. s.1.1.0.now) (ts, (ms, (pieces, tt))) r after → IsFlattened types members out r after

-- ---- refused

abbrev pub type_refusals : List ℕ
type_refusals = bad_list ∷ bad_kind ∷ bad_size ∷ bad_align ∷ no_room ∷ bad_type ∷ too_deep ∷ []

-- one of these numbers, 0 in all else, and the buffer as it was
pub record RefusedType (out : List ℕ) (r : Flattened) (after : List ℕ) : Type 0 where
  pub answer : RefusedAs type_refusals r.refusal (flattened r.refusal 0 0 0) r
  pub same_words : after ≡ out

-- the numbers of an entry by itself
abbrev pub entry_refusals : List ℕ
entry_refusals = bad_kind ∷ bad_size ∷ bad_align ∷ []

-- the references of the lists pass: their lengths, that every entry refers to earlier ones alone, and the levels of the last
pub record Refers (types members : List ℕ) : Type 0 where
  pub lists : lists_refusal types members ≡ accepted
  pub back : all_refer_back types members 0 (entries types) ≡ true
  pub levels : levels_of (wanted types members) ≤ most_levels

-- a number, and when it is given: of each only one line can hold
pub data Because (types members out : List ℕ) : ℕ → Type 0 where
  -- BAD_LIST: by the lengths of the lists, before all else
  bad_lengths : IsRefusal (lists_refusal types members) → Because types members out bad_list
  -- BAD_TYPE: an entry, reached or not, refers to itself, to a later one or to none
  bad_reference : lists_refusal types members ≡ accepted → all_refer_back types members 0 (entries types) ≡ false → Because types members out bad_type
  -- TOO_DEEP: the last entry has too many levels
  too_many_levels : lists_refusal types members ≡ accepted → all_refer_back types members 0 (entries types) ≡ true → most_levels < levels_of (wanted types members)
      → Because types members out too_deep
  -- BAD_KIND, BAD_SIZE or BAD_ALIGN: the first entry that is refused by itself
  bad_entry : Refers types members → (e : ℕ) → e < entries types → ((i : ℕ) → i < e → tree_refusal (type_at types members i) ≡ accepted)
      → IsRefusal (tree_refusal (type_at types members e)) → OneOf entry_refusals (tree_refusal (type_at types members e))
      → Because types members out (tree_refusal (type_at types members e))
  -- NO_ROOM: more leaves than are accepted, or than the buffer has room for
  too_many_leaves : types_refusal types members ≡ accepted → most_pieces < leaves_of (wanted types members) → Because types members out no_room
  short_buffer : types_refusal types members ≡ accepted → leaves_of (wanted types members) ≤ most_pieces → length out / piece_size < leaves_of (wanted types members)
      → Because types members out no_room
  -- accepted: none of these
  nothing_refused : types_refusal types members ≡ accepted → leaves_of (wanted types members) ≤ most_pieces → leaves_of (wanted types members) ≤ length out / piece_size
      → Because types members out accepted

-- ---- a record of scalars

-- what `pieces` makes of them stands in the buffer, and `record` finds the same size and alignment, where their alignments aren't all 0
pub record AsRecord (scalars out : List ℕ) (r : Flattened) (after : List ℕ) : Type 0 where
  pub as_pieces : pieces_answer scalars out ≡ record { refusal = accepted; count = r.pieces }
  pub same_words : after ≡ pieces_written scalars out
  pub as_record : (record_align (placed 0 (scalars_of scalars)) ≡ 0 → ⊥)
      → record_answer (front_words r after) ≡ recorded accepted r.size r.align (is_floating r.size (placed 0 (scalars_of scalars)))
