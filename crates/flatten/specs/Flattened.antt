-- What `flatten` answers and leaves in the lent buffer (REFERENCE 4.5).
use Rattle.std.specs.Prelude.{ℕ, zero, suc, Ok, Err, Result, ◌*◌, ◌/◌, ◌≡◌, List, ltb, length, take, drop}
use Rattle.shape.specs.Numbers.{accepted, no_room, most_pieces}
use Rattle.shape.specs.Arithmetic.{rounded}
use Rattle.shape.specs.declared.refusals.Refusal.{Refusal}
use Rattle.shape.specs.Refusals.{number_of}
use Rattle.shape.specs.Words.{piece_size, pieces_of, put_at}
use Rattle.checks.specs.Check.{refuse, or_else, unless_refused}
use Rattle.layouts.specs.Members.{pieces_words}
use Rattle.types.specs.declared.Row.{Row}
use Rattle.types.specs.Tree.{Tree, size_of, align_of, leaves_of}
use Rattle.types.specs.Trees.{wanted, types_refusal}
use Rattle.flatten.specs.declared.Flattened.{Flattened}
use Rattle.flatten.specs.Leaves.{leaf_paths, leaf_pieces, EachLeaf}

abbrev pub flattened : ℕ → ℕ → ℕ → ℕ → Flattened
flattened r p s a = record { refusal = r; pieces = p; size = s; align = a }

-- what the row of a type tells of it, or a refusal: zeros beside it
abbrev pub row_told : Result Row Refusal → Flattened
row_told (Ok row) = flattened accepted row.leaves (rounded row.reach row.align) row.align
row_told (Err r) = flattened (number_of r) 0 0 0

-- too many leaves, whatever the buffer, or more than it has room for
unfoldable pub room_refusal : ℕ → List ℕ → ℕ
room_refusal leaves out = refuse (ltb most_pieces leaves) no_room (refuse (ltb (length out / piece_size) leaves) no_room accepted)

-- the lists, what they say, and last the room
unfoldable pub flatten_refusal : List ℕ → List ℕ → List ℕ → ℕ
flatten_refusal ts ms out = or_else (types_refusal ts ms) (room_refusal (leaves_of (wanted ts ms)) out)

-- a refusal comes with zeros
abbrev pub or_flattened : ℕ → Tree → Flattened
or_flattened zero t = flattened accepted (leaves_of t) (size_of t) (align_of t)
or_flattened (suc n) t = flattened (suc n) 0 0 0

unfoldable pub flatten_answer : List ℕ → List ℕ → List ℕ → Flattened
flatten_answer ts ms out = or_flattened (flatten_refusal ts ms out) (wanted ts ms)

-- the pieces at the front, and all later words as they were; a refusal leaves all
unfoldable pub flatten_written : List ℕ → List ℕ → List ℕ → List ℕ
flatten_written ts ms out = unless_refused (flatten_refusal ts ms out) (put_at out 0 (pieces_words (leaf_pieces (wanted ts ms)))) out

-- ---- what was asked for: the answer, and the buffer afterwards, where nothing is refused

-- the pieces that stand at the front of the buffer, as many as were answered
abbrev pub front_words : Flattened → List ℕ → List ℕ
front_words r after = take (piece_size * r.pieces) after

pub record Flattens (t : Tree) (out : List ℕ) (r : Flattened) (after : List ℕ) : Type 0 where
  pub size_is : r.size ≡ size_of t
  pub align_is : r.align ≡ align_of t
  pub each_leaf : EachLeaf t (pieces_of (front_words r after))
  -- every word behind them is as it was, and no word is gone
  pub count_is : r.pieces ≡ length (leaf_paths t)
  pub front : length (front_words r after) ≡ piece_size * r.pieces
  pub behind : drop (piece_size * r.pieces) after ≡ drop (piece_size * r.pieces) out
