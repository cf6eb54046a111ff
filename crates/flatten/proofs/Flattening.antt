-- What is asked of `flatten`, of its definitions: each leaf one piece, size and alignment, and the buffer afterwards.
use Prim.Native.Nat.{ℕ, zero, suc, ◌*◌, ◌/◌, ◌≤◌, ◌<◌}
use mathlib.Core.Path.{◌≡◌, refl, ap, sym, ◌∙◌}
use mathlib.Core.List.{List, [], ◌∷◌, map}
use mathlib.Core.Option.Option.{some}
use native.Mathlib.Omega.{arith}
use borrow.Author.Tests.{ltb-false}
use lib.Dec.{ltb}
use lib.ListN.{length, get_or, get_elem?, take, drop, length-map}
use Rattle.shape.specs.declared.Piece.{Piece}
use Rattle.shape.specs.declared.Shape.{Shape}
use Rattle.shape.specs.Numbers.{accepted, most_pieces}
use Rattle.shape.specs.Words.{put_at}
use Rattle.shape.proofs.Put.{put_front, put_behind}
use Rattle.checks.specs.Check.{shape_refusal}
use Rattle.checks.proofs.Accepted.{refuse_none, else_none}
use Rattle.layouts.specs.Members.{pieces_words}
use Rattle.layouts.proofs.Members.{length_words, pieces_back}
use Rattle.types.specs.Tree.{Tree, size_of, align_of, leaves_of}
use Rattle.types.specs.Trees.{wanted, types_refusal}
use Rattle.flatten.specs.declared.Flattened.{Flattened}
use Rattle.flatten.specs.Leaves.{leaf_paths, leaf_piece, leaf_pieces, EachLeaf}
use Rattle.flatten.specs.Flattened.{flattened, room_refusal, flatten_refusal, or_flattened, flatten_answer, flatten_written, front_words, Flattens}
use Rattle.flatten.proofs.Pieces.{leaves_counted, length_leaves}
use Rattle.flatten.proofs.Paths.{leaf_listed, listed_leaf, never_twice}
use Rattle.flatten.proofs.Passing.{shape_passes}

-- ---- each leaf, one piece

each_at : (g : List ℕ → Piece) (ps : List (List ℕ)) (k : ℕ) → k < length ps → get_elem? (map g ps) k ≡ some (g (get_or ps k []))
each_at g [] k h = absurd (omega arith)
each_at g (p ∷ ps) zero h = refl
each_at g (p ∷ ps) (suc k) h = each_at g ps k (omega arith)

pub every_leaf : (t : Tree) → EachLeaf t (leaf_pieces t)
every_leaf t =
    record {
      ends = listed_leaf t;
      listed = leaf_listed t;
      once = never_twice t;
      as_many = length-map (leaf_paths t) (leaf_piece t);
      piece_at = each_at (leaf_piece t) (leaf_paths t);
    }

-- ---- what isn't refused

-- the lists aren't, and there is room for every leaf
pub record Taken (ts ms out : List ℕ) : Type 0 where
  pub lists : types_refusal ts ms ≡ accepted
  pub few : leaves_of (wanted ts ms) ≤ most_pieces
  pub room : leaves_of (wanted ts ms) ≤ length out / 4

pub taken : (ts ms out : List ℕ) → flatten_refusal ts ms out ≡ accepted → Taken ts ms out
unfolding flatten_refusal room_refusal
taken ts ms out h =
    let l = else_none (types_refusal ts ms) _ h in
    let f = refuse_none (ltb most_pieces (leaves_of (wanted ts ms))) 6 _ l.1 in
    let r = refuse_none (ltb (length out / 4) (leaves_of (wanted ts ms))) 6 _ f.1 in
    record { lists = l.0; few = ltb-false _ _ f.0; room = ltb-false _ _ r.0 }

answered_refusal : (n : ℕ) (t : Tree) → (or_flattened n t).refusal ≡ n
answered_refusal zero t = refl
answered_refusal (suc n) t = refl

pub refusal_is : (ts ms out : List ℕ) → (flatten_answer ts ms out).refusal ≡ flatten_refusal ts ms out
unfolding flatten_answer
refusal_is ts ms out = answered_refusal (flatten_refusal ts ms out) (wanted ts ms)

module _ (ts ms out : List ℕ) (ok : (flatten_answer ts ms out).refusal ≡ accepted) where
  none_refused : flatten_refusal ts ms out ≡ accepted
  none_refused = sym (refusal_is ts ms out) ∙ ok

  pub fine : Taken ts ms out
  fine = taken ts ms out none_refused

  pub answer_is : flatten_answer ts ms out ≡ flattened accepted (leaves_of (wanted ts ms)) (size_of (wanted ts ms)) (align_of (wanted ts ms))
  unfolding flatten_answer
  answer_is = rw none_refused

  pub written_is : flatten_written ts ms out ≡ put_at out 0 (pieces_words (leaf_pieces (wanted ts ms)))
  unfolding flatten_written
  written_is = rw none_refused

  -- the words of the pieces, and what they are read back as
  abbrev words : List ℕ
  words = pieces_words (leaf_pieces (wanted ts ms))

  words_count : length words ≡ 4 * leaves_of (wanted ts ms)
  words_count = length_words (leaf_pieces (wanted ts ms)) ∙ ap (λ (n : ℕ). 4 * n) (length_leaves (wanted ts ms))

  module _ (r : Flattened) (er : r ≡ flatten_answer ts ms out) (after : List ℕ) (ea : after ≡ flatten_written ts ms out) where
    pieces_are : r.pieces ≡ leaves_of (wanted ts ms)
    pieces_are = ap (λ (k : Flattened). k.pieces) (er ∙ answer_is)

    sized : length words ≡ 4 * r.pieces
    sized = words_count ∙ ap (λ (n : ℕ). 4 * n) (sym pieces_are)

    fitting : length words ≤ length out
    fitting = omega (arith, words_count, fine.room)

    -- at the front of the buffer there are the words of the pieces
    pub front_is : front_words r after ≡ pieces_words (leaf_pieces (wanted ts ms))
    front_is = ap (λ (n : ℕ). take n after) (sym sized) ∙ ap (take (length words)) (ea ∙ written_is) ∙ put_front out words fitting

    pub flattens : Flattens (wanted ts ms) out r after
    flattens =
        record {
          size_is = ap (λ (k : Flattened). k.size) (er ∙ answer_is);
          align_is = ap (λ (k : Flattened). k.align) (er ∙ answer_is);
          each_leaf = rw (front_is, pieces_back (leaf_pieces (wanted ts ms))) (every_leaf (wanted ts ms));
          count_is = pieces_are ∙ sym (leaves_counted (wanted ts ms));
          front = ap length front_is ∙ sized;
          behind =
              ap (λ (n : ℕ). drop n after) (sym sized) ∙ ap (drop (length words)) (ea ∙ written_is) ∙ put_behind out words fitting
              ∙ ap (λ (n : ℕ). drop n out) sized;
        }

    -- and as a shape they pass
    pub passes : (shape : Shape) → shape.size ≡ r.size → shape.align ≡ r.align → shape_refusal shape (front_words r after) ≡ accepted
    passes shape es el =
        rw front_is
        (shape_passes ts ms fine.lists fine.few shape (es ∙ ap (λ (k : Flattened). k.size) (er ∙ answer_is)) (el ∙ ap (λ (k : Flattened). k.align) (er ∙ answer_is)))
