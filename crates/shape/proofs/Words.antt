-- Records by place: where a whole record is left at a place of some words, the records from there on are that one and those after it.
-- These are the only laws that open `pieces_of` and `scalars_of`.
use Prim.Native.Nat.{ℕ, zero, suc, ◌+◌, ◌-◌, ◌/◌, ◌≤◌, ◌<◌}
use mathlib.Core.Path.{◌≡◌, refl, ap}
use mathlib.Core.List.{List, [], ◌∷◌, ◌++◌, map}
use Rattle.std.specs.Simd.{first_chunks}
use mathlib.Core.Bool.{Bool, true, false, not, ◌&&◌}
use native.Mathlib.Numerals.{add-one}
use native.Mathlib.Omega.{arith}
use borrow.Author.Tests.{not-true, not-false}
use lib.ListN.{length, drop, get_or, length-drop}
use lib.Seq.{drop-cons}
use Rattle.shape.specs.declared.Piece.{Piece}
use Rattle.shape.specs.declared.Scalar.{Scalar}
use Rattle.shape.specs.Words.{piece, piece_from, pieces_of, first_piece, piece_at, scalar, scalar_from, scalars_of, first_scalar, scalar_at}

-- the words from a place are the word there and the words from the next
pub drop_word : (ws : List ℕ) (at : ℕ) → at < length ws → drop at ws ≡ get_or ws at 0 ∷ drop (at + 1) ws
drop_word ws at h = rw (add-one, drop-cons ws at 0)

-- reads in a row, as the code has them: of the place `at`, and then of `at + 1`, `at + 2`, ..
abbrev reads_from : List ℕ → ℕ → ℕ → ℕ → List ℕ
reads_from ws at i zero = []
reads_from ws at i (suc n) = get_or ws (at + i) 0 ∷ reads_from ws at (suc i) n

abbrev reads : List ℕ → ℕ → ℕ → List ℕ
reads ws at zero = []
reads ws at (suc n) = get_or ws at 0 ∷ reads_from ws at 1 n

drop_from : (ws : List ℕ) (at i n : ℕ) → at + i + n ≤ length ws → drop (at + i) ws ≡ reads_from ws at i n ++ drop (at + i + n) ws
drop_from ws at i zero h = let e : at + i + 0 ≡ at + i = omega arith in rw e
drop_from ws at i (suc n) h =
    let s : at + i + 1 ≡ at + suc i = omega arith in
    let e : at + i + suc n ≡ at + suc i + n = omega arith in
    rw (drop_word ws (at + i) (omega arith), s, e, drop_from ws at (suc i) n (omega arith))

-- the words from a place are those read there and the words behind them
drop_reads : (ws : List ℕ) (at n : ℕ) → at + n ≤ length ws → drop at ws ≡ reads ws at n ++ drop (at + n) ws
drop_reads ws at zero h = let e : at + 0 ≡ at = omega arith in rw e
drop_reads ws at (suc n) h =
    let e : at + suc n ≡ at + 1 + n = omega arith in
    rw (drop_word ws at (omega arith), e, drop_from ws at 1 n (omega arith))

-- ---- pieces

few_pieces : (ws : List ℕ) → length ws < 4 → pieces_of ws ≡ []
unfolding pieces_of
few_pieces [] h = refl
few_pieces (k ∷ []) h = refl
few_pieces (k ∷ s ∷ []) h = refl
few_pieces (k ∷ s ∷ a ∷ []) h = refl
few_pieces (k ∷ s ∷ a ∷ o ∷ ws) h = absurd (omega arith)

-- the pieces of some words are those of the words in fours
pub pieces_chunks : (ws : List ℕ) → map piece_from (first_chunks 4 (length ws / 4) ws) ≡ pieces_of ws
unfolding pieces_of
pieces_chunks [] = refl
pieces_chunks (k ∷ []) = refl
pieces_chunks (k ∷ s ∷ []) = refl
pieces_chunks (k ∷ s ∷ a ∷ []) = refl
pieces_chunks (k ∷ s ∷ a ∷ o ∷ ws) =
    let n : length (k ∷ s ∷ a ∷ o ∷ ws) / 4 ≡ suc (length ws / 4) = omega arith in
    rw n (ap (λ ps. piece k s a o ∷ ps) (pieces_chunks ws))

-- how many pieces some words hold
pub length_pieces : (ws : List ℕ) → length (pieces_of ws) ≡ length ws / 4
unfolding pieces_of
length_pieces [] = refl
length_pieces (k ∷ []) = refl
length_pieces (k ∷ s ∷ []) = refl
length_pieces (k ∷ s ∷ a ∷ []) = refl
length_pieces (k ∷ s ∷ a ∷ o ∷ ws) = let h : length (pieces_of ws) ≡ length ws / 4 = length_pieces ws in omega arith

module _ (ws : List ℕ) (at : ℕ) where
  -- what `piece_at` reads
  pub read_piece : at + 4 ≤ length ws
      → piece (get_or ws at 0) (get_or ws (at + 1) 0) (get_or ws (at + 2) 0) (get_or ws (at + 3) 0) ≡ piece_at ws at
  unfolding pieces_of first_piece piece_at
  read_piece h = rw (drop_reads ws at 4 h)

  pub no_piece : length ws < at + 4 → piece 0 0 0 0 ≡ piece_at ws at
  unfolding first_piece piece_at
  no_piece h = rw (few_pieces (drop at ws) (simp length-drop (omega arith)))

  -- a loop's step and its end
  pub pieces_step : at + 4 ≤ length ws → pieces_of (drop at ws) ≡ piece_at ws at ∷ pieces_of (drop (at + 4) ws)
  unfolding pieces_of first_piece piece_at
  pieces_step h = rw (drop_reads ws at 4 h)

  pub pieces_end : length ws < at + 4 → pieces_of (drop at ws) ≡ []
  pieces_end h = few_pieces (drop at ws) (simp length-drop (omega arith))

-- ---- scalars

few_scalars : (ws : List ℕ) → length ws < 3 → scalars_of ws ≡ []
unfolding scalars_of
few_scalars [] h = refl
few_scalars (k ∷ []) h = refl
few_scalars (k ∷ s ∷ []) h = refl
few_scalars (k ∷ s ∷ a ∷ ws) h = absurd (omega arith)

-- the scalars of some words are those of the words in threes
pub scalars_chunks : (ws : List ℕ) → map scalar_from (first_chunks 3 (length ws / 3) ws) ≡ scalars_of ws
unfolding scalars_of
scalars_chunks [] = refl
scalars_chunks (k ∷ []) = refl
scalars_chunks (k ∷ s ∷ []) = refl
scalars_chunks (k ∷ s ∷ a ∷ ws) =
    let n : length (k ∷ s ∷ a ∷ ws) / 3 ≡ suc (length ws / 3) = omega arith in
    rw n (ap (λ ss. scalar k s a ∷ ss) (scalars_chunks ws))

-- how many scalars some words hold
pub length_scalars : (ws : List ℕ) → length (scalars_of ws) ≡ length ws / 3
unfolding scalars_of
length_scalars [] = refl
length_scalars (k ∷ []) = refl
length_scalars (k ∷ s ∷ []) = refl
length_scalars (k ∷ s ∷ a ∷ ws) = let h : length (scalars_of ws) ≡ length ws / 3 = length_scalars ws in omega arith

module _ (ws : List ℕ) (at : ℕ) where
  -- what `scalar_at` reads
  pub read_scalar : at + 3 ≤ length ws → scalar (get_or ws at 0) (get_or ws (at + 1) 0) (get_or ws (at + 2) 0) ≡ scalar_at ws at
  unfolding scalars_of first_scalar scalar_at
  read_scalar h = rw (drop_reads ws at 3 h)

  pub no_scalar : length ws < at + 3 → scalar 0 0 0 ≡ scalar_at ws at
  unfolding first_scalar scalar_at
  no_scalar h = rw (few_scalars (drop at ws) (simp length-drop (omega arith)))

  -- a loop's step and its end
  pub scalars_step : at + 3 ≤ length ws → scalars_of (drop at ws) ≡ scalar_at ws at ∷ scalars_of (drop (at + 3) ws)
  unfolding scalars_of first_scalar scalar_at
  scalars_step h = rw (drop_reads ws at 3 h)

  pub scalars_end : length ws < at + 3 → scalars_of (drop at ws) ≡ []
  scalars_end h = few_scalars (drop at ws) (simp length-drop (omega arith))

-- ---- loops over records, whose invariant is that what the records from the place on decide is what all decide

-- how records of so many words stand in words
pub record Records (A : Type 0) (size : ℕ) (all : List ℕ → List A) (one : List ℕ → ℕ → A) : Type 0 where
  pub step : (ws : List ℕ) (at : ℕ) → at + size ≤ length ws → all (drop at ws) ≡ one ws at ∷ all (drop (at + size) ws)
  pub end : (ws : List ℕ) (at : ℕ) → length ws < at + size → all (drop at ws) ≡ []

pub pieces : Records Piece 4 pieces_of piece_at
pieces = record { step = pieces_step; end = pieces_end }

pub scalars : Records Scalar 3 scalars_of scalar_at
scalars = record { step = scalars_step; end = scalars_end }

-- a definition by the first record and the rest
pub record ByFirst {A B C : Type 0} (f : List A → B) (g : A → C) (op : C → B → B) (last : B) : Type 0 where
  pub none : f [] ≡ last
  pub more : (x : A) (xs : List A) → f (x ∷ xs) ≡ op (g x) (f xs)

module _ {A B C : Type 0} {size : ℕ} {all : List ℕ → List A} {one : List ℕ → ℕ → A} (r : Records A size all one)
    {f : List A → B} {g : A → C} {op : C → B → B} {last : B} (d : ByFirst f g op last)
    (total : B) (ws : List ℕ) (at : ℕ) (inv : total ≡ f (all (drop at ws))) (w : at ≤ length ws) where
  pub loop_end : length ws - at < size → last ≡ total
  loop_end h = rw (inv, r.end ws at (omega arith), d.none)

  pub loop_turn : size ≤ length ws - at → (x : A) → x ≡ one ws at → total ≡ op (g x) (f (all (drop (at + size) ws)))
  loop_turn h x e = rw (inv, r.step ws at (omega arith), ← e, d.more)

-- whether all records pass a test that depends on a key: one that doesn't decides
module _ {A K : Type 0} {size : ℕ} {all : List ℕ → List A} {one : List ℕ → ℕ → A} (r : Records A size all one)
    {f : K → List A → Bool} {test : K → A → Bool} (d : (key : K) → ByFirst (f key) (test key) ◌&&◌ true)
    (key : K) (total : Bool) (ws : List ℕ) (at : ℕ) (inv : total ≡ f key (all (drop at ws))) (w : at ≤ length ws) where
  pub test_end : length ws - at < size → true ≡ total
  test_end h = loop_end r (d key) total ws at inv w h

  module _ (h : size ≤ length ws - at) (x : A) (e : x ≡ one ws at) where
    pub test_broken : not (test key x) ≡ true → false ≡ total
    test_broken t = rw (loop_turn r (d key) total ws at inv w h x e, not-true (test key x) t)

    pub test_next : not (test key x) ≡ false → total ≡ f key (all (drop (at + size) ws))
    test_next t = rw (loop_turn r (d key) total ws at inv w h x e, not-false (test key x) t)
