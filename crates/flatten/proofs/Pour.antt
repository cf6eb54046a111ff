-- Pieces poured into a buffer one after another: a run and then the rest, and what a run comes to where it fits.
use Prim.Native.Nat.{ℕ, ◌+◌, ◌*◌, ◌≤◌, ◌<◌}
use mathlib.Core.Path.{◌≡◌, refl, sym, ◌∙◌}
use mathlib.Core.Bool.{Bool, true, false}
use mathlib.Core.List.{List, [], ◌∷◌, ◌++◌}
use native.Mathlib.Omega.{arith}
use borrow.Author.Tests.{le-leb, lt-ltb, le-ltb, leb-true}
use lib.Dec.{leb}
use lib.ListN.{length}
use Rattle.shape.specs.declared.Piece.{Piece}
use Rattle.shape.specs.Words.{piece_words, put_at}
use Rattle.shape.proofs.Put.{put_split, put_none, length_put}
use Rattle.layouts.specs.Members.{pieces_words}
use Rattle.layouts.proofs.Members.{length_words}
use Rattle.flatten.specs.Writing.{if_leaves, next_at, pour_at, pour_words}

-- ---- one piece

module _ (ws : List ℕ) (at : ℕ) (b : Bool) (eb : b ≡ leb (at + 4) (length ws)) where
  pub next_fits : b ≡ true → at + 4 ≡ next_at ws at
  unfolding next_at
  next_fits h = rw (← eb, h)

  pub next_short : b ≡ false → at ≡ next_at ws at
  unfolding next_at
  next_short h = rw (← eb, h)

  pub next_within : b ≡ true → at + 4 ≤ length ws
  next_within h = leb-true _ _ (sym eb ∙ h)

pub one_at : (p : Piece) (ws : List ℕ) (at r : ℕ) → r ≡ next_at ws at → r ≡ pour_at (p ∷ []) ws at
unfolding pour_at
one_at p ws at r h = h

pub one_words : (p : Piece) (ws : List ℕ) (at : ℕ) (vs : List ℕ) → vs ≡ put_at ws at (piece_words p) → vs ≡ pour_words (p ∷ []) ws at
unfolding pour_words
one_words p ws at vs h = h

-- ---- a run, and then the rest

pour_at_append : (ps qs : List Piece) (ws : List ℕ) (at : ℕ) → pour_at (ps ++ qs) ws at ≡ pour_at qs (pour_words ps ws at) (pour_at ps ws at)
unfolding pour_at pour_words
pour_at_append [] qs ws at = refl
pour_at_append (p ∷ ps) qs ws at = pour_at_append ps qs (put_at ws at (piece_words p)) (next_at ws at)

pour_words_append : (ps qs : List Piece) (ws : List ℕ) (at : ℕ) → pour_words (ps ++ qs) ws at ≡ pour_words qs (pour_words ps ws at) (pour_at ps ws at)
unfolding pour_at pour_words
pour_words_append [] qs ws at = refl
pour_words_append (p ∷ ps) qs ws at = pour_words_append ps qs (put_at ws at (piece_words p)) (next_at ws at)

-- one turn of a loop that pours: `whole` is what the rest decides
module _ (ps qs all : List Piece) (ea : all ≡ ps ++ qs) (ws : List ℕ) (at r : ℕ) (er : r ≡ pour_at ps ws at) (vs : List ℕ) (ev : vs ≡ pour_words ps ws at) where
  pub turn_at : (whole : ℕ) → whole ≡ pour_at all ws at → whole ≡ pour_at qs vs r
  turn_at whole h = rw (h, ea, er, ev) (pour_at_append ps qs ws at)

  pub turn_words : (whole : List ℕ) → whole ≡ pour_words all ws at → whole ≡ pour_words qs vs r
  turn_words whole h = rw (h, ea, er, ev) (pour_words_append ps qs ws at)

-- no turn is left
module _ (all : List Piece) (ea : all ≡ []) (ws : List ℕ) (at : ℕ) where
  pub done_at : (whole : ℕ) → whole ≡ pour_at all ws at → at ≡ whole
  unfolding pour_at
  done_at whole h = rw (h, ea)

  pub done_words : (whole : List ℕ) → whole ≡ pour_words all ws at → ws ≡ whole
  unfolding pour_words
  done_words whole h = rw (h, ea)

-- what a callee poured, said of the same pieces
module _ (ps qs : List Piece) (e : ps ≡ qs) (ws : List ℕ) (at : ℕ) where
  pub said_at : (r : ℕ) → r ≡ pour_at ps ws at → r ≡ pour_at qs ws at
  said_at r h = h ∙ rw e

  pub said_words : (vs : List ℕ) → vs ≡ pour_words ps ws at → vs ≡ pour_words qs ws at
  said_words vs h = h ∙ rw e

-- what has leaves is poured, and what has none isn't
module _ (leaves : ℕ) (ps : List Piece) (ws : List ℕ) (at : ℕ) where
  pub some_at : 0 < leaves → (r s : ℕ) → r ≡ s → s ≡ pour_at ps ws at → r ≡ pour_at (if_leaves leaves ps) ws at
  some_at h r s p q = rw (lt-ltb _ _ h) (p ∙ q)

  pub some_words : 0 < leaves → (vs us : List ℕ) → vs ≡ us → us ≡ pour_words ps ws at → vs ≡ pour_words (if_leaves leaves ps) ws at
  some_words h vs us p q = rw (lt-ltb _ _ h) (p ∙ q)

  pub none_at : leaves ≤ 0 → (r : ℕ) → r ≡ at → r ≡ pour_at (if_leaves leaves ps) ws at
  unfolding pour_at
  none_at h r p = rw (le-ltb _ _ h) p

  pub none_words : leaves ≤ 0 → (vs : List ℕ) → vs ≡ ws → vs ≡ pour_words (if_leaves leaves ps) ws at
  unfolding pour_words
  none_words h vs p = rw (le-ltb _ _ h) p

-- ---- where all fit, what is poured is one run of words

next_on : (ws : List ℕ) (at : ℕ) → at + 4 ≤ length ws → next_at ws at ≡ at + 4
unfolding next_at
next_on ws at h = rw (le-leb _ _ h)

pub pour_fits : (ps : List Piece) (ws : List ℕ) (at : ℕ) → at + 4 * length ps ≤ length ws → pour_words ps ws at ≡ put_at ws at (pieces_words ps)
unfolding pour_words pieces_words
pour_fits [] ws at h = sym (put_none ws at (omega arith))
pour_fits (p ∷ ps) ws at h =
    let l : length (put_at ws at (piece_words p)) ≡ length ws = length_put ws at (piece_words p) (omega arith) in
    let w : length (pieces_words ps) ≡ 4 * length ps = length_words ps in
    rw (next_on ws at (omega arith))
    (pour_fits ps (put_at ws at (piece_words p)) (at + 4) (omega arith) ∙ sym (put_split ws at (piece_words p) (pieces_words ps) (omega arith)))
