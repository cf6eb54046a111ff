-- The laws of the tests, each with what the code looked at as premises: what fails decides, and where nothing fails the slots are found.
use Rattle.std.specs.Prelude.{Option, None}
use Rattle.std.specs.Bool.{then_some}
use Prim.Native.Nat.{ℕ, ◌+◌, ◌/◌}
use mathlib.Core.Path.{◌≡◌, refl, sym, ◌∙◌}
use mathlib.Core.List.{List, [], ◌∷◌}
use mathlib.Core.Bool.{Bool, true, false, not, ◌&&◌, ◌||◌, false≢true}
use native.Mathlib.Omega.{arith}
use borrow.Author.Tests.{not-true, not-false}
use lib.Dec.{eqb}
use lib.ListN.{length}
use Rattle.shape.proofs.Bools.{both_true, second_fails}
use Rattle.shape.specs.declared.Piece.{Piece}
use Rattle.shape.specs.declared.Shape.{Shape}
use Rattle.shape.specs.Numbers.{single, double, x87_extended, one_if}
use Rattle.shape.specs.Words.{pieces_of, piece_at}
use Rattle.shape.specs.Questions.{is_float, is_all_of}
use Rattle.shape.proofs.Words.{pieces_step, pieces_end, length_pieces}
use Rattle.slots.specs.declared.Found.{Found}
use Rattle.slots.specs.Search.{counted, floats_in, found_of}
use Rattle.find.specs.Find.{found_if, piece_slot, fits_one, float_pair, x87_stack, lone_float, floating_mode, complex_float}
use Rattle.find.proofs.Each.{float_kind, length_at, floats_at_lem, slot_kind}
use Rattle.find.proofs.AllAlike.{then_found}
pub use Rattle.find.proofs.AllAlike.{Fields, fields}

-- ---- float_pair

-- whether one of two is a float, by how many are
no_float : (f g : Bool) → one_if f + one_if g ≡ 0 → f || g ≡ false
no_float true true e = absurd (omega arith)
no_float true false e = absurd (omega arith)
no_float false true e = absurd (omega arith)
no_float false false e = refl

a_float : (f g : Bool) → (one_if f + one_if g ≡ 0 → ⊥) → f || g ≡ true
a_float true g e = refl
a_float false true e = refl
a_float false false e = absurd (e refl)

-- words that hold one piece, and two
one_piece : (ws : List ℕ) → length ws / 4 ≡ 1 → pieces_of ws ≡ piece_at ws 0 ∷ []
one_piece ws n = pieces_step ws 0 (omega arith) ∙ rw (pieces_end ws 4 (omega arith))

two_pieces : (ws : List ℕ) → length ws / 4 ≡ 2 → pieces_of ws ≡ piece_at ws 0 ∷ piece_at ws 4 ∷ []
two_pieces ws n = pieces_step ws 0 (omega arith) ∙ rw (pieces_step ws 4 (omega arith), pieces_end ws 8 (omega arith))

module _ (iw fw : ℕ) (p : Piece) where
  -- one piece
  pub member : (f b : Bool) → f ≡ is_float p.kind → b ≡ fits_one iw fw p → then_some (f && b) (counted 1 1) ≡ found_of (float_pair iw fw (p ∷ []))
  unfolding float_pair floats_in
  member f b ef eb =
      rw (← ef, ← eb)
      (then_found (f && b) (piece_slot p ∷ []) 1 1 (λ t. refl) (λ t. rw (slot_kind p, ← ef, (both_true f b t).0)))

  -- two pieces
  module _ (q : Piece) (f g : Bool) (ef : f ≡ is_float p.kind) (eg : g ≡ is_float q.kind)
      (n m : ℕ) (en : n ≡ one_if f) (em : m ≡ one_if g) where
    pub members_integers : n + m ≡ 0 → None ≡ found_of (float_pair iw fw (p ∷ q ∷ []))
    unfolding float_pair found_if found_of
    members_integers z = rw (← ef, ← eg, no_float f g (rw (← en, ← em) z))

    pub members : (n + m ≡ 0 → ⊥) → (b d : Bool) → b ≡ fits_one iw fw p → d ≡ fits_one iw fw q
        → then_some (b && d) (counted 2 (n + m)) ≡ found_of (float_pair iw fw (p ∷ q ∷ []))
    unfolding float_pair floats_in
    members z b d eb ed =
        let s : one_if g + 0 ≡ one_if g = omega arith in
        rw (← ef, ← eg, a_float f g (rw (← en, ← em) z), ← eb, ← ed)
        (then_found (b && d) (piece_slot p ∷ piece_slot q ∷ []) 2 (n + m) (λ t. refl) (λ t. rw (slot_kind p, slot_kind q, ← ef, ← eg, s, en, em)))

-- the pieces of words that hold one or two
module _ (iw fw : ℕ) (ws : List ℕ) (p : Piece) (ep : p ≡ piece_at ws 0) (r : Option Found) where
  pub pair_one : length ws / 4 ≡ 1 → r ≡ found_of (float_pair iw fw (p ∷ [])) → r ≡ found_of (float_pair iw fw (pieces_of ws))
  pair_one n e = rw (one_piece ws n, ← ep, e)

  pub pair_two : length ws / 4 ≡ 2 → (q : Piece) → q ≡ piece_at ws 4 → r ≡ found_of (float_pair iw fw (p ∷ q ∷ [])) → r ≡ found_of (float_pair iw fw (pieces_of ws))
  pair_two n q eq e = rw (two_pieces ws n, ← ep, ← eq, e)

pub pair_none : (iw fw : ℕ) (ws : List ℕ) → (length ws / 4 ≡ 1 → ⊥) → (length ws / 4 ≡ 2 → ⊥) → None ≡ found_of (float_pair iw fw (pieces_of ws))
unfolding float_pair found_of
pair_none iw fw ws h k = go (pieces_of ws) (length_pieces ws)
  where
    go : (ps : List Piece) → length ps ≡ length ws / 4 → None ≡ found_of (float_pair iw fw ps)
    go [] l = refl
    go (p ∷ []) l = absurd (h (sym l))
    go (p ∷ q ∷ []) l = absurd (k (sym l))
    go (p ∷ q ∷ t ∷ ps) l = refl

-- ---- x87_stack

module _ (shape : Shape) (ws : List ℕ) where
  pub x87_not : not (eqb (length ws / 4) 1 || eqb (length ws / 4) 2 && shape.complex) ≡ true → None ≡ found_of (x87_stack shape (pieces_of ws))
  unfolding x87_stack found_if found_of
  x87_not h = rw (length_pieces, second_fails (is_all_of x87_extended (pieces_of ws)) _ (not-true _ h))

  pub x87_few : not (eqb (length ws / 4) 1 || eqb (length ws / 4) 2 && shape.complex) ≡ false → (b : Bool) → b ≡ is_all_of x87_extended (pieces_of ws)
      → then_some b (counted (length ws / 4) (length ws / 4)) ≡ found_of (x87_stack shape (pieces_of ws))
  unfolding x87_stack
  x87_few n b eb =
      let s : is_all_of x87_extended (pieces_of ws) && (eqb (length (pieces_of ws)) 1 || eqb (length (pieces_of ws)) 2 && shape.complex) ≡ b =
      rw (length_pieces, not-false _ n, ← eb) (go b) in
      rw s (then_found b _ _ _ (λ t. length_at x87_extended (pieces_of ws) ∙ length_pieces ws) (λ t. floats_at_lem x87_extended (pieces_of ws) refl ∙ length_pieces ws))
    where
      go : (b : Bool) → b && true ≡ b
      go true = refl
      go false = refl

-- ---- lone_float

pub single_or_double : (k : ℕ) → eqb k single || eqb k double ≡ true → is_float k ≡ true
single_or_double k e = float_kind k (λ z. let f : eqb k single || eqb k double ≡ false = rw z in let x : ◌≡◌ {A = ℕ} 0 1 = cc in omega arith)

pub lone_none : (ws : List ℕ) → (length ws / 4 ≡ 1 → ⊥) → None ≡ found_of (lone_float (pieces_of ws))
unfolding lone_float found_of
lone_none ws h = go (pieces_of ws) (length_pieces ws)
  where
    go : (ps : List Piece) → length ps ≡ length ws / 4 → None ≡ found_of (lone_float ps)
    go [] l = refl
    go (p ∷ []) l = absurd (h (sym l))
    go (p ∷ q ∷ ps) l = refl

pub lone : (ws : List ℕ) → length ws / 4 ≡ 1 → (p : Piece) → p ≡ piece_at ws 0 → then_some (eqb p.kind single || eqb p.kind double) (counted 1 1) ≡ found_of (lone_float (pieces_of ws))
unfolding lone_float floats_in
lone ws n p ep =
    rw (one_piece ws n, ← ep)
    (then_found (eqb p.kind single || eqb p.kind double) _ 1 1 (λ t. refl) (λ t. rw (single_or_double p.kind t)))

-- ---- floating_mode, complex_float

outer_false : (a b c : Bool) → not (a && c) ≡ true → a && b && c ≡ false
outer_false true b c h = second_fails b c (not-true c h)
outer_false false b c h = refl

outer_true : (a b c : Bool) → not (a && c) ≡ false → a && b && c ≡ b
outer_true true true true h = refl
outer_true true false true h = refl
outer_true true b false h = absurd (false≢true (sym h))
outer_true false b c h = absurd (false≢true (sym h))

pub mode : (shape : Shape) → then_some (shape.complex || shape.floating) (counted 0 0) ≡ found_of (floating_mode shape)
unfolding floating_mode floats_in
mode shape = then_found (shape.complex || shape.floating) [] 0 0 (λ t. refl) (λ t. refl)

module _ (shape : Shape) (ws : List ℕ) where
  pub complex_none : not (shape.complex && eqb shape.size 8) ≡ true → None ≡ found_of (complex_float shape (pieces_of ws))
  unfolding complex_float found_if found_of
  complex_none h = rw (outer_false shape.complex (is_all_of single (pieces_of ws)) (eqb shape.size 8) h)

  pub complex_eight : not (shape.complex && eqb shape.size 8) ≡ false → (b : Bool) → b ≡ is_all_of single (pieces_of ws)
      → then_some b (counted 0 0) ≡ found_of (complex_float shape (pieces_of ws))
  unfolding complex_float floats_in
  complex_eight h b eb =
      rw (outer_true shape.complex (is_all_of single (pieces_of ws)) (eqb shape.size 8) h, ← eb)
      (then_found b [] 0 0 (λ t. refl) (λ t. refl))
