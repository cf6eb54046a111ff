-- What "not refused" gives its users: the limits that an accepted scalar, piece, list and shape keep. And what a refusal with BAD_EXTENT gives them.
use Prim.Native.Nat.{ℕ, zero, suc, ◌+◌, ◌/◌, ◌%◌, ◌^◌, ◌≤◌, ◌<◌}
use mathlib.Core.Path.{◌≡◌, refl, sym, ◌∙◌}
use mathlib.Core.List.{List, [], ◌∷◌}
use mathlib.Core.Bool.{Bool, true, false, ◌||◌}
use native.Mathlib.Omega.{arith}
use borrow.Author.Tests.{le-ltb, ltb-false}
use lib.Dec.{ltb}
use lib.ListN.{length}
use Rattle.shape.specs.declared.Piece.{Piece}
use Rattle.shape.specs.declared.Scalar.{Scalar}
use Rattle.shape.specs.declared.Shape.{Shape}
use Rattle.shape.specs.Lists.{any}
use Rattle.shape.specs.Numbers.{quad, accepted, bad_list, bad_kind, bad_size, bad_align, bad_extent, most_size, most_offset, most_align, most_pieces}
use Rattle.shape.specs.Words.{pieces_of}
use Rattle.checks.specs.Check.{refuse, or_else, scalar_refusal, piece_refusal, pieces_refusal, is_past, extent_refusal, list_refusal, shape_refusal, Passes, EndsPast}
use Rattle.shape.proofs.Bools.{both_false}
use Rattle.shape.proofs.Words.{length_pieces}

-- an answer that isn't this check's own number is that of what comes after it
refuse_other : (b : Bool) (n rest m : ℕ) → (n ≡ m → ⊥) → refuse b n rest ≡ m → (b ≡ false) × (rest ≡ m)
refuse_other true n rest m h e = absurd (h e)
refuse_other false n rest m h e = (refl, e)

pub else_other : (a rest m : ℕ) → (a ≡ m → a ≡ accepted) → or_else a rest ≡ m → (a ≡ accepted) × (rest ≡ m)
else_other zero rest m h e = (refl, e)
else_other (suc a) rest m h e = let z : suc a ≡ accepted = h e in absurd (omega arith)

pub refuse_none : (b : Bool) (n rest : ℕ) → refuse b (suc n) rest ≡ accepted → (b ≡ false) × (rest ≡ accepted)
refuse_none b n rest = refuse_other b (suc n) rest accepted (λ x. omega arith)

pub else_none : (a rest : ℕ) → or_else a rest ≡ accepted → (a ≡ accepted) × (rest ≡ accepted)
else_none a rest = else_other a rest accepted (λ z. z)

-- an answer that is no number of the checks of a list, of a shape's size and alignment, or of a piece
record Other (m : ℕ) : Type 0 where
  list : bad_list ≡ m → ⊥
  kind : bad_kind ≡ m → ⊥
  size : bad_size ≡ m → ⊥
  align : bad_align ≡ m → ⊥

accepted_other : Other accepted
accepted_other = record { list = λ x. omega arith; kind = λ x. omega arith; size = λ x. omega arith; align = λ x. omega arith }

extent_other : Other bad_extent
extent_other = record { list = λ x. omega arith; kind = λ x. omega arith; size = λ x. omega arith; align = λ x. omega arith }

-- the limits that an accepted scalar keeps
pub record Fits (s : Scalar) : Type 0 where
  pub kind≤ : s.kind ≤ quad
  pub size≤ : s.size ≤ most_size
  pub align≤ : s.align ≤ most_align

pub fits : (s : Scalar) → scalar_refusal s ≡ accepted → Fits s
unfolding scalar_refusal
fits s e =
    let k = refuse_none (ltb quad s.kind) 3 _ e in
    let z = refuse_none (ltb most_size s.size) 4 _ k.1 in
    let a = refuse_none (ltb most_align s.align) 5 _ z.1 in
    record { kind≤ = ltb-false _ _ k.0; size≤ = ltb-false _ _ z.0; align≤ = ltb-false _ _ a.0 }

-- the limits that an accepted piece keeps
pub record Within (p : Piece) : Type 0 where
  pub kind≤ : p.kind ≤ quad
  pub size≤ : p.size ≤ most_size
  pub offset≤ : p.offset ≤ most_offset
  pub align≤ : p.align ≤ most_align

within_other : (p : Piece) (m : ℕ) → Other m → piece_refusal p ≡ m → Within p × (accepted ≡ m)
unfolding piece_refusal
within_other p m other e =
    let k = refuse_other (ltb quad p.kind) bad_kind _ m other.kind e in
    let z = refuse_other (ltb most_size p.size) bad_size _ m other.size k.1 in
    let o = refuse_other (ltb most_offset p.offset) bad_size _ m other.size z.1 in
    let a = refuse_other (ltb most_align p.align) bad_align _ m other.align o.1 in
    (record { kind≤ = ltb-false _ _ k.0; size≤ = ltb-false _ _ z.0; offset≤ = ltb-false _ _ o.0; align≤ = ltb-false _ _ a.0 }, a.1)

within : (p : Piece) → piece_refusal p ≡ accepted → Within p
within p e = (within_other p accepted accepted_other e).0

-- so the sum of its offset and its size fits a word
pub end_fits : (p : Piece) → accepted ≡ piece_refusal p → p.offset + p.size < 2 ^ 64
end_fits p e = let w = within p (sym e) in omega (arith, w.size≤, w.offset≤)

-- the first of some accepted pieces is within the limits, and the rest is accepted
pub within_first : (p : Piece) (ps : List Piece) → pieces_refusal (p ∷ ps) ≡ accepted → Within p × (pieces_refusal ps ≡ accepted)
unfolding pieces_refusal
within_first p ps e = let x = else_none _ _ e in (within p x.0, x.1)

-- an accepted list: whole pieces, not too many
pub record Whole (ws : List ℕ) : Type 0 where
  pub whole : length ws % 4 ≡ 0
  pub few : length ws / 4 ≤ most_pieces

whole_other : (ws : List ℕ) (m : ℕ) → Other m → list_refusal ws ≡ m → Whole ws × (accepted ≡ m)
unfolding list_refusal
whole_other ws m other e =
    let w = refuse_other (ltb 0 (length ws % 4)) bad_list _ m other.list e in
    let n = refuse_other (ltb most_pieces (length (pieces_of ws))) bad_list _ m other.list w.1 in
    let z : length ws % 4 ≤ 0 = ltb-false _ _ w.0 in
    let few : length (pieces_of ws) ≤ most_pieces = ltb-false _ _ n.0 in
    (record { whole = omega arith; few = omega (arith, length_pieces ws) }, n.1)

pub whole_list : (ws : List ℕ) → list_refusal ws ≡ accepted → Whole ws
whole_list ws e = (whole_other ws accepted accepted_other e).0

-- ---- where the pieces of a shape end

-- the first of some pieces that all end inside a size does, and so do the others
pub inside_first : (size : ℕ) (p : Piece) (ps : List Piece) → extent_refusal size (p ∷ ps) ≡ accepted
    → (p.offset + p.size ≤ size) × (extent_refusal size ps ≡ accepted)
unfolding extent_refusal any
inside_first size p ps e =
    let none_past = (refuse_none (is_past size p || any (is_past size) ps) 8 _ e).0 in
    let both = both_false (is_past size p) (any (is_past size) ps) none_past in
    (ltb-false _ _ both.0, rw both.1)

-- where a shape's answer is none of the numbers before, all that comes before passes, and the answer is that of the pieces' ends
pieces_other : (ps : List Piece) (m : ℕ) → Other m → pieces_refusal ps ≡ m → pieces_refusal ps ≡ accepted
unfolding pieces_refusal
pieces_other [] m other e = refl
pieces_other (p ∷ ps) m other e =
    let x = else_other (piece_refusal p) (pieces_refusal ps) m (λ h. h ∙ sym (within_other p m other h).1) e in
    rw (x.0, pieces_other ps m other x.1)

shape_other : (shape : Shape) (ws : List ℕ) (m : ℕ) → Other m → shape_refusal shape ws ≡ m → Passes shape ws × (extent_refusal shape.size (pieces_of ws) ≡ m)
unfolding shape_refusal
shape_other shape ws m other e =
    let l = else_other (list_refusal ws) _ m (λ h. h ∙ sym (whole_other ws m other h).1) e in
    let s = refuse_other (ltb most_offset shape.size) bad_size _ m other.size l.1 in
    let a = refuse_other (ltb most_align shape.align) bad_align _ m other.align s.1 in
    let ps = else_other (pieces_refusal (pieces_of ws)) _ m (pieces_other (pieces_of ws) m other) a.1 in
    (record { list = l.0; size≤ = ltb-false _ _ s.0; align≤ = ltb-false _ _ a.0; pieces = ps.0 }, ps.1)

-- and the other way round
pub after_all : (shape : Shape) (ws : List ℕ) → Passes shape ws → shape_refusal shape ws ≡ extent_refusal shape.size (pieces_of ws)
unfolding shape_refusal
after_all shape ws ok = rw (ok.list, le-ltb _ _ ok.size≤, le-ltb _ _ ok.align≤, ok.pieces)

-- so every piece of an accepted shape ends inside it
pub inside_shape : (shape : Shape) (ws : List ℕ) → shape_refusal shape ws ≡ accepted → extent_refusal shape.size (pieces_of ws) ≡ accepted
inside_shape shape ws e = (shape_other shape ws accepted accepted_other e).1

-- and BAD_EXTENT is given where all that comes before passes and a piece ends past the size, and nowhere else
pub past_only : (shape : Shape) (ws : List ℕ) → shape_refusal shape ws ≡ bad_extent → EndsPast shape ws
unfolding extent_refusal
past_only shape ws e =
    let x = shape_other shape ws bad_extent extent_other e in
    record { passes = x.0; past = go (any (is_past shape.size) (pieces_of ws)) x.1 }
  where
    go : (b : Bool) → refuse b bad_extent accepted ≡ bad_extent → b ≡ true
    go true e = refl
    go false e = absurd (omega arith)

pub past_always : (shape : Shape) (ws : List ℕ) → EndsPast shape ws → shape_refusal shape ws ≡ bad_extent
unfolding extent_refusal
past_always shape ws e = after_all shape ws e.passes ∙ rw e.past
