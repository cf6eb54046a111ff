-- The record that some pieces make passes the checks of a shape with these pieces, so no operation refuses it for itself: none of them ends past it.
use Prim.Native.Nat.{ℕ, zero, suc, ◌+◌, ◌≤◌}
use mathlib.Core.Path.{◌≡◌, refl, ◌∙◌}
use mathlib.Core.List.{List, [], ◌∷◌}
use mathlib.Core.Bool.{Bool, true, false}
use native.Mathlib.Omega.{arith}
use borrow.Author.Tests.{le-ltb, ltb-false, eqb-false}
use lib.Dec.{ltb, eqb}
use Rattle.shape.specs.declared.Piece.{Piece}
use Rattle.shape.specs.declared.Shape.{Shape}
use Rattle.shape.specs.Lists.{any}
use Rattle.shape.specs.Numbers.{accepted, bad_size, most_offset, most_align}
use Rattle.shape.specs.Words.{pieces_of}
use Rattle.checks.specs.Check.{or_else, pieces_refusal, extent_refusal, list_refusal, shape_refusal}
use Rattle.checks.proofs.Accepted.{else_none, within_first, after_all}
use Rattle.layouts.specs.Answers.{Recorded}
use Rattle.shape.specs.Arithmetic.{round_up}
use Rattle.layouts.specs.Record.{max_of, largest_align, furthest_end, is_floating, recorded, refuse_record, record_made, or_record, record_answer}
use Rattle.shape.proofs.Rounding.{round_least}
use Rattle.layouts.proofs.Making.{largest_bound}

-- pieces end where the furthest does, or before
ends_inside : (size : ℕ) (ps : List Piece) → pieces_refusal ps ≡ accepted → furthest_end ps ≤ size → extent_refusal size ps ≡ accepted
unfolding extent_refusal any max_of
ends_inside size [] e h = refl
ends_inside size (p ∷ ps) e h =
    let x = within_first p ps e in
    let rest = ends_inside size ps x.1 (omega arith) in
    rw (le-ltb size (p.offset + p.size) (omega (arith, x.0.size≤, x.0.offset≤))) rest

-- what is to be shown of the record's shape
record Holds (ps : List Piece) (shape : Shape) : Type 0 where
  size≤ : shape.size ≤ most_offset
  align≤ : shape.align ≤ most_align
  inside : extent_refusal shape.size ps ≡ accepted

-- what isn't refused is what comes behind the test
behind : (b : Bool) (n : ℕ) (rest : Recorded) → (refuse_record b (suc n) rest).refusal ≡ accepted
    → (b ≡ false) × (rest.refusal ≡ accepted) × (refuse_record b (suc n) rest ≡ rest)
behind true n rest e = absurd (omega arith)
behind false n rest e = (refl, e, refl)

made_holds : (ps : List Piece) → pieces_refusal ps ≡ accepted → (record_made ps).refusal ≡ accepted → Holds ps (record_made ps).shape
unfolding record_made extent_refusal any
made_holds [] ok e = record { size≤ = omega arith; align≤ = omega arith; inside = refl }
made_holds (p ∷ ps) ok e =
    let align : ℕ = largest_align (p ∷ ps) in
    let size : ℕ = round_up (furthest_end (p ∷ ps)) align in
    let made : Recorded = recorded accepted size align (is_floating size (p ∷ ps)) in
    let a = behind (eqb align 0) 5 (refuse_record (ltb most_offset size) bad_size made) e in
    let s = behind (ltb most_offset size) 4 made a.1 in
    let above = eqb-false align 0 a.0 in
    rw (a.2, s.2)
    (record {
      size≤ = ltb-false _ _ s.0;
      align≤ = largest_bound (p ∷ ps) ok;
      inside = ends_inside size (p ∷ ps) ok (round_least (furthest_end (p ∷ ps)) align (omega (arith, above)));
    })

pub record_passes : (ws : List ℕ) → (record_answer ws).refusal ≡ accepted → shape_refusal (record_answer ws).shape ws ≡ accepted
unfolding record_answer
record_passes ws = go (or_else (list_refusal ws) (pieces_refusal (pieces_of ws))) refl
  where
    go : (n : ℕ) → or_else (list_refusal ws) (pieces_refusal (pieces_of ws)) ≡ n → (or_record n (record_made (pieces_of ws))).refusal ≡ accepted
        → shape_refusal (or_record n (record_made (pieces_of ws))).shape ws ≡ accepted
    go zero e z =
        let both = else_none (list_refusal ws) _ e in
        let made = made_holds (pieces_of ws) both.1 z in
        after_all _ ws (record { list = both.0; size≤ = made.size≤; align≤ = made.align≤; pieces = both.1 }) ∙ made.inside
    go (suc n) e z = absurd (omega arith)
