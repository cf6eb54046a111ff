-- The laws of the largest of a measure, and of the record that pieces make.
use Prim.Native.Nat.{ℕ, zero, suc, ◌%◌, ◌≤◌, ◌<◌, max}
use mathlib.Core.Path.{◌≡◌, refl, sym, ◌∙◌}
use mathlib.Core.List.{List, [], ◌∷◌}
use mathlib.Core.Bool.{Bool, false}
use native.Mathlib.Omega.{arith}
use borrow.Author.Tests.{lt-ltb, le-ltb, eq-eqb, ne_eqb}
use lib.Dec.{ltb, eqb}
use lib.ListN.{length}
use Rattle.std.specs.List.{fold}
use Rattle.shape.specs.declared.Piece.{Piece}
use Rattle.shape.specs.declared.refusals.Refusal.{Refusal}
use Rattle.shape.specs.Numbers.{accepted, bad_size, bad_align, most_offset}
use Rattle.shape.specs.Refusals.{number_of}
use Rattle.shape.specs.Arithmetic.{round_up, rounded}
use Rattle.shape.specs.Words.{pieces_of}
use Rattle.checks.specs.Check.{list_refusal, pieces_refusal}
use Rattle.shape.proofs.Refused.{number_refuses}
use Rattle.shape.proofs.Rounding.{round_within}
use Rattle.shape.proofs.Words.{pieces_step, pieces_end}
use Rattle.checks.proofs.Accepted.{within_first, whole_list}
use Rattle.checks.proofs.Check.{else_number}
use Rattle.layouts.specs.Answers.{Recorded}
use Rattle.layouts.specs.Record.{max_of, largest_align, furthest_end, is_floating, recorded, refuse_record, record_made, or_record, record_answer}

-- ---- the largest of a measure, kept along the pieces

max_on : (f : Piece → ℕ) (best : ℕ) (ps : List Piece) → fold (λ b p. max b (f p)) best ps ≡ max best (max_of f ps)
unfolding max_of
max_on f best [] = omega arith
max_on f best (p ∷ ps) = max_on f (max best (f p)) ps ∙ omega arith

pub max_fold : (f : Piece → ℕ) (ps : List Piece) → fold (λ b p. max b (f p)) 0 ps ≡ max_of f ps
max_fold f ps = max_on f 0 ps ∙ omega arith

-- ---- bounds of accepted pieces

furthest_bound : (ps : List Piece) → pieces_refusal ps ≡ accepted → furthest_end ps ≤ 16777280
unfolding max_of
furthest_bound [] e = omega arith
furthest_bound (p ∷ ps) e =
    let x = within_first p ps e in
    let r : furthest_end ps ≤ 16777280 = furthest_bound ps x.1 in
    omega (arith, x.0.size≤, x.0.offset≤)

pub largest_bound : (ps : List Piece) → pieces_refusal ps ≡ accepted → largest_align ps ≤ 4096
unfolding max_of
largest_bound [] e = omega arith
largest_bound (p ∷ ps) e =
    let x = within_first p ps e in
    let r : largest_align ps ≤ 4096 = largest_bound ps x.1 in
    omega (arith, x.0.align≤)

-- ---- the record

record_some : (p : Piece) (qs ps : List Piece) → ps ≡ p ∷ qs
    → record_made ps
    ≡ refuse_record (eqb (largest_align ps) 0) bad_align
    (refuse_record (ltb most_offset (round_up (furthest_end ps) (largest_align ps))) bad_size
    (recorded accepted (round_up (furthest_end ps) (largest_align ps)) (largest_align ps) (is_floating (round_up (furthest_end ps) (largest_align ps)) ps)))
unfolding record_made
record_some p qs ps e = rw e

or_refused : (n : ℕ) → (n ≡ accepted → ⊥) → (rest : Recorded) → recorded n 0 0 false ≡ or_record n rest
or_refused zero h rest = absurd (h refl)
or_refused (suc n) h rest = refl

module _ (ws : List ℕ) where
  pub record_list : (r : Refusal) → number_of r ≡ list_refusal ws → recorded (number_of r) 0 0 false ≡ record_answer ws
  unfolding record_answer
  record_list r e = rw (← e, ← else_number) (or_refused (number_of r) (number_refuses r) _)

  module _ (zl : accepted ≡ list_refusal ws) where
    pub record_pieces : (r : Refusal) → number_of r ≡ pieces_refusal (pieces_of ws) → recorded (number_of r) 0 0 false ≡ record_answer ws
    unfolding record_answer
    record_pieces r e = rw (← zl, ← e) (or_refused (number_of r) (number_refuses r) _)

    module _ (z : accepted ≡ pieces_refusal (pieces_of ws)) where
      by_pieces : record_answer ws ≡ record_made (pieces_of ws)
      unfolding record_answer
      by_pieces = rw (← zl, ← z)

      pub record_empty : length ws ≡ 0 → recorded accepted 0 1 false ≡ record_answer ws
      unfolding record_made
      record_empty l = rw (by_pieces, pieces_end ws 0 (omega arith))

      module _ (l : length ws ≡ 0 → ⊥) (align : ℕ) (ea : align ≡ largest_align (pieces_of ws)) where
        opened : record_answer ws
            ≡ refuse_record (eqb align 0) bad_align
            (refuse_record (ltb most_offset (round_up (furthest_end (pieces_of ws)) align)) bad_size
            (recorded accepted (round_up (furthest_end (pieces_of ws)) align) align (is_floating (round_up (furthest_end (pieces_of ws)) align) (pieces_of ws))))
        opened =
            let w : length ws % 4 ≡ 0 = (whole_list ws (sym zl)).whole in
            rw (ea, by_pieces) (record_some _ _ (pieces_of ws) (pieces_step ws 0 (omega arith)))

        pub record_align : align ≡ 0 → recorded bad_align 0 0 false ≡ record_answer ws
        record_align a = rw (opened, eq-eqb _ _ a)

        module _ (a : align ≡ 0 → ⊥) (e : ℕ) (ee : e ≡ furthest_end (pieces_of ws)) (size : ℕ) (er : size ≡ rounded e align) where
          -- accepted pieces are far below any wrap
          es : size ≡ round_up e align
          es =
              let m : max align 1 ≡ align = omega arith in
              rw m at (round_within e align size er (omega (arith, furthest_bound (pieces_of ws) (sym z), largest_bound (pieces_of ws) (sym z))))

          pub record_large : most_offset < size → recorded bad_size 0 0 false ≡ record_answer ws
          record_large s = rw (opened, ne_eqb _ _ a, ← ee, ← es, lt-ltb _ _ s)

          pub record_accepted : size ≤ most_offset → (f : Bool) → f ≡ is_floating size (pieces_of ws) → recorded accepted size align f ≡ record_answer ws
          record_accepted s f ef = rw (opened, ne_eqb _ _ a, ← ee, ← es, le-ltb _ _ s, ef)

pub ruleset record_laws = (record_list, record_pieces, record_empty, record_align, record_large, record_accepted)
