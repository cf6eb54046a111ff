-- What description 1's rules answer for an aggregate of size above 0, read from the table's row: homogeneous pieces, sixteen bytes, or more.
use Prim.Native.Nat.{ℕ, ◌-◌, ◌≤◌, ◌<◌}
use mathlib.Core.Path.{◌≡◌, refl}
use mathlib.Core.List.{List}
use mathlib.Core.Bool.{Bool, true, false, cond, ◌&&◌}
use native.Mathlib.Omega.{arith}
use mathlib.Core.Option.Option.{some}
use lib.Dec.{leb}
use lib.ListN.{length}
use borrow.Author.Tests.{ne_eqb, le-leb, lt-leb}
use Rattle.shape.specs.declared.Arg.TheVariants.{Aggregate}
use Rattle.shape.specs.declared.Piece.{Piece}
use Rattle.shape.specs.declared.Shape.{Shape}
use Rattle.slots.specs.declared.Slot.{Slot}
use Rattle.slots.specs.Search.{found, nothing, floats_in}
use Rattle.slots.specs.Cut.{cut}
use Rattle.find.specs.Find.{found_if, homogeneous}
use Rattle.abis.specs.Abis.{described, descriptions}
use Rattle.find.specs.Matches.{matches}
use Rattle.classify.specs.Pass.{pieces, reference, memory}
use Rattle.classify.specs.Classify.{Passed, passed, counts, drained_to, short_of, slots_in_registers, travel, or_rest, apply, argument, returns}

-- slots of which some are floats: in registers, or in memory with each short bank drained
abbrev pub spent : ℕ → ℕ → List Slot → Passed
spent I F ss =
    cond (leb (length ss - floats_in ss) I && leb (floats_in ss) F)
    (passed (pieces ss) (counts (I - (length ss - floats_in ss)) (F - floats_in ss)))
    (passed memory (counts (drained_to (length ss - floats_in ss) I) (drained_to (floats_in ss) F)))

settled : (b : Bool) (p q rest : Passed) → or_rest (cond b (some p) (some q)) rest ≡ cond b p q
settled true p q rest = refl
settled false p q rest = refl

module _ (shape : Shape) (ps : List Piece) (positive : 0 < shape.size) where
  full : shape.size ≡ 0 → ⊥
  full e = omega arith

  module _ (I F : ℕ) where
    pub argument_found : (ss : List Slot) → homogeneous 4 shape ps ≡ found ss
        → argument (described 1) (counts I F) (Aggregate shape) ps ≡ spent I F ss
    unfolding argument described descriptions apply matches found_if travel slots_in_registers short_of
    argument_found ss e = rw (ne_eqb shape.size 0 full, e) (settled (leb (length ss - floats_in ss) I && leb (floats_in ss) F) _ _ _)

    module _ (e : homogeneous 4 shape ps ≡ nothing) where
      pub argument_small : shape.size ≤ 16
          → argument (described 1) (counts I F) (Aggregate shape) ps ≡ spent I F (cut shape.size 8)
      unfolding argument described descriptions apply matches found_if travel slots_in_registers short_of
      argument_small h =
          rw (ne_eqb shape.size 0 full, e, le-leb shape.size 16 h)
          (settled (leb (length (cut shape.size 8) - floats_in (cut shape.size 8)) I && leb (floats_in (cut shape.size 8)) F) _ _ _)

      pub argument_large : 16 < shape.size
          → argument (described 1) (counts I F) (Aggregate shape) ps ≡ passed reference (counts (I - 1) F)
      unfolding argument described descriptions apply matches found_if travel
      argument_large h = rw (ne_eqb shape.size 0 full, e, lt-leb shape.size 16 h)

    pub returns_found : (ss : List Slot) → homogeneous 4 shape ps ≡ found ss
        → returns (described 1) (counts I F) (Aggregate shape) ps ≡ passed (pieces ss) (counts I F)
    unfolding returns described descriptions apply matches found_if travel slots_in_registers
    returns_found ss e = rw (ne_eqb shape.size 0 full, e)

    module _ (e : homogeneous 4 shape ps ≡ nothing) where
      pub returns_small : shape.size ≤ 16
          → returns (described 1) (counts I F) (Aggregate shape) ps ≡ passed (pieces (cut shape.size 8)) (counts I F)
      unfolding returns described descriptions apply matches found_if travel slots_in_registers
      returns_small h = rw (ne_eqb shape.size 0 full, e, le-leb shape.size 16 h)

      pub returns_large : 16 < shape.size
          → returns (described 1) (counts I F) (Aggregate shape) ps ≡ passed reference (counts I F)
      unfolding returns described descriptions apply matches found_if travel
      returns_large h = rw (ne_eqb shape.size 0 full, e, lt-leb shape.size 16 h)
