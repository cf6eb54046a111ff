-- The laws of the writing: each way out of the code is one line of its definition, by where the slots stand.
use Prim.Native.Nat.{ℕ}
use mathlib.Core.Path.{◌≡◌, sym}
use mathlib.Core.List.{List, []}
use native.Mathlib.Omega.{arith}
use Rattle.shape.specs.declared.Piece.{Piece}
use Rattle.shape.specs.Words.{put_at}
use Rattle.slots.specs.Words.{slot, slot_words, words_of, written}
use Rattle.slots.specs.Cut.{cut}
use Rattle.shape.proofs.Put.{put_none}
use Rattle.find.specs.Find.{each_piece}
use Rattle.eightbytes.specs.declared.Class.{Class}
use Rattle.eightbytes.specs.Eightbytes as eight
use Rattle.slots.specs.declared.Source as sources
use Rattle.slot_writing.specs.Sources.{source_slots, scalar_slots}

pub nothing_written : (out : List ℕ) → out ≡ written [] out
unfolding written words_of
nothing_written out = sym (put_none out 0 (omega arith))

module _ (source : sources.Source) (cs : List Class) (ps : List Piece) (out : List ℕ) where
  pub write_none : source ≡ sources.TheVariants.Empty → out ≡ written (source_slots source cs ps) out
  unfolding source_slots
  write_none e = rw e (nothing_written out)

  module _ (out' : List ℕ) where
    pub write_each : source ≡ sources.TheVariants.EachPiece → out' ≡ written (each_piece ps) out → out' ≡ written (source_slots source cs ps) out
    unfolding source_slots
    write_each e eo = rw (eo, e)

    pub write_classes : (size : ℕ) → source ≡ sources.TheVariants.Classes size → out' ≡ written (eight.slots_of_eight size cs) out → out' ≡ written (source_slots source cs ps) out
    unfolding source_slots
    write_classes size e eo = rw (eo, e)

    pub write_cut : (size width : ℕ) → source ≡ sources.TheVariants.Cut size width → out' ≡ written (cut size width) out → out' ≡ written (source_slots source cs ps) out
    unfolding source_slots
    write_cut size width e eo = rw (eo, e)

    pub write_one : (k o n : ℕ) → source ≡ sources.TheVariants.One k o n → out' ≡ put_at out 0 (slot_words (slot k o n)) → out' ≡ written (source_slots source cs ps) out
    unfolding source_slots written words_of
    write_one k o n e eo = rw (eo, e)

-- and of a scalar
pub scalar_one : (source : sources.Source) (out out' : List ℕ) (k o n : ℕ) → source ≡ sources.TheVariants.One k o n → out' ≡ put_at out 0 (slot_words (slot k o n)) → out' ≡ written (scalar_slots source) out
unfolding scalar_slots written words_of
scalar_one source out out' k o n e eo = rw (eo, e)
