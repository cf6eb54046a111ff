-- The slots that are written, from where they stand.
use Rattle.std.specs.Prelude.{List, [], ◌∷◌}
use Rattle.shape.specs.declared.Piece.{Piece}
use Rattle.slots.specs.declared.Slot.{Slot}
use Rattle.slots.specs.Words.{slot}
use Rattle.slots.specs.Cut.{cut}
use Rattle.find.specs.Find.{each_piece}
use Rattle.eightbytes.specs.declared.Class.{Class}
use Rattle.eightbytes.specs.Eightbytes as eight
use Rattle.slots.specs.declared.Source as sources

-- the slots of a decision, from where they stand
unfoldable pub source_slots : sources.Source → List Class → List Piece → List Slot
source_slots sources.TheVariants.Empty classes ps = []
source_slots sources.TheVariants.EachPiece classes ps = each_piece ps
source_slots (sources.TheVariants.Classes size) classes ps = eight.slots_of_eight size classes
source_slots (sources.TheVariants.Cut size width) classes ps = cut size width
source_slots (sources.TheVariants.One kind offset size) classes ps = slot kind offset size ∷ []

-- those of a scalar, which has neither pieces nor eightbytes
unfoldable pub scalar_slots : sources.Source → List Slot
scalar_slots sources.TheVariants.Empty = []
scalar_slots sources.TheVariants.EachPiece = []
scalar_slots (sources.TheVariants.Classes size) = []
scalar_slots (sources.TheVariants.Cut size width) = cut size width
scalar_slots (sources.TheVariants.One kind offset size) = slot kind offset size ∷ []
