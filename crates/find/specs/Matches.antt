-- What a rule's test finds in a shape (REFERENCE 7), where the slots stand that it found, and the classes of eightbytes beside them.
use Rattle.std.specs.Prelude.{ℕ, List, [], Bool, ◌&&◌, ◌||◌, replicate, leb, ltb, eqb, Option}
use Rattle.std.specs.Bool.{then_some}
use Rattle.shape.specs.declared.Piece.{Piece}
use Rattle.shape.specs.declared.Shape.{Shape}
use Rattle.slots.specs.declared.Found.{Found}
use Rattle.slots.specs.Search.{counted, found_of, Search, found}
use Rattle.describe.specs.declared.Banks.{Banks}
use Rattle.describe.specs.declared.Test.{Test}
use Rattle.describe.specs.declared.Test.TheVariants.{Anything, Empty, SizeOneOf, SizeAtMost, Homogeneous, FloatPair, X87Stack, LoneFloat, FloatingMode, ComplexFloat, Eightbytes}
use Rattle.eightbytes.specs.declared.Class.{Class}
use Rattle.eightbytes.specs.declared.Class.TheVariants.{None}
use Rattle.eightbytes.specs.Eightbytes as eight
use Rattle.slots.specs.declared.Source as sources
use Rattle.find.specs.declared.Matched.{Matched}
use Rattle.find.specs.Find.{found_if, homogeneous, float_pair, x87_stack, lone_float, floating_mode, complex_float}
use Rattle.eightbytes.specs.Eightbytes.{eightbytes}

-- one of the first so many of four sizes
abbrev pub is_one_of : ℕ → ℕ → ℕ → ℕ → ℕ → ℕ → Bool
is_one_of size k a b c d =
    (((ltb 0 k && eqb size a) || (ltb 1 k && eqb size b)) || (ltb 2 k && eqb size c)) || (ltb 3 k && eqb size d)

-- whether a test matches a shape, and the slots that it finds if it looks inside
unfoldable pub matches : Banks → Test → Shape → List Piece → Search
matches B Anything shape ps = found []
matches B Empty shape ps = found_if (eqb shape.size 0) []
matches B (SizeOneOf k a b c d) shape ps = found_if (is_one_of shape.size k a b c d) []
matches B (SizeAtMost limit) shape ps = found_if (leb shape.size limit) []
matches B (Homogeneous limit) shape ps = homogeneous limit shape ps
matches B FloatPair shape ps = float_pair B.integer_width B.float_width ps
matches B X87Stack shape ps = x87_stack shape ps
matches B LoneFloat shape ps = lone_float ps
matches B FloatingMode shape ps = floating_mode shape
matches B ComplexFloat shape ps = complex_float shape ps
matches B (Eightbytes limit) shape ps = eightbytes limit shape ps

-- where the slots that a test found stand
abbrev pub source_of : Test → ℕ → sources.Source
source_of Anything size = sources.TheVariants.Empty
source_of Empty size = sources.TheVariants.Empty
source_of (SizeOneOf k a b c d) size = sources.TheVariants.Empty
source_of (SizeAtMost limit) size = sources.TheVariants.Empty
source_of (Homogeneous limit) size = sources.TheVariants.EachPiece
source_of FloatPair size = sources.TheVariants.EachPiece
source_of X87Stack size = sources.TheVariants.EachPiece
source_of LoneFloat size = sources.TheVariants.EachPiece
source_of FloatingMode size = sources.TheVariants.Empty
source_of ComplexFloat size = sources.TheVariants.Empty
source_of (Eightbytes limit) size = sources.TheVariants.Classes size

-- ---- what the code answers: what a test finds, and beside it where that stands

abbrev pub no_classes : List Class
no_classes = replicate 8 None

-- the classes that stand beside what a test finds
abbrev pub classes_by : Test → Shape → List Piece → List Class
classes_by Anything shape ps = no_classes
classes_by Empty shape ps = no_classes
classes_by (SizeOneOf k a b c d) shape ps = no_classes
classes_by (SizeAtMost limit) shape ps = no_classes
classes_by (Homogeneous limit) shape ps = no_classes
classes_by FloatPair shape ps = no_classes
classes_by X87Stack shape ps = no_classes
classes_by LoneFloat shape ps = no_classes
classes_by FloatingMode shape ps = no_classes
classes_by ComplexFloat shape ps = no_classes
classes_by (Eightbytes limit) shape ps = eight.classes_of limit shape ps

abbrev pub matched : Option Found → sources.Source → List Class → Matched
matched counts source classes = record { found = counts; source = source; classes = classes }

unfoldable pub matched_by : Banks → Test → Shape → List Piece → Matched
matched_by B test shape ps = matched (found_of (matches B test shape ps)) (source_of test shape.size) (classes_by test shape ps)

abbrev pub found_where : Bool → Option Found
found_where holds = then_some holds (counted 0 0)
