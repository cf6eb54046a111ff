-- The slots that a test found are those that stand where its source says: each piece's, those of the classes, or none.
use Prim.Native.Nat.{ℕ, zero, suc, ◌+◌, max}
use mathlib.Core.Path.{◌≡◌, refl, sym}
use mathlib.Core.List.{List, [], ◌∷◌, ◌++◌}
use mathlib.Core.Bool.{Bool, true, false}
use native.Mathlib.Omega.{arith}
use Rattle.shape.specs.declared.Piece.{Piece}
use Rattle.shape.specs.declared.Shape.{Shape}
use Rattle.slots.specs.declared.Slot.{Slot}
use Rattle.slots.specs.Search.{found, floats_in}
use Rattle.slots.specs.Cut.{up_to, ceil_div, part_of, cut}
use Rattle.describe.specs.declared.Banks.{Banks}
use Rattle.describe.specs.declared.Test.{Test}
use Rattle.describe.specs.declared.Test.TheVariants.{Anything, Empty, SizeOneOf, SizeAtMost, Homogeneous, FloatPair, X87Stack, LoneFloat, FloatingMode, ComplexFloat, Eightbytes}
use Rattle.find.specs.Find.{found_if}
use Rattle.find.proofs.Finds.{homogeneous_slots, pair_slots, x87_slots, lone_slots, mode_slots, complex_slots}
use Rattle.eightbytes.proofs.Found.{answer}
use Rattle.find.specs.Matches.{matches, source_of, classes_by}
use Rattle.slot_writing.specs.Sources.{source_slots}

-- a test of the size alone finds no slot
pub none_found : (b : Bool) (ss : List Slot) → found_if b [] ≡ found ss → [] ≡ ss
unfolding found_if
none_found true ss e = cc
none_found false ss e = cc

pub source_slots_lem : (B : Banks) (when : Test) (shape : Shape) (ps : List Piece) (ss : List Slot) → matches B when shape ps ≡ found ss
    → source_slots (source_of when shape.size) (classes_by when shape ps) ps ≡ ss
unfolding matches source_slots
source_slots_lem B Anything shape ps ss e = cc
source_slots_lem B Empty shape ps ss e = none_found _ ss e
source_slots_lem B (SizeOneOf k a b c d) shape ps ss e = none_found _ ss e
source_slots_lem B (SizeAtMost limit) shape ps ss e = none_found _ ss e
source_slots_lem B (Homogeneous limit) shape ps ss e = sym (homogeneous_slots limit shape ps ss e)
source_slots_lem B FloatPair shape ps ss e = sym (pair_slots B.integer_width B.float_width ps ss e)
source_slots_lem B X87Stack shape ps ss e = sym (x87_slots shape ps ss e)
source_slots_lem B LoneFloat shape ps ss e = sym (lone_slots ps ss e)
source_slots_lem B FloatingMode shape ps ss e = sym (mode_slots shape ss e)
source_slots_lem B ComplexFloat shape ps ss e = sym (complex_slots shape ps ss e)
source_slots_lem B (Eightbytes limit) shape ps ss e = sym (answer limit shape ps ss e).slots_are

-- none of a size's parts is a float
floats_append : (ss ts : List Slot) → floats_in (ss ++ ts) ≡ floats_in ss + floats_in ts
unfolding floats_in
floats_append [] ts = omega arith
floats_append (s ∷ ss) ts = let h : floats_in (ss ++ ts) ≡ floats_in ss + floats_in ts = floats_append ss ts in omega arith

floats_parts : (size w n : ℕ) → floats_in (up_to n (part_of size w)) ≡ 0
unfolding up_to floats_in
floats_parts size w zero = refl
floats_parts size w (suc n) = let h : floats_in (up_to n (part_of size w)) ≡ 0 = floats_parts size w n in rw floats_append (omega arith)

pub floats_cut : (size width : ℕ) → floats_in (cut size width) ≡ 0
unfolding cut
floats_cut size width = floats_parts size (max width 1) (ceil_div size (max width 1))
