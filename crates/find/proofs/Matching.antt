-- The laws of `matches`: each way out of the code is one line of its definition, by the test that was asked.
use Rattle.std.specs.Prelude.{Option}
use Prim.Native.Nat.{ℕ}
use mathlib.Core.Path.{◌≡◌, refl}
use mathlib.Core.List.{List, []}
use mathlib.Core.Bool.{Bool, true, false}
use lib.Dec.{eqb, leb}
use Rattle.shape.specs.declared.Shape.{Shape}
use Rattle.shape.specs.declared.Piece.{Piece}
use Rattle.slots.specs.declared.Found.{Found}
use Rattle.slots.specs.declared.Source.TheVariants.{Empty, EachPiece, Classes}
use Rattle.slots.specs.Search.{found_of, floats_in}
use Rattle.describe.specs.declared.Banks.{Banks}
use Rattle.describe.specs.declared.Test.{Test}
use Rattle.describe.specs.declared.Test.TheVariants.{Anything, SizeOneOf, SizeAtMost, Homogeneous, FloatPair, X87Stack, LoneFloat, FloatingMode, ComplexFloat, Eightbytes}
use Rattle.describe.specs.declared.Test as tests
use Rattle.find.specs.Find.{found_if, homogeneous, float_pair, x87_stack, lone_float, floating_mode, complex_float}
use Rattle.eightbytes.specs.Eightbytes as eight
use Rattle.eightbytes.specs.declared.Class.{Class}
use Rattle.find.specs.declared.Matched.{Matched}
use Rattle.find.specs.Matches.{is_one_of, matches, matched, matched_by, found_where, no_classes}

found_where_lem : (b : Bool) → found_where b ≡ found_of (found_if b [])
unfolding found_of found_if floats_in
found_where_lem true = refl
found_where_lem false = refl

module _ (B : Banks) (test : Test) (shape : Shape) (ps : List Piece) where
  pub test_anything : test ≡ Anything → (r : Matched) → r ≡ matched (found_where true) Empty no_classes → r ≡ matched_by B test shape ps
  unfolding matched_by matches found_of floats_in
  test_anything e r er = rw (er, e)

  pub test_empty : test ≡ tests.TheVariants.Empty → (r : Matched) → r ≡ matched (found_where (eqb shape.size 0)) Empty no_classes → r ≡ matched_by B test shape ps
  unfolding matched_by matches
  test_empty e r er = rw (er, e, found_where_lem)

  pub test_one_of : (k a b c d : ℕ) → test ≡ SizeOneOf k a b c d → (b' : Bool) → b' ≡ is_one_of shape.size k a b c d
      → (r : Matched) → r ≡ matched (found_where b') Empty no_classes → r ≡ matched_by B test shape ps
  unfolding matched_by matches
  test_one_of k a b c d e b' eb r er = rw (er, eb, e, found_where_lem)

  pub test_at_most : (limit : ℕ) → test ≡ SizeAtMost limit → (r : Matched) → r ≡ matched (found_where (leb shape.size limit)) Empty no_classes
      → r ≡ matched_by B test shape ps
  unfolding matched_by matches
  test_at_most limit e r er = rw (er, e, found_where_lem)

  -- the tests that look inside, by what they found
  module _ (f : Option Found) (r : Matched) where
    pub test_homogeneous : (limit : ℕ) → test ≡ Homogeneous limit → f ≡ found_of (homogeneous limit shape ps)
        → r ≡ matched f EachPiece no_classes → r ≡ matched_by B test shape ps
    unfolding matched_by matches
    test_homogeneous limit e ef er = rw (er, ef, e)

    pub test_pair : test ≡ FloatPair → f ≡ found_of (float_pair B.integer_width B.float_width ps) → r ≡ matched f EachPiece no_classes
        → r ≡ matched_by B test shape ps
    unfolding matched_by matches
    test_pair e ef er = rw (er, ef, e)

    pub test_x87 : test ≡ X87Stack → f ≡ found_of (x87_stack shape ps) → r ≡ matched f EachPiece no_classes → r ≡ matched_by B test shape ps
    unfolding matched_by matches
    test_x87 e ef er = rw (er, ef, e)

    pub test_lone : test ≡ LoneFloat → f ≡ found_of (lone_float ps) → r ≡ matched f EachPiece no_classes → r ≡ matched_by B test shape ps
    unfolding matched_by matches
    test_lone e ef er = rw (er, ef, e)

    pub test_mode : test ≡ FloatingMode → f ≡ found_of (floating_mode shape) → r ≡ matched f Empty no_classes → r ≡ matched_by B test shape ps
    unfolding matched_by matches
    test_mode e ef er = rw (er, ef, e)

    pub test_complex : test ≡ ComplexFloat → f ≡ found_of (complex_float shape ps) → r ≡ matched f Empty no_classes → r ≡ matched_by B test shape ps
    unfolding matched_by matches
    test_complex e ef er = rw (er, ef, e)

  pub test_eightbytes : (limit : ℕ) → test ≡ Eightbytes limit → (f : Option Found) (cs : List Class)
      → (f ≡ found_of (eight.eightbytes limit shape ps)) × (cs ≡ eight.classes_of limit shape ps)
      → matched f (Classes shape.size) cs ≡ matched_by B test shape ps
  unfolding matched_by matches
  test_eightbytes limit e f cs ek = rw (ek.0, ek.1, e)
