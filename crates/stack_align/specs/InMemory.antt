-- The alignment of an aggregate in the argument area (REFERENCE 9.7), as the Rust's `in_memory` has it.
use Rattle.std.specs.Prelude.{ℕ, max, List, [], ◌∷◌, Bool, true, false, cond}
use Rattle.std.proofs.Math.Option.{Option}
use Rattle.std.proofs.Math.Option.Option.{none, some}
use Rattle.shape.specs.declared.Piece.{Piece}
use Rattle.shape.specs.declared.Shape.{Shape}
use Rattle.slots.specs.Search.{Search, found, nothing}
use Rattle.describe.specs.declared.Banks.{Banks}
use Rattle.describe.specs.declared.Terms.{Terms}
use Rattle.describe.specs.declared.Rule.{Rule}
use Rattle.describe.specs.declared.Test.{Test}
use Rattle.describe.specs.declared.Test as tests
use Rattle.describe.specs.declared.StackArgs.{StackArgs}
use Rattle.describe.specs.declared.StackArgs.TheVariants.{RegisterSized, Packed}
use Rattle.describe.specs.Description.{Description, terms_of}
use Rattle.find.specs.Find.{homogeneous}

-- the limit of the first rule for homogeneous aggregates, if there is one: what is homogeneous here is what the rules of arguments take for it
abbrev pub or_limit : Test → Option ℕ → Option ℕ
or_limit tests.TheVariants.Anything rest = rest
or_limit tests.TheVariants.Empty rest = rest
or_limit (tests.TheVariants.SizeOneOf k a b c d) rest = rest
or_limit (tests.TheVariants.SizeAtMost n) rest = rest
or_limit (tests.TheVariants.Homogeneous limit) rest = some limit
or_limit tests.TheVariants.FloatPair rest = rest
or_limit tests.TheVariants.X87Stack rest = rest
or_limit tests.TheVariants.LoneFloat rest = rest
or_limit tests.TheVariants.FloatingMode rest = rest
or_limit tests.TheVariants.ComplexFloat rest = rest
or_limit (tests.TheVariants.Eightbytes n) rest = rest

unfoldable pub homogeneous_limit : List Rule → Option ℕ
homogeneous_limit [] = none
homogeneous_limit (rule ∷ rules) = or_limit rule.when (homogeneous_limit rules)

abbrev pub is_found : Search → Bool
is_found (found ss) = true
is_found nothing = false

abbrev pub is_homogeneous_by : Option ℕ → Shape → List Piece → Bool
is_homogeneous_by none shape ps = false
is_homogeneous_by (some limit) shape ps = is_found (homogeneous limit shape ps)

-- in a packed area: a word boundary at least, unless the aggregate is homogeneous. clang for Apple's targets passes any other as an array of
-- 8-byte integers, which brings their alignment along; three floats stay 12 bytes on a boundary of 4
unfoldable pub packed_align : Banks → List Rule → Shape → List Piece → ℕ
packed_align banks arguments shape ps =
    cond (is_homogeneous_by (homogeneous_limit arguments) shape ps) shape.align (max shape.align banks.integer_width)

-- where the area isn't packed the answer is the aggregate's own alignment, and a bridge rounds it up to a word; on 32-bit x86 compilers take the
-- next word whatever it is (COMPILERS)
abbrev pub area_align : StackArgs → Banks → List Rule → Shape → List Piece → ℕ
area_align RegisterSized banks arguments shape ps = shape.align
area_align Packed banks arguments shape ps = packed_align banks arguments shape ps

-- what a fixed argument that travels as Memory is aligned to in the argument area, by terms and the rules for arguments. One after the dots isn't
-- packed, so it isn't asked about
unfoldable pub in_memory_by : Terms → List Rule → Shape → List Piece → ℕ
in_memory_by T arguments shape ps = area_align T.stack_args T.banks arguments shape ps

abbrev pub in_memory : Description → Shape → List Piece → ℕ
in_memory D shape ps = in_memory_by (terms_of D) D.arguments shape ps
