-- The tests that look inside a shape (REFERENCE 7): the slots that each finds in a shape's pieces, or nothing. A test reads what stands in its
-- definition and nothing else: the first reads no offset, the next three no size of the shape.
use Rattle.std.specs.Prelude.{ℕ, ◌*◌, List, [], ◌∷◌, Bool, true, false, ◌&&◌, cond, ◌||◌, leb, eqb, length}
use Rattle.shape.specs.declared.Piece.{Piece}
use Rattle.shape.specs.declared.Shape.{Shape}
use Rattle.shape.specs.Questions.{is_float, is_all_of}
use Rattle.slots.specs.declared.Slot.{Slot}
use Rattle.slots.specs.Words.{float_slot, integer_slot}
use Rattle.slots.specs.Search.{Search, found, nothing}
use Rattle.shape.specs.Numbers.{single, double, x87_extended}

-- the slots where the test holds
unfoldable pub found_if : Bool → List Slot → Search
found_if true ss = found ss
found_if false ss = nothing

-- a float slot of one format at each piece's offset, which a run of slots doesn't tell: floats of an aggregate are their size apart, eightbytes
-- eight bytes, and an integer may stand behind a hole
unfoldable pub floats_at : ℕ → List Piece → List Slot
floats_at format [] = []
floats_at format (p ∷ ps) = float_slot format p.offset ∷ floats_at format ps

-- two pieces are the same scalar: kind, size and alignment. Format and size are two facts: an x87 value has 12 bytes on one target, 16 on another.
-- The Rust compares scalars whole, and so the alignment; AAPCS64 and compilers don't look at that (DIFFERENCES, COMPILERS)
abbrev pub same_scalar : Piece → Piece → Bool
same_scalar p q = eqb q.kind p.kind && eqb q.size p.size && eqb q.align p.align

-- every piece is the same scalar as this one
unfoldable pub all_same : Piece → List Piece → Bool
all_same p [] = true
all_same p (q ∷ qs) = same_scalar p q && all_same p qs

-- the first is a float, there are no more than the limit, every piece is the same scalar as the first, and together they fill the shape: one that
-- is stretched past its floats, by a declared alignment or a bit-field of no width, isn't homogeneous. A union of equal floats has more in its
-- pieces than its size, and isn't either, though it is to AAPCS64 (DIFFERENCES)
unfoldable pub is_homogeneous : ℕ → Shape → Piece → List Piece → Bool
is_homogeneous limit shape first ps =
    is_float first.kind && leb (length ps) limit && all_same first ps && eqb (first.size * length ps) shape.size

unfoldable pub homogeneous : ℕ → Shape → List Piece → Search
homogeneous limit shape [] = nothing
homogeneous limit shape (first ∷ rest) =
    found_if (is_homogeneous limit shape first (first ∷ rest)) (floats_at first.kind (first ∷ rest))

-- a piece's own slot: a float in its format, an integer of its size
unfoldable pub piece_slot : Piece → Slot
piece_slot p = cond (is_float p.kind) (float_slot p.kind p.offset) (integer_slot p.offset p.size)

-- a register of its bank holds a piece: a float is no wider than a float's register, an integer no wider than an integer's. A long double on LP64D
-- is wider than a float register, so its record is no pair and goes by its size, as an integer pair does
unfoldable pub fits_one : ℕ → ℕ → Piece → Bool
fits_one integer_width float_width p = cond (is_float p.kind) (leb p.size float_width) (leb p.size integer_width)

-- one piece that is a float, or two of which one at least is a float; each fits one register. Two integers are left to the rule of the size
unfoldable pub float_pair : ℕ → ℕ → List Piece → Search
float_pair iw fw [] = nothing
float_pair iw fw (only ∷ []) = found_if (is_float only.kind && fits_one iw fw only) (piece_slot only ∷ [])
float_pair iw fw (first ∷ second ∷ []) =
    found_if ((is_float first.kind || is_float second.kind) && fits_one iw fw first && fits_one iw fw second) (piece_slot first ∷ piece_slot second ∷ [])
float_pair iw fw (first ∷ second ∷ third ∷ rest) = nothing

-- one x87 value, or the two of a complex: st0, st1. A record of two long doubles has the same pieces at the same places and comes back in memory,
-- so the mark is needed
unfoldable pub x87_stack : Shape → List Piece → Search
x87_stack shape ps =
    found_if
    (is_all_of x87_extended ps && (eqb (length ps) 1 || (eqb (length ps) 2 && shape.complex)))
    (floats_at x87_extended ps)

-- one piece that is a Single or a Double: on 32-bit x86 gcc gives such a record the mode of its float, so that it comes back in st0 as the float
-- does. A long double isn't meant: the Rust and clang bring its record back through an address, gcc in st0 (COMPILERS)
unfoldable pub lone_float : List Piece → Search
lone_float [] = nothing
lone_float (p ∷ []) = found_if (eqb p.kind single || eqb p.kind double) (float_slot p.kind p.offset ∷ [])
lone_float (p ∷ q ∷ rest) = nothing

-- complex, or of a floating mode; it finds no slot. The mode is a mark that the caller hands in, since pieces have lost what it hangs on: gcc gives
-- a record of one float such a mode, and a union of one float none
unfoldable pub floating_mode : Shape → Search
floating_mode shape = found_if (shape.complex || shape.floating) []

-- a complex whose pieces are all Single, of eight bytes; it finds no slot, for it comes back as its bytes in edx:eax, as libgcc's __mulsc3 and
-- __divsc3 answer. A wider complex doesn't fit there, and a record of two Singles is a structure, which comes back in memory
unfoldable pub complex_float : Shape → List Piece → Search
complex_float shape ps = found_if (shape.complex && is_all_of single ps && eqb shape.size 8) []

-- a slot for each piece: what each of the first four finds, where it finds anything
unfoldable pub each_piece : List Piece → List Slot
each_piece [] = []
each_piece (p ∷ ps) = piece_slot p ∷ each_piece ps
