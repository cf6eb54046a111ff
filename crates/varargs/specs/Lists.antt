-- The callee's side of a variable argument list on description 0 (REFERENCE 15), from the psABI, 3.5.7: what is refused, in which area and where
-- a scalar's own bytes stand, and the offsets after it.
use Rattle.std.specs.Prelude.{ℕ, ◌≤◌, ◌+◌, ◌%◌, Bool, ◌&&◌, ◌||◌, not, cond, List, [], ltb, leb, eqb, length, take, drop, Option, Some, None, Result, Ok, Err}
use Rattle.shape.specs.declared.Scalar.{Scalar}
use Rattle.shape.specs.Numbers.{integer, single, double, x87_extended, quad, accepted, bad_kind, bad_size, bad_align, bad_area, most_size, most_align}
use Rattle.shape.specs.Refusals.{number_of}
use Rattle.shape.specs.declared.refusals.Refusal.{Refusal}
use Rattle.checks.specs.Check.{refuse}
use Rattle.shape.specs.Arithmetic.{round_up}
use Rattle.varargs.specs.declared.Offsets.{Offsets}
use Rattle.varargs.specs.declared.Area as areas
use Rattle.varargs.specs.declared.Located as places
use Rattle.varargs.specs.declared.Reading.{Reading}

-- ---- where a scalar's own bytes stand, with the offsets after it; or the refusal, with those that were handed in

pub data Area : Type 0 where
  Nowhere : Area
  Save : Area
  Overflow : Area

pub record Located : Type 0 where
  pub refusal : ℕ
  pub area : Area
  pub start : ℕ
  pub length : ℕ
  pub next : Offsets

-- ---- the save area: six integer places of 8 bytes from 0, and eight float places of 16 behind them

abbrev pub integer_place : ℕ
integer_place = 8

abbrev pub integer_end : ℕ
integer_end = 48

abbrev pub float_place : ℕ
float_place = 16

abbrev pub float_start : ℕ
float_start = 48

abbrev pub float_end : ℕ
float_end = 176

abbrev pub save_bytes : ℕ
save_bytes = 176

abbrev pub area_number : Area → ℕ
area_number Nowhere = 0
area_number Save = 1
area_number Overflow = 2

-- ---- what is refused

-- an integer has one of five sizes, a format its own
unfoldable pub is_own_size : ℕ → ℕ → Bool
is_own_size kind size =
    cond (eqb kind integer) ((((eqb size 1 || eqb size 2) || eqb size 4) || eqb size 8) || eqb size 16)
    (cond (eqb kind single) (eqb size 4)
    (cond (eqb kind double) (eqb size 8) (eqb size 16)))

-- a scalar, by kind, size, alignment: the limits of every scalar, and those of a list's
unfoldable pub unnamed_refusal : Scalar → ℕ
unnamed_refusal s =
    refuse (ltb quad s.kind) bad_kind
    (refuse (ltb most_size s.size || not (is_own_size s.kind s.size)) bad_size
    (refuse (ltb most_align s.align || not (eqb s.align s.size)) bad_align accepted))

-- 0, 8, .., 40, or the end
abbrev pub is_integer_offset : ℕ → Bool
is_integer_offset n = leb n integer_end && eqb (n % integer_place) 0

-- 48, 64, .., 160, or the end
abbrev pub is_float_offset : ℕ → Bool
is_float_offset n = (leb float_start n && leb n float_end) && eqb (n % float_place) 0

abbrev pub is_save_area : ℕ → Offsets → Bool
is_save_area bytes at = (eqb bytes save_bytes && is_integer_offset at.integer) && is_float_offset at.float

abbrev pub located_nowhere : ℕ → Offsets → Located
located_nowhere refusal at = record { refusal = refusal; area = Nowhere; start = 0; length = 0; next = at }

-- ---- what an answer of the code tells: the code has an area only where nothing is refused, and an error has no offsets of its own

abbrev pub area_of : areas.Area → Area
area_of areas.TheVariants.Save = Save
area_of areas.TheVariants.Overflow = Overflow

-- none, where nothing stands
abbrev pub area_told : Option areas.Area → Area
area_told (Some a) = area_of a
area_told None = Nowhere

abbrev pub placed : places.Located → Located
placed l = record { refusal = accepted; area = area_of l.area; start = l.start; length = l.length; next = l.next }

-- of the offsets that were handed in
abbrev pub told : Result places.Located Refusal → Offsets → Located
told (Ok l) at = placed l
told (Err r) at = located_nowhere (number_of r) at

-- ---- where a scalar stands

-- an alignment above 8 rounds the overflow offset up to 16
unfoldable pub overflow_start : ℕ → ℕ → ℕ
overflow_start overflow align = cond (ltb 8 align) (round_up overflow 16) overflow

-- in an area of so many bytes: the next offset is behind the scalar, in eightbytes, and may lie behind the area's end
unfoldable pub in_overflow : ℕ → Offsets → Scalar → Located
in_overflow bytes at s =
    let start : ℕ = overflow_start at.overflow s.align in
    cond (ltb bytes (start + s.size)) (located_nowhere bad_area at)
    (record {
      refusal = accepted;
      area = Overflow;
      start = start;
      length = s.size;
      next = record { integer = at.integer; float = at.float; overflow = start + round_up s.size 8 };
    })

-- at a start in a bank of the save area, with the offsets behind it, where the bank has room
abbrev pub in_bank : ℕ → Offsets → Scalar → ℕ → Bool → Offsets → Located
in_bank bytes at s start room next =
    cond room (record { refusal = accepted; area = Save; start = start; length = s.size; next = next }) (in_overflow bytes at s)

-- all of the integer places that it needs, or none
unfoldable pub in_integers : ℕ → Offsets → Scalar → Located
in_integers bytes at s =
    cond (leb (at.integer + round_up s.size integer_place) integer_end)
    (record {
      refusal = accepted;
      area = Save;
      start = at.integer;
      length = s.size;
      next = record { integer = at.integer + round_up s.size integer_place; float = at.float; overflow = at.overflow };
    })
    (in_overflow bytes at s)

-- one float place
unfoldable pub in_floats : ℕ → Offsets → Scalar → Located
in_floats bytes at s =
    cond (leb (at.float + float_place) float_end)
    (record {
      refusal = accepted;
      area = Save;
      start = at.float;
      length = s.size;
      next = record { integer = at.integer; float = at.float + float_place; overflow = at.overflow };
    })
    (in_overflow bytes at s)

-- a scalar that is accepted, where the save area is one; an X87 is always in the overflow area
unfoldable pub standing : ℕ → Offsets → Scalar → Located
standing bytes at s =
    cond (eqb s.kind integer) (in_integers bytes at s)
    (cond (eqb s.kind x87_extended) (in_overflow bytes at s) (in_floats bytes at s))

-- by the lengths of the save area and of the overflow area
unfoldable pub located : ℕ → ℕ → Offsets → Scalar → Located
located save overflow at s =
    cond (not (eqb (unnamed_refusal s) accepted)) (located_nowhere (unnamed_refusal s) at)
    (cond (not (is_save_area save at)) (located_nowhere bad_area at) (standing overflow at s))

-- ---- its bytes

abbrev pub bytes_of : Area → List ℕ → List ℕ → List ℕ
bytes_of Nowhere save overflow = []
bytes_of Save save overflow = save
bytes_of Overflow save overflow = overflow

unfoldable pub part_of : List ℕ → List ℕ → Located → List ℕ
part_of save overflow l = take l.length (drop l.start (bytes_of l.area save overflow))

-- a part lies in its area, of so many bytes
abbrev pub room_of : Area → ℕ → ℕ → ℕ
room_of Nowhere save overflow = 0
room_of Save save overflow = save
room_of Overflow save overflow = overflow

abbrev pub Inside : ℕ → ℕ → Located → Type 0
Inside save overflow l = l.start + l.length ≤ room_of l.area save overflow

-- ---- what a reading shows: the refusal, the bytes, and the next offsets

pub record Shown : Type 0 where
  pub refusal : ℕ
  pub bytes : List ℕ
  pub next : Offsets

-- a reference is more than its bytes, but all that its holder sees is these; a refusal leaves the offsets that were handed in
abbrev pub shown : Result Reading Refusal → Offsets → Shown
shown (Ok r) at = record { refusal = accepted; bytes = r.part.now; next = r.next }
shown (Err r) at = record { refusal = number_of r; bytes = []; next = at }

abbrev pub shown_at : List ℕ → List ℕ → Located → Shown
shown_at save overflow l = record { refusal = l.refusal; bytes = part_of save overflow l; next = l.next }

abbrev pub reads_as : List ℕ → List ℕ → Offsets → Scalar → Shown
reads_as save overflow at s = shown_at save overflow (located (length save) (length overflow) at s)
