-- What the exported entry of a variable argument list takes and answers, in numbers, and what whoever adds the start to the area reads there
-- (REFERENCE 15.3).
use Rattle.std.specs.Prelude.{ℕ, cond, List, [], eqb, take, drop}
use Rattle.varargs.specs.declared.Offsets.{Offsets}
use Rattle.varargs.specs.Lists.{Save, Overflow, Located, area_number, Shown}
use Rattle.export_varargs.specs.declared.Part.{Part}

abbrev pub offsets_from : ℕ → ℕ → ℕ → Offsets
offsets_from gp fp overflow = record { integer = gp; float = fp; overflow = overflow }

abbrev pub part_numbers : Located → Part
part_numbers l =
    record {
      refusal = l.refusal;
      area = area_number l.area;
      start = l.start;
      length = l.length;
      gp_offset = l.next.integer;
      fp_offset = l.next.float;
      overflow_offset = l.next.overflow;
    }

-- ---- read by the numbers

abbrev pub area_from : ℕ → List ℕ → List ℕ → List ℕ
area_from area save overflow = cond (eqb area (area_number Save)) save (cond (eqb area (area_number Overflow)) overflow [])

abbrev pub offsets_in : Part → Offsets
offsets_in r = offsets_from r.gp_offset r.fp_offset r.overflow_offset

-- `length` bytes of the area, from `start` on
abbrev pub shown_by : List ℕ → List ℕ → Part → Shown
shown_by save overflow r =
    record { refusal = r.refusal; bytes = take r.length (drop r.start (area_from r.area save overflow)); next = offsets_in r }
