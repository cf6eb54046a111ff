-- What one entry hands back, the next one reads as it was meant: a call from its five numbers, and a shape from a record's.
use mathlib.Core.Path.{◌≡◌, refl}
use mathlib.Core.Bool.{Bool, true, false}
use Rattle.shape.specs.declared.Shape.{Shape}
use Rattle.shape.specs.Numbers.{one_if}
use Rattle.classify.specs.declared.Call.{Call}
use Rattle.export_numbers.specs.Numbers.{is_set, call_from, shape_from}

-- every number of a call, its mark too, whatever that is
pub call_read_back : (c : Call) → call_from c.abi c.left.integer c.left.float c.left.integers_only c.stack ≡ c
call_read_back c = refl

-- a yes that an entry answers is read as a yes, and a no as a no
yes_read_back : (b : Bool) → is_set (one_if b) ≡ b
yes_read_back true = refl
yes_read_back false = refl

pub shape_read_back : (s : Shape) → shape_from s.size s.align (one_if s.complex) (one_if s.floating) ≡ s
shape_read_back s = rw (yes_read_back s.complex, yes_read_back s.floating) refl
