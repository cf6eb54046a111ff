-- The three questions that scalar rules answer for a size (REFERENCE 5.7).
use Rattle.std.specs.Prelude.{ℕ, Bool, ◌&&◌, ◌||◌, not, cond, eqb}
use Rattle.describe.specs.declared.Scalars.{Scalars}

-- A size that one register holds.
abbrev pub register_size : ℕ → Bool
register_size size = ((eqb size 1 || eqb size 2) || eqb size 4) || eqb size 8

-- Whether a scalar of this size travels as the address of a copy. Windows x64 asks for the size of the object, and not what is in it.
abbrev pub is_by_reference : Scalars → ℕ → Bool
is_by_reference scalars size = scalars.wide_is_by_reference && not (register_size size)

-- Whether it comes back through the address that the caller passes: on 32-bit x86 also what no register for results holds.
abbrev pub returns_by_reference : Scalars → ℕ → Bool
returns_by_reference scalars size = is_by_reference scalars size || (scalars.quad_returns_by_reference && eqb size 16)

-- The format in which an integer of this size comes back where it is by reference otherwise, or 0 for none.
abbrev pub wide_returns_in : Scalars → ℕ → ℕ
wide_returns_in scalars size = cond (is_by_reference scalars size) scalars.wide_integer_returns_in 0
