-- The RISC-V psABI's integer and hardware floating-point calling conventions for boards with 64-bit registers, in the standard's own terms
-- (REFERENCE 12). Nothing here is taken from a description. Where on the stack a value stands isn't said: only what of it is there.
use Rattle.std.specs.Prelude.{ℕ, ◌+◌, ◌*◌, ◌-◌, ◌%◌, List, [], ◌∷◌, Bool, false, cond, ◌&&◌, leb, eqb}

-- ---- boards

-- an integer register has 8 bytes
abbrev pub XLEN : ℕ
XLEN = 8

-- the argument registers a0 to a7
abbrev pub integer_registers : ℕ
integer_registers = 8

-- how many bytes a float register has, and how many there are for arguments: fa0 to fa7, or none
pub record Board : Type 0 where
  pub FLEN : ℕ
  pub float_registers : ℕ

abbrev pub board_with : ℕ → ℕ → Board
board_with flen n = record { FLEN = flen; float_registers = n }

-- the three ABIs: no float is passed in a float register; those of up to 4 bytes are; those of up to 8
abbrev pub LP64 : Board
LP64 = board_with 0 0

abbrev pub LP64F : Board
LP64F = board_with 4 8

abbrev pub LP64D : Board
LP64D = board_with 8 8

-- ---- types

-- an integer or pointer, or a floating-point number, of so many bytes
pub data Basic : Type 0 where
  integral : ℕ → Basic
  floating : ℕ → Basic

abbrev pub bytes_of : Basic → ℕ
bytes_of (integral n) = n
bytes_of (floating n) = n

-- a field of an aggregate that is flattened, through records and arrays inside it; fields come in the order in which they stand
pub record Field : Type 0 where
  pub type : Basic
  pub offset : ℕ

-- an aggregate has fields, or there is a union among what it has: such a one is never flattened
pub data Inside : Type 0 where
  fields : List Field → Inside
  a_union : Inside

pub data CType : Type 0 where
  scalar : Basic → CType
  aggregate : ℕ → Inside → CType

-- a value: its type, and what it is aligned to
pub record Value : Type 0 where
  pub type : CType
  pub alignment : ℕ

abbrev pub size_of : CType → ℕ
size_of (scalar b) = bytes_of b
size_of (aggregate size inside) = size

-- ---- where a value is

pub data Holder : Type 0 where
  a : ℕ → Holder
  fa : ℕ → Holder
  stack : Holder

-- a part of a value: what holds it, from which offset on, and how many of the value's bytes
pub record Part : Type 0 where
  pub holder : Holder
  pub offset : ℕ
  pub bytes : ℕ

abbrev pub part : Holder → ℕ → ℕ → Part
part h o n = record { holder = h; offset = o; bytes = n }

-- nowhere, part by part, or by its address
pub data Place : Type 0 where
  ignored : Place
  parts : List Part → Place
  address : Holder → Place

-- how much of the stack it takes: a word for each part that is there, whatever of it the part fills, and for an address
abbrev pub words_at : Holder → ℕ
words_at (a n) = 0
words_at (fa n) = 0
words_at stack = 1

unfoldable pub stack_words : List Part → ℕ
stack_words [] = 0
stack_words (p ∷ ps) = words_at p.holder + stack_words ps

abbrev pub stack_bytes : Place → ℕ
stack_bytes ignored = 0
stack_bytes (parts ps) = XLEN * stack_words ps
stack_bytes (address h) = XLEN * words_at h

-- the numbers of the next integer register and of the next float register
pub record State : Type 0 where
  pub next_a : ℕ
  pub next_fa : ℕ

abbrev pub state : ℕ → ℕ → State
state i f = record { next_a = i; next_fa = f }

-- before the first argument
abbrev pub start : State
start = state 0 0

-- where an argument is, and the state for the next one
pub record Passing : Type 0 where
  pub place : Place
  pub next : State

abbrev pub passing : Place → State → Passing
passing p s = record { place = p; next = s }

-- ---- the integer convention

module _ (s : State) where
  abbrev is_left : ℕ → Bool
  is_left n = leb (s.next_a + n) integer_registers

  -- so many registers on
  abbrev after : ℕ → State
  after n = state (s.next_a + n) s.next_fa

  -- at most XLEN: a register, or the stack
  abbrev pub word : ℕ → Passing
  word size = cond (is_left 1) (passing (parts (part (a s.next_a) 0 size ∷ [])) (after 1)) (passing (parts (part stack 0 size ∷ [])) s)

  -- at most 2 XLEN: a pair of registers, the low half first; with one left, the low half in it and the high half on the stack; with none, the stack
  abbrev pub pair : ℕ → Passing
  pair size =
      cond (is_left 2) (passing (parts (part (a s.next_a) 0 XLEN ∷ part (a (s.next_a + 1)) XLEN (size - XLEN) ∷ [])) (after 2))
      (cond (is_left 1) (passing (parts (part (a s.next_a) 0 XLEN ∷ part stack XLEN (size - XLEN) ∷ [])) (after 1))
      (passing (parts (part stack 0 XLEN ∷ part stack XLEN (size - XLEN) ∷ [])) s))

  -- larger: by reference, the address in the next register, or on the stack
  abbrev pub by_reference : Passing
  by_reference = cond (is_left 1) (passing (address (a s.next_a)) (after 1)) (passing (address stack) s)

  unfoldable pub by_integers : ℕ → Passing
  by_integers size = cond (leb size XLEN) (word size) (cond (leb size (XLEN + XLEN)) (pair size) by_reference)

-- ---- the hardware floating-point convention

module _ (board : Board) (s : State) where
  abbrev has_floats : ℕ → Bool
  has_floats n = leb (s.next_fa + n) board.float_registers

  abbrev has_integers : ℕ → Bool
  has_integers n = leb (s.next_a + n) integer_registers

  abbrev in_fa : ℕ → Field → Part
  in_fa n f = part (fa (s.next_fa + n)) f.offset (bytes_of f.type)

  abbrev in_a : Field → Part
  in_a f = part (a s.next_a) f.offset (bytes_of f.type)

  -- a float that a float register holds, an integer that an integer register holds
  abbrev pub is_real : Basic → Bool
  is_real (integral n) = false
  is_real (floating n) = leb n board.FLEN

  abbrev pub is_whole : Basic → Bool
  is_whole (integral n) = leb n XLEN
  is_whole (floating n) = false

  -- one float, two floats, a float and an integer in either order: in registers, if enough of each kind are left; anything else is passed by the
  -- integer convention
  unfoldable pub by_fields : List Field → Passing → Passing
  by_fields [] otherwise = otherwise
  by_fields (f ∷ []) otherwise =
      cond (is_real f.type && has_floats 1) (passing (parts (in_fa 0 f ∷ [])) (state s.next_a (s.next_fa + 1))) otherwise
  by_fields (f ∷ g ∷ []) otherwise =
      cond ((is_real f.type && is_real g.type) && has_floats 2)
      (passing (parts (in_fa 0 f ∷ in_fa 1 g ∷ [])) (state s.next_a (s.next_fa + 2)))
      (cond ((is_real f.type && is_whole g.type) && (has_floats 1 && has_integers 1))
      (passing (parts (in_fa 0 f ∷ in_a g ∷ [])) (state (s.next_a + 1) (s.next_fa + 1)))
      (cond ((is_whole f.type && is_real g.type) && (has_floats 1 && has_integers 1))
      (passing (parts (in_a f ∷ in_fa 0 g ∷ [])) (state (s.next_a + 1) (s.next_fa + 1)))
      otherwise))
  by_fields (f ∷ g ∷ h ∷ rest) otherwise = otherwise

  abbrev pub by_floats : Inside → Passing → Passing
  by_floats (fields fs) otherwise = by_fields fs otherwise
  by_floats a_union otherwise = otherwise

  -- ---- a named argument. An aggregate without a byte is ignored

  unfoldable pub named : CType → Passing
  named (scalar b) = by_fields (record { type = b; offset = 0 } ∷ []) (by_integers s (bytes_of b))
  named (aggregate size inside) = cond (eqb size 0) (passing ignored s) (by_floats inside (by_integers s size))

-- ---- an unnamed one: never in a float register, and one that is aligned to 2 XLEN and no larger is in an aligned pair, or on the stack

abbrev pub is_aligned : Value → Bool
is_aligned v = eqb v.alignment (XLEN + XLEN) && leb (size_of v.type) (XLEN + XLEN)

abbrev pub evened : State → State
evened s = state (s.next_a + s.next_a % 2) s.next_fa

abbrev pub paired_for : State → Value → State
paired_for s v = cond (is_aligned v) (evened s) s

abbrev pub unnamed_by : State → State → CType → Passing
unnamed_by s from (scalar b) = by_integers from (bytes_of b)
unnamed_by s from (aggregate size inside) = cond (eqb size 0) (passing ignored s) (by_integers from size)

unfoldable pub unnamed : State → Value → Passing
unnamed s v = unnamed_by s (paired_for s v) v.type

-- ---- a result: where the first named argument of its type would be. One that would be passed by reference is in memory, and its address is passed as
-- if it were the first argument, before all others: the next one

abbrev pub returned_as : State → Place → Passing
returned_as s ignored = passing ignored s
returned_as s (parts ps) = passing (parts ps) s
returned_as s (address h) = by_reference s

unfoldable pub result : Board → State → CType → Passing
result b s t = returned_as s (named b start t).place
