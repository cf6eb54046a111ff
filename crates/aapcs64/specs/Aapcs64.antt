-- AAPCS64 (2023Q3) for arguments and results of composite types, in the standard's own terms and order (REFERENCE 12): homogeneous aggregates (5.9),
-- stages A, B and C (6.8.2), results (6.9). Nothing here is taken from a description. The next stacked argument's address, NSAA, is no part of the
-- state, since only registers are compared: an argument at the NSAA is "on the stack", and C.4, C.5, C.14 and C.16, which change nothing but the
-- NSAA or a size there, have no definition.
use Rattle.std.specs.Prelude.{ℕ, zero, suc, ◌+◌, ◌-◌, ◌*◌, ◌/◌, ◌%◌, min, List, [], ◌∷◌, Bool, true, false, cond, ◌&&◌, ◌||◌, leb, ltb, eqb, length}

-- ---- types

-- the floating-point types
pub data Precision : Type 0 where
  half : Precision
  single : Precision
  double : Precision
  quad : Precision

abbrev pub bytes_of : Precision → ℕ
bytes_of half = 2
bytes_of single = 4
bytes_of double = 8
bytes_of quad = 16

-- the fundamental types: an integer or pointer of so many bytes, or a floating-point type
pub data Fundamental : Type 0 where
  integral : ℕ → Fundamental
  floating : Precision → Fundamental

abbrev pub size_of : Fundamental → ℕ
size_of (integral n) = n
size_of (floating p) = bytes_of p

-- a composite type, flattened: its members are fundamental types at offsets. Its natural alignment is the largest alignment among the members that
-- it is declared with, before it is given another as a whole; flattening doesn't keep it, since such a member may be a composite itself
pub record Member : Type 0 where
  pub type : Fundamental
  pub offset : ℕ

pub record Composite : Type 0 where
  pub members : List Member
  pub size : ℕ
  pub natural : ℕ

-- ---- 5.9, homogeneous floating-point aggregates

-- the floating-point types differ in size
abbrev pub is_of : Precision → Fundamental → Bool
is_of p (integral n) = false
is_of p (floating q) = eqb (bytes_of p) (bytes_of q)

unfoldable pub all_of : Precision → List Member → Bool
all_of p [] = true
all_of p (m ∷ ms) = is_of p m.type && all_of p ms

-- the uniquely addressable members, by address: members of a union that share an address count once
unfoldable pub insert : Member → List Member → List Member
insert m [] = m ∷ []
insert m (k ∷ ks) =
    cond (ltb m.offset k.offset) (m ∷ k ∷ ks) (cond (eqb m.offset k.offset) (k ∷ ks) (k ∷ insert m ks))

unfoldable pub addressable : List Member → List Member
addressable [] = []
addressable (m ∷ ms) = insert m (addressable ms)

unfoldable pub count : Composite → ℕ
count c = length (addressable c.members)

-- the members are all of one floating-point type, one to four of them, and the size is that many times the type's
unfoldable pub is_hfa_of : Precision → Composite → Bool
is_hfa_of p c = all_of p c.members && (leb 1 (count c) && leb (count c) 4) && eqb c.size (count c * bytes_of p)

unfoldable pub is_hfa : Composite → Bool
is_hfa c = is_hfa_of half c || is_hfa_of single c || is_hfa_of double c || is_hfa_of quad c

-- ---- where a value is

-- the registers v0, v1, .. and x0, x1, ..
pub data Register : Type 0 where
  v : ℕ → Register
  x : ℕ → Register

-- a part of a value in a register: from which offset on, and how many of the value's bytes
pub record Part : Type 0 where
  pub register : Register
  pub offset : ℕ
  pub bytes : ℕ

abbrev pub part : Register → ℕ → ℕ → Part
part r o n = record { register = r; offset = o; bytes = n }

-- the value in registers or on the stack, or the address of a copy in a register or on the stack
pub data Place : Type 0 where
  registers : List Part → Place
  stack : Place
  copy : Register → Place
  copy_on_stack : Place

-- the numbers of the next general-purpose register and of the next SIMD and floating-point register
pub record State : Type 0 where
  pub NGRN : ℕ
  pub NSRN : ℕ

abbrev pub state : ℕ → ℕ → State
state ngrn nsrn = record { NGRN = ngrn; NSRN = nsrn }

-- where an argument is, and the state for the next one
pub record Passing : Type 0 where
  pub place : Place
  pub next : State

abbrev pub passing : Place → State → Passing
passing p s = record { place = p; next = s }

-- ---- stage A

abbrev pub stage_a : State
stage_a = state 0 0

-- ---- stage B

-- what an argument is when registers are looked for: a fundamental type, an HFA, the address of a copy that the caller has made, or any other
-- composite, its size rounded up to a multiple of 8
pub data Argument : Type 0 where
  fundamental : Fundamental → Argument
  hfa : Composite → Argument
  address : Argument
  rounded : Composite → Argument

-- an HFA is used unmodified; any other composite larger than 16 bytes is copied, and its address passed; any other is rounded up
abbrev pub stage_b : Composite → Argument
stage_b c = cond (is_hfa c) (hfa c) (cond (ltb 16 c.size) address (rounded c))

-- how many doublewords a rounded composite has
abbrev pub doublewords : Composite → ℕ
doublewords c = (c.size + 7) / 8

-- the alignment of the copy that is passed
abbrev pub alignment : Composite → ℕ
alignment c = cond (leb c.natural 8) 8 16

-- ---- stage C

-- a v register for each member of an HFA, from this number on
unfoldable pub member_parts : ℕ → List Member → List Part
member_parts n [] = []
member_parts n (m ∷ ms) = part (v n) m.offset (size_of m.type) ∷ member_parts (n + 1) ms

-- an x register for each of so many doublewords from an offset on: the last has what is left of the size, and padding
unfoldable pub word_parts : ℕ → ℕ → ℕ → ℕ → List Part
word_parts n size offset zero = []
word_parts n size offset (suc k) = part (x n) offset (min (size - offset) 8) ∷ word_parts (n + 1) size (offset + 8) k

-- the rules by number. C.3, C.10 and C.13 change the state; the others place the argument, or leave it to what comes after
module _ (s : State) where
  -- a float, NSRN below 8: v[NSRN]
  abbrev pub C1 : Precision → Passing → Passing
  C1 p after =
      cond (ltb s.NSRN 8) (passing (registers (part (v s.NSRN) 0 (bytes_of p) ∷ [])) (state s.NGRN (s.NSRN + 1))) after

  -- an HFA of n members, NSRN + n at most 8: v[NSRN] onward
  abbrev pub C2 : Composite → Passing → Passing
  C2 c after =
      cond (leb (s.NSRN + count c) 8)
      (passing (registers (member_parts s.NSRN (addressable c.members))) (state s.NGRN (s.NSRN + count c)))
      after

  -- an HFA otherwise: NSRN becomes 8
  abbrev pub C3 : State
  C3 = state s.NGRN 8

  -- an HFA or a float: on the stack
  abbrev pub C6 : Passing
  C6 = passing stack s

  -- an integer or pointer of at most 8 bytes, or an address that stage B put in, NGRN below 8: x[NGRN]
  abbrev pub C9 : Place → Passing → Passing
  C9 there after = cond (ltb s.NGRN 8) (passing there (state (s.NGRN + 1) s.NSRN)) after

  -- an alignment of 16: NGRN is rounded up to the next even number
  abbrev pub C10 : ℕ → State
  C10 align = cond (eqb align 16) (state (s.NGRN + s.NGRN % 2) s.NSRN) s

  -- an integer of 16 bytes, NGRN below 7: x[NGRN] and x[NGRN + 1]
  abbrev pub C11 : Passing → Passing
  C11 after =
      cond (ltb s.NGRN 7)
      (passing (registers (part (x s.NGRN) 0 8 ∷ part (x (s.NGRN + 1)) 8 8 ∷ [])) (state (s.NGRN + 2) s.NSRN))
      after

  -- a composite of n doublewords, NGRN + n at most 8: x[NGRN] onward
  abbrev pub C12 : Composite → Passing → Passing
  C12 c after =
      cond (leb (s.NGRN + doublewords c) 8)
      (passing (registers (word_parts s.NGRN c.size 0 (doublewords c))) (state (s.NGRN + doublewords c) s.NSRN))
      after

  -- NGRN becomes 8
  abbrev pub C13 : State
  C13 = state 8 s.NSRN

  -- a composite: on the stack
  abbrev pub C15 : Passing
  C15 = passing stack s

  -- an integer or pointer, or an address that stage B put in: on the stack
  abbrev pub C17 : Place → Passing
  C17 there = passing there s

-- an integer of 16 bytes is aligned to 16
abbrev pub wide_integer : State → Passing
wide_integer s = let even : State = C10 s 16 in C11 even (C17 (C13 even) stack)

-- the rules that an argument comes to, in their order
unfoldable pub stage_c : State → Argument → Passing
stage_c s (fundamental (floating p)) = C1 s p (C6 s)
stage_c s (fundamental (integral n)) =
    cond (leb n 8) (C9 s (registers (part (x s.NGRN) 0 n ∷ [])) (C17 (C13 s) stack)) (wide_integer s)
stage_c s (hfa c) = C2 s c (C6 (C3 s))
stage_c s address = C9 s (copy (x s.NGRN)) (C17 (C13 s) copy_on_stack)
stage_c s (rounded c) = let even : State = C10 s (alignment c) in C12 even c (C15 (C13 even))

-- an argument of a composite type
unfoldable pub parameter : State → Composite → Passing
parameter s c = stage_c s (stage_b c)

-- ---- 6.9, results

-- in these registers, or in memory whose address the caller passes in x8
pub data Result : Type 0 where
  comes : List Part → Result
  through_x8 : Result

-- where a result comes back, and the state for the next argument
pub record Returning : Type 0 where
  pub result : Result
  pub next : State

abbrev pub returning : Result → State → Returning
returning r s = record { result = r; next = s }

-- in the registers in which an argument would be passed as a value; otherwise through x8, which is no argument register
abbrev pub comes_from : State → Place → Returning
comes_from s (registers parts) = returning (comes parts) s
comes_from s stack = returning through_x8 s
comes_from s (copy r) = returning through_x8 s
comes_from s copy_on_stack = returning through_x8 s

-- an argument that starts from v0 or x0
unfoldable pub result : State → Composite → Returning
result s c = comes_from s (parameter stage_a c).place
