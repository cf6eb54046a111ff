-- The System V AMD64 psABI (REFERENCE 12), section 3.2.3, for an aggregate of so many bytes and its fields: classification, passing, returning,
-- each rule in the document's order and under its letter. Nothing here is taken from the classifier but how a field is written down: a piece.
use Rattle.std.specs.Prelude.{ℕ, zero, suc, ◌+◌, ◌*◌, ◌/◌, ◌%◌, Bool, true, false, cond, not, ◌&&◌, ◌||◌, List, [], ◌∷◌, eqb, ltb, length}
use Rattle.std.proofs.Math.Option.{Option}
use Rattle.std.proofs.Math.Option.Option.{none, some}
use Rattle.shape.specs.declared.Piece.{Piece}
use Rattle.shape.specs.Numbers.{integer, x87_extended, quad}

-- ---- the classes of an eightbyte

pub data Class : Type 0 where
  INTEGER SSE SSEUP X87 X87UP COMPLEX-X87 NO-CLASS MEMORY : Class

abbrev pub number : Class → ℕ
number INTEGER = 0
number SSE = 1
number SSEUP = 2
number X87 = 3
number X87UP = 4
number COMPLEX-X87 = 5
number NO-CLASS = 6
number MEMORY = 7

abbrev pub is : Class → Class → Bool
is c d = eqb (number c) (number d)

-- one of the two is this class
abbrev pub either : Class → Class → Class → Bool
either c a b = is c a || is c b

abbrev pub is_x87 : Class → Bool
is_x87 c = (is X87 c || is X87UP c) || is COMPLEX-X87 c

-- ---- basic types: the class of the low eightbyte, and of the high one

-- integers, __int128 too: INTEGER. float, double: SSE. __float128: SSE. long double: X87
unfoldable pub low_of : ℕ → Class
low_of kind = cond (eqb kind integer) INTEGER (cond (eqb kind x87_extended) X87 SSE)

-- __int128: INTEGER. __float128: SSEUP. long double: X87UP
unfoldable pub high_of : ℕ → Class
high_of kind = cond (eqb kind integer) INTEGER (cond (eqb kind x87_extended) X87UP (cond (eqb kind quad) SSEUP SSE))

-- ---- aggregates

-- 1. An unaligned field: its offset is no multiple of its type's alignment
abbrev pub is_unaligned : Piece → Bool
is_unaligned p = not (eqb (p.offset % p.align) 0)

unfoldable pub any_unaligned : List Piece → Bool
any_unaligned [] = false
any_unaligned (p ∷ ps) = is_unaligned p || any_unaligned ps

-- 3. Merging two classes: the first rule that applies
unfoldable pub merge : Class → Class → Class
merge a b =
    -- (a) equal: that class
    cond (is a b) a
    -- (b) one is NO_CLASS: the other
    (cond (is NO-CLASS a) b
    (cond (is NO-CLASS b) a
    -- (c) one is MEMORY: MEMORY
    (cond (either MEMORY a b) MEMORY
    -- (d) one is INTEGER: INTEGER
    (cond (either INTEGER a b) INTEGER
    -- (e) one is X87, X87UP or COMPLEX_X87: MEMORY
    (cond (is_x87 a || is_x87 b) MEMORY
    -- (f) else SSE
    SSE)))))

-- a field lies, in part or whole, in an eightbyte: the bytes from 8 k up to 8 k + 8
abbrev pub lies_in : Piece → ℕ → Bool
lies_in p k = ltb p.offset (8 * k + 8) && ltb (8 * k) (p.offset + p.size)

-- what lies there is the field's low eightbyte, or its high one where the field starts below
abbrev pub field_class : Piece → ℕ → Class
field_class p k = cond (ltb p.offset (8 * k)) (high_of p.kind) (low_of p.kind)

-- 2. The class of each field that lies in an eightbyte is merged in, two at a time ..
unfoldable pub merged_in : Class → List Piece → ℕ → Class
merged_in c [] k = c
merged_in c (p ∷ ps) k = merged_in (cond (lies_in p k) (merge c (field_class p k)) c) ps k

-- .. and each eightbyte starts as NO_CLASS: so many eightbytes, from the k-th on
unfoldable pub classes_from : List Piece → ℕ → ℕ → List Class
classes_from ps k zero = []
classes_from ps k (suc n) = merged_in NO-CLASS ps k ∷ classes_from ps (k + 1) n

-- 4. After the merge, over the whole aggregate

-- (a) one eightbyte MEMORY
unfoldable pub any_memory : List Class → Bool
any_memory [] = false
any_memory (c ∷ cs) = is MEMORY c || any_memory cs

-- (b) an X87UP not right after an X87
unfoldable pub lone_x87_up : Class → List Class → Bool
lone_x87_up before [] = false
lone_x87_up before (c ∷ cs) = (is X87UP c && not (is X87 before)) || lone_x87_up c cs

-- (c) the first isn't SSE, or one of the others isn't SSEUP
unfoldable pub all_up : List Class → Bool
all_up [] = true
all_up (c ∷ cs) = is SSEUP c && all_up cs

unfoldable pub is_one_vector : List Class → Bool
is_one_vector [] = false
is_one_vector (c ∷ cs) = is SSE c && all_up cs

-- (d) an SSEUP not right after SSE or SSEUP becomes SSE
abbrev pub convert : Class → Class → Class
convert before c = cond (is SSEUP c && not (is SSE before || is SSEUP before)) SSE c

unfoldable pub converted : Class → List Class → List Class
converted before [] = []
converted before (c ∷ cs) = convert before c ∷ converted (convert before c) cs

-- the classes of the eightbytes, or none where the whole is MEMORY
unfoldable pub cleaned : List Class → Option (List Class)
cleaned cs =
    -- (a)
    cond (any_memory cs) none
    -- (b)
    (cond (lone_x87_up NO-CLASS cs) none
    -- (c) more than two eightbytes
    (cond (ltb 2 (length cs) && not (is_one_vector cs)) none
    -- (d)
    (some (converted NO-CLASS cs))))

abbrev pub eightbytes_in : ℕ → ℕ
eightbytes_in size = (size + 7) / 8

-- 1. Larger than eight eightbytes, or with an unaligned field: MEMORY
unfoldable pub classified : ℕ → List Piece → Option (List Class)
classified size ps = cond (ltb 64 size || any_unaligned ps) none (cleaned (classes_from ps 0 (eightbytes_in size)))

-- ---- registers

pub data Register : Type 0 where
  rdi rsi rdx rcx r8 r9 rax : Register
  xmm0 xmm1 xmm2 xmm3 xmm4 xmm5 xmm6 xmm7 : Register
  st0 st1 : Register

-- the registers of either kind that are free, the next one first
pub record Free : Type 0 where
  pub general : List Register
  pub vector : List Register

abbrev pub free : List Register → List Register → Free
free g v = record { general = g; vector = v }

abbrev pub argument_generals : List Register
argument_generals = rdi ∷ rsi ∷ rdx ∷ rcx ∷ r8 ∷ r9 ∷ []

abbrev pub argument_vectors : List Register
argument_vectors = xmm0 ∷ xmm1 ∷ xmm2 ∷ xmm3 ∷ xmm4 ∷ xmm5 ∷ xmm6 ∷ xmm7 ∷ []

abbrev pub result_generals : List Register
result_generals = rax ∷ rdx ∷ []

abbrev pub result_vectors : List Register
result_vectors = xmm0 ∷ xmm1 ∷ []

-- where the eightbyte at an offset is: in a chunk of a register, 0 the lowest
pub record Place : Type 0 where
  pub offset : ℕ
  pub register : Register
  pub chunk : ℕ

abbrev pub place : ℕ → Register → ℕ → Place
place o r n = record { offset = o; register = r; chunk = n }

-- the vector register used last and its next chunk
pub data Last : Type 0 where
  unused : Last
  used : Register → ℕ → Last

-- the places of some eightbytes, and the registers that are free then
pub record Assigned : Type 0 where
  pub places : List Place
  pub left : Free

abbrev pub assigned : List Place → Free → Assigned
assigned ps l = record { places = ps; left = l }

abbrev pub and_at : Place → Option Assigned → Option Assigned
and_at p none = none
and_at p (some a) = some (assigned (p ∷ a.places) a.left)

-- how an aggregate travels, and which registers are free afterwards
pub data Travels : Type 0 where
  -- its eightbytes in registers
  in_registers : List Place → Free → Travels
  -- an argument in memory
  on_stack : Free → Travels
  -- a result in memory, whose address the caller passes in a register, or on the stack where none is free
  by_address : Option Register → Free → Travels

-- ---- passing: eightbyte by eightbyte, from an offset on. None where one finds no register

unfoldable pub passing : List Class → ℕ → List Register → List Register → Last → Option Assigned
passing [] o g v last = some (assigned [] (free g v))
-- MEMORY: on the stack
passing (MEMORY ∷ cs) o g v last = none
-- INTEGER: the next of rdi, rsi, rdx, rcx, r8, r9
passing (INTEGER ∷ cs) o [] v last = none
passing (INTEGER ∷ cs) o (r ∷ g) v last = and_at (place o r 0) (passing cs (o + 8) g v last)
-- SSE: the next of xmm0 to xmm7
passing (SSE ∷ cs) o g [] last = none
passing (SSE ∷ cs) o g (r ∷ v) last = and_at (place o r 0) (passing cs (o + 8) g v (used r 1))
-- SSEUP: the next chunk of the vector register used last; clean-up (d) has left none without one
passing (SSEUP ∷ cs) o g v unused = none
passing (SSEUP ∷ cs) o g v (used r n) = and_at (place o r n) (passing cs (o + 8) g v (used r (n + 1)))
-- X87, X87UP, COMPLEX_X87: on the stack
passing (X87 ∷ cs) o g v last = none
passing (X87UP ∷ cs) o g v last = none
passing (COMPLEX-X87 ∷ cs) o g v last = none
-- NO_CLASS names no register
passing (NO-CLASS ∷ cs) o g v last = passing cs (o + 8) g v last

-- if any eightbyte finds no register, the whole argument goes to the stack, and the registers assigned to it already are free again
abbrev pub or_stack : Free → Option Assigned → Travels
or_stack before none = on_stack before
or_stack before (some a) = in_registers a.places a.left

abbrev pub passed : Free → Option (List Class) → Travels
passed before none = on_stack before
passed before (some cs) = or_stack before (passing cs 0 before.general before.vector unused)

unfoldable pub psabi_argument : Free → ℕ → List Piece → Travels
psabi_argument before size ps = passed before (classified size ps)

-- ---- returning: eightbyte by eightbyte, from an offset on. None where one finds no register

abbrev pub and_in : Place → Option (List Place) → Option (List Place)
and_in p none = none
and_in p (some ps) = some (p ∷ ps)

unfoldable pub returning : List Class → ℕ → List Register → List Register → Last → Option (List Place)
returning [] o g v last = some []
returning (MEMORY ∷ cs) o g v last = none
-- INTEGER: the next of rax, rdx
returning (INTEGER ∷ cs) o [] v last = none
returning (INTEGER ∷ cs) o (r ∷ g) v last = and_in (place o r 0) (returning cs (o + 8) g v last)
-- SSE: the next of xmm0, xmm1
returning (SSE ∷ cs) o g [] last = none
returning (SSE ∷ cs) o g (r ∷ v) last = and_in (place o r 0) (returning cs (o + 8) g v (used r 1))
-- SSEUP: the next chunk of the vector register used last
returning (SSEUP ∷ cs) o g v unused = none
returning (SSEUP ∷ cs) o g v (used r n) = and_in (place o r n) (returning cs (o + 8) g v (used r (n + 1)))
-- X87, with its X87UP: st0
returning (X87 ∷ cs) o g v last = and_in (place o st0 0) (returning cs (o + 8) g v last)
returning (X87UP ∷ cs) o g v last = and_in (place o st0 1) (returning cs (o + 8) g v last)
-- COMPLEX_X87: st0 and st1. No field of an aggregate has this class
returning (COMPLEX-X87 ∷ cs) o g v last = and_in (place o st0 0) (and_in (place (o + 16) st1 0) (returning cs (o + 32) g v last))
-- NO_CLASS names no register
returning (NO-CLASS ∷ cs) o g v last = returning cs (o + 8) g v last

-- MEMORY: the caller passes the address of the result's place as if it were the first argument, in the next general register
abbrev pub in_memory : List Register → List Register → Travels
in_memory [] v = by_address none (free [] v)
in_memory (r ∷ g) v = by_address (some r) (free g v)

-- a result in registers leaves the argument registers as they are
abbrev pub or_address : Free → Option (List Place) → Travels
or_address before none = in_memory before.general before.vector
or_address before (some ps) = in_registers ps before

abbrev pub returned : Free → Option (List Class) → Travels
returned before none = in_memory before.general before.vector
returned before (some cs) = or_address before (returning cs 0 result_generals result_vectors unused)

unfoldable pub psabi_result : Free → ℕ → List Piece → Travels
psabi_result before size ps = returned before (classified size ps)
