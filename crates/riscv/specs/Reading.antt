-- Values and answers of the descriptions in the standard's terms (REFERENCE 12): the value that an argument stands for, and what an
-- answer's way, slots, what it passes over and is given, and counts left say of registers and of the stack.
use Rattle.std.specs.Prelude.{ℕ, ◌+◌, ◌-◌, ◌≡◌, List, [], ◌∷◌, map, Bool, false, ◌&&◌, cond, eqb, leb, ltb, get_or}
use Rattle.shape.specs.declared.Arg as args
use Rattle.shape.specs.declared.Piece.{Piece}
use Rattle.shape.specs.Questions.{is_float}
use Rattle.slots.specs.declared.Slot.{Slot}
use Rattle.slots.specs.Cut.{cut}
use Rattle.slots.specs.Words.{slots_read}
use Rattle.describe.specs.declared.Banks.{Banks}
use Rattle.describe.specs.Description.{Description}
use Rattle.abis.specs.Abis.{described}
use Rattle.spend.specs.declared.Left.{Left}
use Rattle.spend.specs.declared.Spent.{Spent}
use Rattle.spend.specs.declared.Way.{Way}
use Rattle.spend.specs.declared.Way.TheVariants.{Ignore, Direct, Pieces, Reference, Memory}
use Rattle.spend.specs.Ways.{no_mark, way_from}
use Rattle.classify.specs.declared.Call.{Call}
use Rattle.classify.specs.declared.Answer.{Answer}
use Rattle.classify.specs.Pass.{way_of, pass_slots}
use Rattle.classify.specs.Classify.{Passed, returns, argument, variadic_argument}
use Rattle.classify.specs.Spending.{return_choice, argument_choice, variadic_argument_choice}
use Rattle.riscv.specs.Riscv.{XLEN, Board, Basic, integral, floating, Field, Inside, fields, a_union, CType, scalar, aggregate, Value, Holder, a, fa, stack, Part, part, Place, ignored, parts, address, stack_bytes, State, state, Passing, passing, named, unnamed, result}
use Rattle.riscv.specs.Domain.{apart}

-- ---- boards, values

abbrev pub board_of : Banks → Board
board_of B = record { FLEN = B.float_width; float_registers = B.float }

abbrev pub basic_of : ℕ → ℕ → Basic
basic_of kind size = cond (is_float kind) (floating size) (integral size)

abbrev pub field_of : Piece → Field
field_of p = record { type = basic_of p.kind p.size; offset = p.offset }

-- pieces that share a byte are a union's
abbrev pub inside_of : List Piece → Inside
inside_of ps = cond (apart ps) (fields (map field_of ps)) a_union

abbrev pub value : CType → ℕ → Value
value t align = record { type = t; alignment = align }

-- void is as an aggregate without a byte
abbrev pub value_of : args.Arg → List Piece → Value
value_of args.TheVariants.Void ps = value (aggregate 0 (fields [])) 1
value_of (args.TheVariants.Scalar s) ps = value (scalar (basic_of s.kind s.size)) s.align
value_of (args.TheVariants.Aggregate shape) ps = value (aggregate shape.size (inside_of ps)) shape.align

-- the same with the fields in the order of their offsets, whatever that of the pieces. On the domain pieces are in that order, and it is the same value
unfoldable pub insert : Piece → List Piece → List Piece
insert p [] = p ∷ []
insert p (q ∷ qs) = cond (leb p.offset q.offset) (p ∷ q ∷ qs) (q ∷ insert p qs)

unfoldable pub by_offset : List Piece → List Piece
by_offset [] = []
by_offset (p ∷ ps) = insert p (by_offset ps)

abbrev pub inside_by_offset : List Piece → Inside
inside_by_offset ps = cond (apart ps) (fields (map field_of (by_offset ps))) a_union

abbrev pub value_by_offset : args.Arg → List Piece → Value
value_by_offset args.TheVariants.Void ps = value (aggregate 0 (fields [])) 1
value_by_offset (args.TheVariants.Scalar s) ps = value (scalar (basic_of s.kind s.size)) s.align
value_by_offset (args.TheVariants.Aggregate shape) ps = value (aggregate shape.size (inside_by_offset ps)) shape.align

-- how many bytes it has
abbrev pub size_of_arg : args.Arg → ℕ
size_of_arg args.TheVariants.Void = 0
size_of_arg (args.TheVariants.Scalar s) = s.size
size_of_arg (args.TheVariants.Aggregate shape) = shape.size

-- ---- answers

-- how many bytes a float of a format has
abbrev pub format_bytes : ℕ → ℕ
format_bytes kind = get_or (0 ∷ 4 ∷ 8 ∷ 10 ∷ 16 ∷ []) kind 0

-- slots go to the next registers of their bank, in order, as many as were given in it (`given` integers from a register n on, `held` floats from m on); the
-- others are on the stack. A float slot has size 0: one of another size would hold nothing
unfoldable pub parts_of : ℕ → ℕ → ℕ → ℕ → List Slot → List Part
parts_of n given m held [] = []
parts_of n given m held (slot ∷ slots) =
    cond (is_float slot.kind)
    (part (cond (ltb 0 held) (fa m) stack) slot.offset (cond (eqb slot.size 0) (format_bytes slot.kind) 0) ∷ parts_of n given (m + 1) (held - 1) slots)
    (cond (ltb 0 given) (part (a n) slot.offset slot.size ∷ parts_of (n + 1) (given - 1) m held slots)
    (part stack slot.offset slot.size ∷ parts_of n given m held slots))

-- a value that has no slots goes in words
abbrev pub words_of : ℕ → List Slot
words_of size = cut size XLEN

-- the numbers of the next registers
module _ (B : Banks) where
  abbrev pub state_of : Left → State
  state_of left = state (B.integer - left.integer) (B.float - left.float)

  abbrev first_integer : Left → Spent → ℕ
  first_integer before spent = B.integer - before.integer + spent.integers_passed

  abbrev first_float : Left → Spent → ℕ
  first_float before spent = B.float - before.float + spent.floats_passed

  -- a scalar as it is: in the float register that it was given, or else in words
  abbrev direct_of : ℕ → Left → Spent → List Part
  direct_of size before spent =
      cond (ltb 0 spent.floats_given) (part (fa (first_float before spent)) 0 size ∷ []) (parts_of (first_integer before spent) spent.integers_given 0 0 (words_of size))

  -- an address: in the integer register that was given for it, and on the stack if none was
  abbrev holder_of : Left → Spent → Holder
  holder_of before spent = cond (ltb 0 spent.integers_given) (a (first_integer before spent)) stack

  abbrev pub place_of : Way → ℕ → Left → Spent → List Slot → Place
  place_of Ignore size before spent slots = ignored
  place_of Direct size before spent slots = parts (direct_of size before spent)
  place_of Pieces size before spent slots = parts (parts_of (first_integer before spent) spent.integers_given (first_float before spent) spent.floats_given slots)
  place_of Reference size before spent slots = address (holder_of before spent)
  place_of Memory size before spent slots = parts (parts_of (first_integer before spent) 0 (first_float before spent) 0 (words_of size))

  -- an argument of so many bytes, between what was left before and after it
  unfoldable pub reads : ℕ → Left → Way → Spent → List Slot → Left → Passing
  reads size before way spent slots after = passing (place_of way size before spent slots) (state_of after)

-- an argument that travels so, and that passes over and is given this
abbrev pub reads_passed : Banks → args.Arg → Left → Passed → Spent → Passing
reads_passed B arg before p spent = reads B (size_of_arg arg) before (way_of p.pass) spent (pass_slots p.pass) p.left

-- ---- results: in the first two registers of each bank, which aren't counted with the arguments'; or at an address, which is an argument

abbrev result_parts : List Slot → List Part
result_parts slots = parts_of 0 2 0 2 slots

module _ (B : Banks) where
  -- a float register holds a scalar as it is
  abbrev is_held : args.Arg → Bool
  is_held args.TheVariants.Void = false
  is_held (args.TheVariants.Scalar s) = is_float s.kind && leb s.size B.float_width
  is_held (args.TheVariants.Aggregate shape) = false

  -- a scalar as it is: in fa0 if that holds it, or else in words
  abbrev direct_result : args.Arg → List Part
  direct_result arg = cond (is_held arg) (part (fa 0) 0 (size_of_arg arg) ∷ []) (result_parts (words_of (size_of_arg arg)))

  -- no result is on the stack: Memory says where none is
  abbrev pub result_place : Way → args.Arg → Left → Spent → List Slot → Place
  result_place Ignore arg before spent slots = ignored
  result_place Direct arg before spent slots = parts (direct_result arg)
  result_place Pieces arg before spent slots = parts (result_parts slots)
  result_place Reference arg before spent slots = address (holder_of B before spent)
  result_place Memory arg before spent slots = parts (part stack 0 (size_of_arg arg) ∷ [])

  unfoldable pub reads_result : args.Arg → Left → Way → Spent → List Slot → Left → Passing
  reads_result arg before way spent slots after = passing (result_place way arg before spent slots) (state_of B after)

-- ---- a description beside the standard: a named argument, an unnamed one or a result, with so many registers left

pub data Asked : Type 0 where
  as_named as_unnamed as_result : Asked

abbrev pub reads_by : Asked → Banks → args.Arg → Left → Way → Spent → List Slot → Left → Passing
reads_by as_named B arg before way spent slots after = reads B (size_of_arg arg) before way spent slots after
reads_by as_unnamed B arg before way spent slots after = reads B (size_of_arg arg) before way spent slots after
reads_by as_result B arg before way spent slots after = reads_result B arg before way spent slots after

-- what travels so, and passes over and is given this
abbrev pub reads_passed_by : Asked → Banks → args.Arg → Left → Passed → Spent → Passing
reads_passed_by asked B arg before p spent = reads_by asked B arg before (way_of p.pass) spent (pass_slots p.pass) p.left

-- what the description is defined to answer
abbrev pub answered : Asked → Description → Left → args.Arg → List Piece → Passing
answered as_named D left arg ps = reads_passed_by as_named D.banks arg left (argument D left arg ps) (argument_choice D left arg ps).decision.spent
answered as_unnamed D left arg ps = reads_passed_by as_unnamed D.banks arg left (variadic_argument D left arg ps) (variadic_argument_choice D left arg ps).decision.spent
answered as_result D left arg ps = reads_passed_by as_result D.banks arg left (returns D left arg ps) (return_choice D left arg ps).decision.spent

-- what the standard says for its board
abbrev pub standard : Asked → Banks → Left → args.Arg → List Piece → Passing
standard as_named B left arg ps = named (board_of B) (state_of B left) (value_by_offset arg ps).type
standard as_unnamed B left arg ps = unnamed (state_of B left) (value_by_offset arg ps)
standard as_result B left arg ps = result (board_of B) (state_of B left) (value_by_offset arg ps).type

-- ---- an operation: its answer, with the words of the buffer beside it, says what the standard says, has as many bytes on the stack, and hands back a call
-- of the same description, still without the mark

abbrev pub answer_read : Asked → Banks → args.Arg → Left → Answer → List ℕ → Passing
answer_read asked B arg before answer words =
    reads_by asked B arg before (way_from answer.outcome.way) answer.outcome.spent (slots_read answer.outcome.slots words) answer.next.left

pub record Says (asked : Asked) (c : Call) (arg : args.Arg) (ps : List Piece) (answer : Answer) (words : List ℕ) : Type 0 where
  pub travels : answer_read asked (described c.abi).banks arg c.left answer words ≡ standard asked (described c.abi).banks c.left arg ps
  pub stacked : answer.outcome.stacked.bytes ≡ stack_bytes (standard asked (described c.abi).banks c.left arg ps).place
  pub same_abi : answer.next.abi ≡ c.abi
  pub unmarked : answer.next.left.integers_only ≡ no_mark
