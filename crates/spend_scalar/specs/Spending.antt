-- How a scalar spends registers (REFERENCE 9.2, 9.4): how it travels, and what it passes over and is given. I and F are the counts left. This
-- says nothing of the counts left afterwards: those are the Rust's, in classify/specs/Classify.antt, and a theorem has the two agree.
use Rattle.std.specs.Prelude.{ℕ, ◌-◌, ◌%◌, Bool, ◌&&◌, ◌||◌, not, cond, eqb, leb, ltb}
use Rattle.shape.specs.declared.Scalar.{Scalar}
use Rattle.shape.specs.Numbers.{integer}
use Rattle.shape.specs.Questions.{is_float}
use Rattle.describe.specs.declared.Banks.{Banks}
use Rattle.describe.specs.declared.Scalars.{Scalars}
use Rattle.describe.specs.declared.ReturnPointer.{ReturnPointer}
use Rattle.describe.specs.Questions.{is_by_reference, returns_by_reference}
use Rattle.spend.specs.declared.Left.{Left}
use Rattle.spend.specs.declared.Decision.{Decision}
use Rattle.spend.specs.Ways.{marked, spends, nothing, in_pieces, cut_slots, one_slot}
use Rattle.spend.specs.Spending.{takes, want_of, direct, reference, by_pointer}

-- ---- a scalar argument: the first line that applies

-- an even start: with an odd number used, 1 is passed over if one is left. AAPCS64's C.10; the register that is left out isn't given later
unfoldable pub skip_of : Bool → ℕ → ℕ → ℕ
skip_of even used I = cond (even && eqb (used % 2) 1) (takes 1 I) 0

-- the lines for an integer that wants so many, of a bank that started with so many
unfoldable pub integer_argument : ℕ → Scalars → ℕ → ℕ → Decision
integer_argument start S I want =
    -- all or nothing: want if want is at most I, otherwise nothing. Half a value in the last register would cost a later argument that register
    cond S.wide_integer_is_all_or_nothing (cond (leb want I) (direct 0 want 0 0) (direct 0 0 0 0))
    -- want above 1, even start or drain set: after an even start want is given if it fits; if not and drain is set, the rest is passed over too,
    -- as an aggregate's short bank is
    (cond (ltb 1 want && (S.wide_integer_starts_even || S.wide_integer_drains))
    (let skipped : ℕ = skip_of S.wide_integer_starts_even (start - I) I in
    cond (leb want (I - skipped)) (direct skipped want 0 0) (cond S.wide_integer_drains (direct I 0 0 0) (direct skipped 0 0 0)))
    -- any other integer: given takes want of I
    (direct 0 (takes want I) 0 0))

-- a float that a float register holds: given takes 1 of F; where floats fall to the integers and none is left, given takes want of I
abbrev pub falling_float : Left → ℕ → Decision
falling_float left want = cond (eqb left.float 0) (direct 0 (takes want left.integer) 0 0) (direct 0 0 0 (takes 1 left.float))

abbrev pub narrow_float : Scalars → Left → ℕ → Decision
narrow_float S left want = cond S.float_falls_to_integers (falling_float left want) (direct 0 0 0 (takes 1 left.float))

-- the lines for a scalar that wants so many integer registers and goes in the registers of a bank as it is
unfoldable pub scalar_in_registers : Banks → Scalars → Left → Scalar → ℕ → Decision
scalar_in_registers B S left s want =
    -- a shared bank: one sequence of positions, and every value takes the next, whichever kind of register it has there
    cond B.shared (direct 0 (takes 1 left.integer) 0 0)
    -- a float no wider than the float width
    (cond (is_float s.kind && leb s.size B.float_width) (narrow_float S left want)
    -- a wider float, which no float register holds: a long double on LP64D goes like an integer of its size
    (cond (is_float s.kind) (direct 0 (takes want left.integer) 0 0)
    -- an integer
    (integer_argument B.integer S left.integer want)))

unfoldable pub scalar_argument : Banks → Scalars → Left → Scalar → Decision
scalar_argument B S left s =
    let I : ℕ = left.integer in
    let want : ℕ = want_of s.size B.integer_width in
    -- wide goes by reference, and the size isn't 1, 2, 4, 8: all that it costs is the position of its address
    cond (is_by_reference S s.size) (reference (takes 1 I))
    -- the format is the description's memory format: there is no register that it could have had, so it costs none
    (cond (is_float s.kind && eqb s.kind S.in_memory) (direct 0 0 0 0)
    -- wide integers in memory, an integer, want above 1: all I passed over, as gcc's fastcall counts
    (cond ((S.wide_integer_in_memory && eqb s.kind integer) && ltb 1 want) (direct I 0 0 0)
    -- integers-only and a float: Pieces cut by the integer width. The callee reads one bank only, so the float goes as its bits
    (cond (marked left && is_float s.kind) (in_pieces (cut_slots s.size B.integer_width) (spends 0 (takes want I) 0 0))
    -- else in registers as it is
    (scalar_in_registers B S left s want))))

-- ---- a scalar that comes back

-- Direct unless it returns by reference: then an integer with a format that wide integers return in is one float slot of that format,
-- spending nothing; any other is Reference. That format is gcc's exception on Windows x64: an integer of 16 goes in as an address, and comes
-- back in xmm0
unfoldable pub scalar_return : Scalars → ReturnPointer → Left → Scalar → Decision
scalar_return S pointer left s =
    cond (not (returns_by_reference S s.size)) (direct 0 0 0 0)
    (cond (eqb s.kind integer && not (eqb S.wide_integer_returns_in integer)) (in_pieces (one_slot S.wide_integer_returns_in 0 1) nothing)
    (by_pointer pointer left.integer))
