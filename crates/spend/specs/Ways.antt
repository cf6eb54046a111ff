-- Ways, their numbers, and the parts that a decision is made of (REFERENCE 9).
use Rattle.std.specs.Prelude.{ℕ, ◌-◌, ◌≡◌, Bool, not, [], ◌∷◌, eqb, length, get_or}
use Rattle.slots.specs.Cut.{cut}
use Rattle.spend.specs.declared.Way.{Way}
use Rattle.spend.specs.declared.Way.TheVariants.{Ignore, Direct, Pieces, Reference, Memory}
use Rattle.slots.specs.declared.Source.TheVariants.{Empty, Cut, One}
use Rattle.spend.specs.declared.Left.{Left}
use Rattle.spend.specs.declared.Wanted.{Wanted}
use Rattle.spend.specs.declared.Spent.{Spent}
use Rattle.spend.specs.declared.Decision.{Decision}

-- a way's number
abbrev pub way_number : Way → ℕ
way_number Ignore = 0
way_number Direct = 1
way_number Pieces = 2
way_number Reference = 3
way_number Memory = 4

-- the way that a number stands for
abbrev pub way_from : ℕ → Way
way_from n = get_or (Ignore ∷ Direct ∷ Pieces ∷ Reference ∷ []) n Memory

-- the mark is set where it isn't 0: floats go in integer registers alone
abbrev pub no_mark : ℕ
no_mark = 0

abbrev pub a_mark : ℕ
a_mark = 1

abbrev pub marked : Left → Bool
marked left = not (eqb left.integers_only no_mark)

abbrev pub with_mark : Left → Left
with_mark left = record { integer = left.integer; float = left.float; integers_only = a_mark }

-- integers passed over and given, floats passed over and given
abbrev pub spends : ℕ → ℕ → ℕ → ℕ → Spent
spends ip ig fp fg = record { integers_passed = ip; integers_given = ig; floats_passed = fp; floats_given = fg }

abbrev pub nothing : Spent
nothing = spends 0 0 0 0

-- no register of either bank carries anything
abbrev pub NoneGiven : Spent → Type 0
NoneGiven spent = (spent.integers_given ≡ 0) × (spent.floats_given ≡ 0)

-- what travels as Memory is given nothing: a given register carries the value or its address, and this value's bytes are in the argument area. It
-- is said of a way's number, as answers have it, and of what is spent
abbrev pub MemoryIsGivenNothing : ℕ → Spent → Type 0
MemoryIsGivenNothing way spent = way ≡ way_number Memory → NoneGiven spent

-- a way without slots
abbrev pub plain : Way → Spent → Decision
plain way spent = record { way = way; source = Empty; count = 0; spent = spent }

-- Pieces, in these slots
abbrev pub in_pieces : Wanted → Spent → Decision
in_pieces found spent = record { way = Pieces; source = found.source; count = found.count; spent = spent }

-- a size cut into integers of a width
abbrev pub cut_slots : ℕ → ℕ → Wanted
cut_slots size width = record { count = length (cut size width); floats = 0; source = Cut size width }

-- one slot at the start: its kind, its size, and 1 where it is a float
abbrev pub one_slot : ℕ → ℕ → ℕ → Wanted
one_slot kind size floats = record { count = 1; floats = floats; source = One kind 0 size }

-- what is left of a bank: what was, less what is passed over and given
abbrev pub bank_after : ℕ → ℕ → ℕ → ℕ
bank_after left passed given = left - passed - given

abbrev pub left_after : Left → Spent → Left
left_after left spent =
    record {
      integer = bank_after left.integer spent.integers_passed spent.integers_given;
      float = bank_after left.float spent.floats_passed spent.floats_given;
      integers_only = left.integers_only;
    }
