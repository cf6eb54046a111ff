-- What travels as Memory is given nothing, whatever the rule, the registers left and the slots that its test found (REFERENCE 9.1, 9.3).
use Prim.Native.Nat.{ℕ, min}
use mathlib.Core.Path.{◌≡◌, refl}
use mathlib.Core.Bool.{Bool, true, false, ◌&&◌, cond}
use native.Mathlib.Omega.{arith}
use lib.Dec.{T, eqb, leb, ltb, ltb→lt}
use Rattle.std.specs.Prelude.{Option, Some, None}
use Rattle.shape.specs.Numbers.{integer}
use Rattle.describe.specs.declared.Banks.{Banks}
use Rattle.describe.specs.declared.Rule.{Rule}
use Rattle.describe.specs.declared.Travel.{Travel}
use Rattle.describe.specs.declared.Travel.TheVariants.{Ignore, AsFound, AsIntegers, AsOneInteger, ByReference, InMemory, InMemoryAndSpend}
use Rattle.describe.specs.declared.Short.{Short}
use Rattle.describe.specs.declared.Short.TheVariants.{Unchanged, Memory, MemoryAndDrain, TryNextRule, Split}
use Rattle.describe.specs.declared.ReturnPointer.{ReturnPointer}
use Rattle.describe.specs.declared.ReturnPointer.TheVariants.{FirstArgument, FirstArgumentPopped, Dedicated}
use Rattle.spend.specs.declared.Left.{Left}
use Rattle.spend.specs.declared.Way as ways
use Rattle.spend.specs.declared.Wanted.{Wanted}
use Rattle.spend.specs.declared.Decision.{Decision}
use Rattle.spend.specs.Ways.{way_number, in_pieces, spends, cut_slots, one_slot, MemoryIsGivenNothing}
use Rattle.spend.specs.Spending.{memory, integer_cost, float_cost, by_pointer, by_reference, in_memory_and_spend, when_short, in_slots, travel_by, travel_of}

-- an argument in memory that is counted against the registers is given none of them: they are passed over
pub memory_out : (returning : Bool) (left want : ℕ) (d : Decision) → returning ≡ false → (n : ℕ) → n ≡ min want left → d ≡ memory n 0 0 0
    → d ≡ in_memory_and_spend returning left want
memory_out returning left want d h n en er = rw (er, en, h)

-- a decision of which it holds, and what a rule comes to, where that is a decision
abbrev pub Ungiven : Decision → Type 0
Ungiven d = MemoryIsGivenNothing (way_number d.way) d.spent

abbrev pub UngivenIf : Option Decision → Type 0
UngivenIf (Some d) = Ungiven d
UngivenIf None = Unit {0}

-- every other way's number is below Memory's, so that anything holds there
pub another_way : {A : Type 0} {n : ℕ} → T (ltb n (way_number ways.TheVariants.Memory)) → n ≡ way_number ways.TheVariants.Memory → A
another_way {A} {n} t e = absurd (omega (arith, ltb→lt n (way_number ways.TheVariants.Memory) t))

pub either : (b : Bool) (d e : Decision) → Ungiven d → Ungiven e → Ungiven (cond b d e)
either true d e h k = h
either false d e h k = k

-- an address isn't Memory
pub pointer_ungiven : (pointer : ReturnPointer) (I : ℕ) → Ungiven (by_pointer pointer I)
pointer_ungiven FirstArgument I = another_way tt
pointer_ungiven FirstArgumentPopped I = another_way tt
pointer_ungiven Dedicated I = another_way tt

reference_ungiven : (pointer : ReturnPointer) (returning : Bool) (I : ℕ) → Ungiven (by_reference pointer returning I)
reference_ungiven pointer true I = pointer_ungiven pointer I
reference_ungiven pointer false I = another_way tt

-- slots aren't, and where they run short a bank may be passed over, but not given
short_ungiven : (short : Short) (left : Left) (found : Wanted) (i f : ℕ) → UngivenIf (when_short short left found i f)
unfolding when_short
short_ungiven Unchanged left found i f = another_way tt
short_ungiven Memory left found i f = λ w. (refl, refl)
short_ungiven MemoryAndDrain left found i f = λ w. (refl, refl)
short_ungiven TryNextRule left found i f = tt
short_ungiven Split left found i f = either (eqb left.integer 0) _ _ (λ w. (refl, refl)) (another_way tt)

slots_ungiven : (shared returning : Bool) (left : Left) (short : Short) (found : Wanted) → UngivenIf (in_slots shared returning left short found)
unfolding in_slots
slots_ungiven shared returning left short found =
    go returning (leb (integer_cost shared found.count found.floats) left.integer && leb (float_cost shared found.floats) left.float)
    (integer_cost shared found.count found.floats) (float_cost shared found.floats)
  where
    go : (back fits : Bool) (i f : ℕ)
        → UngivenIf
        (cond back (Some (in_pieces found (spends 0 0 0 0)))
        (cond fits (Some (in_pieces found (spends 0 i 0 f))) (when_short short left found i f)))
    go true fits i f = another_way tt
    go false true i f = another_way tt
    go false false i f = short_ungiven short left found i f

spend_ungiven : (returning : Bool) (I want : ℕ) → Ungiven (in_memory_and_spend returning I want)
spend_ungiven true I want w = (refl, refl)
spend_ungiven false I want w = (refl, refl)

module _ (B : Banks) (pointer : ReturnPointer) (returning : Bool) (left : Left) where
  by_travel : (then : Travel) (short : Short) (size : ℕ) (found : Wanted) → UngivenIf (travel_by then B pointer returning left short size found)
  by_travel Ignore short size found = another_way tt
  by_travel AsFound short size found = slots_ungiven B.shared returning left short found
  by_travel AsIntegers short size found = slots_ungiven B.shared returning left short (cut_slots size B.integer_width)
  by_travel AsOneInteger short size found = slots_ungiven B.shared returning left short (one_slot integer size 0)
  by_travel ByReference short size found = reference_ungiven pointer returning left.integer
  by_travel InMemory short size found = λ w. (refl, refl)
  by_travel InMemoryAndSpend short size found = spend_ungiven returning left.integer _

  pub travel_ungiven : (rule : Rule) (size : ℕ) (found : Wanted) → UngivenIf (travel_of B pointer returning left rule size found)
  unfolding travel_of
  travel_ungiven rule size found = by_travel rule.then rule.short size found
