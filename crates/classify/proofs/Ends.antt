-- A rule that decides never leaves the walk: it matches any shape with no slot, and never says to try the next rule, since where it falls short it
-- stays.
use Prim.Native.Nat.{ℕ}
use mathlib.Core.Path.{◌≡◌, refl}
use mathlib.Core.Bool.{Bool, true, false, ◌&&◌, cond}
use mathlib.Core.List.{List, []}
use native.Mathlib.Omega.{arith}
use lib.Dec.{leb}
use Rattle.std.specs.Prelude.{Option, Some, None}
use Rattle.shape.specs.declared.Piece.{Piece}
use Rattle.shape.specs.declared.Shape.{Shape}
use Rattle.slots.specs.Search.{found}
use Rattle.describe.specs.declared.Banks.{Banks}
use Rattle.describe.specs.declared.Rule.{Rule}
use Rattle.describe.specs.declared.Travel.{Travel}
use Rattle.describe.specs.declared.Travel.TheVariants.{Ignore, AsFound, AsIntegers, AsOneInteger, ByReference, InMemory, InMemoryAndSpend}
use Rattle.describe.specs.declared.Short.{Short}
use Rattle.describe.specs.declared.Short.TheVariants.{Unchanged, Memory, MemoryAndDrain, Split}
use Rattle.describe.specs.declared.Short as shorts
use Rattle.describe.specs.declared.ReturnPointer.{ReturnPointer}
use Rattle.describe.specs.Description.{Decides}
use Rattle.spend.specs.declared.Left.{Left}
use Rattle.spend.specs.declared.Wanted.{Wanted}
use Rattle.spend.specs.declared.Decision.{Decision}
use Rattle.spend.specs.Ways as made
use Rattle.spend.specs.Spending.{integer_cost, float_cost, when_short, in_slots, travel_by, travel_of}
use Rattle.find.specs.Matches.{matches}

pub decides_found : (B : Banks) (rule : Rule) (shape : Shape) (ps : List Piece) → Decides rule → matches B rule.when shape ps ≡ found []
unfolding matches
decides_found B rule shape ps h = rw h.anything

decided : (d : Decision) → Some d ≡ None → ⊥
decided d e = let z : ◌≡◌ {A = ℕ} 0 1 = cc in omega arith

module _ (left : Left) (slots : Wanted) where
  short_stays : (short : Short) (i f : ℕ) → (short ≡ shorts.TheVariants.TryNextRule → ⊥) → when_short short left slots i f ≡ None → ⊥
  unfolding when_short
  short_stays Unchanged i f h e = decided _ e
  short_stays Memory i f h e = decided _ e
  short_stays MemoryAndDrain i f h e = decided _ e
  short_stays shorts.TheVariants.TryNextRule i f h e = h refl
  short_stays Split i f h e = decided _ e

  slots_stay : (shared returning : Bool) (short : Short) → (short ≡ shorts.TheVariants.TryNextRule → ⊥) → in_slots shared returning left short slots ≡ None → ⊥
  unfolding in_slots
  slots_stay shared returning short h e =
      let i : ℕ = integer_cost shared slots.count slots.floats in
      let f : ℕ = float_cost shared slots.floats in
      go returning (leb i left.integer && leb f left.float) (made.in_pieces slots made.nothing) (made.in_pieces slots (made.spends 0 i 0 f)) _ (short_stays short i f h) e
    where
      go : (b c : Bool) (d d' : Decision) (s : Option Decision) → (s ≡ None → ⊥) → cond b (Some d) (cond c (Some d') s) ≡ None → ⊥
      go true c d d' s k x = decided _ x
      go false true d d' s k x = decided _ x
      go false false d d' s k x = k x

pub decides_step : (B : Banks) (pointer : ReturnPointer) (returning : Bool) (left : Left) (rule : Rule) (size : ℕ) (slots : Wanted) → Decides rule
    → travel_of B pointer returning left rule size slots ≡ None → ⊥
unfolding travel_of
decides_step B pointer returning left rule size slots h e = go rule.then e
  where
    go : (then : Travel) → travel_by then B pointer returning left rule.short size slots ≡ None → ⊥
    go Ignore x = decided _ x
    go AsFound x = slots_stay left _ B.shared returning rule.short h.stays x
    go AsIntegers x = slots_stay left _ B.shared returning rule.short h.stays x
    go AsOneInteger x = slots_stay left _ B.shared returning rule.short h.stays x
    go ByReference x = decided _ x
    go InMemory x = decided _ x
    go InMemoryAndSpend x = decided _ x
