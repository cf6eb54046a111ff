-- The laws of `in_memory`: the first rule for homogeneous aggregates, and the alignment in a packed area.
use Rattle.std.specs.Prelude as Prelude
use Prim.Native.Nat.{ℕ, max}
use mathlib.Core.Path.{◌≡◌, refl, sym}
use mathlib.Core.List.{List, [], ◌∷◌}
use mathlib.Core.Bool.{true, false}
use mathlib.Core.Option.{Option}
use mathlib.Core.Option.Option.{none, some}
use native.Mathlib.Omega.{arith}
use Rattle.shape.specs.declared.Shape.{Shape}
use Rattle.shape.specs.declared.Piece.{Piece}
use Rattle.slots.specs.declared.Found.{Found}
use Rattle.slots.specs.Search.{Search, found, nothing, found_of}
use Rattle.describe.specs.declared.Banks.{Banks}
use Rattle.describe.specs.declared.Rule.{Rule}
use Rattle.describe.specs.declared.Test.{Test}
use Rattle.describe.specs.declared.Test.TheVariants.{Anything, Empty, SizeOneOf, SizeAtMost, Homogeneous, FloatPair, X87Stack, LoneFloat, FloatingMode, ComplexFloat, Eightbytes}
use Rattle.find.specs.Find.{homogeneous}
use Rattle.stack_align.specs.InMemory.{or_limit, homogeneous_limit, is_found, packed_align}
use Rattle.stack_align.specs.Limits.{limit_option, list_limit}

-- ---- the first rule for homogeneous aggregates

-- a test that has no limit leaves it to the rest
passes_on : (test : Test) (rest : Option ℕ) → ((n : ℕ) → test ≡ Homogeneous n → ⊥) → or_limit test rest ≡ rest
passes_on Anything rest h = refl
passes_on Empty rest h = refl
passes_on (SizeOneOf k a b c d) rest h = refl
passes_on (SizeAtMost n) rest h = refl
passes_on (Homogeneous n) rest h = absurd (h n refl)
passes_on FloatPair rest h = refl
passes_on X87Stack rest h = refl
passes_on LoneFloat rest h = refl
passes_on FloatingMode rest h = refl
passes_on ComplexFloat rest h = refl
passes_on (Eightbytes n) rest h = refl

-- the loop: the rules that are left have the limit that all have
module _ (total : Prelude.Option ℕ) (left : List Rule) (inv : total ≡ list_limit left) where
  pub limit_none : left ≡ [] → Prelude.None ≡ total
  unfolding list_limit homogeneous_limit
  limit_none h = rw (inv, h)

  module _ (rule : Rule) (rest : List Rule) (el : left ≡ rule ∷ rest) (when : Test) (ew : when ≡ rule.when) where
    pub limit_next : ((n : ℕ) → when ≡ Homogeneous n → ⊥) → total ≡ list_limit rest
    unfolding list_limit homogeneous_limit
    limit_next h = rw (inv, el, ← ew, passes_on when (homogeneous_limit rest) h)

    pub limit_here : (n : ℕ) → when ≡ Homogeneous n → Prelude.Some n ≡ total
    unfolding list_limit homogeneous_limit
    limit_here n h = rw (inv, el, ← ew, h)

-- ---- the alignment

is_some : (m : Search) (f : Found) → found_of m ≡ Prelude.Some f → is_found m ≡ true
unfolding found_of
is_some (found ss) f e = refl
is_some nothing f e = absurd (let z : ◌≡◌ {A = ℕ} 0 1 = cc in omega arith)

is_none : (m : Search) → found_of m ≡ Prelude.None → is_found m ≡ false
unfolding found_of
is_none (found ss) e = absurd (let z : ◌≡◌ {A = ℕ} 0 1 = cc in omega arith)
is_none nothing e = refl

pub some_none : (f : Found) → ◌≡◌ {A = Prelude.Option Found} (Prelude.Some f) Prelude.None → ⊥
some_none f e = let z : ◌≡◌ {A = ℕ} 0 1 = cc in omega arith

option_of : (o : Option ℕ) (n : ℕ) → limit_option o ≡ Prelude.Some n → o ≡ some n
option_of none n e = absurd (let z : ◌≡◌ {A = ℕ} 0 1 = cc in omega arith)
option_of (some m) n e = let q : m ≡ n = cc in rw q

option_none : (o : Option ℕ) → limit_option o ≡ Prelude.None → o ≡ none
option_none none e = refl
option_none (some m) e = absurd (let z : ◌≡◌ {A = ℕ} 0 1 = cc in omega arith)

module _ (banks : Banks) (rules : List Rule) (shape : Shape) (ps : List Piece) where
  pub packed_without : (r : ℕ) → r ≡ max shape.align banks.integer_width → Prelude.None ≡ list_limit rules → r ≡ packed_align banks rules shape ps
  unfolding packed_align list_limit
  packed_without r er e = rw (er, option_none (homogeneous_limit rules) (sym e))

  module _ (n : ℕ) (e : Prelude.Some n ≡ list_limit rules) where
    pub packed_other : (r : ℕ) → r ≡ max shape.align banks.integer_width → Prelude.None ≡ found_of (homogeneous n shape ps) → r ≡ packed_align banks rules shape ps
    unfolding packed_align list_limit
    packed_other r er x = rw (er, option_of (homogeneous_limit rules) n (sym e), is_none (homogeneous n shape ps) (sym x))

    pub packed_homogeneous : (f : Found) → Prelude.Some f ≡ found_of (homogeneous n shape ps) → shape.align ≡ packed_align banks rules shape ps
    unfolding packed_align list_limit
    packed_homogeneous f x = rw (option_of (homogeneous_limit rules) n (sym e), is_some (homogeneous n shape ps) f (sym x))
