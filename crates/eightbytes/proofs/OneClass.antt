-- The laws of what concerns one class, by its cases, and what the code's own tests of classes say.
use mathlib.Core.Path.{◌≡◌, refl, ap₂, ◌∙◌}
use mathlib.Core.Bool.{Bool, true, false, cond, not, ◌||◌, false≢true}
use denote.Enum.Bare.{sameb, same_true}
use denote.Enum.Declared.{tag_of}
use lib.Dec.{eqb}
use Rattle.eightbytes.specs.contracts.Class.{the_type}
use Rattle.eightbytes.specs.Class.{Class, None, Integer, Sse, SseUp, X87, Memory, code, same, mended, is_plain}

-- the equality that the code derives
tag_code : (c : Class) → tag_of the_type c ≡ code c
unfolding code
tag_code None = refl
tag_code Integer = refl
tag_code Sse = refl
tag_code SseUp = refl
tag_code X87 = refl
tag_code Memory = refl

pub same_is : (a b : Class) → sameb the_type a b ≡ same a b
unfolding same
same_is a b = ap₂ eqb (tag_code a) (tag_code b)

pub same_one : (a b : Class) → same a b ≡ true → a ≡ b
same_one a b e = same_true the_type tt a b (same_is a b ∙ e)

-- where two tests are asked at once, the one that holds answers
pub one_of : {A : Type 0} {r n : A} (x y : Bool) → (x ≡ true → r ≡ n) → (y ≡ true → r ≡ n) → (x || y) ≡ true → r ≡ n
one_of true y f g h = f refl
one_of false y f g h = g h

-- the rule after the merge makes no class X87 or Memory, and takes none of these away
low_or_up : (b : Bool) → (same (cond b Sse SseUp) X87 || same (cond b Sse SseUp) Memory) ≡ false
unfolding same code
low_or_up true = refl
low_or_up false = refl

pub mended_spoils : (below c : Class) → (same (mended below c) X87 || same (mended below c) Memory) ≡ (same c X87 || same c Memory)
unfolding same code
mended_spoils below None = refl
mended_spoils below Integer = refl
mended_spoils below Sse = refl
mended_spoils below SseUp = low_or_up (not (same below Sse || same below SseUp))
mended_spoils below X87 = refl
mended_spoils below Memory = refl

-- a plain class stays as it is, and has a slot of its own
pub plain_mended : (below c : Class) → is_plain c ≡ true → mended below c ≡ c
unfolding same code
plain_mended below None h = refl
plain_mended below Integer h = refl
plain_mended below Sse h = refl
plain_mended below SseUp h = absurd (false≢true h)
plain_mended below X87 h = refl
plain_mended below Memory h = refl

pub plain_spoils : (c : Class) → is_plain c ≡ true → (same c X87 || same c Memory) ≡ false
unfolding same code
plain_spoils None h = refl
plain_spoils Integer h = refl
plain_spoils Sse h = refl
plain_spoils SseUp h = refl
plain_spoils X87 h = absurd (false≢true h)
plain_spoils Memory h = absurd (false≢true h)

pub plain_up : (c : Class) → is_plain c ≡ true → same c SseUp ≡ false
unfolding same code
plain_up None h = refl
plain_up Integer h = refl
plain_up Sse h = refl
plain_up SseUp h = absurd (false≢true h)
plain_up X87 h = refl
plain_up Memory h = refl
