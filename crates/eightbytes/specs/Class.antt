-- The class of one eightbyte (the code's own enum), its code, the classes that a piece brings, what two over one eightbyte make, and the rule after the merge
-- (REFERENCE 8). The psABI's X87UP and COMPLEX_X87 aren't here: an x87 value ends the search, whatever stands beside it, and what comes back on
-- the x87's stack has a test of its own (find/specs/Find.antt), so that they would change nothing.
use Rattle.std.specs.Prelude.{Bool, cond, ◌||◌, not, ◌&&◌, ℕ, [], ◌∷◌, eqb, ltb, get_or}
use Rattle.shape.specs.Numbers.{integer, x87_extended}
pub use Rattle.eightbytes.specs.declared.Class.{Class}
pub use Rattle.eightbytes.specs.declared.Class.TheVariants.{None, Integer, Sse, SseUp, X87, Memory}

unfoldable pub code : Class → ℕ
code None = 0
code Integer = 1
code Sse = 2
code SseUp = 3
code X87 = 4
code Memory = 5

-- the class of a code; a number that is no class's code counts as Memory
unfoldable pub class_of : ℕ → Class
class_of n = get_or (None ∷ Integer ∷ Sse ∷ SseUp ∷ X87 ∷ []) n Memory

unfoldable pub same : Class → Class → Bool
same a b = eqb (code a) (code b)

-- a piece's class, by its kind: every kind but the integer's is a float's. x87 values have a class of their own since no argument register takes
-- them
abbrev pub kind_class : ℕ → Class
kind_class kind = cond (eqb kind integer) Integer (cond (eqb kind x87_extended) X87 Sse)

-- the class of its eightbytes after one of this class: those of an Sse piece are SseUp, for a Quad is one value in one register. An integer of 16
-- takes two, and both of its eightbytes are Integer
abbrev pub later : Class → Class
later c = cond (same c Sse) SseUp c

-- one of the two is this class
abbrev pub either : Class → Class → Class → Bool
either c a b = same a c || same b c

-- by the first rule that applies: equal classes stay; None gives way; Memory wins; X87 beside any other is Memory; Integer wins; what is
-- left is Sse beside SseUp.
-- Memory wins because no part of an argument goes to memory alone. X87 shares an eightbyte in a packed record or a union only, and no register
-- takes both; the psABI has Integer win there (DIFFERENCES). Integer wins because an eightbyte goes in one register: an int takes the float beside
-- it along. An upper half that shares its eightbyte is an upper half no more: both are plain vector bytes, Sse
unfoldable pub merge : Class → Class → Class
merge a b =
    cond (same a b) a
    (cond (same a None) b
    (cond (same b None) a
    (cond (either Memory a b) Memory
    (cond (either X87 a b) Memory
    (cond (either Integer a b) Integer Sse)))))

-- the rule after the merge: SseUp with neither Sse nor SseUp below it is Sse. In a union of a Quad and an integer of 8 the lower half is Integer,
-- and the upper half continues no value any more
abbrev pub mended : Class → Class → Class
mended below c = cond (same c SseUp && not (same below Sse || same below SseUp)) Sse c

-- a class before SseUp: the rule after the merge leaves it as it is, and it has a slot of its own
abbrev pub is_plain : Class → Bool
is_plain c = ltb (code c) (code SseUp)

-- the code of a class that comes of a number's; a number that is no class's code is kept
unfoldable pub kept : ℕ → Class → ℕ
kept n c = cond (ltb n 6) (code c) n
