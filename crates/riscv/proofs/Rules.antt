-- What the rules decide of an aggregate, whatever the float bank. Of an argument: nothing of an empty one; what FloatPair finds, where its registers are
-- left; and behind it words in registers as far as they go, memory with none left, and the address of what is larger. What comes back goes by the same
-- rules, and no register is counted for it but that of an address.
use Prim.Native.Nat.{ℕ, ◌-◌, ◌≤◌, ◌<◌, min}
use mathlib.Core.Path.{◌≡◌}
use mathlib.Core.List.{List, [], ◌∷◌}
use mathlib.Core.Bool.{true, false, ◌&&◌, and-false}
use native.Mathlib.Omega.{arith}
use native.Mathlib.Decide.{dec_le}
use borrow.Author.Tests.{le-leb, lt-leb, lt-ltb, ne_eqb}
use lib.Dec.{eqb, leb}
use lib.ListN.{length}
use Rattle.shape.specs.declared.Piece.{Piece}
use Rattle.shape.specs.declared.Shape.{Shape}
use Rattle.slots.specs.Cut.{cut}
use Rattle.slots.specs.declared.Slot.{Slot}
use Rattle.slots.specs.Search.{found, nothing, floats_in}
use Rattle.slots.proofs.Cut.{length_cut}
use Rattle.describe.specs.declared.Rule.{Rule}
use Rattle.describe.specs.declared.Test.TheVariants.{Anything, Empty, FloatPair, SizeAtMost}
use Rattle.describe.specs.declared.Travel.TheVariants.{AsIntegers, ByReference}
use Rattle.describe.specs.declared.Short.TheVariants.{Split}
use Rattle.describe.specs.Description.{Description, terms_of, rule, rule_short}
use Rattle.abis.specs.Abis.{riscv_with}
use Rattle.find.specs.Find.{found_if, float_pair}
use Rattle.find.specs.Matches.{matches}
use Rattle.spend.specs.declared.Left.{Left}
use Rattle.spend.specs.declared.Way.TheVariants.{Ignore, Memory}
use Rattle.spend.specs.Ways as made
use Rattle.spend.specs.Ways.{marked, spends, plain, in_pieces, cut_slots}
use Rattle.spend.specs.Spending.{want_of, reference, in_slots, when_short, travel_of}
use Rattle.classify.specs.Spending.{Chosen, chosen, wanted_by, by_rules}

module _ (name : List ℕ) (fr fw : ℕ) (left : Left) (shape : Shape) (ps : List Piece) where
  abbrev riscv : Description
  riscv = riscv_with name fr fw

  -- an argument, and what comes back
  abbrev pub all : Chosen
  all = by_rules (terms_of riscv) false left riscv.arguments shape ps

  abbrev pub returned : Chosen
  returned = by_rules (terms_of riscv) true left riscv.returns shape ps

  -- an empty one
  module _ (e : eqb shape.size 0 ≡ true) where
    pub left_out : all ≡ chosen (plain Ignore made.nothing) Empty
    unfolding by_rules matches found_if floats_in travel_of
    left_out = rw (e, and-false)

    pub returned_empty : returned ≡ chosen (plain Ignore made.nothing) Empty
    unfolding by_rules matches found_if travel_of
    returned_empty = rw (e, and-false)

  module _ (some : 0 < shape.size) where
    filled : eqb shape.size 0 ≡ false
    filled = ne_eqb shape.size 0 (λ (e : shape.size ≡ 0). omega arith)

    -- ---- the rules behind FloatPair

    abbrev pub behind : List Rule
    behind = rule_short (SizeAtMost 16) AsIntegers Split ∷ rule Anything ByReference ∷ []

    abbrev pub decided : Chosen
    decided = by_rules (terms_of riscv) false left behind shape ps

    abbrev words : ℕ
    words = length (cut shape.size 8)

    wanted : shape.size ≤ 16 → words ≡ want_of shape.size 8
    unfolding want_of
    wanted h = omega (arith, length_cut shape.size 8)

    in_registers : shape.size ≤ 16 → 0 < left.integer
        → decided ≡ chosen (in_pieces (cut_slots shape.size 8) (spends 0 (min (want_of shape.size 8) left.integer) 0 0)) (SizeAtMost 16)
    unfolding by_rules matches found_if floats_in travel_of in_slots when_short
    in_registers h l = go (dec_le (words - 0) left.integer)
      where
        go : Dec (words - 0 ≤ left.integer) → decided ≡ chosen (in_pieces (cut_slots shape.size 8) (spends 0 (min (want_of shape.size 8) left.integer) 0 0)) (SizeAtMost 16)
        go (yes f) =
            let g : words - 0 ≡ min (want_of shape.size 8) left.integer = omega (arith, wanted h) in
            rw (le-leb shape.size 16 h, and-false, le-leb (words - 0) left.integer f, le-leb 0 left.float (omega arith), g)
        go (no f) =
            let g : min (words - 0) left.integer ≡ min (want_of shape.size 8) left.integer = omega (arith, wanted h) in
            let z : min 0 left.float ≡ 0 = omega arith in
            rw (le-leb shape.size 16 h, and-false, lt-leb (words - 0) left.integer (omega arith), ne_eqb left.integer 0 (λ (e : left.integer ≡ 0). omega arith), g, z)

    in_memory : shape.size ≤ 16 → left.integer ≡ 0 → decided ≡ chosen (plain Memory (spends 0 0 0 0)) (SizeAtMost 16)
    unfolding by_rules matches found_if floats_in travel_of in_slots when_short
    in_memory h e = rw (le-leb shape.size 16 h, and-false, lt-leb (words - 0) left.integer (omega (arith, length_cut shape.size 8)), e)

    by_address : 16 < shape.size → decided ≡ chosen (reference (min 1 left.integer)) Anything
    unfolding by_rules matches found_if floats_in travel_of
    by_address h = rw (lt-leb shape.size 16 h, and-false)

    -- so what is said of each of these three is said of what they decide
    pub decided_so : (P : Chosen → Type 0)
        → (shape.size ≤ 16 → 0 < left.integer → P (chosen (in_pieces (cut_slots shape.size 8) (spends 0 (min (want_of shape.size 8) left.integer) 0 0)) (SizeAtMost 16)))
        → (shape.size ≤ 16 → left.integer ≡ 0 → P (chosen (plain Memory (spends 0 0 0 0)) (SizeAtMost 16)))
        → (16 < shape.size → P (chosen (reference (min 1 left.integer)) Anything)) → P decided
    decided_so P words none address = go (dec_le shape.size 16) (dec_le left.integer 0)
      where
        go : Dec (shape.size ≤ 16) → Dec (left.integer ≤ 0) → P decided
        go (yes h) (no z) = let l : 0 < left.integer = omega arith in rw (in_registers h l) (words h l)
        go (yes h) (yes z) = let e : left.integer ≡ 0 = omega arith in rw (in_memory h e) (none h e)
        go (no h) z = let l : 16 < shape.size = omega arith in rw (by_address l) (address l)

    -- ---- all of the rules for arguments

    pub unpaired : float_pair 8 fw ps ≡ nothing → all ≡ decided
    unfolding by_rules matches found_if
    unpaired e = rw (filled, e)

    module _ (ss : List Slot) (e : float_pair 8 fw ps ≡ found ss) where
      pub no_float_registers : marked left ≡ true → 0 < floats_in ss → all ≡ decided
      unfolding by_rules matches found_if
      no_float_registers m l = rw (filled, e, m, lt-ltb 0 (floats_in ss) l)

      module _ (m : marked left ≡ false) (i f : ℕ) (ei : length ss - floats_in ss ≡ i) (ef : floats_in ss ≡ f) where
        pub paired : i ≤ left.integer → f ≤ left.float → all ≡ chosen (in_pieces (wanted_by FloatPair shape.size ss) (spends 0 i 0 f)) FloatPair
        unfolding by_rules matches found_if travel_of in_slots
        paired li lf = rw (filled, e, m, ei, ef, le-leb i left.integer li, le-leb f left.float lf)

        pub short : leb i left.integer && leb f left.float ≡ false → all ≡ decided
        unfolding by_rules matches found_if travel_of in_slots when_short
        short s = rw (filled, e, m, ei, ef, s)

    -- ---- what comes back

    pub returned_paired : (ss : List Slot) → float_pair 8 fw ps ≡ found ss → returned ≡ chosen (in_pieces (wanted_by FloatPair shape.size ss) made.nothing) FloatPair
    unfolding by_rules matches found_if travel_of in_slots
    returned_paired ss e = rw (filled, e, and-false)

    module _ (e : float_pair 8 fw ps ≡ nothing) where
      pub returned_words : shape.size ≤ 16 → returned ≡ chosen (in_pieces (cut_slots shape.size 8) made.nothing) (SizeAtMost 16)
      unfolding by_rules matches found_if travel_of in_slots
      returned_words h = rw (filled, e, le-leb shape.size 16 h, and-false)

      pub returned_address : 16 < shape.size → returned ≡ chosen (reference (min 1 left.integer)) Anything
      unfolding by_rules matches found_if travel_of
      returned_address h = rw (filled, e, lt-leb shape.size 16 h, and-false)
