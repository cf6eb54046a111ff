-- A scalar argument of up to two words, on a description of RISC-V's own book, whatever its float bank: what is decided of it, read in the standard's
-- terms, is the standard's.
use Prim.Native.Nat.{ℕ, zero, suc, ◌+◌, ◌-◌, ◌%◌, ◌≤◌, ◌<◌, min}
use mathlib.Core.Path.{◌≡◌, refl, sym}
use mathlib.Core.List.{List, []}
use mathlib.Core.Bool.{Bool, true, false, ◌&&◌, not, cond, and-false}
use native.Mathlib.Omega.{arith}
use native.Mathlib.Decide.{dec_le}
use borrow.Author.Tests.{le-leb, lt-leb, lt-ltb, le-ltb, eqb-true, eqb-false, eq-eqb, ne_eqb}
use lib.Dec.{eqb, leb}
use Rattle.shape.specs.declared.Piece.{Piece}
use Rattle.shape.specs.declared.Scalar.{Scalar}
use Rattle.shape.specs.Numbers.{integer}
use Rattle.shape.specs.Questions.{is_float}
use Rattle.slots.specs.declared.Slot.{Slot}
use Rattle.slots.specs.Cut.{cut}
use Rattle.slot_writing.specs.Sources.{source_slots}
use Rattle.find.specs.Matches.{no_classes}
use Rattle.describe.specs.declared.Variadic.TheVariants.{UnnamedIntegersEven}
use Rattle.describe.specs.Description.{Description, terms_of}
use Rattle.describe.specs.Dots.{dots_of}
use Rattle.abis.specs.Abis.{riscv_with}
use Rattle.spend.specs.declared.Left.{Left}
use Rattle.spend.specs.declared.Spent.{Spent}
use Rattle.spend.specs.declared.Decision.{Decision}
use Rattle.spend.specs.declared.Way.TheVariants.{Direct, Reference, Memory}
use Rattle.spend.specs.Ways.{spends, plain, in_pieces, cut_slots, left_after}
use Rattle.spend.specs.Spending.{want_of}
use Rattle.spend_scalar.specs.Spending.{skip_of, integer_argument, scalar_in_registers, scalar_argument}
use Rattle.after_dots.specs.AfterDots.{skipped_for, settled_for}
use Rattle.after_dots.proofs.AfterDots.{skipped_fits}
use Rattle.classify.specs.Classify.{counts}
use Rattle.classify.specs.Spending.{scalar_by}
use Rattle.riscv.specs.Riscv.{Board, Passing, state, by_integers, by_fields, named, unnamed, scalar}
use Rattle.riscv.specs.Reading.{board_of, basic_of, value, reads}
use Rattle.riscv.proofs.Words.{unspent, in_words, on_stack}

-- no format is the description's
no_format : (kind : ℕ) → is_float kind ≡ true → eqb kind integer ≡ false
no_format kind b = go (eqb kind integer) b
  where
    go : (b : Bool) → not b ≡ true → b ≡ false
    go true e = sym e
    go false e = refl

module _ (name : List ℕ) (fr fw : ℕ) where
  abbrev pub riscv : Description
  riscv = riscv_with name fr fw

  abbrev pub board : Board
  board = board_of riscv.banks

  -- what is read of a decision with these slots, for a value of a size
  abbrev pub reads_as : Left → ℕ → Decision → List Slot → Passing
  reads_as left size d ss = reads riscv.banks size left d.way d.spent ss (left_after left d.spent)

  module _ (I F : ℕ) (few : I ≤ 8) (floats : F ≤ fr) (only : ℕ) where
    abbrev pub left : Left
    left = record { integer = I; float = F; integers_only = only }

    -- n are passed over, and of the k behind as many are given as are wanted and left
    module _ (n k : ℕ) (there : n ≤ I) (behind : I - n ≡ k) (size : ℕ) (some : 0 < size) (small : size ≤ 16) where
      first : 8 - I + n ≡ 8 - k
      first = omega arith

      abbrev given : Spent
      given = spends n (min (want_of size 8) k) 0 0

      pub words_direct : reads_as left size (plain Direct given) [] ≡ by_integers (state (8 - k) (fr - F)) size
      unfolding reads
      words_direct = rw (first, unspent F, behind) (in_words k (fr - F) 0 0 size (omega arith) some small)

      pub words_pieces : reads_as left size (in_pieces (cut_slots size 8) given) (cut size 8) ≡ by_integers (state (8 - k) (fr - F)) size
      unfolding reads
      words_pieces = rw (first, unspent F, behind) (in_words k (fr - F) (fr - F + 0) 0 size (omega arith) some small)

    -- the address of what is larger
    module _ (n k : ℕ) (there : n ≤ I) (behind : I - n ≡ k) (size : ℕ) (large : 16 < size) where
      abbrev AddressRead : Type 0
      AddressRead = reads_as left size (plain Reference (spends n (min 1 k) 0 0)) [] ≡ by_integers (state (8 - k) (fr - F)) size

      address_none : k ≤ 0 → AddressRead
      unfolding reads by_integers
      address_none z =
          let e : 8 - (k - min 1 k) ≡ 8 - k = omega arith in
          rw (lt-leb size 8 (omega arith), lt-leb size 16 large, le-ltb 0 (min 1 k) (omega arith), lt-leb (8 - k + 1) 8 (omega arith), unspent F, behind, e)

      address_left : 0 < k → AddressRead
      unfolding reads by_integers
      address_left z =
          let i : 8 - I + n ≡ 8 - k = omega arith in
          let e : 8 - (k - min 1 k) ≡ 8 - k + 1 = omega arith in
          rw (lt-leb size 8 (omega arith), lt-leb size 16 large, lt-ltb 0 (min 1 k) (omega arith), le-leb (8 - k + 1) 8 (omega arith), unspent F, i, behind, e)

      pub address_read : AddressRead
      address_read = go (dec_le k 0)
        where
          go : Dec (k ≤ 0) → AddressRead
          go (yes z) = address_none z
          go (no z) = address_left (omega arith)

    -- with none behind them
    module _ (n : ℕ) (all : n ≡ I) (size : ℕ) (some : 0 < size) (small : size ≤ 16) where
      pub words_memory : reads_as left size (plain Memory (spends n 0 0 0)) [] ≡ by_integers (state 8 (fr - F)) size
      unfolding reads
      words_memory =
          let e : 8 - I + n ≡ 8 = omega arith in
          let i : 8 - (I - n - 0) ≡ 8 = omega arith in
          rw (e, unspent F, i) (on_stack (fr - F) (fr - F + 0) 0 size some small)

  -- ---- a named one

  module _ (ps : List Piece) (I F : ℕ) (few : I ≤ 8) (floats : F ≤ fr) (s : Scalar) (some : 0 < s.size) (small : s.size ≤ 16) where
    -- its slots, from where they stand
    abbrev slots_in : Decision → List Slot
    slots_in d = source_slots d.source no_classes ps

    abbrev NamedScalar : Type 0
    NamedScalar =
        reads_as (counts I F) s.size (scalar_argument riscv.banks riscv.scalars (counts I F) s) (slots_in (scalar_argument riscv.banks riscv.scalars (counts I F) s))
        ≡ named board (state (8 - I) (fr - F)) (scalar (basic_of s.kind s.size))

    as_words : reads_as (counts I F) s.size (plain Direct (spends 0 (min (want_of s.size 8) I) 0 0)) [] ≡ by_integers (state (8 - I) (fr - F)) s.size
    as_words = words_direct I F few floats 0 0 I (omega arith) (omega arith) s.size some small

    module _ (b : is_float s.kind ≡ true) where
      float_falls : leb s.size fw ≡ true → F ≡ 0 → NamedScalar
      unfolding scalar_argument scalar_in_registers source_slots named by_fields
      float_falls c z = rw (b, no_format s.kind b, c, eq-eqb F 0 z, lt-leb (fr - F + 1) fr (omega arith)) as_words

      float_held : leb s.size fw ≡ true → 0 < F → NamedScalar
      unfolding scalar_argument scalar_in_registers source_slots named by_fields reads
      float_held c l =
          let f : fr - (F - 0 - min 1 F) ≡ fr - F + 1 = omega arith in
          rw (b, no_format s.kind b, c, ne_eqb F 0 (λ (e : F ≡ 0). omega arith), le-leb (fr - F + 1) fr (omega arith), lt-ltb 0 (min 1 F) (omega arith), unspent I, f)

      float_wide : leb s.size fw ≡ false → NamedScalar
      unfolding scalar_argument scalar_in_registers source_slots named by_fields
      float_wide c = rw (b, no_format s.kind b, c) as_words

    an_integer : is_float s.kind ≡ false → NamedScalar
    unfolding scalar_argument scalar_in_registers integer_argument source_slots named by_fields
    an_integer b = rw (b, and-false) as_words

    pub named_scalar : NamedScalar
    named_scalar = go (is_float s.kind) (leb s.size fw) (dec_le F 0) refl refl
      where
        go : (b c : Bool) → Dec (F ≤ 0) → is_float s.kind ≡ b → leb s.size fw ≡ c → NamedScalar
        go false c z eb ec = an_integer eb
        go true false z eb ec = float_wide eb ec
        go true true (yes z) eb ec = float_falls eb ec (omega arith)
        go true true (no z) eb ec = float_held eb ec (omega arith)

  -- ---- an even start

  module _ (I F : ℕ) (few : I ≤ 8) (size align : ℕ) where
    abbrev pub skipped : ℕ
    skipped = skipped_for (dots_of UnnamedIntegersEven) riscv.banks (counts I F) size align

    abbrev is_paired : Bool
    is_paired = eqb align 16 && leb size 16

    -- it is passed over, and the standard rounds the number up
    pub evened_state : (f : ℕ) → state (8 - (I - skipped)) f ≡ cond is_paired (state (8 - I + (8 - I) % 2) f) (state (8 - I) f)
    unfolding skipped_for skip_of
    evened_state f = go is_paired (eqb ((8 - I) % 2) 1) refl
      where
        go : (p odd : Bool) → eqb ((8 - I) % 2) 1 ≡ odd
            → state (8 - (I - cond (p && odd) (min 1 I) 0)) f ≡ cond p (state (8 - I + (8 - I) % 2) f) (state (8 - I) f)
        go false odd e = let a : 8 - (I - 0) ≡ 8 - I = omega arith in rw a
        go true true e =
            let o : (8 - I) % 2 ≡ 1 = eqb-true _ _ e in
            let a : 8 - (I - min 1 I) ≡ 8 - I + 1 = omega arith in
            rw (o, a)
        go true false e =
            let o : (8 - I) % 2 ≡ 0 = not_one ((8 - I) % 2) (eqb-false _ _ e) (omega arith) in
            let a : 8 - (I - 0) ≡ 8 - I = omega arith in
            let b : 8 - I + 0 ≡ 8 - I = omega arith in
            rw (o, a, b)
          where
            not_one : (x : ℕ) → (x ≡ 1 → ⊥) → x < 2 → x ≡ 0
            not_one zero h l = refl
            not_one (suc zero) h l = absurd (h refl)
            not_one (suc (suc x)) h l = absurd (omega arith)

  -- ---- an unnamed one

  module _ (ps : List Piece) (I F : ℕ) (few : I ≤ 8) (floats : F ≤ fr) (s : Scalar) (some : 0 < s.size) (small : s.size ≤ 16) where
    abbrev n : ℕ
    n = skipped I F few s.size s.align

    fits : n ≤ I
    fits = skipped_fits (dots_of UnnamedIntegersEven) riscv.banks (counts I F) s.size s.align

    abbrev decided : Decision
    decided = scalar_by (terms_of riscv) false (dots_of UnnamedIntegersEven) (counts I F) s

    abbrev UnnamedScalar : Type 0
    UnnamedScalar =
        reads_as (counts I F) s.size decided (source_slots decided.source no_classes ps)
        ≡ unnamed (state (8 - I) (fr - F)) (value (scalar (basic_of s.kind s.size)) s.align)

    unnamed_float : is_float s.kind ≡ true → UnnamedScalar
    unfolding scalar_by scalar_argument settled_for source_slots unnamed
    unnamed_float b =
        let m : min (n + 0) I ≡ n = omega (arith, fits) in
        rw (b, no_format s.kind b, m, ← evened_state I F few s.size s.align (fr - F)) (words_pieces I F few floats 0 n (I - n) fits refl s.size some small)

    unnamed_integer : is_float s.kind ≡ false → UnnamedScalar
    unfolding scalar_by scalar_argument scalar_in_registers integer_argument settled_for source_slots unnamed
    unnamed_integer b =
        let m : min (n + 0) I ≡ n = omega (arith, fits) in
        rw (b, and-false, m, ← evened_state I F few s.size s.align (fr - F)) (words_direct I F few floats 0 n (I - n) fits refl s.size some small)

    pub unnamed_scalar : UnnamedScalar
    unnamed_scalar = go (is_float s.kind) refl
      where
        go : (b : Bool) → is_float s.kind ≡ b → UnnamedScalar
        go true b = unnamed_float b
        go false b = unnamed_integer b
