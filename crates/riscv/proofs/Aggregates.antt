-- An aggregate argument on a description of RISC-V's own book, whatever its float bank: what is decided of it, read in the standard's terms, is the
-- standard's.
use Rattle.riscv.specs.Domain.{in_order}
use Prim.Native.Nat.{ℕ, ◌+◌, ◌-◌, ◌≤◌, ◌<◌, min}
use mathlib.Core.Path.{◌≡◌, refl, sym}
use mathlib.Core.List.{List, [], ◌∷◌, map}
use mathlib.Core.Bool.{true, false, and-false}
use native.Mathlib.Omega.{arith}
use native.Mathlib.Decide.{dec_le}
use borrow.Author.Tests.{le-leb, lt-leb, eq-eqb, ne_eqb}
use lib.Dec.{leb, eqb}
use Rattle.shape.specs.declared.Arg.{Arg}
use Rattle.shape.specs.declared.Arg.TheVariants.{Aggregate}
use Rattle.shape.specs.declared.Piece.{Piece}
use Rattle.shape.specs.declared.Shape.{Shape}
use Rattle.shape.specs.Lists.{every}
use Rattle.shape.proofs.Bools.{both_true}
use Rattle.find.specs.Find.{each_piece}
use Rattle.slot_writing.specs.Sources.{source_slots}
use Rattle.describe.specs.declared.Variadic.TheVariants.{UnnamedIntegersEven}
use Rattle.describe.specs.Dots.{dots_of}
use Rattle.spend.specs.declared.Left.{Left}
use Rattle.spend.specs.Ways.{marked, with_mark}
use Rattle.after_dots.specs.AfterDots.{settled_for}
use Rattle.after_dots.proofs.AfterDots.{skipped_fits}
use Rattle.classify.specs.Classify.{counts}
use Rattle.classify.specs.Spending.{Chosen, chosen, aggregate_by, argument_choice, variadic_argument_choice}
use Rattle.classify.proofs.Agree.{slots_for}
use Rattle.riscv.specs.Riscv.{fields, State, Passing, state, by_integers, by_fields, named, unnamed}
use Rattle.riscv.specs.Reading.{field_of, insert, by_offset, inside_by_offset, value_by_offset, reads}
use Rattle.riscv.proofs.Words.{unspent}
use Rattle.riscv.proofs.Scalars.{riscv, board, reads_as, words_pieces, words_memory, address_read, skipped, evened_state}
use Rattle.riscv.proofs.Rules as rules
use Rattle.riscv.proofs.Pairs.{Pair, Judged, pair, unpaired, judged}
use Rattle.riscv.proofs.Enough.{EnoughShape}

-- an aggregate is empty or isn't
pub by_size : (shape : Shape) (P : Type 0) → (eqb shape.size 0 ≡ true → P) → (0 < shape.size → eqb shape.size 0 ≡ false → P) → P
by_size shape P empty filled = go (dec_le shape.size 0)
  where
    go : Dec (shape.size ≤ 0) → P
    go (yes z) = empty (eq-eqb shape.size 0 (omega arith))
    go (no l) = filled (omega arith) (ne_eqb shape.size 0 (λ (e : shape.size ≡ 0). omega arith))

-- FloatPair is passed by where the mark is set: what it finds has a float
pub by_integers_alone : (name : List ℕ) (fr fw : ℕ) (left : Left) (shape : Shape) (ps : List Piece) (some : 0 < shape.size) → Judged (board name fr fw) ps → marked left ≡ true
    → rules.all name fr fw left shape ps ≡ rules.decided name fr fw left shape ps some
by_integers_alone name fr fw left shape ps some (unpaired u) m = rules.unpaired name fr fw left shape ps some u.finds
by_integers_alone name fr fw left shape ps some (pair k) m =
    rules.no_float_registers name fr fw left shape ps some (each_piece ps) k.finds m (omega (arith, k.floats_are, k.some))

module _ (name : List ℕ) (fr fw I F : ℕ) (few : I ≤ 8) (floats : F ≤ fr) (shape : Shape) (ps : List Piece) (some : 0 < shape.size) where
  abbrev reads_chosen : Chosen → Passing
  reads_chosen k = reads_as name fr fw (counts I F) shape.size k.decision (slots_for k (Aggregate shape) ps)

  abbrev at : State
  at = state (8 - I) (fr - F)

  -- ---- by the integer convention

  by_integers_lem : reads_chosen (rules.decided name fr fw (counts I F) shape ps some) ≡ by_integers at shape.size
  unfolding source_slots
  by_integers_lem =
      rules.decided_so name fr fw (counts I F) shape ps some (λ (k : Chosen). reads_chosen k ≡ by_integers at shape.size)
      (λ h l. words_pieces name fr fw I F few floats 0 0 I (omega arith) (omega arith) shape.size some h)
      (λ h e. let full : 8 - I ≡ 8 = omega arith in rw full (words_memory name fr fw I F few floats 0 0 (sym e) shape.size some h))
      (λ h. address_read name fr fw I F few floats 0 0 I (omega arith) (omega arith) shape.size h)

  -- ---- a named one: what FloatPair finds, where its registers are left

  abbrev ByFields : Type 0
  ByFields = reads_chosen (rules.all name fr fw (counts I F) shape ps) ≡ by_fields (board name fr fw) at (map field_of ps) (by_integers at shape.size)

  module _ (k : Pair (board name fr fw) ps) where
    held : k.integers ≤ I → k.floats ≤ F → ByFields
    unfolding source_slots reads
    held li lf =
        let i : 8 - (I - 0 - k.integers) ≡ 8 - I + k.integers = omega arith in
        let f : fr - (F - 0 - k.floats) ≡ fr - F + k.floats = omega arith in
        let n : 8 - I + 0 ≡ 8 - I = omega arith in
        let m : fr - F + 0 ≡ fr - F = omega arith in
        rw (
          rules.paired name fr fw (counts I F) shape ps some (each_piece ps) k.finds refl k.integers k.floats k.integers_are k.floats_are li lf,
          k.by at (by_integers at shape.size) k.integers k.floats (omega arith) (omega arith) (omega arith),
          le-leb (fr - F + k.floats) fr (omega arith),
          le-leb (8 - I + k.integers) 8 (omega arith),
          i,
          f,
          n,
          m,
        )

    no_float : F < k.floats → ByFields
    no_float l =
        rw (
          rules.short name fr fw (counts I F) shape ps some (each_piece ps) k.finds refl k.integers k.floats k.integers_are k.floats_are (rw (lt-leb k.floats F l, and-false)),
          k.by at (by_integers at shape.size) k.integers k.floats (omega arith) (omega arith) (omega arith),
          lt-leb (fr - F + k.floats) fr (omega arith),
        )
        by_integers_lem

    no_integer : I < k.integers → ByFields
    no_integer l =
        rw (
          rules.short name fr fw (counts I F) shape ps some (each_piece ps) k.finds refl k.integers k.floats k.integers_are k.floats_are (rw (lt-leb k.integers I l)),
          k.by at (by_integers at shape.size) k.integers k.floats (omega arith) (omega arith) (omega arith),
          lt-leb (8 - I + k.integers) 8 (omega arith),
          and-false,
        )
        by_integers_lem

  by_fields_lem : Judged (board name fr fw) ps → ByFields
  by_fields_lem (unpaired u) = rw (rules.unpaired name fr fw (counts I F) shape ps some u.finds, u.always at (by_integers at shape.size)) by_integers_lem
  by_fields_lem (pair k) = go (dec_le k.floats F) (dec_le k.integers I)
    where
      go : Dec (k.floats ≤ F) → Dec (k.integers ≤ I) → ByFields
      go (no l) i = no_float k (omega arith)
      go (yes l) (no i) = no_integer k (omega arith)
      go (yes l) (yes i) = held k i l

  -- ---- an unnamed one: by the integer convention, behind an even start

  abbrev n : ℕ
  n = skipped name fr fw I F few shape.size shape.align

  fits : n ≤ I
  fits = skipped_fits (dots_of UnnamedIntegersEven) (riscv name fr fw).banks (counts I F) shape.size shape.align

  -- what is found behind it
  abbrev found_left : Left
  found_left = with_mark (record { integer = I - n; float = F; integers_only = 0 })

  abbrev settled : Chosen → Chosen
  settled k = chosen (settled_for (dots_of UnnamedIntegersEven) I n k.decision) k.when

  passed_over : min (n + 0) I ≡ n
  passed_over = omega (arith, fits)

  by_integers_behind : reads_chosen (settled (rules.decided name fr fw found_left shape ps some)) ≡ by_integers (state (8 - (I - n)) (fr - F)) shape.size
  unfolding source_slots settled_for
  by_integers_behind =
      rules.decided_so name fr fw found_left shape ps some (λ (k : Chosen). reads_chosen (settled k) ≡ by_integers (state (8 - (I - n)) (fr - F)) shape.size)
      (λ h l. rw passed_over (words_pieces name fr fw I F few floats 0 n (I - n) fits refl shape.size some h))
      (λ h e.
      let all : n ≡ I = omega (arith, fits) in
      let full : 8 - (I - n) ≡ 8 = omega arith in
      rw (passed_over, full) (words_memory name fr fw I F few floats 0 n all shape.size some h))
      (λ h. rw passed_over (address_read name fr fw I F few floats 0 n (I - n) fits refl shape.size h))

-- ---- fields in the order of their offsets

in_place : (ps : List Piece) → in_order ps ≡ true → by_offset ps ≡ ps
unfolding in_order by_offset insert every
in_place [] o = refl
in_place (p ∷ []) o = refl
in_place (p ∷ q ∷ ps) o =
    let later = both_true _ (in_order (q ∷ ps)) o in
    let next = both_true (leb p.offset q.offset) _ later.0 in
    rw (in_place (q ∷ ps) later.1, next.0)

pub flattened : (shape : Shape) (ps : List Piece) → EnoughShape shape ps → inside_by_offset ps ≡ fields (map field_of ps)
flattened shape ps d = rw (d.no_overlap, in_place ps d.order)

-- ---- an argument

module _ (name : List ℕ) (fr fw I F : ℕ) (few : I ≤ 8) (floats : F ≤ fr) (shape : Shape) (ps : List Piece) where
  abbrev arg : Arg
  arg = Aggregate shape

  abbrev reads_argument : Chosen → Passing
  reads_argument k = reads_as name fr fw (counts I F) shape.size k.decision (slots_for k arg ps)

  abbrev Named : Type 0
  Named = reads_argument (argument_choice (riscv name fr fw) (counts I F) arg ps) ≡ named (board name fr fw) (state (8 - I) (fr - F)) (value_by_offset arg ps).type

  abbrev Unnamed : Type 0
  Unnamed = reads_argument (variadic_argument_choice (riscv name fr fw) (counts I F) arg ps) ≡ unnamed (state (8 - I) (fr - F)) (value_by_offset arg ps)

  -- what one after the dots finds left
  abbrev behind_start : Left
  behind_start = with_mark (record { integer = I - skipped name fr fw I F few shape.size shape.align; float = F; integers_only = 0 })

  module _ (z : eqb shape.size 0 ≡ true) where
    named_empty : Named
    unfolding argument_choice aggregate_by settled_for source_slots reads named
    named_empty = rw (rules.left_out name fr fw (counts I F) shape ps z, z, unspent I, unspent F)

    unnamed_empty : Unnamed
    unfolding variadic_argument_choice aggregate_by settled_for source_slots reads unnamed
    unnamed_empty = rw (rules.left_out name fr fw behind_start shape ps z, z, unspent I, unspent F)

  module _ (d : EnoughShape shape ps) (some : 0 < shape.size) (filled : eqb shape.size 0 ≡ false) where
    judgment : Judged (board name fr fw) ps
    judgment = judged (board name fr fw) ps d.usual

    named_filled : Named
    unfolding argument_choice aggregate_by settled_for named
    named_filled = rw (filled, flattened shape ps d) (by_fields_lem name fr fw I F few floats shape ps some judgment)

    unnamed_filled : Unnamed
    unfolding variadic_argument_choice aggregate_by unnamed
    unnamed_filled =
        rw (filled, ← evened_state name fr fw I F few shape.size shape.align (fr - F), by_integers_alone name fr fw behind_start shape ps some judgment refl)
        (by_integers_behind name fr fw I F few floats shape ps some)

  module _ (d : EnoughShape shape ps) where
    pub named_aggregate : Named
    named_aggregate = by_size shape Named (λ z. named_empty z) (λ some filled. named_filled d some filled)

    pub unnamed_aggregate : Unnamed
    unnamed_aggregate = by_size shape Unnamed (λ z. unnamed_empty z) (λ some filled. unnamed_filled d some filled)
