-- A result on a description of RISC-V's own book: what is decided of it, read in the standard's terms, is the standard's. A rule for results counts no
-- registers, so the board must have the two float registers that a result can want, unless no float register holds anything.
use Prim.Native.Nat.{ℕ, ◌+◌, ◌-◌, ◌≤◌, ◌<◌}
use mathlib.Core.Path.{◌≡◌, refl, ◌∙◌}
use mathlib.Core.List.{List, map}
use mathlib.Core.Bool.{Bool, true, false}
use native.Mathlib.Omega.{arith}
use native.Mathlib.Decide.{dec_le}
use borrow.Author.Tests.{le-leb, lt-leb, leb-true}
use lib.Dec.{eqb, leb}
use Rattle.shape.specs.declared.Arg as args
use Rattle.shape.specs.declared.Piece.{Piece}
use Rattle.shape.specs.declared.Scalar.{Scalar}
use Rattle.shape.specs.declared.Shape.{Shape}
use Rattle.shape.specs.Questions.{is_float}
use Rattle.slots.specs.Cut.{cut}
use Rattle.find.specs.Find.{each_piece}
use Rattle.slot_writing.specs.Sources.{source_slots}
use Rattle.spend.specs.Ways.{left_after}
use Rattle.spend_scalar.specs.Spending.{scalar_return}
use Rattle.classify.specs.Classify.{counts}
use Rattle.classify.specs.Spending.{Chosen, return_choice, scalar_by, aggregate_by}
use Rattle.after_dots.specs.AfterDots.{settled_for}
use Rattle.classify.proofs.Agree.{slots_for}
use Rattle.riscv.specs.Riscv.{Passing, parts, Inside, fields, aggregate, scalar, State, state, start, by_integers, by_reference, by_fields, named, result}
use Rattle.riscv.specs.Reading.{basic_of, field_of, inside_by_offset, parts_of, reads, reads_result}
use Rattle.riscv.proofs.Words.{unspent, cut_one, cut_two}
use Rattle.riscv.proofs.Scalars.{riscv, board, address_read}
use Rattle.riscv.proofs.Rules as rules
use Rattle.riscv.proofs.Pairs.{Pair, Unpaired, Judged, pair, unpaired, judged}
use Rattle.riscv.proofs.Enough.{EnoughShape}
use Rattle.riscv.proofs.Aggregates.{by_size, flattened}

-- ---- the integer convention from a0 on: one or two words, and the address of what is larger

module _ (size : ℕ) where
  abbrev FirstWords : Type 0
  FirstWords = (by_integers start size).place ≡ parts (parts_of 0 2 0 2 (cut size 8))

  in_one : 0 < size → size ≤ 8 → FirstWords
  unfolding parts_of by_integers
  in_one l h = rw (cut_one size l h, le-leb size 8 h)

  in_two : 8 < size → size ≤ 16 → FirstWords
  unfolding parts_of by_integers
  in_two l h = rw (cut_two size l h, lt-leb size 8 l, le-leb size 16 h)

  first_words : 0 < size → size ≤ 16 → FirstWords
  first_words l h = go (dec_le size 8)
    where
      go : Dec (size ≤ 8) → FirstWords
      go (yes s) = in_one l s
      go (no s) = in_two (omega arith) h

  larger : 16 < size → (s : State) → by_integers s size ≡ by_reference s
  unfolding by_integers
  larger h s = rw (lt-leb size 8 (omega arith), lt-leb size 16 h)

module _ (name : List ℕ) (fr fw : ℕ) (two_floats : 0 < fw → 2 ≤ fr) (I F : ℕ) (few : I ≤ 8) (floats : F ≤ fr) where
  abbrev at : State
  at = state (8 - I) (fr - F)

  abbrev pub comes : args.Arg → List Piece → Chosen → Passing
  comes arg ps k =
      reads_result (riscv name fr fw).banks arg (counts I F) k.decision.way k.decision.spent (slots_for k arg ps) (left_after (counts I F) k.decision.spent)

  -- ---- a scalar

  module _ (s : Scalar) (ps : List Piece) (some : 0 < s.size) (small : s.size ≤ 16) where
    abbrev ScalarComes : Type 0
    ScalarComes =
        comes (args.TheVariants.Scalar s) ps (return_choice (riscv name fr fw) (counts I F) (args.TheVariants.Scalar s) ps)
        ≡ result (board name fr fw) at (scalar (basic_of s.kind s.size))

    an_integer : is_float s.kind ≡ false → ScalarComes
    unfolding return_choice scalar_by scalar_return source_slots reads_result result named by_fields
    an_integer e = rw (e, first_words s.size some small, unspent I, unspent F)

    a_wide_float : is_float s.kind ≡ true → leb s.size fw ≡ false → ScalarComes
    unfolding return_choice scalar_by scalar_return source_slots reads_result result named by_fields
    a_wide_float e c = rw (e, c, first_words s.size some small, unspent I, unspent F)

    a_float : is_float s.kind ≡ true → leb s.size fw ≡ true → ScalarComes
    unfolding return_choice scalar_by scalar_return source_slots reads_result result named by_fields
    a_float e c =
        let l : 0 < fw = omega (arith, leb-true s.size fw c) in
        rw (e, c, le-leb 1 fr (omega (arith, two_floats l)), unspent I, unspent F)

    pub scalar_comes : ScalarComes
    scalar_comes = go (is_float s.kind) (leb s.size fw) refl refl
      where
        go : (e c : Bool) → is_float s.kind ≡ e → leb s.size fw ≡ c → ScalarComes
        go false c ee ec = an_integer ee
        go true false ee ec = a_wide_float ee ec
        go true true ee ec = a_float ee ec

  -- ---- an aggregate

  module _ (shape : Shape) (ps : List Piece) where
    abbrev arg : args.Arg
    arg = args.TheVariants.Aggregate shape

    abbrev ComesAs : Inside → Type 0
    ComesAs inside = comes arg ps (return_choice (riscv name fr fw) (counts I F) arg ps) ≡ result (board name fr fw) at (aggregate shape.size inside)

    abbrev Flattened : Type 0
    Flattened = ComesAs (fields (map field_of ps))

    empty_comes : eqb shape.size 0 ≡ true → Flattened
    unfolding return_choice aggregate_by settled_for source_slots reads_result result named
    empty_comes e = rw (rules.returned_empty name fr fw (counts I F) shape ps e, e, unspent I, unspent F)

    module _ (some : 0 < shape.size) (filled : eqb shape.size 0 ≡ false) where
      pair_comes : Pair (board name fr fw) ps → Flattened
      unfolding return_choice aggregate_by settled_for source_slots reads_result result named
      pair_comes k =
          rw (
            rules.returned_paired name fr fw (counts I F) shape ps some (each_piece ps) k.finds,
            filled,
            k.by start (by_integers start shape.size) 2 2 (omega (arith, k.few)) (omega (arith, k.few)) (omega arith),
            le-leb (0 + k.floats) fr (omega (arith, k.few, two_floats k.held)),
            le-leb (0 + k.integers) 8 (omega (arith, k.few)),
            unspent I,
            unspent F,
          )

      module _ (u : Unpaired (board name fr fw) ps) where
        words_come : shape.size ≤ 16 → Flattened
        unfolding return_choice aggregate_by settled_for source_slots reads_result result named
        words_come h =
            rw (rules.returned_words name fr fw (counts I F) shape ps some u.finds h, filled, u.always start (by_integers start shape.size), first_words shape.size some h, unspent I, unspent F)

        address_comes : 16 < shape.size → Flattened
        unfolding return_choice aggregate_by settled_for source_slots reads_result reads result named
        address_comes h =
            rw (rules.returned_address name fr fw (counts I F) shape ps some u.finds h, filled, u.always start (by_integers start shape.size), larger shape.size h start)
            (address_read name fr fw I F few floats 0 0 I (omega arith) (omega arith) shape.size h ∙ larger shape.size h at)

      filled_comes : Judged (board name fr fw) ps → Flattened
      filled_comes (pair k) = pair_comes k
      filled_comes (unpaired u) = go (dec_le shape.size 16)
        where
          go : Dec (shape.size ≤ 16) → Flattened
          go (yes h) = words_come u h
          go (no h) = address_comes u (omega arith)

    pub aggregate_comes : EnoughShape shape ps → ComesAs (inside_by_offset ps)
    aggregate_comes d =
        rw (flattened shape ps d)
        (by_size shape Flattened (λ z. empty_comes z) (λ some filled. filled_comes some filled (judged (board name fr fw) ps d.usual)))
