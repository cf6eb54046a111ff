-- What FloatPair finds in pieces is what the standard passes in float registers and beside them: one float, two floats, a float and an integer. In the
-- domain it finds that and nothing else, on every board, and both ask for the same number of registers of each bank.
use Prim.Native.Nat.{ℕ, ◌+◌, ◌-◌, ◌≤◌, ◌<◌}
use mathlib.Core.Path.{◌≡◌, refl}
use mathlib.Core.List.{List, [], ◌∷◌, map}
use mathlib.Core.Bool.{Bool, true, false, ◌&&◌, cond, and-true, and-false, false≢true}
use native.Mathlib.Omega.{arith}
use borrow.Author.Tests.{le-leb, lt-ltb, leb-true, eqb-true}
use lib.Dec.{eqb, leb}
use lib.ListN.{length}
use Rattle.shape.specs.declared.Piece.{Piece}
use Rattle.shape.specs.Lists.{every}
use Rattle.shape.specs.Numbers.{integer, single, double, quad}
use Rattle.shape.specs.Questions.{is_float}
use Rattle.shape.proofs.Bools.{both_true}
use Rattle.slots.specs.Search.{found, nothing, floats_in}
use Rattle.find.specs.Find.{found_if, float_pair, fits_one, piece_slot, each_piece}
use Rattle.riscv.specs.Riscv.{XLEN, integer_registers, Board, integral, floating, State, state, Passing, passing, parts, is_real, is_whole, by_fields}
use Rattle.riscv.specs.Domain.{is_usual, are_usual}
use Rattle.riscv.specs.Reading.{field_of, parts_of, format_bytes}

-- ---- a float has the bytes of its format, which are some

pub record Formatted (p : Piece) : Type 0 where
  pub bytes : format_bytes p.kind ≡ p.size
  pub some : 0 < p.size

pub formatted : (p : Piece) → is_usual p.kind p.size ≡ true → is_float p.kind ≡ true → Formatted p
formatted p u b = go (eqb p.kind integer) (eqb p.kind single && eqb p.size 4) (eqb p.kind double && eqb p.size 8) (eqb p.kind quad && eqb p.size 16) refl refl refl refl
  where
    of : (k n : ℕ) → (eqb p.kind k && eqb p.size n) ≡ true → format_bytes k ≡ n → 0 < n → Formatted p
    of k n e f l =
        let a = both_true (eqb p.kind k) _ e in
        let size : p.size ≡ n = eqb-true p.size n a.1 in
        record { bytes = rw (eqb-true p.kind k a.0, size, f); some = omega arith }

    go : (i s d q : Bool) → eqb p.kind integer ≡ i → (eqb p.kind single && eqb p.size 4) ≡ s → (eqb p.kind double && eqb p.size 8) ≡ d → (eqb p.kind quad && eqb p.size 16) ≡ q
        → Formatted p
    go true s d q ei es ed eq = absurd (false≢true (rw ei at b))
    go false true d q ei es ed eq = of single 4 es refl (omega arith)
    go false false true q ei es ed eq = of double 8 ed refl (omega arith)
    go false false false true ei es ed eq = of quad 16 eq refl (omega arith)
    go false false false false ei es ed eq = absurd (false≢true (rw (ei, es, ed, eq) at u))

module _ (b : Board) where
  abbrev passed : State → List Piece → Passing → Passing
  passed s ps otherwise = by_fields b s (map field_of ps) otherwise

  -- ---- what is said of some pieces

  -- a slot for each piece is found, of so many integers and so many floats, and the standard has them in the next registers of each bank where those
  -- are left, whether as many are read there or more; where they aren't, it goes by the integer convention
  pub record Pair (ps : List Piece) : Type 0 where
    pub integers : ℕ
    pub floats : ℕ
    pub finds : float_pair XLEN b.FLEN ps ≡ found (each_piece ps)
    pub integers_are : length (each_piece ps) - floats_in (each_piece ps) ≡ integers
    pub floats_are : floats_in (each_piece ps) ≡ floats
    pub some : 0 < floats
    pub few : integers + floats ≤ 2
    pub held : 0 < b.FLEN
    pub by : (s : State) (otherwise : Passing) (given_a given_fa : ℕ) → integers ≤ given_a → floats ≤ given_fa → s.next_a ≤ integer_registers
        → passed s ps otherwise
        ≡ cond (leb (s.next_fa + floats) b.float_registers && leb (s.next_a + integers) integer_registers)
        (passing (parts (parts_of s.next_a given_a s.next_fa given_fa (each_piece ps))) (state (s.next_a + integers) (s.next_fa + floats)))
        otherwise

  -- nothing is found, and the standard goes by the integer convention at once
  pub record Unpaired (ps : List Piece) : Type 0 where
    pub finds : float_pair XLEN b.FLEN ps ≡ nothing
    pub always : (s : State) (otherwise : Passing) → passed s ps otherwise ≡ otherwise

  pub data Judged (ps : List Piece) : Type 0 where
    pair : Pair ps → Judged ps
    unpaired : Unpaired ps → Judged ps

  -- ---- one piece

  module _ (p : Piece) where
    a_float : is_float p.kind ≡ true → Formatted p → leb p.size b.FLEN ≡ true → Pair (p ∷ [])
    unfolding float_pair found_if fits_one each_piece piece_slot floats_in by_fields parts_of
    a_float e f c =
        record {
          integers = 0;
          floats = 1;
          finds = rw (e, c);
          integers_are = rw (e, e);
          floats_are = rw (e, e);
          some = omega arith;
          few = omega arith;
          held = omega (arith, f.some, leb-true p.size b.FLEN c);
          by = λ s otherwise given_a given_fa i l la.
              let n : s.next_a + 0 ≡ s.next_a = omega arith in
              let m : s.next_fa + 0 ≡ s.next_fa = omega arith in
              rw (e, c, e, lt-ltb 0 given_fa (omega arith), f.bytes, n, m, le-leb s.next_a integer_registers la, and-true);
        }

    an_integer : is_float p.kind ≡ false → Unpaired (p ∷ [])
    unfolding float_pair found_if by_fields
    an_integer e = record { finds = rw e; always = λ s otherwise. rw e }

    too_wide : is_float p.kind ≡ true → leb p.size b.FLEN ≡ false → Unpaired (p ∷ [])
    unfolding float_pair found_if fits_one by_fields
    too_wide e c = record { finds = rw (e, c); always = λ s otherwise. rw (e, c) }

    one_piece : is_usual p.kind p.size ≡ true → Judged (p ∷ [])
    one_piece u = go (is_float p.kind) (leb p.size b.FLEN) refl refl
      where
        go : (e c : Bool) → is_float p.kind ≡ e → leb p.size b.FLEN ≡ c → Judged (p ∷ [])
        go false c ee ec = unpaired (an_integer ee)
        go true false ee ec = unpaired (too_wide ee ec)
        go true true ee ec = pair (a_float ee (formatted p u ee) ec)

  -- ---- two pieces

  -- what no register of its bank holds is neither a float nor an integer of a pair
  module _ (p : Piece) (e : fits_one XLEN b.FLEN p ≡ false) where
    not_real : is_real b (state 0 0) (field_of p).type ≡ false
    unfolding fits_one
    not_real = go (is_float p.kind) refl
      where
        go : (f : Bool) → is_float p.kind ≡ f → is_real b (state 0 0) (cond (is_float p.kind) (floating p.size) (integral p.size)) ≡ false
        go true f = rw f (rw f at e)
        go false f = rw f

    not_whole : is_whole b (state 0 0) (field_of p).type ≡ false
    unfolding fits_one
    not_whole = go (is_float p.kind) refl
      where
        go : (f : Bool) → is_float p.kind ≡ f → is_whole b (state 0 0) (cond (is_float p.kind) (floating p.size) (integral p.size)) ≡ false
        go true f = rw f
        go false f = rw f (rw f at e)

  module _ (p q : Piece) where
    abbrev two : List Piece
    two = p ∷ q ∷ []

    first_unfit : fits_one XLEN b.FLEN p ≡ false → Unpaired two
    unfolding float_pair found_if by_fields
    first_unfit e = record { finds = rw (e, and-false); always = λ s otherwise. rw (not_real p e, not_whole p e) }

    second_unfit : fits_one XLEN b.FLEN q ≡ false → Unpaired two
    unfolding float_pair found_if by_fields
    second_unfit e = record { finds = rw (e, and-false); always = λ s otherwise. rw (not_real q e, not_whole q e, and-false, and-false) }

    two_integers : is_float p.kind ≡ false → is_float q.kind ≡ false → Unpaired two
    unfolding float_pair found_if by_fields
    two_integers ep eq = record { finds = rw (ep, eq); always = λ s otherwise. rw (ep, eq, and-false) }

    two_floats : is_float p.kind ≡ true → is_float q.kind ≡ true → Formatted p → Formatted q → leb p.size b.FLEN ≡ true → leb q.size b.FLEN ≡ true → Pair two
    unfolding float_pair found_if fits_one each_piece piece_slot floats_in by_fields parts_of
    two_floats ep eq fp fq cp cq =
        record {
          integers = 0;
          floats = 2;
          finds = rw (ep, eq, cp, cq);
          integers_are = rw (ep, eq, ep, eq);
          floats_are = rw (ep, eq, ep, eq);
          some = omega arith;
          few = omega arith;
          held = omega (arith, fp.some, leb-true p.size b.FLEN cp);
          by = λ s otherwise given_a given_fa i l la.
              let n : s.next_a + 0 ≡ s.next_a = omega arith in
              let m : s.next_fa + 0 ≡ s.next_fa = omega arith in
              rw (ep, eq, cp, cq, ep, eq, lt-ltb 0 given_fa (omega arith), lt-ltb 0 (given_fa - 1) (omega arith), fp.bytes, fq.bytes, n, m, le-leb s.next_a integer_registers la, and-true);
        }

    -- a float and an integer, in either order
    module _ (f : Piece) (ff : Formatted f) (cf : leb f.size b.FLEN ≡ true) where
      abbrev ByMixed : Type 0
      ByMixed =
          (s : State) (otherwise : Passing) (given_a given_fa : ℕ) → 1 ≤ given_a → 1 ≤ given_fa
          → passed s two otherwise
          ≡ cond (leb (s.next_fa + 1) b.float_registers && leb (s.next_a + 1) integer_registers)
          (passing (parts (parts_of s.next_a given_a s.next_fa given_fa (each_piece two))) (state (s.next_a + 1) (s.next_fa + 1)))
          otherwise

      mixed : float_pair XLEN b.FLEN two ≡ found (each_piece two) → floats_in (each_piece two) ≡ 1 → ByMixed → Pair two
      unfolding each_piece
      mixed finds one by =
          record {
            integers = 1;
            floats = 1;
            finds = finds;
            integers_are = rw one;
            floats_are = one;
            some = omega arith;
            few = omega arith;
            held = omega (arith, ff.some, leb-true f.size b.FLEN cf);
            by = λ s otherwise given_a given_fa i l la. by s otherwise given_a given_fa i l;
          }

    same_fa : (s : State) → s.next_fa + 0 ≡ s.next_fa
    same_fa s = omega arith

    float_first : is_float p.kind ≡ true → is_float q.kind ≡ false → Formatted p → leb p.size b.FLEN ≡ true → leb q.size XLEN ≡ true → Pair two
    unfolding float_pair found_if fits_one each_piece piece_slot floats_in by_fields parts_of
    float_first ep eq fp cp cq =
        mixed p fp cp (rw (ep, eq, cp, cq)) (rw (ep, eq, ep))
        (λ s otherwise given_a given_fa i l. rw (ep, eq, cp, cq, ep, lt-ltb 0 given_fa (omega arith), lt-ltb 0 given_a (omega arith), fp.bytes, same_fa s))

    float_second : is_float p.kind ≡ false → is_float q.kind ≡ true → Formatted q → leb p.size XLEN ≡ true → leb q.size b.FLEN ≡ true → Pair two
    unfolding float_pair found_if fits_one each_piece piece_slot floats_in by_fields parts_of
    float_second ep eq fq cp cq =
        mixed q fq cq (rw (ep, eq, cp, cq)) (rw (ep, eq, eq))
        (λ s otherwise given_a given_fa i l. rw (ep, eq, cp, cq, eq, lt-ltb 0 given_fa (omega arith), lt-ltb 0 given_a (omega arith), fq.bytes, same_fa s))

    two_pieces : is_usual p.kind p.size ≡ true → is_usual q.kind q.size ≡ true → Judged two
    unfolding fits_one
    two_pieces up uq = go (is_float p.kind) (is_float q.kind) (fits_one XLEN b.FLEN p) (fits_one XLEN b.FLEN q) refl refl refl refl
      where
        go : (ep eq cp cq : Bool) → is_float p.kind ≡ ep → is_float q.kind ≡ eq → fits_one XLEN b.FLEN p ≡ cp → fits_one XLEN b.FLEN q ≡ cq → Judged two
        go ep eq false cq eep eeq ecp ecq = unpaired (first_unfit ecp)
        go ep eq true false eep eeq ecp ecq = unpaired (second_unfit ecq)
        go false false true true eep eeq ecp ecq = unpaired (two_integers eep eeq)
        go true true true true eep eeq ecp ecq = pair (two_floats eep eeq (formatted p up eep) (formatted q uq eeq) (rw eep at ecp) (rw eeq at ecq))
        go true false true true eep eeq ecp ecq = pair (float_first eep eeq (formatted p up eep) (rw eep at ecp) (rw eeq at ecq))
        go false true true true eep eeq ecp ecq = pair (float_second eep eeq (formatted q uq eeq) (rw eep at ecp) (rw eeq at ecq))

  -- ---- any pieces of usual kinds and sizes

  pub judged : (ps : List Piece) → are_usual ps ≡ true → Judged ps
  unfolding every float_pair by_fields
  judged [] u = unpaired (record { finds = refl; always = λ s otherwise. refl })
  judged (p ∷ []) u = one_piece p (both_true (is_usual p.kind p.size) _ u).0
  judged (p ∷ q ∷ []) u =
      let a = both_true (is_usual p.kind p.size) _ u in
      two_pieces p q a.0 (both_true (is_usual q.kind q.size) _ a.1).0
  judged (p ∷ q ∷ r ∷ ps) u = unpaired (record { finds = refl; always = λ s otherwise. refl })
