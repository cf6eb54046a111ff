-- What the rules of RISC-V's own book decide, whatever the float bank: where bytes of a value are left for the stack, all integer registers that are left
-- are passed over or given. Each line for a scalar and each rule for an aggregate is looked at by itself.
use Prim.Native.Nat.{ℕ, zero, suc, ◌+◌, ◌*◌, ◌-◌, ◌≤◌, ◌<◌, min}
use mathlib.Core.Path.{◌≡◌, refl}
use mathlib.Core.List.{List}
use mathlib.Core.Bool.{Bool, true, false, ◌&&◌, cond, false≢true}
use native.Mathlib.Omega.{arith}
use borrow.Author.Tests.{eqb-true, leb-false, lt-ltb}
use lib.Dec.{eqb, leb}
use Rattle.std.specs.Prelude.{Some, None}
use Rattle.shape.specs.declared.Arg as args
use Rattle.shape.specs.declared.Piece.{Piece}
use Rattle.shape.specs.declared.Scalar.{Scalar}
use Rattle.shape.specs.declared.Shape.{Shape}
use Rattle.describe.specs.declared.Short.TheVariants.{TryNextRule, Split}
use Rattle.describe.specs.declared.ReturnPointer.TheVariants.{FirstArgument}
use Rattle.describe.specs.declared.Variadic.TheVariants.{UnnamedIntegersEven}
use Rattle.describe.specs.Dots.{dots_of}
use Rattle.describe.specs.Description.{Description, terms_of}
use Rattle.abis.specs.Abis.{riscv_with}
use Rattle.spend.specs.declared.Left.{Left}
use Rattle.spend.specs.declared.Spent.{Spent}
use Rattle.spend.specs.declared.Wanted.{Wanted}
use Rattle.spend.specs.declared.Way.{Way}
use Rattle.spend.specs.declared.Way.TheVariants.{Ignore, Direct, Pieces, Reference, Memory}
use Rattle.spend.specs.declared.Decision.{Decision}
use Rattle.spend.specs.Ways.{spends, plain, in_pieces, cut_slots, with_mark}
use Rattle.spend.specs.Spending.{want_of, reference, memory, as_far_as, split_of, in_slots, when_short}
use Rattle.spend_scalar.specs.Spending.{scalar_argument, scalar_return}
use Rattle.stack_place.specs.Stacked.{scalar_bytes, aggregate_bytes, return_bytes, pointer_bytes}
use Rattle.after_dots.specs.AfterDots.{skipped_for, is_ignored, spent_behind, settled_for}
use Rattle.after_dots.proofs.AfterDots.{skipped_fits}
use Rattle.classify.specs.Spending.{by_rules, scalar_by, aggregate_by, return_choice, argument_choice, variadic_argument_choice}
use Rattle.classify.specs.Stacking.{bytes_for}
use Rattle.ledger.proofs.Decided.{IfDecided, scalar_so, argument_so, return_so}

-- ---- a decision of which it holds: where bytes go to the stack, it passes over and is given all that is left

abbrev pub Spends : Left → Decision → ℕ → Type 0
Spends left d bytes = 0 < bytes → left.integer ≤ d.spent.integers_passed + d.spent.integers_given

module _ (name : List ℕ) (float_registers float_width : ℕ) where
  abbrev riscv : Description
  riscv = riscv_with name float_registers float_width

  -- ---- a scalar

  module _ (left : Left) (s : Scalar) where
    abbrev ScalarSpends : Decision → Type 0
    ScalarSpends d = Spends left d (scalar_bytes d.way d.spent s.size 8)

    abbrev want : ℕ
    want = want_of s.size 8

    -- so many words hold it
    enough : s.size ≤ 8 * want
    unfolding want_of
    enough = omega arith

    takes_direct : ScalarSpends (plain Direct (spends 0 (min want left.integer) 0 0))
    takes_direct h = omega (arith, h, enough)

    takes_pieces : ScalarSpends (in_pieces (cut_slots s.size 8) (spends 0 (min want left.integer) 0 0))
    takes_pieces h = omega (arith, h, enough)

    takes_float : (left.float ≡ 0 → ⊥) → ScalarSpends (plain Direct (spends 0 0 0 (min 1 left.float)))
    takes_float one h =
        let given : 0 < min 1 left.float = omega (arith, positive left.float one) in
        absurd (omega (arith, rw (lt-ltb 0 (min 1 left.float) given) at h))
      where
        positive : (n : ℕ) → (n ≡ 0 → ⊥) → 0 < n
        positive zero z = absurd (z refl)
        positive (suc n) z = omega arith

    scalar_spends : ScalarSpends (scalar_argument riscv.banks riscv.scalars left s)
    scalar_spends = scalar_so name float_registers float_width ScalarSpends left s takes_direct takes_float takes_pieces

  -- an address that was given no register finds none left
  address_spends : (left : Left) → Spends left (reference (min 1 left.integer)) (pointer_bytes (spends 0 (min 1 left.integer) 0 0) 8)
  address_spends left = go (eqb (min 1 left.integer) 0) refl
    where
      go : (b : Bool) → eqb (min 1 left.integer) 0 ≡ b → 0 < cond b 8 0 → left.integer ≤ 0 + min 1 left.integer
      go true e h = omega (arith, eqb-true (min 1 left.integer) 0 e)
      go false e h = absurd (omega (arith, h))

  -- ---- an aggregate argument

  module _ (left : Left) (shape : Shape) (ps : List Piece) where
    abbrev AggregateSpends : Decision → Type 0
    AggregateSpends d = Spends left d (aggregate_bytes d.way d.spent d.count shape.size 8)

    -- slots that fit have a register each
    found_slots : (slots : Wanted) → IfDecided AggregateSpends (in_slots false false left TryNextRule slots)
    unfolding in_slots when_short
    found_slots slots = go (leb (slots.count - slots.floats) left.integer && leb slots.floats left.float)
      where
        go : (fits : Bool)
            → IfDecided AggregateSpends
            (cond fits (Some (in_pieces slots (spends 0 (slots.count - slots.floats) 0 slots.floats))) None)
        go true = λ h. absurd (omega (arith, h))
        go false = tt

    -- words that don't fit are split over all that is left, or there is none
    cut_slots_lem : IfDecided AggregateSpends (in_slots false false left Split (cut_slots shape.size 8))
    unfolding in_slots when_short
    cut_slots_lem = go (leb (n - 0) left.integer) (leb 0 left.float) refl refl
      where
        n : ℕ
        n = (cut_slots shape.size 8).count

        split : left.integer < n - 0 → (b : Bool) → eqb left.integer 0 ≡ b
            → AggregateSpends (cond b (memory 0 0 0 0) (as_far_as left (cut_slots shape.size 8) (n - 0) 0))
        split short true e h = omega (arith, eqb-true left.integer 0 e)
        split short false e h = omega (arith, short)

        go : (x y : Bool) → leb (n - 0) left.integer ≡ x → leb 0 left.float ≡ y
            → IfDecided AggregateSpends
            (cond (x && y) (Some (in_pieces (cut_slots shape.size 8) (spends 0 (n - 0) 0 0)))
            (Some (split_of left (cut_slots shape.size 8) (n - 0) 0)))
        go true true ex ey = λ h. absurd (omega (arith, h))
        go true false ex ey = absurd (omega (arith, leb-false 0 left.float ey))
        go false false ex ey = absurd (omega (arith, leb-false 0 left.float ey))
        go false true ex ey = split (leb-false (n - 0) left.integer ex) (eqb left.integer 0) refl

    aggregate_spends : AggregateSpends (by_rules (terms_of riscv) false left riscv.arguments shape ps).decision
    aggregate_spends =
        argument_so name float_registers float_width AggregateSpends left shape ps (λ h. absurd (omega (arith, h))) found_slots cut_slots_lem (address_spends left)

  -- ---- what comes back: nothing but an address is there

  module _ (left : Left) where
    abbrev BackSpends : Decision → Type 0
    BackSpends d = Spends left d (return_bytes d.way FirstArgument d.spent 8)

    scalar_back : (s : Scalar) → BackSpends (scalar_return riscv.scalars riscv.return_pointer left s)
    unfolding scalar_return
    scalar_back s h = absurd (omega (arith, h))

    aggregate_back : (shape : Shape) (ps : List Piece) → BackSpends (by_rules (terms_of riscv) true left riscv.returns shape ps).decision
    aggregate_back shape ps =
        return_so name float_registers float_width BackSpends left shape ps (λ h. absurd (omega (arith, h))) (λ slots h. absurd (omega (arith, h))) (address_spends left)

  -- ---- the choice of an operation, by what is asked about

  abbrev pub bytes_left : Bool → args.Arg → Decision → ℕ
  bytes_left returning arg d = bytes_for (terms_of riscv) returning arg d.way d.spent d.count

  pub return_choice_lem : (left : Left) (arg : args.Arg) (ps : List Piece) → Spends left (return_choice riscv left arg ps).decision (bytes_left true arg (return_choice riscv left arg ps).decision)
  unfolding return_choice scalar_by aggregate_by settled_for
  return_choice_lem left args.TheVariants.Void ps h = absurd (omega (arith, h))
  return_choice_lem left (args.TheVariants.Scalar s) ps h = scalar_back left s h
  return_choice_lem left (args.TheVariants.Aggregate shape) ps h = aggregate_back left shape ps h

  pub argument_choice_lem : (left : Left) (arg : args.Arg) (ps : List Piece) → Spends left (argument_choice riscv left arg ps).decision (bytes_left false arg (argument_choice riscv left arg ps).decision)
  unfolding argument_choice scalar_by aggregate_by settled_for
  argument_choice_lem left args.TheVariants.Void ps h = absurd (omega (arith, h))
  argument_choice_lem left (args.TheVariants.Scalar s) ps h = scalar_spends left s h
  argument_choice_lem left (args.TheVariants.Aggregate shape) ps h = aggregate_spends left shape ps h

  -- behind an even start: those before it are passed over, too, and what is ignored has no bytes
  module _ (left : Left) (n : ℕ) (fits : n ≤ left.integer) where
    abbrev behind : Left
    behind = with_mark (record { integer = left.integer - n; float = left.float; integers_only = left.integers_only })

    settled_spends : (d : Decision) (bytes : Way → Spent → ℕ) → ((spent : Spent) → bytes Ignore spent ≡ 0)
        → ((way : Way) (x y : Spent) → x.integers_given ≡ y.integers_given → x.floats_given ≡ y.floats_given → bytes way x ≡ bytes way y)
        → Spends behind d (bytes d.way d.spent)
        → Spends left (settled_for (dots_of UnnamedIntegersEven) left.integer n d) (bytes d.way (spent_behind left.integer n d))
    unfolding settled_for
    settled_spends d bytes none alike spends_so = go d.way (is_ignored d.way) refl refl
      where
        go : (way : Way) (b : Bool) → d.way ≡ way → is_ignored d.way ≡ b → Spends left (settled_for (dots_of UnnamedIntegersEven) left.integer n d) (bytes d.way (spent_behind left.integer n d))
        go way true ew e h = absurd (ignored way ew (rw ew at e) h)
          where
            ignored : (w : Way) → d.way ≡ w → is_ignored w ≡ true → 0 < bytes d.way (spent_behind left.integer n d) → ⊥
            ignored Ignore ew e h = omega (arith, rw (ew, none) at h)
            ignored Direct ew e h = false≢true e
            ignored Pieces ew e h = false≢true e
            ignored Reference ew e h = false≢true e
            ignored Memory ew e h = false≢true e
        go way false ew e h =
            let same : bytes d.way (spent_behind left.integer n d) ≡ bytes d.way d.spent = alike d.way _ _ (rw e) (rw e) in
            let k = spends_so (omega (arith, h, same)) in
            rw e (omega (arith, k))

  -- bytes hang on what is given alone
  scalar_alike : (size : ℕ) (way : Way) (x y : Spent) → x.integers_given ≡ y.integers_given → x.floats_given ≡ y.floats_given → scalar_bytes way x size 8 ≡ scalar_bytes way y size 8
  scalar_alike size Ignore x y i f = refl
  scalar_alike size Direct x y i f = rw (i, f)
  scalar_alike size Pieces x y i f = rw (i, f)
  scalar_alike size Reference x y i f = rw i
  scalar_alike size Memory x y i f = refl

  aggregate_alike : (count size : ℕ) (way : Way) (x y : Spent) → x.integers_given ≡ y.integers_given → x.floats_given ≡ y.floats_given
      → aggregate_bytes way x count size 8 ≡ aggregate_bytes way y count size 8
  aggregate_alike count size Ignore x y i f = refl
  aggregate_alike count size Direct x y i f = refl
  aggregate_alike count size Pieces x y i f = rw (i, f)
  aggregate_alike count size Reference x y i f = rw i
  aggregate_alike count size Memory x y i f = refl

  pub variadic_choice : (left : Left) (arg : args.Arg) (ps : List Piece)
      → Spends left (variadic_argument_choice riscv left arg ps).decision (bytes_left false arg (variadic_argument_choice riscv left arg ps).decision)
  unfolding variadic_argument_choice scalar_by aggregate_by settled_for
  variadic_choice left args.TheVariants.Void ps h = absurd (omega (arith, h))
  variadic_choice left (args.TheVariants.Scalar s) ps h =
      let n : ℕ = skipped_for (dots_of UnnamedIntegersEven) riscv.banks left s.size s.align in
      let l : Left = behind left n (skipped_fits (dots_of UnnamedIntegersEven) riscv.banks left s.size s.align) in
      settled_spends left n (skipped_fits (dots_of UnnamedIntegersEven) riscv.banks left s.size s.align) (scalar_argument riscv.banks riscv.scalars l s) (λ way spent. scalar_bytes way spent s.size 8) (λ spent. refl)
      (scalar_alike s.size) (scalar_spends l s) h
  variadic_choice left (args.TheVariants.Aggregate shape) ps h =
      let n : ℕ = skipped_for (dots_of UnnamedIntegersEven) riscv.banks left shape.size shape.align in
      let l : Left = behind left n (skipped_fits (dots_of UnnamedIntegersEven) riscv.banks left shape.size shape.align) in
      let d : Decision = (by_rules (terms_of riscv) false l riscv.arguments shape ps).decision in
      settled_spends left n (skipped_fits (dots_of UnnamedIntegersEven) riscv.banks left shape.size shape.align) d (λ way spent. aggregate_bytes way spent d.count shape.size 8) (λ spent. refl)
      (aggregate_alike d.count shape.size) (aggregate_spends l shape ps) h
