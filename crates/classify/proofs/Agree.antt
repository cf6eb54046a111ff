-- The spending rules and the Rust agree, whatever the description, the counts left, the mark and the value: a decision of the rules says how
-- the value travels and its slots as the Rust does, and the counts that the Rust leaves are those before, less those passed over and given.
-- Assumes nothing but this: after the dots of a description whose unnamed arguments alone go in integers, the mark isn't set. A call that has it
-- there is refused.
use Prim.Native.Nat.{ℕ, ◌+◌, ◌-◌, ◌%◌, ◌≤◌, min}
use mathlib.Core.Path.{◌≡◌, refl, sym, ap}
use mathlib.Core.List.{List, [], ◌∷◌}
use mathlib.Core.Bool.{Bool, true, false, ◌&&◌, ◌||◌, not, cond}
use mathlib.Core.Option.Option.{some}
use native.Mathlib.Omega.{arith}
use borrow.Author.Tests.{leb-true}
use lib.Dec.{eqb, leb, ltb}
use lib.ListN.{length}
use Rattle.std.specs.Prelude.{Some}
use Rattle.shape.specs.declared.Arg as args
use Rattle.shape.specs.declared.Piece.{Piece}
use Rattle.shape.specs.declared.Scalar.{Scalar}
use Rattle.shape.specs.declared.Shape.{Shape}
use Rattle.shape.specs.Numbers.{integer}
use Rattle.shape.specs.Questions.{is_float}
use Rattle.slots.specs.declared.Slot.{Slot}
use Rattle.slots.specs.Search.{Search, found, nothing, floats_in}
use Rattle.describe.specs.declared.Scalars.{Scalars}
use Rattle.describe.specs.declared.Rule.{Rule}
use Rattle.describe.specs.declared.Test.{Test}
use Rattle.describe.specs.declared.Test.TheVariants.{Anything}
use Rattle.describe.specs.declared.Travel.{Travel}
use Rattle.describe.specs.declared.Travel.TheVariants.{Ignore, AsFound, AsIntegers, AsOneInteger, ByReference, InMemory, InMemoryAndSpend}
use Rattle.describe.specs.declared.Short.{Short}
use Rattle.describe.specs.declared.Short.TheVariants.{Unchanged, Memory, MemoryAndDrain, TryNextRule, Split}
use Rattle.describe.specs.declared.ReturnPointer.{ReturnPointer}
use Rattle.describe.specs.declared.ReturnPointer.TheVariants.{FirstArgument, FirstArgumentPopped, Dedicated}
use Rattle.describe.specs.declared.Variadic.{Variadic}
use Rattle.describe.specs.declared.Variadic.TheVariants.{SameAsFixed, AlwaysMemory, BothBanks, IntegersOnly, UnnamedIntegers, UnnamedIntegersEven}
use Rattle.describe.specs.Description.{Description, terms_of}
use Rattle.describe.specs.Dots.{dots, dots_of}
use Rattle.describe.specs.Questions.{is_by_reference, returns_by_reference}
use Rattle.spend.specs.declared.Left.{Left}
use Rattle.spend.specs.declared.Way.{Way}
use Rattle.spend.specs.declared.Wanted.{Wanted}
use Rattle.spend.specs.declared.Decision.{Decision}
use Rattle.spend.specs.declared.Spent.{Spent}
use Rattle.spend.specs.Ways as made
use Rattle.spend.specs.Ways.{no_mark, marked, with_mark, bank_after, left_after}
use Rattle.spend.specs.Spending as rules
use Rattle.spend_scalar.specs.Spending as lone
use Rattle.after_dots.specs.AfterDots.{skipped_for, is_ignored, spent_behind, settled_for}
use Rattle.find.specs.Matches.{matches, source_of}
use Rattle.slot_writing.specs.Sources.{source_slots}
use Rattle.classify.specs.Pass.{Pass, ignore, direct, pieces, reference, memory, way_of, is_ignore, pass_slots}
use Rattle.classify.specs.Classify as rust
use Rattle.classify.specs.Classify.{Passed, passed, leaves, less, less_both, returns, argument, variadic_argument}
use Rattle.classify.specs.Spending as spending
use Rattle.classify.specs.Spending.{Chosen, chosen, return_choice, argument_choice, variadic_argument_choice}
use Rattle.classify.specs.Parts.{arg_classes}
use Rattle.classify.proofs.Registers.{registers_wanted}
use Rattle.classify.proofs.Sources.{source_slots_lem, floats_cut}

-- what a decision of the rules comes to, against what the Rust answers
pub record Agrees (left : Left) (p : Passed) (d : Decision) (ss : List Slot) : Type 0 where
  pub way : way_of p.pass ≡ d.way
  pub slots : pass_slots p.pass ≡ ss
  pub count : length (pass_slots p.pass) ≡ d.count
  pub left_is : p.left ≡ left_after left d.spent
  pub integers : d.spent.integers_passed + d.spent.integers_given ≤ left.integer
  pub floats : d.spent.floats_passed + d.spent.floats_given ≤ left.float

-- the slots that a choice's decision stands for
abbrev pub slots_for : Chosen → args.Arg → List Piece → List Slot
slots_for c arg ps = source_slots c.decision.source (arg_classes arg c.when ps) ps

-- the counts, one bank at a time: i and f are left where so many are passed over and given
record Counts (left : Left) (i f ip ig fp fg : ℕ) : Type 0 where
  integers_left : i ≡ bank_after left.integer ip ig
  floats_left : f ≡ bank_after left.float fp fg
  integers_spent : ip + ig ≤ left.integer
  floats_spent : fp + fg ≤ left.float

counted : (left : Left) (i f ip ig fp fg : ℕ) → Counts left i f ip ig fp fg
    → leaves i f left.integers_only ≡ leaves (bank_after left.integer ip ig) (bank_after left.float fp fg) left.integers_only
counted left i f ip ig fp fg k = rw (k.integers_left, k.floats_left)

-- a short bank passed over whole
drained : (b : Bool) (n : ℕ) → (cond b 0 n ≡ bank_after n (cond b n 0) 0) × (cond b n 0 + 0 ≤ n)
drained true n = (omega arith, omega arith)
drained false n = (omega arith, omega arith)

module _ (arg : args.Arg) (ps : List Piece) (left : Left) where
  abbrev Chooses : Passed → Chosen → Type 0
  Chooses p c = Agrees left p c.decision (slots_for c arg ps)

  module _ (when : Test) where
    -- a way with no slots, of each kind
    plainly : (p : Pass) (way : Way) (i f ip ig fp fg : ℕ) → way_of p ≡ way → pass_slots p ≡ [] → Counts left i f ip ig fp fg
        → Chooses (passed p (leaves i f left.integers_only)) (chosen (made.plain way (made.spends ip ig fp fg)) when)
    unfolding source_slots
    plainly p way i f ip ig fp fg ew es k =
        record {
          way = ew;
          slots = es;
          count = ap length es;
          left_is = counted left i f ip ig fp fg k;
          integers = k.integers_spent;
          floats = k.floats_spent;
        }

    -- Pieces, in slots that stand where the decision says
    in_pieces : (ss : List Slot) (slots : Wanted) (i f ig fg : ℕ) → ss ≡ source_slots slots.source (arg_classes arg when ps) ps → length ss ≡ slots.count
        → Counts left i f 0 ig 0 fg → Chooses (passed (pieces ss) (leaves i f left.integers_only)) (chosen (made.in_pieces slots (made.spends 0 ig 0 fg)) when)
    in_pieces ss slots i f ig fg es en k =
        record {
          way = refl;
          slots = es;
          count = en;
          left_is = counted left i f 0 ig 0 fg k;
          integers = k.integers_spent;
          floats = k.floats_spent;
        }

    -- both by one test, which the proof of either may use
    by_test : (b : Bool) (p q : Passed) (d e : Decision) → (b ≡ true → Chooses p (chosen d when)) → (b ≡ false → Chooses q (chosen e when))
        → Chooses (cond b p q) (chosen (cond b d e) when)
    by_test true p q d e h k = h refl
    by_test false p q d e h k = k refl

    directly : (b : Bool) (l m : Left) (d e : Decision) → (b ≡ true → Chooses (passed direct l) (chosen d when)) → (b ≡ false → Chooses (passed direct m) (chosen e when))
        → Chooses (passed direct (cond b l m)) (chosen (cond b d e) when)
    directly true l m d e h k = h refl
    directly false l m d e h k = k refl

    -- ---- a scalar

    abbrev I : ℕ
    I = left.integer

    takes_integers : (p : Pass) (way : Way) (n : ℕ) → way_of p ≡ way → pass_slots p ≡ []
        → Chooses (passed p (less n left)) (chosen (made.plain way (made.spends 0 (min n I) 0 0)) when)
    takes_integers p way n ew es = plainly p way _ _ 0 (min n I) 0 0 ew es (omega arith)

    passes_integers : (p : Pass) (way : Way) (n : ℕ) → way_of p ≡ way → pass_slots p ≡ []
        → Chooses (passed p (less n left)) (chosen (made.plain way (made.spends (min n I) 0 0 0)) when)
    passes_integers p way n ew es = plainly p way _ _ (min n I) 0 0 0 ew es (omega arith)

    spends_nothing : (p : Pass) (way : Way) → way_of p ≡ way → pass_slots p ≡ [] → Chooses (passed p left) (chosen (made.plain way made.nothing) when)
    spends_nothing p way ew es = plainly p way _ _ 0 0 0 0 ew es (omega arith)

    takes_a_float : Chooses (passed direct (less_both 0 1 left)) (chosen (rules.direct 0 0 0 (min 1 left.float)) when)
    takes_a_float = plainly direct _ _ _ 0 0 0 (min 1 left.float) refl refl (omega arith)

    all_passed : Chooses (passed direct (leaves 0 left.float left.integers_only)) (chosen (rules.direct I 0 0 0) when)
    all_passed = plainly direct _ _ _ I 0 0 0 refl refl (omega arith)

    -- want of those left after so many were passed over, if it fits; else those passed over alone, or all
    paired : (S : Scalars) (want skipped rest : ℕ) → rest ≡ I - skipped → skipped ≤ I
        → Chooses (passed direct (rust.after_pair S want (leaves rest left.float left.integers_only)))
        (chosen (cond (leb want (I - skipped)) (rules.direct skipped want 0 0) (cond S.wide_integer_drains (rules.direct I 0 0 0) (rules.direct skipped 0 0 0))) when)
    paired S want skipped rest er hs =
        rw er
        (directly (leb want (I - skipped)) _ _ _ _
        (λ (e : leb want (I - skipped) ≡ true).
        let h : want ≤ I - skipped = leb-true _ _ e in
        plainly direct _ _ _ skipped want 0 0 refl refl (omega arith))
        (λ (e : leb want (I - skipped) ≡ false).
        directly S.wide_integer_drains _ _ _ _ (λ (t : S.wide_integer_drains ≡ true). all_passed)
        (λ (t : S.wide_integer_drains ≡ false).
        plainly direct _ _ _ skipped 0 0 0 refl refl (omega arith))))

    from_even : (S : Scalars) (want : ℕ) (b : Bool)
        → Chooses (passed direct (rust.after_pair S want (cond b (less 1 left) left)))
        (chosen (cond (leb want (I - cond b (min 1 I) 0)) (rules.direct (cond b (min 1 I) 0) want 0 0)
        (cond S.wide_integer_drains (rules.direct I 0 0 0) (rules.direct (cond b (min 1 I) 0) 0 0 0))) when)
    from_even S want true = paired S want (min 1 I) (I - 1) (omega arith) (omega arith)
    from_even S want false = paired S want 0 I (omega arith) (omega arith)

    by_pointer : (r : ReturnPointer) → Chooses (passed reference (cond (rust.is_first r) (less 1 left) left)) (chosen (rules.by_pointer r I) when)
    by_pointer FirstArgument = takes_integers reference _ 1 refl refl
    by_pointer FirstArgumentPopped = takes_integers reference _ 1 refl refl
    by_pointer Dedicated = spends_nothing reference _ refl refl

    module _ (D : Description) where
      an_integer : (want : ℕ)
          → Chooses
          (passed direct
          (cond D.scalars.wide_integer_is_all_or_nothing (cond (leb want I) (less want left) left)
          (cond (ltb 1 want && (D.scalars.wide_integer_starts_even || D.scalars.wide_integer_drains))
          (rust.after_pair D.scalars want (rust.after_even D.scalars D.banks.integer left))
          (less want left))))
          (chosen (lone.integer_argument D.banks.integer D.scalars I want) when)
      unfolding lone.integer_argument lone.skip_of
      an_integer want =
          directly D.scalars.wide_integer_is_all_or_nothing _ _ _ _
          (λ (_ : D.scalars.wide_integer_is_all_or_nothing ≡ true).
          directly (leb want I) _ _ _ _
          (λ (e : leb want I ≡ true).
          let h : want ≤ I = leb-true _ _ e in
          plainly direct _ _ _ 0 want 0 0 refl refl (omega arith))
          (λ (_ : leb want I ≡ false). spends_nothing direct _ refl refl))
          (λ (_ : D.scalars.wide_integer_is_all_or_nothing ≡ false).
          directly (ltb 1 want && (D.scalars.wide_integer_starts_even || D.scalars.wide_integer_drains)) _ _ _ _
          (λ _. from_even D.scalars want (D.scalars.wide_integer_starts_even && eqb ((D.banks.integer - I) % 2) 1))
          (λ _. takes_integers direct _ want refl refl))

      in_registers : (s : Scalar) (want : ℕ)
          → Chooses (passed direct (rust.after_scalar D left s want)) (chosen (lone.scalar_in_registers D.banks D.scalars left s want) when)
      unfolding rust.after_scalar lone.scalar_in_registers
      in_registers s want =
          directly D.banks.shared _ _ _ _ (λ _. takes_integers direct _ 1 refl refl)
          (λ _. directly (is_float s.kind && leb s.size D.banks.float_width) _ _ _ _
          (λ _. directly D.scalars.float_falls_to_integers _ _ _ _
          (λ _. directly (eqb left.float 0) _ _ _ _ (λ _. takes_integers direct _ want refl refl) (λ _. takes_a_float)) (λ _. takes_a_float))
          (λ _. directly (is_float s.kind) _ _ _ _ (λ _. takes_integers direct _ want refl refl) (λ _. an_integer want)))

      scalar_argument : (s : Scalar) → Chooses (rust.scalar D left s) (chosen (lone.scalar_argument D.banks D.scalars left s) when)
      unfolding rust.scalar lone.scalar_argument source_slots
      scalar_argument s =
          let want : ℕ = rules.want_of s.size D.banks.integer_width in
          rw (registers_wanted s.size D.banks.integer_width)
          (by_test (is_by_reference D.scalars s.size) _ _ _ _ (λ _. takes_integers reference _ 1 refl refl)
          (λ _. by_test (is_float s.kind && eqb s.kind D.scalars.in_memory) _ _ _ _ (λ _. spends_nothing direct _ refl refl)
          (λ _. by_test ((D.scalars.wide_integer_in_memory && eqb s.kind integer) && ltb 1 want) _ _ _ _ (λ _. all_passed)
          (λ _. by_test (marked left && is_float s.kind) _ _ _ _
          (λ _. in_pieces _ (made.cut_slots s.size D.banks.integer_width) _ _ (min want I) 0 refl refl (omega arith))
          (λ _. in_registers s want)))))

      -- a scalar that comes back
      scalar_return : (s : Scalar) → Chooses (rust.returned_scalar D left s) (chosen (lone.scalar_return D.scalars D.return_pointer left s) when)
      unfolding lone.scalar_return source_slots
      scalar_return s =
          by_test (not (returns_by_reference D.scalars s.size)) _ _ _ _ (λ _. spends_nothing direct _ refl refl)
          (λ _. by_test (eqb s.kind integer && not (eqb D.scalars.wide_integer_returns_in integer)) _ _ _ _
          (λ _. in_pieces _ (made.one_slot D.scalars.wide_integer_returns_in 0 1) _ _ 0 0 refl refl (omega arith))
          (λ _. by_pointer D.return_pointer))

  -- ---- an aggregate: a rule whose test matched, before what the rules after it come to

  module _ (rest : Passed) (next : Chosen) (later : Chooses rest next) (when : Test) where
    module _ (ss : List Slot) (slots : Wanted) (es : ss ≡ source_slots slots.source (arg_classes arg when ps) ps) (en : length ss ≡ slots.count) where
      when_short : (short : Short) (i f : ℕ)
          → Chooses (rust.or_rest (rust.short_of short left ss i f) rest) (spending.or_next (rules.when_short short left slots i f) when next)
      unfolding rust.short_of rules.when_short
      when_short Unchanged i f =
          in_pieces when ss slots _ _ (min i left.integer) (min f left.float) es en (omega arith)
      when_short Memory i f = spends_nothing when memory _ refl refl
      when_short MemoryAndDrain i f =
          let x = drained (ltb left.integer i) left.integer in
          let y = drained (ltb left.float f) left.float in
          plainly when memory _ _ _ _ 0 _ 0 refl refl
          (record { integers_left = x.0; floats_left = y.0; integers_spent = x.1; floats_spent = y.1 })
      when_short TryNextRule i f = later
      when_short Split i f =
          by_test when (eqb left.integer 0) _ _ _ _ (λ _. spends_nothing when memory _ refl refl)
          (λ _. in_pieces when ss slots _ _ (min i left.integer) (min f left.float) es en (omega arith))

      where_fits : (short : Short) (returning : Bool) (i f : ℕ) (x y : Bool) → leb i left.integer ≡ x → leb f left.float ≡ y
          → Chooses
          (rust.or_rest
          (cond returning (some (passed (pieces ss) left)) (cond (x && y) (some (passed (pieces ss) (less_both i f left))) (rust.short_of short left ss i f)))
          rest)
          (spending.or_next
          (cond returning (Some (made.in_pieces slots made.nothing))
          (cond (x && y) (Some (made.in_pieces slots (made.spends 0 i 0 f))) (rules.when_short short left slots i f)))
          when next)
      where_fits short true i f x y ex ey = in_pieces when ss slots _ _ 0 0 es en (omega arith)
      where_fits short false i f true true ex ey =
          let hi : i ≤ left.integer = leb-true _ _ ex in
          let hf : f ≤ left.float = leb-true _ _ ey in
          in_pieces when ss slots _ _ i f es en (omega arith)
      where_fits short false i f true false ex ey = when_short short i f
      where_fits short false i f false true ex ey = when_short short i f
      where_fits short false i f false false ex ey = when_short short i f

      in_slots_lem : (shared returning : Bool) (short : Short) → floats_in ss ≡ slots.floats
          → Chooses (rust.or_rest (rust.slots_in_registers shared left short ss returning) rest) (spending.or_next (rules.in_slots shared returning left short slots) when next)
      unfolding rust.slots_in_registers rules.in_slots
      in_slots_lem shared returning short ef = rw (en, ef) (where_fits short returning _ _ _ _ refl refl)

    travels : (D : Description) (then : Travel) (short : Short) (shape : Shape) (returning : Bool) (ss : List Slot)
        → ss ≡ source_slots (source_of when shape.size) (arg_classes arg when ps) ps
        → Chooses (rust.or_rest (rust.travel_in then D left short ss shape returning) rest)
        (spending.or_next
        (rules.travel_by then D.banks D.return_pointer returning left short shape.size (spending.wanted_by when shape.size ss)) when next)
    unfolding source_slots floats_in
    travels D Ignore short shape returning ss es = spends_nothing when ignore _ refl refl
    travels D AsFound short shape returning ss es = in_slots_lem ss _ es refl D.banks.shared returning short refl
    travels D AsIntegers short shape returning ss es =
        in_slots_lem _ (made.cut_slots shape.size D.banks.integer_width) refl refl D.banks.shared returning short (floats_cut _ _)
    travels D AsOneInteger short shape returning ss es =
        in_slots_lem _ (made.one_slot integer shape.size 0) refl refl D.banks.shared returning short refl
    travels D ByReference short shape true ss es = by_pointer when D.return_pointer
    travels D ByReference short shape false ss es = takes_integers when reference _ 1 refl refl
    travels D InMemory short shape returning ss es = spends_nothing when memory _ refl refl
    travels D InMemoryAndSpend short shape true ss es = spends_nothing when memory _ refl refl
    travels D InMemoryAndSpend short shape false ss es =
        rw (registers_wanted shape.size D.banks.integer_width) (passes_integers when memory _ _ refl refl)

-- ---- the walk over the rules

module _ (D : Description) (returning : Bool) (left : Left) (shape : Shape) (ps : List Piece) where
  abbrev Walks : Passed → Chosen → Type 0
  Walks p c = Agrees left p c.decision (slots_for c (args.TheVariants.Aggregate shape) ps)

  step : (rule : Rule) (rest : Passed) (next : Chosen) → Walks rest next → (s : Search) → matches D.banks rule.when shape ps ≡ s
      → Walks (rust.tried s D left rule shape returning rest) (spending.decide_by s (terms_of D) returning left rule shape next)
  unfolding rust.travel rules.travel_of
  step rule rest next later nothing e = later
  step rule rest next later (found ss) e = go ((marked left && not returning) && ltb 0 (floats_in ss))
    where
      go : (b : Bool)
          → Walks (cond b rest (rust.or_rest (rust.travel D left rule ss shape returning) rest))
          (cond b next
          (spending.or_next
          (rules.travel_of D.banks D.return_pointer returning left rule shape.size (spending.wanted_by rule.when shape.size ss)) rule.when next))
      go true = later
      go false =
          travels (args.TheVariants.Aggregate shape) ps left rest next later rule.when D rule.then rule.short shape returning ss
          (sym (source_slots_lem D.banks rule.when shape ps ss e))

  pub aggregate_agrees : (rules : List Rule) → Walks (rust.apply D left rules shape ps returning) (spending.by_rules (terms_of D) returning left rules shape ps)
  unfolding rust.apply spending.by_rules
  aggregate_agrees [] = spends_nothing (args.TheVariants.Aggregate shape) ps left Anything memory _ refl refl
  aggregate_agrees (rule ∷ rules) =
      step rule (rust.apply D left rules shape ps returning) (spending.by_rules (terms_of D) returning left rules shape ps) (aggregate_agrees rules) _ refl

-- ---- the operations

-- a fixed argument, and one after the dots of a kind that has it go as a fixed one, whether that marks the call or not
fixed_agrees : (mark : Bool) (D : Description) (left : Left) (arg : args.Arg) (ps : List Piece)
    → Agrees left (argument D left arg ps) (spending.choice (terms_of D) D.arguments false (dots mark false false false) left arg ps).decision
    (slots_for (spending.choice (terms_of D) D.arguments false (dots mark false false false) left arg ps) arg ps)
unfolding argument spending.scalar_by spending.aggregate_by settled_for
fixed_agrees mark D left args.TheVariants.Void ps = spends_nothing args.TheVariants.Void ps left Anything ignore _ refl refl
fixed_agrees mark D left (args.TheVariants.Scalar s) ps = scalar_argument (args.TheVariants.Scalar s) ps left Anything D s
fixed_agrees mark D left (args.TheVariants.Aggregate shape) ps = aggregate_agrees D false left shape ps D.arguments

pub argument_agrees : (D : Description) (left : Left) (arg : args.Arg) (ps : List Piece)
    → Agrees left (argument D left arg ps) (argument_choice D left arg ps).decision (slots_for (argument_choice D left arg ps) arg ps)
unfolding argument_choice
argument_agrees = fixed_agrees false

pub returns_agrees : (D : Description) (left : Left) (arg : args.Arg) (ps : List Piece)
    → Agrees left (returns D left arg ps) (return_choice D left arg ps).decision (slots_for (return_choice D left arg ps) arg ps)
unfolding returns return_choice spending.scalar_by spending.aggregate_by settled_for
returns_agrees D left args.TheVariants.Void ps = spends_nothing args.TheVariants.Void ps left Anything ignore _ refl refl
returns_agrees D left (args.TheVariants.Scalar s) ps = scalar_return (args.TheVariants.Scalar s) ps left Anything D s
returns_agrees D left (args.TheVariants.Aggregate shape) ps = aggregate_agrees D true left shape ps D.returns

-- a decision that spends this instead
abbrev spending_instead : Decision → Spent → Decision
spending_instead d spent = record { way = d.way; source = d.source; count = d.count; spent = spent }

-- the same pass, where neither side spends
freely_agrees : (left emptied : Left) (p : Passed) (d : Decision) (ss : List Slot) → Agrees emptied p d ss → Agrees left (passed p.pass left) (spending_instead d made.nothing) ss
freely_agrees left emptied p d ss a =
    record {
      way = a.way;
      slots = a.slots;
      count = a.count;
      left_is = counted left _ _ 0 0 0 0 (omega arith);
      integers = omega arith;
      floats = omega arith;
    }

-- the mark is put back, where it wasn't set
unmark_agrees : (left : Left) → left.integers_only ≡ no_mark → (p : Passed) (d : Decision) (ss : List Slot) → Agrees (with_mark left) p d ss
    → Agrees left (passed p.pass (leaves p.left.integer p.left.float no_mark)) d ss
unmark_agrees left e p d ss a =
    record {
      way = a.way;
      slots = a.slots;
      count = a.count;
      left_is = rw (e, a.left_is);
      integers = a.integers;
      floats = a.floats;
    }

-- an even start: as many left on both sides, and what was passed over for it is counted, unless nothing travels
module _ (left : Left) where
  abbrev skip_of : Bool → ℕ
  skip_of odd = cond odd (min 1 left.integer) 0

  abbrev behind : Bool → Left
  behind odd = leaves (left.integer - skip_of odd) left.float left.integers_only

  skip_fits : (odd : Bool) → skip_of odd ≤ left.integer
  skip_fits true = omega arith
  skip_fits false = omega arith

  start_is : (odd : Bool) → cond odd (less 1 left) left ≡ behind odd
  start_is true = let e : left.integer - 1 ≡ left.integer - min 1 left.integer = omega arith in rw e
  start_is false = let e : left.integer - 0 ≡ left.integer = omega arith in rw e

  ignored_is : (p : Pass) → is_ignored (way_of p) ≡ is_ignore p
  ignored_is ignore = refl
  ignored_is direct = refl
  ignored_is (pieces ss) = refl
  ignored_is reference = refl
  ignored_is memory = refl

  module _ (e : left.integers_only ≡ no_mark) (n : ℕ) (fits : n ≤ left.integer) (p : Passed) (d : Decision) (ss : List Slot)
      (a : Agrees (with_mark (leaves (left.integer - n) left.float left.integers_only)) p d ss) where
    from_even_agrees : Agrees left (cond (is_ignore p.pass) (passed p.pass left) (passed p.pass (leaves p.left.integer p.left.float no_mark)))
        (spending_instead d (spent_behind left.integer n d)) ss
    from_even_agrees = go (is_ignore p.pass) (rw (← a.way) (ignored_is p.pass))
      where
        integers_are : p.left.integer ≡ bank_after left.integer (min (n + d.spent.integers_passed) left.integer) d.spent.integers_given
        integers_are = omega (arith, ap (λ (l : Left). l.integer) a.left_is, a.integers)

        floats_are : p.left.float ≡ bank_after left.float d.spent.floats_passed d.spent.floats_given
        floats_are = ap (λ (l : Left). l.float) a.left_is

        go : (b : Bool) → is_ignored d.way ≡ b
            → Agrees left (cond b (passed p.pass left) (passed p.pass (leaves p.left.integer p.left.float no_mark))) (spending_instead d (spent_behind left.integer n d)) ss
        go true i = rw i (freely_agrees left _ p d ss a)
        go false i =
            rw i
            (record {
              way = a.way;
              slots = a.slots;
              count = a.count;
              left_is = rw (integers_are, floats_are, e);
              integers = omega (arith, a.integers);
              floats = a.floats;
            })

module _ (D : Description) (left : Left) (arg : args.Arg) (ps : List Piece) where
  -- the choice after the dots, by what a variadic kind comes to
  abbrev chosen_after : Variadic → Chosen
  chosen_after v = spending.choice (terms_of D) D.arguments false (dots_of v) left arg ps

  abbrev Dotted : Variadic → Type 0
  Dotted v = Agrees left (rust.variadic_by v D left arg ps) (chosen_after v).decision (slots_for (chosen_after v) arg ps)

  as_integers_agrees : left.integers_only ≡ no_mark → Dotted UnnamedIntegers
  unfolding argument_choice spending.scalar_by spending.aggregate_by settled_for
  as_integers_agrees e = go arg (argument_agrees D (with_mark left) arg ps)
    where
      go : (x : args.Arg) → Agrees (with_mark left) (argument D (with_mark left) x ps) (argument_choice D (with_mark left) x ps).decision (slots_for (argument_choice D (with_mark left) x ps) x ps)
          → Agrees left (rust.as_integers D left x ps) (spending.choice (terms_of D) D.arguments false (dots_of UnnamedIntegers) left x ps).decision
          (slots_for (spending.choice (terms_of D) D.arguments false (dots_of UnnamedIntegers) left x ps) x ps)
      go args.TheVariants.Void a = unmark_agrees left e _ _ _ a
      go (args.TheVariants.Scalar s) a = unmark_agrees left e _ _ _ a
      go (args.TheVariants.Aggregate shape) a = unmark_agrees left e _ _ _ a

  -- behind an even start both find as many left
  as_integers_even_agrees : left.integers_only ≡ no_mark → Dotted UnnamedIntegersEven
  unfolding argument_choice spending.scalar_by spending.aggregate_by settled_for skipped_for lone.skip_of
  as_integers_even_agrees e = rw (start_is left (odd arg)) (go arg (from_even_agrees left e (skip_of left (odd arg)) (skip_fits left (odd arg)) _ _ _ (argument_agrees D (with_mark (behind left (odd arg))) arg ps)))
    where
      odd : args.Arg → Bool
      odd x = rust.is_aligned_pair D x && eqb ((D.banks.integer - left.integer) % 2) 1

      evenly : args.Arg → Left → Passed
      evenly x l =
          let p : Passed = argument D (with_mark l) x ps in
          cond (is_ignore p.pass) (passed p.pass left) (passed p.pass (leaves p.left.integer p.left.float no_mark))

      evenly_spent : args.Arg → Decision
      evenly_spent x =
          let d : Decision = (argument_choice D (with_mark (behind left (odd x))) x ps).decision in
          spending_instead d (spent_behind left.integer (skip_of left (odd x)) d)

      go : (x : args.Arg)
          → Agrees left (evenly x (behind left (odd x))) (evenly_spent x)
          (slots_for (argument_choice D (with_mark (behind left (odd x))) x ps) x ps)
          → Agrees left (evenly x (behind left (odd x))) (spending.choice (terms_of D) D.arguments false (dots_of UnnamedIntegersEven) left x ps).decision
          (slots_for (spending.choice (terms_of D) D.arguments false (dots_of UnnamedIntegersEven) left x ps) x ps)
      go args.TheVariants.Void a = a
      go (args.TheVariants.Scalar s) a = a
      go (args.TheVariants.Aggregate shape) a = a

in_memory_agrees : (D : Description) (left : Left) (arg : args.Arg) (ps : List Piece) → Dotted D left arg ps AlwaysMemory
unfolding spending.scalar_by spending.aggregate_by settled_for
in_memory_agrees D left args.TheVariants.Void ps = spends_nothing args.TheVariants.Void ps left Anything ignore _ refl refl
in_memory_agrees D left (args.TheVariants.Scalar s) ps = spends_nothing (args.TheVariants.Scalar s) ps left Anything direct _ refl refl
in_memory_agrees D left (args.TheVariants.Aggregate shape) ps =
    let emptied : Left = leaves 0 0 left.integers_only in
    freely_agrees left emptied _ _ _ (aggregate_agrees D false emptied shape ps D.arguments)

pub variadic_argument_agrees : (D : Description) (left : Left) (arg : args.Arg) (ps : List Piece) → ((dots_of D.variadic).integers_only ≡ true → left.integers_only ≡ no_mark)
    → Agrees left (variadic_argument D left arg ps) (variadic_argument_choice D left arg ps).decision (slots_for (variadic_argument_choice D left arg ps) arg ps)
unfolding variadic_argument variadic_argument_choice
variadic_argument_agrees D left arg ps mark = go D.variadic mark
  where
    go : (v : Variadic) → ((dots_of v).integers_only ≡ true → left.integers_only ≡ no_mark) → Dotted D left arg ps v
    go SameAsFixed h = fixed_agrees false D left arg ps
    go AlwaysMemory h = in_memory_agrees D left arg ps
    go BothBanks h = fixed_agrees false D left arg ps
    go IntegersOnly h = fixed_agrees true D left arg ps
    go UnnamedIntegers h = as_integers_agrees D left arg ps (h refl)
    go UnnamedIntegersEven h = as_integers_even_agrees D left arg ps (h refl)
