-- What an answer says to be on the stack, by the table of REFERENCE 9.9, is as long as what is read there: a word for each part, and for an address. Both
-- hang on the way, on what is given and on the slots, and not on which registers those are.
use Prim.Native.Nat.{ℕ, suc, ◌+◌, ◌*◌, ◌-◌, ◌/◌, ◌≤◌, ◌<◌, min}
use mathlib.Core.Path.{◌≡◌, refl, sym, ◌∙◌}
use mathlib.Core.List.{List, [], ◌∷◌}
use mathlib.Core.Bool.{Bool, true, false, ◌&&◌, cond}
use native.Mathlib.Omega.{arith}
use native.Mathlib.Decide.{dec_le}
use borrow.Author.Tests.{ltb-true, ltb-false, leb-true, eq-eqb, ne_eqb, lt-ltb, le-ltb}
use lib.Dec.{eqb, leb, ltb}
use lib.ListN.{length}
use Rattle.shape.specs.declared.Arg as args
use Rattle.shape.specs.declared.Piece.{Piece}
use Rattle.shape.specs.declared.Scalar.{Scalar}
use Rattle.shape.specs.declared.Shape.{Shape}
use Rattle.shape.specs.Arithmetic.{round_up}
use Rattle.shape.specs.Numbers.{one_if}
use Rattle.shape.specs.Questions.{is_float}
use Rattle.slots.specs.declared.Slot.{Slot}
use Rattle.slots.specs.Cut.{cut}
use Rattle.slots.specs.Search.{floats_in}
use Rattle.slots.proofs.Cut.{length_cut}
use Rattle.slot_writing.specs.Sources.{source_slots}
use Rattle.describe.specs.declared.Banks.{Banks}
use Rattle.describe.specs.declared.ReturnPointer.TheVariants.{FirstArgument}
use Rattle.describe.specs.declared.Test.TheVariants.{FloatPair}
use Rattle.describe.specs.declared.Variadic.TheVariants.{UnnamedIntegersEven}
use Rattle.describe.specs.Description.{Description, terms_of}
use Rattle.describe.specs.Dots.{as_fixed, dots_of}
use Rattle.abis.specs.Abis.{riscv_with}
use Rattle.find.specs.Find.{each_piece}
use Rattle.find.specs.Matches.{no_classes}
use Rattle.spend.specs.declared.Decision.{Decision}
use Rattle.spend.specs.declared.Left.{Left}
use Rattle.spend.specs.declared.Spent.{Spent}
use Rattle.spend.specs.declared.Way.{Way}
use Rattle.spend.specs.declared.Way.TheVariants.{Ignore, Direct, Pieces, Reference, Memory}
use Rattle.spend.specs.Ways.{marked, spends, nothing, plain, in_pieces}
use Rattle.spend.specs.Spending.{want_of, reference}
use Rattle.spend_scalar.specs.Spending.{scalar_argument, scalar_return}
use Rattle.after_dots.specs.AfterDots.{skipped_for, left_for, settled_for}
use Rattle.stack_place.specs.Stacked.{scalar_bytes, aggregate_bytes, return_bytes, length_of}
use Rattle.classify.specs.Pass.{way_of, pass_slots}
use Rattle.classify.specs.Classify.{Passed, counts, returns, argument, variadic_argument}
use Rattle.classify.specs.Spending.{Chosen, chosen, wanted_by, scalar_by, aggregate_by, return_choice, argument_choice, variadic_argument_choice}
use Rattle.classify.specs.Stacking.{area_of, bytes_for}
use Rattle.classify.proofs.Agree.{slots_for, returns_agrees, argument_agrees, variadic_argument_agrees}
use Rattle.classify.proofs.Sources.{floats_cut}
use Rattle.ledger.proofs.Decided.{scalar_so}
use Rattle.riscv.specs.Riscv.{stack_words, stack_bytes}
use Rattle.riscv.specs.Reading.{size_of_arg, parts_of, place_of, reads, result_place, reads_result, Asked, as_named, as_unnamed, as_result, answered}
use Rattle.riscv.proofs.Scalars.{riscv, board}
use Rattle.riscv.proofs.Rules as rules
use Rattle.riscv.proofs.Pairs.{Pair, Unpaired, Judged, pair, unpaired, judged}
use Rattle.riscv.proofs.Enough.{Enough}
use Rattle.riscv.proofs.Aggregates.{by_size, by_integers_alone}

-- ---- slots beyond the registers that were given in their bank

unfoldable integers_in : List Slot → ℕ
integers_in [] = 0
integers_in (s ∷ ss) = cond (is_float s.kind) 0 1 + integers_in ss

in_a_bank : (ss : List Slot) → length ss ≡ integers_in ss + floats_in ss
unfolding integers_in floats_in
in_a_bank [] = refl
in_a_bank (s ∷ ss) = go (is_float s.kind) (in_a_bank ss)
  where
    go : (f : Bool) → length ss ≡ integers_in ss + floats_in ss → suc (length ss) ≡ (cond f 0 1 + integers_in ss) + (one_if f + floats_in ss)
    go true later = omega (arith, later)
    go false later = omega (arith, later)

beyond : (n g m h : ℕ) (ss : List Slot) → stack_words (parts_of n g m h ss) ≡ (integers_in ss - g) + (floats_in ss - h)
unfolding stack_words parts_of floats_in integers_in
beyond n g m h [] = omega arith
beyond n g m h (s ∷ ss) = go (λ n g m h. beyond n g m h ss) (is_float s.kind) (ltb 0 h) (ltb 0 g) refl refl refl
  where
    go : ((n g m h : ℕ) → stack_words (parts_of n g m h ss) ≡ (integers_in ss - g) + (floats_in ss - h)) → (f held given : Bool) → is_float s.kind ≡ f → ltb 0 h ≡ held → ltb 0 g ≡ given
        → stack_words (parts_of n g m h (s ∷ ss)) ≡ (integers_in (s ∷ ss) - g) + (floats_in (s ∷ ss) - h)
    go later true true given ef eh eg = rw (ef, eh) (omega (arith, later n g (m + 1) (h - 1), ltb-true 0 h eh))
    go later true false given ef eh eg = rw (ef, eh) (omega (arith, later n g (m + 1) (h - 1), ltb-false 0 h eh))
    go later false held true ef eh eg = rw (ef, eg) (omega (arith, later (n + 1) (g - 1) m h, ltb-true 0 g eg))
    go later false held false ef eh eg = rw (ef, eg) (omega (arith, later n g m h, ltb-false 0 g eg))

-- those that a size is cut into
cut_words : (n g m h size : ℕ) → 8 * stack_words (parts_of n g m h (cut size 8)) ≡ round_up (size - 8 * g) 8
unfolding round_up
cut_words n g m h size =
    let none : floats_in (cut size 8) ≡ 0 = floats_cut size 8 in
    let all : integers_in (cut size 8) ≡ (size + 7) / 8 = omega (arith, in_a_bank (cut size 8), none, length_cut size 8) in
    rw (beyond n g m h (cut size 8), none, all) (omega arith)

-- ---- by the way that a value travels

-- what is read there: words of slots that have no register of their bank, words of a value that has no slots, an address that was given none
abbrev words_by : Way → ℕ → ℕ → ℕ → List Slot → ℕ
words_by Ignore size ig fg ss = 0
words_by Direct size ig fg ss = cond (ltb 0 fg) 0 (round_up (size - 8 * ig) 8)
words_by Pieces size ig fg ss = 8 * ((integers_in ss - ig) + (floats_in ss - fg))
words_by Reference size ig fg ss = cond (ltb 0 ig) 0 8
words_by Memory size ig fg ss = round_up size 8

place_words : (B : Banks) (way : Way) (size : ℕ) (before : Left) (spent : Spent) (ss : List Slot)
    → stack_bytes (place_of B way size before spent ss) ≡ words_by way size spent.integers_given spent.floats_given ss
unfolding stack_words
place_words B Ignore size before spent ss = refl
place_words B Direct size before spent ss = go (ltb 0 spent.floats_given) refl
  where
    go : (b : Bool) → ltb 0 spent.floats_given ≡ b → stack_bytes (place_of B Direct size before spent ss) ≡ words_by Direct size spent.integers_given spent.floats_given ss
    go true e = rw e
    go false e = rw e (cut_words _ spent.integers_given 0 0 size)
place_words B Pieces size before spent ss = rw (beyond _ spent.integers_given _ spent.floats_given ss)
place_words B Reference size before spent ss = go (ltb 0 spent.integers_given) refl
  where
    go : (b : Bool) → ltb 0 spent.integers_given ≡ b → stack_bytes (place_of B Reference size before spent ss) ≡ words_by Reference size spent.integers_given spent.floats_given ss
    go true e = rw e
    go false e = rw e
place_words B Memory size before spent ss = let whole : size - 8 * 0 ≡ size = omega arith in cut_words _ 0 _ 0 size ∙ rw whole

-- an address that was given no register has a word
pointer_words : (given : ℕ) → round_up (cond (eqb given 0) 8 0) 8 ≡ cond (ltb 0 given) 0 8
unfolding round_up
pointer_words given = go (dec_le given 0)
  where
    go : Dec (given ≤ 0) → round_up (cond (eqb given 0) 8 0) 8 ≡ cond (ltb 0 given) 0 8
    go (yes z) = rw (eq-eqb given 0 (omega arith), le-ltb 0 given z)
    go (no l) = rw (ne_eqb given 0 (λ (e : given ≡ 0). omega arith), lt-ltb 0 given (omega arith))

-- what has no slot of a float: those that a size is cut into
cut_beyond : (g h size : ℕ) → round_up (size - 8 * g) 8 ≡ 8 * ((integers_in (cut size 8) - g) + (floats_in (cut size 8) - h))
cut_beyond g h size = rw (beyond 0 g 0 h (cut size 8)) at (sym (cut_words 0 g 0 h size))

-- ---- a scalar argument

module _ (s : Scalar) (ss : List Slot) where
  abbrev ScalarLength : Decision → Type 0
  ScalarLength d = round_up (scalar_bytes d.way d.spent s.size 8) 8 ≡ words_by d.way s.size d.spent.integers_given d.spent.floats_given ss

  settled_scalar : (I n : ℕ) (d : Decision) → ScalarLength d → ScalarLength (settled_for (dots_of UnnamedIntegersEven) I n d)
  unfolding settled_for round_up
  settled_scalar I n d h = go d.way refl
    where
      go : (w : Way) → d.way ≡ w → ScalarLength (settled_for (dots_of UnnamedIntegersEven) I n d)
      go Ignore e = rw e refl
      go Direct e = rw e (rw e at h)
      go Pieces e = rw e (rw e at h)
      go Reference e = rw e (rw e at h)
      go Memory e = rw e (rw e at h)

  held_length : (f : ℕ) → ScalarLength (plain Direct (spends 0 0 0 f))
  unfolding round_up
  held_length f = go (ltb 0 f)
    where
      go : (b : Bool) → round_up (cond b 0 (s.size - 8 * 0)) 8 ≡ cond b 0 (round_up (s.size - 8 * 0) 8)
      go true = refl
      go false = refl

-- ---- an aggregate argument

-- words beyond those that were given a register
words_length : (size g : ℕ) → round_up (8 * (length (cut size 8) - g - 0)) 8 ≡ 8 * ((integers_in (cut size 8) - g) + (floats_in (cut size 8) - 0))
unfolding round_up
words_length size g =
    let none : floats_in (cut size 8) ≡ 0 = floats_cut size 8 in
    let all : length (cut size 8) ≡ integers_in (cut size 8) = omega (arith, in_a_bank (cut size 8), none) in
    rw (none, all) (omega arith)

module _ (shape : Shape) (ps : List Piece) where
  abbrev AggregateLength : Chosen → Type 0
  AggregateLength k =
      round_up (aggregate_bytes k.decision.way k.decision.spent k.decision.count shape.size 8) 8
      ≡ words_by k.decision.way shape.size k.decision.spent.integers_given k.decision.spent.floats_given (slots_for k (args.TheVariants.Aggregate shape) ps)

  settled_aggregate : (I n : ℕ) (k : Chosen) → AggregateLength k → AggregateLength (chosen (settled_for (dots_of UnnamedIntegersEven) I n k.decision) k.when)
  unfolding settled_for round_up
  settled_aggregate I n k h = go k.decision.way refl
    where
      go : (w : Way) → k.decision.way ≡ w → AggregateLength (chosen (settled_for (dots_of UnnamedIntegersEven) I n k.decision) k.when)
      go Ignore e = rw e refl
      go Direct e = rw e (rw e at h)
      go Pieces e = rw e (rw e at h)
      go Reference e = rw e (rw e at h)
      go Memory e = rw e (rw e at h)

  module _ (name : List ℕ) (fr fw : ℕ) (left : Left) where
    decided_length : (some : 0 < shape.size) → AggregateLength (rules.decided name fr fw left shape ps some)
    unfolding source_slots
    decided_length some =
        rules.decided_so name fr fw left shape ps some AggregateLength
        (λ h l. words_length shape.size (min (want_of shape.size 8) left.integer))
        (λ h e. refl)
        (λ h. pointer_words (min 1 left.integer))

    paired_length : (k : Pair (board name fr fw) ps) → AggregateLength (chosen (in_pieces (wanted_by FloatPair shape.size (each_piece ps)) (spends 0 k.integers 0 k.floats)) FloatPair)
    unfolding source_slots round_up
    paired_length k =
        let f : floats_in (each_piece ps) ≡ k.floats = k.floats_are in
        let i : integers_in (each_piece ps) ≡ k.integers = omega (arith, in_a_bank (each_piece ps), k.integers_are) in
        let n : length (each_piece ps) ≡ k.integers + k.floats = omega (arith, in_a_bank (each_piece ps), i, f) in
        rw (f, i, n) (omega arith)

    all_length : Judged (board name fr fw) ps → marked left ≡ false → AggregateLength (rules.all name fr fw left shape ps)
    unfolding source_slots round_up
    all_length j m = by_size shape (AggregateLength (rules.all name fr fw left shape ps)) (λ z. rw (rules.left_out name fr fw left shape ps z)) (λ some filled. filled_length some j)
      where
        filled_length : (some : 0 < shape.size) → Judged (board name fr fw) ps → AggregateLength (rules.all name fr fw left shape ps)
        filled_length some (unpaired u) = rw (rules.unpaired name fr fw left shape ps some u.finds) (decided_length some)
        filled_length some (pair k) = go (leb k.integers left.integer) (leb k.floats left.float) refl refl
          where
            rest : leb k.integers left.integer && leb k.floats left.float ≡ false → AggregateLength (rules.all name fr fw left shape ps)
            rest e = rw (rules.short name fr fw left shape ps some (each_piece ps) k.finds m k.integers k.floats k.integers_are k.floats_are e) (decided_length some)

            go : (i f : Bool) → leb k.integers left.integer ≡ i → leb k.floats left.float ≡ f → AggregateLength (rules.all name fr fw left shape ps)
            go true true ei ef =
                rw (rules.paired name fr fw left shape ps some (each_piece ps) k.finds m k.integers k.floats k.integers_are k.floats_are (leb-true _ _ ei) (leb-true _ _ ef)) (paired_length k)
            go true false ei ef = rest (rw (ei, ef))
            go false f ei ef = rest (rw ei)

    -- after the dots FloatPair is passed by
    alone_length : Judged (board name fr fw) ps → marked left ≡ true → AggregateLength (rules.all name fr fw left shape ps)
    unfolding source_slots round_up
    alone_length j m =
        by_size shape (AggregateLength (rules.all name fr fw left shape ps)) (λ z. rw (rules.left_out name fr fw left shape ps z))
        (λ some filled. rw (by_integers_alone name fr fw left shape ps some j m) (decided_length some))

-- ---- a result: nothing but an address

module _ (B : Banks) (before : Left) where
  abbrev ResultLength : args.Arg → List Slot → Decision → Type 0
  ResultLength arg ss d = round_up (return_bytes d.way FirstArgument d.spent 8) 8 ≡ stack_bytes (result_place B d.way arg before d.spent ss)

  -- two words are in a0 and a1
  two_words : (size : ℕ) → size ≤ 16 → 0 ≡ 8 * stack_words (parts_of 0 2 0 2 (cut size 8))
  unfolding round_up
  two_words size h = let z : size - 8 * 2 ≡ 0 = omega arith in rw z at (sym (cut_words 0 2 0 2 size))

  direct_result : (s : Scalar) (ss : List Slot) → s.size ≤ 16 → ResultLength (args.TheVariants.Scalar s) ss (plain Direct nothing)
  unfolding round_up stack_words
  direct_result s ss h = go (is_float s.kind && leb s.size B.float_width) refl
    where
      go : (b : Bool) → (is_float s.kind && leb s.size B.float_width) ≡ b → ResultLength (args.TheVariants.Scalar s) ss (plain Direct nothing)
      go true e = rw e
      go false e = rw e (two_words s.size h)

  address_result : (arg : args.Arg) (ss : List Slot) (g : ℕ) → ResultLength arg ss (reference g)
  address_result arg ss g = go (ltb 0 g) refl (pointer_words g)
    where
      go : (b : Bool) → ltb 0 g ≡ b → round_up (cond (eqb g 0) 8 0) 8 ≡ cond (ltb 0 g) 0 8 → ResultLength arg ss (reference g)
      go true e h = rw e (rw e at h)
      go false e h = rw e (rw e at h)

  module _ (name : List ℕ) (fr fw : ℕ) (shape : Shape) (ps : List Piece) where
    abbrev ReturnedLength : Chosen → Type 0
    ReturnedLength k = ResultLength (args.TheVariants.Aggregate shape) (slots_for k (args.TheVariants.Aggregate shape) ps) k.decision

    abbrev returned : Chosen
    returned = rules.returned name fr fw before shape ps

    pair_result : Pair (board name fr fw) ps → 0 < shape.size → ReturnedLength returned
    unfolding source_slots round_up
    pair_result k some =
        let few : (integers_in (each_piece ps) - 2) + (floats_in (each_piece ps) - 2) ≡ 0 = omega (arith, in_a_bank (each_piece ps), k.integers_are, k.floats_are, k.few) in
        rw (rules.returned_paired name fr fw before shape ps some (each_piece ps) k.finds, beyond 0 2 0 2 (each_piece ps), few)

    other_result : Unpaired (board name fr fw) ps → 0 < shape.size → ReturnedLength returned
    unfolding source_slots round_up
    other_result u some = go (dec_le shape.size 16)
      where
        go : Dec (shape.size ≤ 16) → ReturnedLength returned
        go (yes h) = rw (rules.returned_words name fr fw before shape ps some u.finds h) (two_words shape.size h)
        go (no h) = rw (rules.returned_address name fr fw before shape ps some u.finds (omega arith)) (address_result (args.TheVariants.Aggregate shape) [] (min 1 before.integer))

    returned_length : Judged (board name fr fw) ps → ReturnedLength returned
    unfolding round_up
    returned_length j = by_size shape (ReturnedLength returned) (λ z. rw (rules.returned_empty name fr fw before shape ps z)) (λ some filled. go some j)
      where
        go : 0 < shape.size → Judged (board name fr fw) ps → ReturnedLength returned
        go some (pair k) = pair_result k some
        go some (unpaired u) = other_result u some

-- ---- what is decided

module _ (name : List ℕ) (fr fw I F : ℕ) where
  abbrev left : Left
  left = counts I F

  abbrev LengthRead : args.Arg → List Piece → Chosen → Type 0
  LengthRead arg ps k =
      round_up (bytes_for (terms_of (riscv name fr fw)) false arg k.decision.way k.decision.spent k.decision.count) 8
      ≡ words_by k.decision.way (size_of_arg arg) k.decision.spent.integers_given k.decision.spent.floats_given (slots_for k arg ps)

  scalar_length : (found : Left) (s : Scalar) (ps : List Piece)
      → ScalarLength s (source_slots (scalar_argument (riscv name fr fw).banks (riscv name fr fw).scalars found s).source no_classes ps) (scalar_argument (riscv name fr fw).banks (riscv name fr fw).scalars found s)
  unfolding source_slots
  scalar_length found s ps =
      scalar_so name fr fw (λ (d : Decision). ScalarLength s (source_slots d.source no_classes ps) d) found s refl (λ _. held_length s [] (min 1 found.float))
      (cut_beyond (min (want_of s.size 8) found.integer) 0 s.size)

  named_length : (arg : args.Arg) (ps : List Piece) → Enough arg ps → LengthRead arg ps (argument_choice (riscv name fr fw) left arg ps)
  unfolding argument_choice scalar_by aggregate_by settled_for round_up
  named_length args.TheVariants.Void ps d = refl
  named_length (args.TheVariants.Scalar s) ps d = scalar_length left s ps
  named_length (args.TheVariants.Aggregate shape) ps d = all_length shape ps name fr fw left (judged (board name fr fw) ps d.usual) refl

  -- what one of a size and an alignment finds left after the dots, behind so many
  module _ (size align : ℕ) where
    abbrev skipped : ℕ
    skipped = skipped_for (dots_of UnnamedIntegersEven) (riscv name fr fw).banks left size align

    abbrev behind_start : Left
    behind_start = left_for (dots_of UnnamedIntegersEven) skipped left

  unnamed_length : (arg : args.Arg) (ps : List Piece) → Enough arg ps → LengthRead arg ps (variadic_argument_choice (riscv name fr fw) left arg ps)
  unfolding variadic_argument_choice scalar_by aggregate_by settled_for round_up
  unnamed_length args.TheVariants.Void ps d = refl
  unnamed_length (args.TheVariants.Scalar s) ps d =
      let found : Left = behind_start s.size s.align in
      let decided : Decision = scalar_argument (riscv name fr fw).banks (riscv name fr fw).scalars found s in
      settled_scalar s (source_slots decided.source no_classes ps) I (skipped s.size s.align) decided (scalar_length found s ps)
  unnamed_length (args.TheVariants.Aggregate shape) ps d =
      let found : Left = behind_start shape.size shape.align in
      settled_aggregate shape ps I (skipped shape.size shape.align) (rules.all name fr fw found shape ps) (alone_length shape ps name fr fw found (judged (board name fr fw) ps d.usual) refl)

  -- which is what is read there
  placed_length : (arg : args.Arg) (ps : List Piece) (k : Chosen) → LengthRead arg ps k
      → round_up (bytes_for (terms_of (riscv name fr fw)) false arg k.decision.way k.decision.spent k.decision.count) 8
      ≡ stack_bytes (place_of (riscv name fr fw).banks k.decision.way (size_of_arg arg) left k.decision.spent (slots_for k arg ps))
  placed_length arg ps k h = h ∙ sym (place_words (riscv name fr fw).banks k.decision.way (size_of_arg arg) left k.decision.spent (slots_for k arg ps))

  abbrev ResultRead : args.Arg → List Piece → Chosen → Type 0
  ResultRead arg ps k =
      round_up (bytes_for (terms_of (riscv name fr fw)) true arg k.decision.way k.decision.spent k.decision.count) 8
      ≡ stack_bytes (result_place (riscv name fr fw).banks k.decision.way arg left k.decision.spent (slots_for k arg ps))

  result_length : (arg : args.Arg) (ps : List Piece) → Enough arg ps → ResultRead arg ps (return_choice (riscv name fr fw) left arg ps)
  unfolding return_choice scalar_by aggregate_by settled_for scalar_return source_slots round_up
  result_length args.TheVariants.Void ps d = refl
  result_length (args.TheVariants.Scalar s) ps d = direct_result (riscv name fr fw).banks left s [] d.small
  result_length (args.TheVariants.Aggregate shape) ps d = returned_length (riscv name fr fw).banks left name fr fw shape ps (judged (board name fr fw) ps d.usual)

-- ---- what is defined of operations

-- how many bytes the table gives what travels so, and passes over and is given this
abbrev pub length_by : Asked → Description → args.Arg → Passed → Spent → ℕ
length_by as_named D arg p spent = length_of (area_of (terms_of D) as_fixed) (bytes_for (terms_of D) false arg (way_of p.pass) spent (length (pass_slots p.pass)))
length_by as_unnamed D arg p spent = length_of (area_of (terms_of D) (dots_of D.variadic)) (bytes_for (terms_of D) false arg (way_of p.pass) spent (length (pass_slots p.pass)))
length_by as_result D arg p spent = length_of (area_of (terms_of D) as_fixed) (bytes_for (terms_of D) true arg (way_of p.pass) spent (length (pass_slots p.pass)))

abbrev pub length_on : Asked → Description → Left → args.Arg → List Piece → ℕ
length_on as_named D left arg ps = length_by as_named D arg (argument D left arg ps) (argument_choice D left arg ps).decision.spent
length_on as_unnamed D left arg ps = length_by as_unnamed D arg (variadic_argument D left arg ps) (variadic_argument_choice D left arg ps).decision.spent
length_on as_result D left arg ps = length_by as_result D arg (returns D left arg ps) (return_choice D left arg ps).decision.spent

abbrev pub SameLength : Asked → ℕ → ℕ → args.Arg → List Piece → Description → Type 0
SameLength asked I F arg ps D = length_on asked D (counts I F) arg ps ≡ stack_bytes (answered asked D (counts I F) arg ps).place

pub same_length : (name : List ℕ) (fr fw I F : ℕ) (arg : args.Arg) (ps : List Piece) → Enough arg ps → (asked : Asked) → SameLength asked I F arg ps (riscv_with name fr fw)
unfolding reads reads_result
same_length name fr fw I F arg ps d as_named =
    let k = argument_agrees (riscv_with name fr fw) (counts I F) arg ps in
    rw (k.way, k.count, k.slots) (placed_length name fr fw I F arg ps (argument_choice (riscv_with name fr fw) (counts I F) arg ps) (named_length name fr fw I F arg ps d))
same_length name fr fw I F arg ps d as_unnamed =
    let k = variadic_argument_agrees (riscv_with name fr fw) (counts I F) arg ps (λ e. refl) in
    rw (k.way, k.count, k.slots) (placed_length name fr fw I F arg ps (variadic_argument_choice (riscv_with name fr fw) (counts I F) arg ps) (unnamed_length name fr fw I F arg ps d))
same_length name fr fw I F arg ps d as_result =
    let k = returns_agrees (riscv_with name fr fw) (counts I F) arg ps in
    rw (k.way, k.count, k.slots) (result_length name fr fw I F arg ps d)
