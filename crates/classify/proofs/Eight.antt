-- No value that a call accepts travels in more than eight slots: one test that antt computes over all descriptions and what stands past them, and
-- one law for any description that passes it. A scalar of 64 bytes that goes in integers of eight bytes alone has eight.
use Prim.Native.Nat.{ℕ, ◌+◌, ◌-◌, ◌*◌, ◌%◌, ◌≤◌, ◌<◌, max}
use mathlib.Core.Path.{◌≡◌, refl, sym, subst}
use mathlib.Core.List.{List, [], ◌∷◌}
use mathlib.Core.Bool.{Bool, true, false, ◌&&◌, ◌||◌, not, cond}
use mathlib.Core.Option.Option.{some}
use native.Mathlib.Omega.{arith}
use native.Mathlib.Nat.{div-lt_iff_lt-mul}
use borrow.Author.Tests.{leb-true, eqb-true}
use lib.Dec.{T, eqb, leb, ltb, leb→le}
use lib.ListN.{length}
use Rattle.shape.specs.Lists.{every}
use Rattle.shape.proofs.Lists.{anywhere}
use Rattle.shape.proofs.Bools.{both_true, implied, and_left, and_right}
use Rattle.shape.specs.declared.Arg as args
use Rattle.shape.specs.declared.Piece.{Piece}
use Rattle.shape.specs.declared.Scalar.{Scalar}
use Rattle.shape.specs.declared.Shape.{Shape}
use Rattle.shape.specs.Numbers.{integer, single, accepted, most_size}
use Rattle.shape.specs.Questions.{is_float, is_all_of}
use Rattle.shape.specs.Words.{pieces_of}
use Rattle.checks.proofs.Accepted.{else_none, fits}
use Rattle.slots.specs.declared.Slot.{Slot}
use Rattle.slots.specs.Search.{Search, found, nothing, floats_in}
use Rattle.slots.specs.Cut.{ceil_div, cut}
use Rattle.slots.proofs.Cut.{length_cut}
use Rattle.describe.specs.declared.Banks.{Banks}
use Rattle.describe.specs.declared.Rule.{Rule}
use Rattle.describe.specs.declared.Test.{Test}
use Rattle.describe.specs.declared.Test.TheVariants.{Anything, Empty, SizeOneOf, SizeAtMost, Homogeneous, FloatPair, X87Stack, LoneFloat, FloatingMode, ComplexFloat, Eightbytes}
use Rattle.describe.specs.declared.Travel.{Travel}
use Rattle.describe.specs.declared.Travel.TheVariants.{Ignore, AsFound, AsIntegers, AsOneInteger, ByReference, InMemory, InMemoryAndSpend}
use Rattle.describe.specs.declared.Short.{Short}
use Rattle.describe.specs.declared.Short.TheVariants.{Unchanged, Memory, MemoryAndDrain, TryNextRule, Split}
use Rattle.describe.specs.declared.Variadic.{Variadic}
use Rattle.describe.specs.declared.Variadic.TheVariants.{SameAsFixed, AlwaysMemory, BothBanks, IntegersOnly, UnnamedIntegers, UnnamedIntegersEven}
use Rattle.describe.specs.Description.{Description, terms_of}
use Rattle.describe.specs.Dots.{dots_of}
use Rattle.describe.specs.Questions.{is_by_reference, returns_by_reference}
use Rattle.abis.specs.Abis.{described, descriptions, blank}
use Rattle.find.specs.Find.{found_if, complex_float}
use Rattle.find.proofs.Finds.{homogeneous_few, pair_few, x87_few, lone_one, mode_slots, complex_slots}
use Rattle.eightbytes.proofs.Found.{at_most}
use Rattle.spend.specs.declared.Left.{Left}
use Rattle.spend.specs.Ways.{no_mark, marked, with_mark}
use Rattle.find.specs.Matches.{is_one_of, matches}
use Rattle.classify.specs.declared.Call.{Call}
use Rattle.classify.specs.Pass.{pieces, is_ignore, pass_slots}
use Rattle.classify.specs.Classify.{Passed, passed, leaves, less, less_both, is_integers_only, registers, scalar, integer_cost_of, float_cost_of, short_of, slots_in_registers, travel_in, travel, or_rest, tried, apply, returned_scalar, returns, argument, in_memory_always, is_aligned_pair, from_even_start, variadic_by, variadic_argument}
use Rattle.classify.specs.Answers.{state_refusal, arg_refusal, checked, row_refusal, refusal_by, refusal_of}
use Rattle.classify.proofs.Accepted.{sound, call_checked}
use Rattle.classify.proofs.Sources.{none_found, floats_cut}

abbrev slot_count : Passed → ℕ
slot_count p = length (pass_slots p.pass)

-- ---- a size cut into integers

few_cut : (size width : ℕ) → size ≤ 8 * max width 1 → length (cut size width) ≤ 8
few_cut size width h =
    let w : ℕ = max width 1 in
    let l : length (cut size width) ≡ ceil_div size w = length_cut size width in
    let k : ceil_div size w < 9 = (div-lt_iff_lt-mul {k = w} {x = size + (w - 1)} {y = 9} (omega arith)).1 (omega arith) in
    omega arith

-- ---- what a test says of the slots that it finds, and of the size

-- a test that looks inside finds no more than eight
abbrev few_found : Test → Bool
few_found Anything = true
few_found Empty = true
few_found (SizeOneOf k a b c d) = true
few_found (SizeAtMost limit) = true
few_found (Homogeneous limit) = leb limit 8
few_found FloatPair = true
few_found X87Stack = true
few_found LoneFloat = true
few_found FloatingMode = true
few_found ComplexFloat = true
few_found (Eightbytes limit) = true

module _ (B : Banks) (shape : Shape) (ps : List Piece) (ss : List Slot) where
  no_more : [] ≡ ss → length ss ≤ 8
  no_more e = rw (← e) (omega arith)

  few_found_lem : (when : Test) → T (few_found when) → matches B when shape ps ≡ found ss → length ss ≤ 8
  unfolding matches
  few_found_lem Anything t e = no_more (let z : [] ≡ ss = cc in z)
  few_found_lem Empty t e = no_more (none_found _ ss e)
  few_found_lem (SizeOneOf k a b c d) t e = no_more (none_found _ ss e)
  few_found_lem (SizeAtMost limit) t e = no_more (none_found _ ss e)
  few_found_lem (Homogeneous limit) t e = omega (arith, homogeneous_few limit shape ps ss e, leb→le limit 8 t)
  few_found_lem FloatPair t e = omega (arith, pair_few B.integer_width B.float_width ps ss e)
  few_found_lem X87Stack t e = omega (arith, x87_few shape ps ss e)
  few_found_lem LoneFloat t e = omega (arith, lone_one ps ss e)
  few_found_lem FloatingMode t e = no_more (sym (mode_slots shape ss e))
  few_found_lem ComplexFloat t e = no_more (sym (complex_slots shape ps ss e))
  few_found_lem (Eightbytes limit) t e = omega (arith, at_most limit shape ps ss e)

-- a test that matches no size above this one
abbrev sizes_up_to : Test → ℕ → Bool
sizes_up_to Anything n = false
sizes_up_to Empty n = false
sizes_up_to (SizeOneOf k a b c d) n = leb a n && (leb b n && (leb c n && leb d n))
sizes_up_to (SizeAtMost limit) n = leb limit n
sizes_up_to (Homogeneous limit) n = false
sizes_up_to FloatPair n = false
sizes_up_to X87Stack n = false
sizes_up_to LoneFloat n = false
sizes_up_to FloatingMode n = false
sizes_up_to ComplexFloat n = leb 8 n
sizes_up_to (Eightbytes limit) n = false

is_not : (b : Bool) → T (not b) → b ≡ false
is_not true t = absurd t
is_not false t = refl

holds : (b : Bool) (ss ts : List Slot) → found_if b ss ≡ found ts → b ≡ true
unfolding found_if
holds true ss ts e = refl
holds false ss ts e = let z : ◌≡◌ {A = ℕ} 0 1 = cc in absurd (omega arith)

either : (size a n : ℕ) (counts rest : Bool) → rest || (counts && eqb size a) ≡ true → a ≤ n → (rest ≡ true → size ≤ n) → size ≤ n
either size a n counts rest e h k = go rest (counts && eqb size a) refl refl e
  where
    go : (x y : Bool) → rest ≡ x → (counts && eqb size a) ≡ y → x || y ≡ true → size ≤ n
    go true y ex ey t = k ex
    go false true ex ey t = omega (arith, eqb-true size a (both_true counts (eqb size a) ey).1)
    go false false ex ey t = let z : ◌≡◌ {A = ℕ} 0 1 = cc in absurd (omega arith)

module _ (B : Banks) (shape : Shape) (ps : List Piece) (ss : List Slot) (n : ℕ) where
  small : (when : Test) → T (sizes_up_to when n) → matches B when shape ps ≡ found ss → shape.size ≤ n
  unfolding matches complex_float
  small Anything t e = absurd t
  small Empty t e = absurd t
  small (SizeOneOf k a b c d) t e =
      let s : ℕ = shape.size in
      let bcd = and_right (leb a n) (leb b n && (leb c n && leb d n)) t in
      let cd = and_right (leb b n) (leb c n && leb d n) bcd in
      let ha : a ≤ n = leb→le a n (and_left (leb a n) (leb b n && (leb c n && leb d n)) t) in
      let hb : b ≤ n = leb→le b n (and_left (leb b n) (leb c n && leb d n) bcd) in
      let hc : c ≤ n = leb→le c n (and_left (leb c n) (leb d n) cd) in
      let hd : d ≤ n = leb→le d n (and_right (leb c n) (leb d n) cd) in
      either s d n (ltb 3 k) _ (holds (is_one_of s k a b c d) [] ss e) hd
      (λ x. either s c n (ltb 2 k) _ x hc (λ y. either s b n (ltb 1 k) _ y hb (λ z. omega (arith, eqb-true s a (both_true (ltb 0 k) (eqb s a) z).1))))
  small (SizeAtMost limit) t e = omega (arith, leb→le limit n t, leb-true shape.size limit (holds (leb shape.size limit) [] ss e))
  small (Homogeneous limit) t e = absurd t
  small FloatPair t e = absurd t
  small X87Stack t e = absurd t
  small LoneFloat t e = absurd t
  small FloatingMode t e = absurd t
  small ComplexFloat t e = omega (arith, leb→le 8 n t, eqb-true shape.size 8 (both_true (shape.complex && is_all_of single ps) (eqb shape.size 8) (holds _ [] ss e)).1)
  small (Eightbytes limit) t e = absurd t

-- ---- a rule

pick : (b : Bool) (p q : Passed) → (b ≡ true → slot_count p ≤ 8) → slot_count q ≤ 8 → slot_count (cond b p q) ≤ 8
pick true p q h k = h refl
pick false p q h k = k

-- where it falls short, it says nothing of slots
abbrev stops : Short → Bool
stops Unchanged = false
stops Memory = true
stops MemoryAndDrain = true
stops TryNextRule = true
stops Split = false

-- integers that a matched size has eight of at most, or that have to fit what is left of a bank of eight at most
abbrev few_integers : Banks → Bool → Test → Short → Bool
few_integers B returning when short = sizes_up_to when (8 * max B.integer_width 1) || (not returning && (stops short && leb B.integer 8))

abbrev few_by : Travel → Banks → Bool → Test → Short → Bool
few_by Ignore B returning when short = true
few_by AsFound B returning when short = few_found when
few_by AsIntegers B returning when short = few_integers B returning when short
few_by AsOneInteger B returning when short = true
few_by ByReference B returning when short = true
few_by InMemory B returning when short = true
few_by InMemoryAndSpend B returning when short = true

abbrev few_rule : Banks → Bool → Rule → Bool
few_rule B returning rule = few_by rule.then B returning rule.when rule.short

module _ (left : Left) (rest : Passed) (later : slot_count rest ≤ 8) where
  -- slots that are few where they travel as pieces: they come back, or fit what is left, or nothing is done about a shortage
  module _ (ss : List Slot) (short : Short) (goes_on : stops short ≡ false → length ss ≤ 8) where
    short_few : (s : Short) (i f : ℕ) → short ≡ s → slot_count (or_rest (short_of s left ss i f) rest) ≤ 8
    unfolding short_of
    short_few Unchanged i f e = goes_on (rw e)
    short_few Memory i f e = omega arith
    short_few MemoryAndDrain i f e = omega arith
    short_few TryNextRule i f e = later
    short_few Split i f e = pick (eqb left.integer 0) _ _ (λ _. omega arith) (goes_on (rw e))

    in_few : (shared returning : Bool) → (returning ≡ true → length ss ≤ 8) → (integer_cost_of shared ss ≤ left.integer → length ss ≤ 8)
        → slot_count (or_rest (slots_in_registers shared left short ss returning) rest) ≤ 8
    unfolding slots_in_registers
    in_few shared true back fit = back refl
    in_few shared false back fit = go (leb (integer_cost_of shared ss) left.integer) (leb (float_cost_of shared ss) left.float) refl
      where
        go : (x y : Bool) → leb (integer_cost_of shared ss) left.integer ≡ x
            → slot_count
            (or_rest
            (cond (x && y) (some (passed (pieces ss) (less_both (integer_cost_of shared ss) (float_cost_of shared ss) left)))
            (short_of short left ss (integer_cost_of shared ss) (float_cost_of shared ss)))
            rest)
            ≤ 8
        go true true e = fit (leb-true _ _ e)
        go true false e = short_few short _ _ refl
        go false y e = short_few short _ _ refl

  few_slots : (shared returning : Bool) (short : Short) (ss : List Slot) → length ss ≤ 8 → slot_count (or_rest (slots_in_registers shared left short ss returning) rest) ≤ 8
  few_slots shared returning short ss h = in_few ss short (λ _. h) shared returning (λ _. h) (λ _. h)

  module _ (D : Description) (shape : Shape) (ps : List Piece) (returning : Bool) (fits : returning ≡ false → left.integer ≤ D.banks.integer) where
    abbrev cut_by : List Slot
    cut_by = cut shape.size D.banks.integer_width

    cut_cost : (shared : Bool) → integer_cost_of shared cut_by ≡ length cut_by
    cut_cost true = refl
    cut_cost false = rw (floats_cut shape.size D.banks.integer_width) (omega arith)

    integers_few : (when : Test) (short : Short) (ss : List Slot) → matches D.banks when shape ps ≡ found ss → T (few_integers D.banks returning when short)
        → slot_count (or_rest (slots_in_registers D.banks.shared left short cut_by returning) rest) ≤ 8
    integers_few when short ss e t = go (sizes_up_to when most) refl t
      where
        most : ℕ
        most = 8 * max D.banks.integer_width 1

        go : (b : Bool) → sizes_up_to when most ≡ b → T (b || (not returning && (stops short && leb D.banks.integer 8)))
            → slot_count (or_rest (slots_in_registers D.banks.shared left short cut_by returning) rest) ≤ 8
        go true u x =
            few_slots D.banks.shared returning short cut_by
            (few_cut shape.size D.banks.integer_width (small D.banks shape ps ss most when (rw u tt) e))
        go false u x =
            let out : returning ≡ false = is_not returning (and_left (not returning) (stops short && leb D.banks.integer 8) x) in
            let y = and_right (not returning) (stops short && leb D.banks.integer 8) x in
            let b : D.banks.integer ≤ 8 = leb→le _ 8 (and_right (stops short) (leb D.banks.integer 8) y) in
            in_few cut_by short (λ u. absurd (rw u at (and_left (stops short) (leb D.banks.integer 8) y)))
            D.banks.shared returning (λ r. let z : true ≡ false = cc in absurd (subst T z tt))
            (λ l. omega (arith, l, cut_cost D.banks.shared, fits out))

    travel_few : (then : Travel) (when : Test) (short : Short) (ss : List Slot) → matches D.banks when shape ps ≡ found ss
        → T (few_by then D.banks returning when short) → slot_count (or_rest (travel_in then D left short ss shape returning) rest) ≤ 8
    travel_few Ignore when short ss e t = omega arith
    travel_few AsFound when short ss e t = few_slots D.banks.shared returning short ss (few_found_lem D.banks shape ps ss when t e)
    travel_few AsIntegers when short ss e t = integers_few when short ss e t
    travel_few AsOneInteger when short ss e t = few_slots D.banks.shared returning short _ (omega arith)
    travel_few ByReference when short ss e t = omega arith
    travel_few InMemory when short ss e t = omega arith
    travel_few InMemoryAndSpend when short ss e t = omega arith

-- ---- the walk

module _ (D : Description) (left : Left) (shape : Shape) (ps : List Piece) (returning : Bool) (fits : returning ≡ false → left.integer ≤ D.banks.integer) where
  tried_few : (rule : Rule) (rest : Passed) → slot_count rest ≤ 8 → T (few_rule D.banks returning rule) → (s : Search) → matches D.banks rule.when shape ps ≡ s
      → slot_count (tried s D left rule shape returning rest) ≤ 8
  unfolding travel
  tried_few rule rest later t nothing e = later
  tried_few rule rest later t (found ss) e = go ((marked left && not returning) && ltb 0 (floats_in ss))
    where
      go : (b : Bool) → slot_count (cond b rest (or_rest (travel D left rule ss shape returning) rest)) ≤ 8
      go true = later
      go false = travel_few left rest later D shape ps returning fits rule.then rule.when rule.short ss e t

  apply_few : (rules : List Rule) → T (every (few_rule D.banks returning) rules) → slot_count (apply D left rules shape ps returning) ≤ 8
  unfolding apply every
  apply_few [] t = omega arith
  apply_few (rule ∷ rules) t =
      tried_few rule (apply D left rules shape ps returning)
      (apply_few rules (and_right (few_rule D.banks returning rule) (every (few_rule D.banks returning) rules) t))
      (and_left (few_rule D.banks returning rule) (every (few_rule D.banks returning) rules) t)
      _ refl

-- ---- a description

-- floats may go in integers alone
abbrev marks : Variadic → Bool
marks v = is_integers_only v || (dots_of v).integers_only

abbrev few_returns : Description → Bool
few_returns D = every (few_rule D.banks true) D.returns

abbrev few_arguments : Description → Bool
few_arguments D = every (few_rule D.banks false) D.arguments

abbrev few_scalars : Description → Bool
few_scalars D = not (marks D.variadic) || leb 8 D.banks.integer_width

abbrev few : Description → Bool
few D = few_returns D && (few_arguments D && few_scalars D)

all_few : (d : ℕ) → T (few (described d))
unfolding every described descriptions
all_few = anywhere few descriptions blank tt tt

wide : (D : Description) → T (few_scalars D) → marks D.variadic ≡ true → 8 ≤ D.banks.integer_width
wide D t e = leb→le 8 _ (rw e at t)

-- ---- the operations

-- a scalar keeps to the limit of its size
abbrev pub Small : args.Arg → Type 0
Small args.TheVariants.Void = Unit {0}
Small (args.TheVariants.Scalar s) = s.size ≤ most_size
Small (args.TheVariants.Aggregate shape) = Unit {0}

module _ (D : Description) (left : Left) where
  scalar_few : (s : Scalar) → s.size ≤ most_size → (marked left ≡ true → 8 ≤ D.banks.integer_width) → slot_count (scalar D left s) ≤ 8
  unfolding scalar
  scalar_few s h wide_enough =
      pick (is_by_reference D.scalars s.size) _ _ (λ _. omega arith)
      (pick (is_float s.kind && eqb s.kind D.scalars.in_memory) _ _ (λ _. omega arith)
      (pick ((D.scalars.wide_integer_in_memory && eqb s.kind integer) && ltb 1 (registers s.size D.banks.integer_width)) _ _ (λ _. omega arith)
      (pick (marked left && is_float s.kind) _ _
      (λ e. few_cut s.size D.banks.integer_width (omega (arith, wide_enough (both_true (marked left) (is_float s.kind) e).0)))
      (omega arith))))

  returned_few : (s : Scalar) → slot_count (returned_scalar D left s) ≤ 8
  returned_few s =
      pick (not (returns_by_reference D.scalars s.size)) _ _ (λ _. omega arith)
      (pick (eqb s.kind integer && not (eqb D.scalars.wide_integer_returns_in integer)) _ _ (λ _. omega arith) (omega arith))

  argument_few : T (few_arguments D) → left.integer ≤ D.banks.integer → (marked left ≡ true → 8 ≤ D.banks.integer_width)
      → (arg : args.Arg) (ps : List Piece) → Small arg → slot_count (argument D left arg ps) ≤ 8
  unfolding argument
  argument_few t fits wide_enough args.TheVariants.Void ps h = omega arith
  argument_few t fits wide_enough (args.TheVariants.Scalar s) ps h = scalar_few s h wide_enough
  argument_few t fits wide_enough (args.TheVariants.Aggregate shape) ps h = apply_few D left shape ps false (λ _. fits) D.arguments t

-- an even start leaves no more than there were
start_fits : (D : Description) (left : Left) (arg : args.Arg) → left.integer ≤ D.banks.integer → (from_even_start D left arg).integer ≤ D.banks.integer
start_fits D left arg h = go (is_aligned_pair D arg && eqb ((D.banks.integer - left.integer) % 2) 1)
  where
    go : (b : Bool) → (cond b (less 1 left) left).integer ≤ D.banks.integer
    go true = omega arith
    go false = h

memory_few : (D : Description) (left : Left) → T (few_arguments D) → (arg : args.Arg) (ps : List Piece) → slot_count (in_memory_always D left arg ps) ≤ 8
memory_few D left t args.TheVariants.Void ps = omega arith
memory_few D left t (args.TheVariants.Scalar s) ps = omega arith
memory_few D left t (args.TheVariants.Aggregate shape) ps =
    apply_few D (leaves 0 0 left.integers_only) shape ps false (λ _. omega arith) D.arguments t

-- what comes back, from any call
pub returns_eight : (d : ℕ) (left : Left) (arg : args.Arg) (ps : List Piece) → length (pass_slots (returns (described d) left arg ps).pass) ≤ 8
unfolding returns
returns_eight d left args.TheVariants.Void ps = omega arith
returns_eight d left (args.TheVariants.Scalar s) ps = returned_few (described d) left s
returns_eight d left (args.TheVariants.Aggregate shape) ps =
    apply_few (described d) left shape ps true (λ e. absurd (subst T e tt)) (described d).returns
    (and_left (few_returns (described d)) (few_arguments (described d) && few_scalars (described d)) (all_few d))

module _ (d : ℕ) (left : Left) (fits : left.integer ≤ (described d).banks.integer)
    (mark : marked left && not (is_integers_only (described d).variadic) ≡ false) (arg : args.Arg) (ps : List Piece) (h : Small arg) where
  rest_few : T (few_arguments (described d) && few_scalars (described d))
  rest_few = and_right (few_returns (described d)) (few_arguments (described d) && few_scalars (described d)) (all_few d)

  arguments_few : T (few_arguments (described d))
  arguments_few = and_left (few_arguments (described d)) (few_scalars (described d)) rest_few

  wide_marked : marks (described d).variadic ≡ true → 8 ≤ (described d).banks.integer_width
  wide_marked = wide (described d) (and_right (few_arguments (described d)) (few_scalars (described d)) rest_few)

  pub argument_eight : length (pass_slots (argument (described d) left arg ps).pass) ≤ 8
  argument_eight =
      argument_few (described d) left arguments_few fits
      (λ e. wide_marked (rw (implied (marked left) (is_integers_only (described d).variadic) mark e))) arg ps h

  pub variadic_argument_eight : length (pass_slots (variadic_argument (described d) left arg ps).pass) ≤ 8
  unfolding variadic_argument
  variadic_argument_eight = go (described d).variadic refl
    where
      go : (v : Variadic) → (described d).variadic ≡ v → slot_count (variadic_by v (described d) left arg ps) ≤ 8
      go SameAsFixed e = argument_eight
      go AlwaysMemory e = memory_few (described d) left arguments_few arg ps
      go BothBanks e = argument_eight
      go IntegersOnly e = argument_eight
      go UnnamedIntegers e =
          argument_few (described d) (with_mark left) arguments_few fits (λ _. wide_marked (rw e)) arg ps h
      go UnnamedIntegersEven e =
          let p : Passed = argument (described d) (with_mark (from_even_start (described d) left arg)) arg ps in
          let few_left =
          argument_few (described d) (with_mark (from_even_start (described d) left arg)) arguments_few (start_fits (described d) left arg fits) (λ _. wide_marked (rw e)) arg ps h in
          pick (is_ignore p.pass) (passed p.pass left) (passed p.pass (leaves p.left.integer p.left.float no_mark)) (λ _. few_left) few_left

-- ---- an operation that is accepted

small_arg : (arg : args.Arg) (ws : List ℕ) → arg_refusal arg ws ≡ accepted → Small arg
unfolding arg_refusal
small_arg args.TheVariants.Void ws e = tt
small_arg (args.TheVariants.Scalar s) ws e = (fits s e).size≤
small_arg (args.TheVariants.Aggregate shape) ws e = tt

pub record Eight (c : Call) (arg : args.Arg) (ps : List Piece) : Type 0 where
  pub returned : length (pass_slots (returns (described c.abi) c.left arg ps).pass) ≤ 8
  pub passed_on : length (pass_slots (argument (described c.abi) c.left arg ps).pass) ≤ 8
  pub variadic_argument : length (pass_slots (variadic_argument (described c.abi) c.left arg ps).pass) ≤ 8

pub eight : (c : Call) (arg : args.Arg) (ws : List ℕ) → refusal_of c arg ws ≡ accepted → Eight c arg (pieces_of ws)
unfolding refusal_of refusal_by checked
eight c arg ws e =
    let D : Description = described c.abi in
    let s = (sound (row_refusal c.abi) D c (call_checked (row_refusal c.abi) D c arg ws e)).1 in
    let h = small_arg arg ws (else_none (state_refusal (terms_of D) c) (arg_refusal arg ws) (else_none (row_refusal c.abi) _ e).1).1 in
    record {
      returned = returns_eight c.abi c.left arg (pieces_of ws);
      passed_on = argument_eight c.abi c.left s.integers s.mark_used arg (pieces_of ws) h;
      variadic_argument = variadic_argument_eight c.abi c.left s.integers s.mark_used arg (pieces_of ws) h;
    }
