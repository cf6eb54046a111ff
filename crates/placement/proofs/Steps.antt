-- One value: where it is placed, that nothing before the call's next registers and below the stack offset changes, and that it is read back from any
-- machine that has kept what stood there.
use Prim.Native.Nat.{ℕ, ◌+◌, ◌-◌, ◌*◌, ◌%◌, ◌≤◌, ◌<◌}
use mathlib.Core.Path.{◌≡◌, refl, sym, ◌∙◌, ap, subst}
use mathlib.Core.List.{List, [], ◌++◌, append-nil}
use mathlib.Core.Bool.{Bool, true, false, ◌&&◌}
use native.Mathlib.Omega.{arith}
use borrow.Author.Tests.{le-leb, eq-eqb, ne_eqb, eqb-true, ltb-true}
use lib.Dec.{ltb, eqb}
use lib.ListN.{length, take, drop, length-append}
use lib.Seq.{take_all, length-take-le, drop-append-add}
use Rattle.shape.specs.declared.Arg.TheVariants.{Scalar}
use Rattle.shape.specs.declared.Scalar as scalars
use Rattle.shape.specs.Numbers.{accepted, bad_area}
use Rattle.shape.specs.Words.{put_at}
use Rattle.shape.proofs.Bools.{both_true}
use Rattle.shape.specs.Arithmetic.{round_up}
use Rattle.abis.specs.Abis as abis
use Rattle.abis.specs.Abis.{described}
use Rattle.spend.specs.declared.Spent.{Spent}
use Rattle.spend.specs.Ways.{spends, nothing}
use Rattle.stack_place.specs.Stacked.{Placed}
use Rattle.stack_place.specs.Stacked.{most_stack, scalar_rest, nowhere, without_room, from, behind}
use Rattle.classify.specs.declared.Call.{Call}
use Rattle.classify.specs.declared.Answer.{Answer}
use Rattle.classify.specs.Answers.{row_refusal, call_refusal, accepted_answer, or_answer, variadic_argument_answer}
use Rattle.ledger.specs.Ledger.{variadic_argument, is_refused, integers, floats, given, passed_over}
use Rattle.ledger.proofs.Fair.{Fair, fair}
use Rattle.varargs.specs.declared.Offsets.{Offsets}
use Rattle.varargs.specs.Lists.{Located, Overflow, unnamed_refusal, is_save_area, overflow_start, in_overflow, standing, located, part_of, shown_at, reads_as}
use Rattle.varargs.proofs.Lists.{lies_there, ends_within, nowhere_part}
use Rattle.varargs.proofs.Scalars.{Listed, listed, integer_1, integer_2, integer_4, integer_8, integer_16, a_single, a_double, an_x87, a_quad}
use Rattle.placement.specs.Caller.{Registers, Machine, Whole, Value, State, behind_dots, spread, to_front, stored, saved, placed_by, place}
use Rattle.placement.specs.Back.{Ready, IsValue, is_stacked, stack_start, stack_end, offsets_at, offsets_of, Keeps, too_short}
use Rattle.placement.proofs.Stored.{part_within, same_part, length_of_put, put_keeps, put_read, front_registers, spread_registers, front_keeps, spread_keeps, stored_same, front_read, pair_read, length_stored}
use Rattle.placement.proofs.Asked as asking
use Rattle.placement.proofs.Asked.{Lot, one_word, two_words, a_float, the_stack}

-- ---- the call after a value, by what it spends

pub record Next (c : Call) (a : Answer) (i f : ℕ) : Type 0 where
  pub row : a.next.abi ≡ 0
  pub passes : call_refusal a.next ≡ accepted
  pub integers_left : a.next.left.integer ≡ c.left.integer - i
  pub floats_left : a.next.left.float ≡ c.left.float - f
  pub integers_given : given integers a ≡ i
  pub floats_given : given floats a ≡ f
  pub integers_passed : passed_over integers a ≡ 0
  pub floats_passed : passed_over floats a ≡ 0

-- an answer that is accepted and has nothing for the stack
pub record Held (c : Call) (a : Answer) : Type 0 where
  pub taken : is_refused a ≡ false
  pub same_stack : a.next.stack ≡ c.stack

module _ (c : Call) (row : c.abi ≡ 0) (passes : call_refusal c ≡ accepted) (s : scalars.Scalar) where
  fair_here : Fair (row_refusal c.abi) (described c.abi) c (behind_dots c s)
  unfolding call_refusal variadic_argument_answer
  fair_here = fair (row_refusal c.abi) (described c.abi) c passes (variadic_argument (Scalar s) [] [])

  still_passes : call_refusal (behind_dots c s).next ≡ accepted
  unfolding call_refusal
  still_passes = rw fair_here.same_abi fair_here.acceptable

  next_by : (i f : ℕ) → (behind_dots c s).outcome.spent ≡ spends 0 i 0 f → Next c (behind_dots c s) i f
  next_by i f e =
      let gi : given integers (behind_dots c s) ≡ i = ap (λ (x : Spent). x.integers_given) e in
      let gf : given floats (behind_dots c s) ≡ f = ap (λ (x : Spent). x.floats_given) e in
      let pi : passed_over integers (behind_dots c s) ≡ 0 = ap (λ (x : Spent). x.integers_passed) e in
      let pf : passed_over floats (behind_dots c s) ≡ 0 = ap (λ (x : Spent). x.floats_passed) e in
      record {
        row = fair_here.same_abi ∙ row;
        passes = still_passes;
        integers_left = omega (arith, fair_here.adds_up integers, gi, pi);
        floats_left = omega (arith, fair_here.adds_up floats, gf, pf);
        integers_given = gi;
        floats_given = gf;
        integers_passed = pi;
        floats_passed = pf;
      }

-- ---- what is said of one value

pub record Step (st : State) (v : Value) (to : State) : Type 0 where
  pub ready : Ready to
  pub keeps : Keeps st to.machine
  pub integers_grow : 6 - st.call.left.integer ≤ 6 - to.call.left.integer
  pub floats_grow : 8 - st.call.left.float ≤ 8 - to.call.left.float
  pub stack_grows : st.call.stack ≤ to.call.stack
  -- it is read from a machine that has kept it, lent so many bytes of the area
  pub reads : (m : Machine) → Whole m → Keeps to m → (bytes : ℕ) → bytes ≤ length m.area → (is_stacked st v ≡ true → stack_end st v ≤ bytes)
      → reads_as (saved m) (take bytes m.area) (offsets_of st) v.scalar ≡ record { refusal = accepted; bytes = v.bytes; next = offsets_of to }
  -- or its last byte isn't lent
  pub short : (m : Machine) → Whole m → (bytes : ℕ) → bytes ≤ length m.area → is_stacked st v ≡ true → bytes < stack_end st v
      → reads_as (saved m) (take bytes m.area) (offsets_of st) v.scalar ≡ too_short st

same_offsets : (i j f g o p : ℕ) → i ≡ j → f ≡ g → o ≡ p → ◌≡◌ {A = Offsets} (record { integer = i; float = f; overflow = o }) (record { integer = j; float = g; overflow = p })
same_offsets i j f g o p e₁ e₂ e₃ = rw (e₁, e₂, e₃)

-- what a part shows, by the bytes that it has
show : (save overflow : List ℕ) (l : Located) (bytes : List ℕ) → part_of save overflow l ≡ bytes → shown_at save overflow l ≡ record { refusal = l.refusal; bytes = bytes; next = l.next }
show save overflow l bytes e = rw e

in_save : (save overflow : List ℕ) (start : ℕ) (s : scalars.Scalar) (next : Offsets) → part_of save overflow (asking.saved_at start s next) ≡ take s.size (drop start save)
unfolding part_of
in_save save overflow start s next = refl

in_area : (save overflow : List ℕ) (start size : ℕ) (next : Offsets) → part_of save overflow (record { refusal = accepted; area = Overflow; start = start; length = size; next = next }) ≡ take size (drop start overflow)
unfolding part_of
in_area save overflow start size next = refl

some_word : (n : ℕ) → ltb 0 n ≡ true → eqb n 0 && eqb 0 0 ≡ true → ⊥
some_word n some e = let z : n ≡ 0 = eqb-true n 0 (both_true (eqb n 0) (eqb 0 0) e).0 in omega (arith, ltb-true 0 n some)

pub save_length : (m : Machine) → Whole m → length (saved m) ≡ 176
save_length m w = length-append (stored m.integers) (stored m.floats) ∙ omega (arith, length_stored 8 6 m.integers w.six, length_stored 16 8 m.floats w.eight)

module _ (st : State) (ready : Ready st) (v : Value) (is : IsValue v) where
  abbrev c : Call
  c = st.call

  abbrev a : Answer
  a = behind_dots st.call v.scalar

  kind_is : Listed v.scalar
  kind_is = listed v.scalar is.taken

  low : c.left.integer ≤ 6
  unfolding abis.descriptions described
  low = (asking.on_row_0 c ready.row ready.passes).integers

  high : c.left.float ≤ 8
  unfolding abis.descriptions described
  high = (asking.on_row_0 c ready.row ready.passes).floats

  -- the offsets of the call are offsets of a save area
  offsets_good : is_save_area 176 (offsets_of st) ≡ true
  offsets_good =
      rw (
        le-leb (8 * (6 - c.left.integer)) 48 (omega arith),
        eq-eqb (8 * (6 - c.left.integer) % 8) 0 (omega arith),
        le-leb 48 (48 + 16 * (8 - c.left.float)) (omega arith),
        le-leb (48 + 16 * (8 - c.left.float)) 176 (omega arith),
        eq-eqb ((48 + 16 * (8 - c.left.float)) % 16) 0 (omega arith),
      )

  module _ (m : Machine) (w : Whole m) (bytes : ℕ) (lent : bytes ≤ length m.area) where
    located_so : located (length (saved m)) (length (take bytes m.area)) (offsets_of st) v.scalar ≡ standing bytes (offsets_of st) v.scalar
    unfolding located
    located_so = rw (save_length m w, length-take-le bytes m.area lent, eq-eqb (unnamed_refusal v.scalar) accepted is.taken, offsets_good)

    read_so : (l : Located) → standing bytes (offsets_of st) v.scalar ≡ l → reads_as (saved m) (take bytes m.area) (offsets_of st) v.scalar ≡ shown_at (saved m) (take bytes m.area) l
    read_so l e = ap (shown_at (saved m) (take bytes m.area)) (located_so ∙ e)

  -- ---- in integer registers

  abbrev in_words : ℕ → State
  in_words n =
      record {
        machine = record { integers = spread n (6 - c.left.integer) v.bytes st.machine.integers; floats = st.machine.floats; area = st.machine.area };
        call = a.next;
      }

  module _ (n : ℕ) (some : ltb 0 n ≡ true) (nx : Next c a n 0) (held : Held c a) (enough : n ≤ c.left.integer) (fits : v.scalar.size ≤ 8 * n)
      (back : (rest : List ℕ) → take v.scalar.size (drop (8 * (6 - c.left.integer)) (stored (spread n (6 - c.left.integer) v.bytes st.machine.integers) ++ rest)) ≡ v.bytes)
      (stands : (bytes o : ℕ) → standing bytes (offsets_at c o) v.scalar ≡ asking.saved_at (8 * (6 - c.left.integer)) v.scalar (record { integer = 8 * (6 - c.left.integer) + 8 * n; float = 48 + 16 * (8 - c.left.float); overflow = o })) where
    placed_words : place st v ≡ in_words n
    unfolding placed_by abis.descriptions described
    placed_words =
        let start : 6 - c.left.integer + 0 ≡ 6 - c.left.integer = omega arith in
        rw (held.taken, nx.integers_given, nx.integers_passed, some, start)

    next_offsets : record { integer = 8 * (6 - c.left.integer) + 8 * n; float = 48 + 16 * (8 - c.left.float); overflow = c.stack } ≡ offsets_at a.next a.next.stack
    next_offsets =
        same_offsets _ _ _ _ _ _ (omega (arith, low, enough, nx.integers_left)) (omega (arith, nx.floats_left)) (sym held.same_stack)

    ready_words : Ready (in_words n)
    ready_words = record { row = nx.row; passes = nx.passes; whole = record { six = spread_registers n _ 8 6 v.bytes _ ready.whole.six; eight = ready.whole.eight; within = ready.whole.within }; eights = rw held.same_stack ready.eights }

    not_stacked : is_stacked st v ≡ true → ⊥
    not_stacked e = let z : eqb n 0 && eqb 0 0 ≡ true = rw (nx.integers_given, nx.floats_given) at e in some_word n some z

    words_read : (m : Machine) → Whole m → Keeps (in_words n) m → take v.scalar.size (drop (8 * (6 - c.left.integer)) (saved m)) ≡ v.bytes
    words_read m w k =
        stored_same 8 6 m.integers _ w.six (spread_registers n _ 8 6 v.bytes _ ready.whole.six) (6 - a.next.left.integer) (omega arith) k.integers_stay
        v.scalar.size (8 * (6 - c.left.integer)) (omega (arith, low, enough, fits, nx.integers_left)) (stored m.floats) (stored m.floats)
        ∙ back (stored m.floats)

    words_step : Step st v (place st v)
    words_step =
        subst (Step st v) (sym placed_words)
        (record {
          ready = ready_words;
          keeps = record { integers_stay = spread_keeps n (6 - c.left.integer) (6 - c.left.integer) v.bytes st.machine.integers (omega arith); floats_stay = refl; area_stays = refl; as_long = refl };
          integers_grow = omega (arith, nx.integers_left);
          floats_grow = omega (arith, nx.floats_left);
          stack_grows = omega (arith, held.same_stack);
          reads = λ m w k bytes lent inside.
              read_so m w bytes lent _ (stands bytes c.stack ∙ ap (asking.saved_at (8 * (6 - c.left.integer)) v.scalar) next_offsets)
              ∙ show _ _ _ v.bytes (in_save _ _ _ v.scalar _ ∙ words_read m w k);
          short = λ m w bytes lent stacked early. absurd (not_stacked stacked);
        })

  -- ---- in a float register

  abbrev in_float : State
  in_float =
      record {
        machine = record { integers = st.machine.integers; floats = to_front st.machine.floats (8 - c.left.float) v.bytes; area = st.machine.area };
        call = a.next;
      }

  module _ (nx : Next c a 0 1) (held : Held c a) (enough : 1 ≤ c.left.float) (fits : v.scalar.size ≤ 16)
      (stands : (bytes o : ℕ) → standing bytes (offsets_at c o) v.scalar ≡ asking.saved_at (48 + 16 * (8 - c.left.float)) v.scalar (record { integer = 8 * (6 - c.left.integer); float = 48 + 16 * (8 - c.left.float) + 16; overflow = o })) where
    placed_float : place st v ≡ in_float
    unfolding placed_by abis.descriptions described
    placed_float =
        let start : 8 - c.left.float + 0 ≡ 8 - c.left.float = omega arith in
        rw (held.taken, nx.integers_given, nx.floats_given, nx.floats_passed, start)

    float_offsets : record { integer = 8 * (6 - c.left.integer); float = 48 + 16 * (8 - c.left.float) + 16; overflow = c.stack } ≡ offsets_at a.next a.next.stack
    float_offsets =
        same_offsets _ _ _ _ _ _ (omega (arith, nx.integers_left)) (omega (arith, high, enough, nx.floats_left)) (sym held.same_stack)

    float_bank : Registers 16 8 in_float.machine.floats
    float_bank = front_registers 16 8 _ ready.whole.eight _ v.bytes

    not_stacked_float : is_stacked st v ≡ true → ⊥
    not_stacked_float e = let z : eqb 0 0 && eqb 1 0 ≡ true = rw (nx.integers_given, nx.floats_given) at e in some_word 1 refl z

    float_read : (m : Machine) → Whole m → Keeps in_float m → take v.scalar.size (drop (48 + 16 * (8 - c.left.float)) (saved m)) ≡ v.bytes
    float_read m w k =
        let behind : length (stored m.integers) ≡ 48 = length_stored 8 6 m.integers w.six in
        let skip : drop (48 + 16 * (8 - c.left.float)) (saved m) ≡ drop (16 * (8 - c.left.float)) (stored m.floats) =
        rw behind at (drop-append-add (stored m.integers) (stored m.floats) (16 * (8 - c.left.float))) in
        ap (take v.scalar.size) (skip ∙ ap (drop (16 * (8 - c.left.float))) (sym (append-nil (stored m.floats))))
        ∙ stored_same 16 8 m.floats in_float.machine.floats w.eight float_bank (8 - a.next.left.float) (omega arith) k.floats_stay
        v.scalar.size (16 * (8 - c.left.float)) (omega (arith, high, enough, fits, nx.floats_left)) [] []
        ∙ rw is.sized at (front_read 16 8 st.machine.floats ready.whole.eight (8 - c.left.float) (omega arith) v.bytes (omega (arith, is.sized)) [])

    float_step : Step st v (place st v)
    float_step =
        subst (Step st v) (sym placed_float)
        (record {
          ready = record { row = nx.row; passes = nx.passes; whole = record { six = ready.whole.six; eight = float_bank; within = ready.whole.within }; eights = rw held.same_stack ready.eights };
          keeps = record { integers_stay = refl; floats_stay = front_keeps (8 - c.left.float) (8 - c.left.float) v.bytes st.machine.floats (omega arith); area_stays = refl; as_long = refl };
          integers_grow = omega (arith, nx.integers_left);
          floats_grow = omega (arith, nx.floats_left);
          stack_grows = omega (arith, held.same_stack);
          reads = λ m w k bytes lent inside.
              read_so m w bytes lent _ (stands bytes c.stack ∙ ap (asking.saved_at (48 + 16 * (8 - c.left.float)) v.scalar) float_offsets)
              ∙ show _ _ _ v.bytes (in_save _ _ _ v.scalar _ ∙ float_read m w k);
          short = λ m w bytes lent stacked early. absurd (not_stacked_float stacked);
        })

  -- ---- on the stack

  abbrev start : ℕ
  start = stack_start st v

  abbrev on_stack : ℕ → State
  on_stack at =
      record { machine = record { integers = st.machine.integers; floats = st.machine.floats; area = put_at st.machine.area at v.bytes }; call = a.next }

  -- where the reader looks is where it was put: the stack offset is in eightbytes
  rounded_same : (s : scalars.Scalar) (is : Listed s) → overflow_start c.stack s.align ≡ round_up c.stack (asking.rounding_on is)
  unfolding overflow_start round_up
  rounded_same s integer_1 = omega (arith, ready.eights)
  rounded_same s integer_2 = omega (arith, ready.eights)
  rounded_same s integer_4 = omega (arith, ready.eights)
  rounded_same s integer_8 = omega (arith, ready.eights)
  rounded_same s integer_16 = refl
  rounded_same s a_single = omega (arith, ready.eights)
  rounded_same s a_double = omega (arith, ready.eights)
  rounded_same s an_x87 = refl
  rounded_same s a_quad = refl

  start_is : start ≡ round_up c.stack (asking.rounding_on kind_is)
  start_is = ap (round_up c.stack) (asking.rounding_is c ready.row ready.passes v.scalar kind_is)

  start_same : overflow_start c.stack v.scalar.align ≡ start
  start_same = rounded_same v.scalar kind_is ∙ sym start_is

  -- the next offset is in eightbytes, too, and behind the value; it is within the limit where the value is
  pub record After (s : scalars.Scalar) (from : ℕ) : Type 0 where
    pub starts : c.stack ≤ from
    pub behind : from + s.size ≤ from + round_up s.size 8
    pub in_eights : (from + round_up s.size 8) % 8 ≡ 0
    pub some : 0 < round_up s.size 8
    pub within : from + s.size ≤ most_stack → from + round_up s.size 8 ≤ most_stack

  after_is : (s : scalars.Scalar) (is : Listed s) → After s (round_up c.stack (asking.rounding_on is))
  unfolding round_up
  after_is s integer_1 = record { starts = omega arith; behind = omega arith; in_eights = omega arith; some = omega arith; within = λ h. omega arith }
  after_is s integer_2 = record { starts = omega arith; behind = omega arith; in_eights = omega arith; some = omega arith; within = λ h. omega arith }
  after_is s integer_4 = record { starts = omega arith; behind = omega arith; in_eights = omega arith; some = omega arith; within = λ h. omega arith }
  after_is s integer_8 = record { starts = omega arith; behind = omega arith; in_eights = omega arith; some = omega arith; within = λ h. omega arith }
  after_is s integer_16 = record { starts = omega arith; behind = omega arith; in_eights = omega arith; some = omega arith; within = λ h. omega arith }
  after_is s a_single = record { starts = omega arith; behind = omega arith; in_eights = omega arith; some = omega arith; within = λ h. omega arith }
  after_is s a_double = record { starts = omega arith; behind = omega arith; in_eights = omega arith; some = omega arith; within = λ h. omega arith }
  after_is s an_x87 = record { starts = omega arith; behind = omega arith; in_eights = omega arith; some = omega arith; within = λ h. omega arith }
  after_is s a_quad = record { starts = omega arith; behind = omega arith; in_eights = omega arith; some = omega arith; within = λ h. omega arith }

  after : After v.scalar start
  after = rw start_is (after_is v.scalar kind_is)

  module _ (nx : Next c a 0 0) (stands : (bytes o : ℕ) → standing bytes (offsets_at c o) v.scalar ≡ in_overflow bytes (offsets_at c o) v.scalar) where
    is_stacked_lem : is_stacked st v ≡ true
    is_stacked_lem = rw (nx.integers_given, nx.floats_given)

    -- its last byte isn't lent
    too_short_lem : (m : Machine) → Whole m → (bytes : ℕ) → bytes ≤ length m.area → bytes < stack_end st v
        → reads_as (saved m) (take bytes m.area) (offsets_of st) v.scalar ≡ too_short st
    too_short_lem m w bytes lent early =
        let there : bytes < overflow_start c.stack v.scalar.align + v.scalar.size = rw start_same early in
        read_so m w bytes lent _ (stands bytes c.stack ∙ sym (ends_within bytes (offsets_of st) v.scalar there))
        ∙ show _ _ _ [] (nowhere_part _ _ bad_area (offsets_of st))

    -- there is room for it
    module _ (taken : is_refused a ≡ false) (at_start : a.outcome.stacked.at ≡ start) (goes_on : a.next.stack ≡ start + round_up v.scalar.size 8) where
      placed_stack : place st v ≡ on_stack start
      unfolding placed_by
      placed_stack = rw (taken, nx.integers_given, nx.floats_given, at_start)

      stack_offsets : offsets_of (on_stack start) ≡ record { integer = 8 * (6 - c.left.integer); float = 48 + 16 * (8 - c.left.float); overflow = overflow_start c.stack v.scalar.align + round_up v.scalar.size 8 }
      stack_offsets =
          same_offsets _ _ _ _ _ _ (omega (arith, nx.integers_left)) (omega (arith, nx.floats_left))
          (goes_on ∙ ap (λ (n : ℕ). n + round_up v.scalar.size 8) (sym start_same))

      stack_read : (m : Machine) → Keeps (on_stack start) m → (bytes : ℕ) → bytes ≤ length m.area → stack_end st v ≤ bytes
          → take v.scalar.size (drop (overflow_start c.stack v.scalar.align) (take bytes m.area)) ≡ v.bytes
      stack_read m k bytes lent inside =
          let long : length m.area ≡ length st.machine.area = k.as_long ∙ length_of_put st.machine.area _ v.bytes in
          rw start_same
          (part_within v.scalar.size start bytes m.area inside
          ∙ same_part v.scalar.size start a.next.stack m.area (on_stack start).machine.area (omega (arith, after.behind, goes_on)) k.area_stays
          ∙ rw is.sized at (put_read st.machine.area start v.bytes (omega (arith, is.sized, long, lent, inside))))

      stack_step : Step st v (place st v)
      stack_step =
          subst (Step st v) (sym placed_stack)
          (record {
            ready = record {
              row = nx.row;
              passes = nx.passes;
              whole = record { six = ready.whole.six; eight = ready.whole.eight; within = rw (length_of_put st.machine.area start v.bytes) ready.whole.within };
              eights = rw goes_on after.in_eights;
            };
            keeps = record { integers_stay = refl; floats_stay = refl; area_stays = put_keeps st.machine.area c.stack _ v.bytes after.starts; as_long = length_of_put st.machine.area _ v.bytes };
            integers_grow = omega (arith, nx.integers_left);
            floats_grow = omega (arith, nx.floats_left);
            stack_grows = omega (arith, after.starts, after.behind, goes_on);
            reads = λ m w k bytes lent inside.
                let there : overflow_start c.stack v.scalar.align + v.scalar.size ≤ bytes = rw start_same (inside is_stacked_lem) in
                read_so m w bytes lent _ (stands bytes c.stack ∙ sym (lies_there bytes (offsets_of st) v.scalar there))
                ∙ show _ _ _ v.bytes (in_area _ _ _ _ _ ∙ stack_read m k bytes lent (inside is_stacked_lem))
                ∙ ap (λ (next : Offsets). record { refusal = accepted; bytes = v.bytes; next = next }) (sym stack_offsets);
            short = λ m w bytes lent stacked early. too_short_lem m w bytes lent early;
          })

    -- there isn't: nothing is placed, and no area is so long that it would stand inside
    module _ (refused : is_refused a ≡ true) (far : most_stack < start + round_up v.scalar.size 8) where
      unplaced : place st v ≡ st
      unfolding placed_by
      unplaced = rw refused

      unplaced_step : Step st v (place st v)
      unplaced_step =
          subst (Step st v) (sym unplaced)
          (record {
            ready = ready;
            keeps = record { integers_stay = refl; floats_stay = refl; area_stays = refl; as_long = refl };
            integers_grow = omega arith;
            floats_grow = omega arith;
            stack_grows = omega arith;
            reads = λ m w k bytes lent inside. absurd (omega (arith, far, after.within (omega (arith, inside is_stacked_lem, lent, w.within))));
            short = λ m w bytes lent stacked early. too_short_lem m w bytes lent early;
          })

  -- ---- whichever it is

  one_read : v.scalar.size ≤ 8 → 1 ≤ c.left.integer → (rest : List ℕ)
      → take v.scalar.size (drop (8 * (6 - c.left.integer)) (stored (spread 1 (6 - c.left.integer) v.bytes st.machine.integers) ++ rest)) ≡ v.bytes
  unfolding spread
  one_read small enough rest =
      rw (take_all 8 v.bytes (omega (arith, is.sized))) (rw is.sized at (front_read 8 6 st.machine.integers ready.whole.six (6 - c.left.integer) (omega arith) v.bytes (omega (arith, is.sized)) rest))

  two_read : v.scalar.size ≡ 16 → 2 ≤ c.left.integer → (rest : List ℕ)
      → take v.scalar.size (drop (8 * (6 - c.left.integer)) (stored (spread 2 (6 - c.left.integer) v.bytes st.machine.integers) ++ rest)) ≡ v.bytes
  two_read z enough rest = rw z (pair_read 6 st.machine.integers ready.whole.six (6 - c.left.integer) (omega arith) v.bytes (is.sized ∙ z) rest)

  -- what registers hold leaves nothing for the stack, so it is accepted
  held : scalar_rest (asking.cost_of c.left kind_is) v.scalar.size 8 ≡ 0 → (a ≡ accepted_answer c (asking.account_for c v.scalar kind_is)) × Held c a
  unfolding behind round_up
  held z =
      let e : asking.stands_for c.stack v.scalar kind_is (asking.cost_of c.left kind_is) ≡ nowhere c.stack = rw z in
      let answer : a ≡ accepted_answer c (asking.account_for c v.scalar kind_is) =
      subst (λ (p : Placed). a ≡ or_answer p.refusal c (accepted_answer c (asking.account_for c v.scalar kind_is))) e (asking.answer_is c ready.row ready.passes v.scalar kind_is [] []) in
      (answer, record { taken = rw answer; same_stack = rw answer (ap (λ (p : Placed). p.next) e) })

  -- what has no register stands on the stack, where there is room
  module _ (z : asking.cost_of c.left kind_is ≡ nothing) where
    abbrev stood : Placed
    stood = asking.stands_for c.stack v.scalar kind_is (asking.cost_of c.left kind_is)

    abbrev length_there : ℕ
    length_there = round_up v.scalar.size 8

    rest_is : scalar_rest (asking.cost_of c.left kind_is) v.scalar.size 8 ≡ v.scalar.size
    rest_is = rw z (omega arith)

    some_there : eqb length_there 0 ≡ false
    some_there = ne_eqb length_there 0 (λ e. omega (arith, after.some))

    no_room_there : ltb most_stack (start + length_there) ≡ true → stood ≡ without_room c.stack
    unfolding behind
    no_room_there e = let e' : ltb most_stack (round_up c.stack (asking.rounding_on kind_is) + length_there) ≡ true = rw start_is at e in rw (rest_is, some_there, e')

    room_there : ltb most_stack (start + length_there) ≡ false → stood ≡ from start length_there
    unfolding behind
    room_there e = let e' : ltb most_stack (round_up c.stack (asking.rounding_on kind_is) + length_there) ≡ false = rw start_is at e in rw (rest_is, some_there, e', start_is)

    answer_by : (p : Placed) → stood ≡ p
        → a ≡ or_answer p.refusal c (accepted_answer c (record { passed = (asking.account_for c v.scalar kind_is).passed; spent = asking.cost_of c.left kind_is; placed = p }))
    answer_by p e =
        subst (λ (q : Placed). a ≡ or_answer q.refusal c (accepted_answer c (record { passed = (asking.account_for c v.scalar kind_is).passed; spent = asking.cost_of c.left kind_is; placed = q }))) e
        (asking.answer_is c ready.row ready.passes v.scalar kind_is [] [])

    stack_lot : ((bytes o : ℕ) → standing bytes (offsets_at c o) v.scalar ≡ in_overflow bytes (offsets_at c o) v.scalar) → Step st v (place st v)
    stack_lot stands = go (ltb most_stack (start + length_there)) refl
      where
        nothing_spent : a.outcome.spent ≡ nothing → Next c a 0 0
        nothing_spent e = next_by c ready.row ready.passes v.scalar 0 0 e

        go : (b : Bool) → ltb most_stack (start + length_there) ≡ b → Step st v (place st v)
        go true e =
            let answer = answer_by (without_room c.stack) (no_room_there e) in
            unplaced_step (nothing_spent (ap (λ (x : Answer). x.outcome.spent) answer)) stands (rw answer) (ltb-true _ _ e)
        go false e =
            let answer = answer_by (from start length_there) (room_there e) in
            stack_step (nothing_spent (ap (λ (x : Answer). x.outcome.spent) answer ∙ z)) stands (rw answer) (rw answer) (rw answer)

  by_lot : Lot c v.scalar (asking.cost_of c.left kind_is) → Step st v (place st v)
  by_lot (one_word z enough small stands) =
      let h = held (rw z (omega (arith, small))) in
      words_step 1 refl (next_by c ready.row ready.passes v.scalar 1 0 (ap (λ (x : Answer). x.outcome.spent) h.0 ∙ z)) h.1 enough small (one_read small enough) stands
  by_lot (two_words z enough size stands) =
      let h = held (rw z (omega (arith, size))) in
      words_step 2 refl (next_by c ready.row ready.passes v.scalar 2 0 (ap (λ (x : Answer). x.outcome.spent) h.0 ∙ z)) h.1 enough (omega (arith, size)) (two_read size enough) stands
  by_lot (a_float z enough small stands) =
      let h = held (rw z refl) in
      float_step (next_by c ready.row ready.passes v.scalar 0 1 (ap (λ (x : Answer). x.outcome.spent) h.0 ∙ z)) h.1 enough small stands
  by_lot (the_stack z stands) = stack_lot z stands

  pub step : Step st v (place st v)
  step = by_lot (asking.lot c low high v.scalar kind_is)
