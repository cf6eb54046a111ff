-- What the classifier answers about a scalar of a list, on a call of description 0 that passes the checks: integer registers, all or none, or one
-- float register, or nothing; it passes none over. And what the reader says of the same scalar, at the offsets of the same call.
use Prim.Native.Nat.{ℕ, ◌+◌, ◌-◌, ◌*◌, ◌/◌, ◌≤◌, ◌<◌, min}
use mathlib.Core.Path.{◌≡◌, refl, sym, ◌∙◌, ap, subst}
use mathlib.Core.List.{List, []}
use mathlib.Core.Bool.{Bool, true, false, cond}
use native.Mathlib.Omega.{arith}
use borrow.Author.Tests.{le-leb, lt-leb, leb-true, leb-false, le-ltb}
use lib.Dec.{leb, eqb, ltb}
use lib.ListN.{length}
use Rattle.shape.specs.declared.Arg.{Arg}
use Rattle.shape.specs.declared.Arg.TheVariants.{Scalar}
use Rattle.shape.specs.declared.Piece.{Piece}
use Rattle.shape.specs.declared.Scalar as scalars
use Rattle.shape.specs.Numbers.{integer, single, double, x87_extended, quad, accepted}
use Rattle.shape.specs.Words.{scalar, pieces_of}
use Rattle.checks.specs.Check as checks
use Rattle.checks.proofs.Accepted.{else_none}
use Rattle.shape.specs.Arithmetic.{round_up}
use Rattle.abis.specs.Abis as abis
use Rattle.abis.specs.Abis.{described}
use Rattle.describe.specs.Description.{terms_of}
use Rattle.describe.specs.Dots.{dots_of}
use Rattle.slots.specs.Words.{slot_size}
use Rattle.spend.specs.declared.Left.{Left}
use Rattle.spend.specs.declared.Spent.{Spent}
use Rattle.spend.specs.declared.Decision.{Decision}
use Rattle.spend.specs.Spending as rules
use Rattle.spend.specs.Ways.{no_mark, spends, nothing}
use Rattle.spend_scalar.specs.Spending as lone
use Rattle.stack_place.specs.Stacked.{Placed}
use Rattle.stack_place.specs.Stacked.{scalar_rest, behind}
use Rattle.after_dots.specs.AfterDots.{skipped_for, settled_for}
use Rattle.classify.specs.declared.Call.{Call}
use Rattle.classify.specs.Pass.{direct, way_of, pass_slots}
use Rattle.classify.specs.Classify as rust
use Rattle.classify.specs.Spending as spending
use Rattle.classify.specs.Spending.{variadic_argument_choice}
use Rattle.classify.specs.Stacking.{stacked_of}
use Rattle.classify.specs.Answers as answers
use Rattle.classify.specs.Answers.{row_refusal, call_refusal, refusal_by, state_refusal, Account, argument_answer, variadic_argument_answer, or_answer, accepted_answer, answer_to}
use Rattle.classify.proofs.Accepted.{Sound, sound, unmarked}
use Rattle.ledger.specs.Ledger.{variadic_argument, rounding_by}
use Rattle.varargs.specs.declared.Offsets.{Offsets}
use Rattle.varargs.specs.Lists.{Located, Save, in_overflow, in_integers, in_floats, standing}
use Rattle.varargs.proofs.Scalars.{Listed, integer_1, integer_2, integer_4, integer_8, integer_16, a_single, a_double, an_x87, a_quad}
use Rattle.placement.specs.Caller.{behind_dots}
use Rattle.placement.specs.Back.{offsets_at}

-- ---- nothing refuses it, it travels as itself, and so needs no slots

base_taken : (s : scalars.Scalar) → Listed s → checks.scalar_refusal s ≡ accepted
unfolding checks.scalar_refusal
base_taken s integer_1 = refl
base_taken s integer_2 = refl
base_taken s integer_4 = refl
base_taken s integer_8 = refl
base_taken s integer_16 = refl
base_taken s a_single = refl
base_taken s a_double = refl
base_taken s an_x87 = refl
base_taken s a_quad = refl

module _ (left : Left) (m : left.integers_only ≡ no_mark) where
  travels : (s : scalars.Scalar) → Listed s → (rust.scalar (described 0) left s).pass ≡ direct
  unfolding abis.descriptions described rust.registers rust.scalar
  travels s integer_1 = rw m
  travels s integer_2 = rw m
  travels s integer_4 = rw m
  travels s integer_8 = rw m
  travels s integer_16 = rw m
  travels s a_single = rw m
  travels s a_double = rw m
  travels s an_x87 = refl
  travels s a_quad = rw m

-- ---- what it spends

module _ (left : Left) where
  -- an integer of so many words: all of them, or none. A float that has registers: one, where one is left
  abbrev words : ℕ → Spent
  words n = cond (leb n left.integer) (spends 0 n 0 0) nothing

  abbrev one_float : Spent
  one_float = spends 0 0 0 (min 1 left.float)

  abbrev pub cost_of : {s : scalars.Scalar} → Listed s → Spent
  cost_of integer_1 = words 1
  cost_of integer_2 = words 1
  cost_of integer_4 = words 1
  cost_of integer_8 = words 1
  cost_of integer_16 = words 2
  cost_of a_single = one_float
  cost_of a_double = one_float
  cost_of an_x87 = nothing
  cost_of a_quad = one_float

  abbrev spent_on : scalars.Scalar → Spent
  spent_on s = (variadic_argument_choice (described 0) left (Scalar s) []).decision.spent

  spent_by : (b : Bool) (x y : Decision) → (cond b x y).spent ≡ cond b x.spent y.spent
  spent_by true x y = refl
  spent_by false x y = refl

  module _ (m : left.integers_only ≡ no_mark) where
    spends_so : (s : scalars.Scalar) (is : Listed s) → spent_on s ≡ cost_of is
    unfolding abis.descriptions described rules.want_of lone.integer_argument lone.scalar_in_registers lone.scalar_argument skipped_for settled_for spending.scalar_by variadic_argument_choice
    spends_so s integer_1 = rw m (spent_by (leb 1 left.integer) _ _)
    spends_so s integer_2 = rw m (spent_by (leb 1 left.integer) _ _)
    spends_so s integer_4 = rw m (spent_by (leb 1 left.integer) _ _)
    spends_so s integer_8 = rw m (spent_by (leb 1 left.integer) _ _)
    spends_so s integer_16 = rw m (spent_by (leb 2 left.integer) _ _)
    spends_so s a_single = rw m
    spends_so s a_double = rw m
    spends_so s an_x87 = refl
    spends_so s a_quad = rw m

-- ---- the answer

-- where it stands: by how many bytes its registers leave, and 16 or 8
abbrev pub rounding_on : {s : scalars.Scalar} → Listed s → ℕ
rounding_on integer_1 = 8
rounding_on integer_2 = 8
rounding_on integer_4 = 8
rounding_on integer_8 = 8
rounding_on integer_16 = 16
rounding_on a_single = 8
rounding_on a_double = 8
rounding_on an_x87 = 16
rounding_on a_quad = 16

abbrev pub stands_for : ℕ → (s : scalars.Scalar) → Listed s → Spent → Placed
stands_for stack s is spent = behind stack (round_up (scalar_rest spent s.size 8) 8) (rounding_on is)

abbrev pub account_for : Call → (s : scalars.Scalar) → Listed s → Account
account_for c s is =
    record { passed = rust.scalar (described 0) c.left s; spent = cost_of c.left is; placed = stands_for c.stack s is (cost_of c.left is) }

module _ (left : Left) (stack : ℕ) where
  abbrev call_0 : Call
  call_0 = answers.call_with 0 left stack

  module _ (m : left.integers_only ≡ no_mark) where
    stands_so : (s : scalars.Scalar) (is : Listed s) (ps : List Piece) (spent : Spent)
        → stacked_of (terms_of (described 0)) (described 0).arguments false (dots_of (described 0).variadic) stack (Scalar s) ps (way_of (rust.scalar (described 0) left s).pass) spent
        (length (pass_slots (rust.scalar (described 0) left s).pass))
        ≡ stands_for stack s is spent
    unfolding abis.descriptions described stacked_of
    stands_so s integer_1 ps spent = rw (travels left m s integer_1)
    stands_so s integer_2 ps spent = rw (travels left m s integer_2)
    stands_so s integer_4 ps spent = rw (travels left m s integer_4)
    stands_so s integer_8 ps spent = rw (travels left m s integer_8)
    stands_so s integer_16 ps spent = rw (travels left m s integer_16)
    stands_so s a_single ps spent = rw (travels left m s a_single)
    stands_so s a_double ps spent = rw (travels left m s a_double)
    stands_so s an_x87 ps spent = rw (travels left m s an_x87)
    stands_so s a_quad ps spent = rw (travels left m s a_quad)

    rounds_so : (s : scalars.Scalar) (is : Listed s) → rounding_by (described 0) (variadic_argument (Scalar s) [] []) call_0 ≡ rounding_on is
    unfolding abis.descriptions described rust.argument rust.variadic_argument
    rounds_so s integer_1 = rw (travels left m s integer_1)
    rounds_so s integer_2 = rw (travels left m s integer_2)
    rounds_so s integer_4 = rw (travels left m s integer_4)
    rounds_so s integer_8 = rw (travels left m s integer_8)
    rounds_so s integer_16 = rw (travels left m s integer_16)
    rounds_so s a_single = rw (travels left m s a_single)
    rounds_so s a_double = rw (travels left m s a_double)
    rounds_so s an_x87 = rw (travels left m s an_x87)
    rounds_so s a_quad = rw (travels left m s a_quad)

    module _ (good : state_refusal (terms_of (described 0)) call_0 ≡ accepted) (s : scalars.Scalar) (is : Listed s) (ws out : List ℕ) where
      not_refused : refusal_by (row_refusal 0) (described 0) call_0 (Scalar s) ws ≡ accepted
      unfolding row_refusal refusal_by answers.checked answers.arg_refusal
      not_refused = rw (good, base_taken s is)

      account_so : answers.variadic_argument_account (described 0) call_0 (Scalar s) (pieces_of ws) ≡ account_for call_0 s is
      unfolding answers.variadic_argument_account abis.descriptions described rust.argument rust.variadic_argument variadic_argument_choice
      account_so =
          rw (← spends_so left m s is)
          (ap (λ (placed : Placed). record { passed = rust.scalar (described 0) left s; spent = spent_on left s; placed = placed }) (stands_so s is (pieces_of ws) (spent_on left s)))

      accepted_so : answer_to accepted call_0 (account_for call_0 s is) out ≡ or_answer (stands_for stack s is (cost_of left is)).refusal call_0 (accepted_answer call_0 (account_for call_0 s is))
      unfolding answer_to
      accepted_so =
          let none : ltb (length out / slot_size) 0 ≡ false = le-ltb (length out / slot_size) 0 (omega arith) in
          rw (travels left m s is, none)

      answer_0 : variadic_argument_answer call_0 (Scalar s) ws out ≡ or_answer (stands_for stack s is (cost_of left is)).refusal call_0 (accepted_answer call_0 (account_for call_0 s is))
      unfolding variadic_argument_answer answers.variadic_argument_answer_by
      answer_0 = rw (not_refused, account_so) accepted_so

module _ (c : Call) (row : c.abi ≡ 0) (passes : call_refusal c ≡ accepted) where
  pub on_row_0 : Sound (described 0) c
  unfolding call_refusal answers.call_refusal_by state_refusal
  on_row_0 = (sound (row_refusal 0) (described 0) c (rw row at passes)).1

  no_mark_here : c.left.integers_only ≡ no_mark
  unfolding abis.descriptions described
  no_mark_here = unmarked (described 0) c on_row_0 refl

  call_good : state_refusal (terms_of (described 0)) (answers.call_with 0 c.left c.stack) ≡ accepted
  unfolding call_refusal answers.call_refusal_by state_refusal
  call_good = (else_none (row_refusal 0) _ (rw row at passes)).1

  -- whatever words and whatever buffer come with it
  pub answer_is : (s : scalars.Scalar) (is : Listed s) (ws out : List ℕ)
      → variadic_argument_answer c (Scalar s) ws out ≡ or_answer (stands_for c.stack s is (cost_of c.left is)).refusal c (accepted_answer c (account_for c s is))
  answer_is s is ws out =
      subst (λ (x : Call). variadic_argument_answer x (Scalar s) ws out ≡ or_answer (stands_for c.stack s is (cost_of c.left is)).refusal x (accepted_answer x (account_for x s is)))
      (ap (λ (n : ℕ). answers.call_with n c.left c.stack) (sym row)) (answer_0 c.left c.stack no_mark_here call_good s is ws out)

  pub rounding_is : (s : scalars.Scalar) (is : Listed s) → rounding_by (described 0) (variadic_argument (Scalar s) [] []) c ≡ rounding_on is
  rounding_is s is = rounds_so c.left c.stack no_mark_here s is

  -- so none of them matters
  pub asked_so : (s : scalars.Scalar) → Listed s → (ws out : List ℕ) → variadic_argument_answer c (Scalar s) ws out ≡ behind_dots c s
  asked_so s is ws out = answer_is s is ws out ∙ sym (answer_is s is [] [])

-- a fixed argument is answered alike: description 0 makes no difference after the dots
pub alike : (c : Call) → c.abi ≡ 0 → (arg : Arg) (ws out : List ℕ) → argument_answer c arg ws out ≡ variadic_argument_answer c arg ws out
unfolding argument_answer variadic_argument_answer answers.argument_answer_by answers.variadic_argument_answer_by answers.argument_account answers.variadic_argument_account abis.descriptions described rust.variadic_argument spending.argument_choice variadic_argument_choice
alike c row arg ws out = rw row

-- ---- four lots: one word, two words, a float register, the stack; and the reader has the same one

abbrev pub saved_at : ℕ → scalars.Scalar → Offsets → Located
saved_at start s next = record { refusal = accepted; area = Save; start = start; length = s.size; next = next }

pub data Lot (c : Call) (s : scalars.Scalar) (spent : Spent) : Type 0 where
  one_word : spent ≡ spends 0 1 0 0 → 1 ≤ c.left.integer → s.size ≤ 8
      → ((bytes o : ℕ) → standing bytes (offsets_at c o) s ≡ saved_at (8 * (6 - c.left.integer)) s (record { integer = 8 * (6 - c.left.integer) + 8; float = 48 + 16 * (8 - c.left.float); overflow = o }))
      → Lot c s spent
  two_words : spent ≡ spends 0 2 0 0 → 2 ≤ c.left.integer → s.size ≡ 16
      → ((bytes o : ℕ) → standing bytes (offsets_at c o) s ≡ saved_at (8 * (6 - c.left.integer)) s (record { integer = 8 * (6 - c.left.integer) + 16; float = 48 + 16 * (8 - c.left.float); overflow = o }))
      → Lot c s spent
  a_float : spent ≡ spends 0 0 0 1 → 1 ≤ c.left.float → s.size ≤ 16
      → ((bytes o : ℕ) → standing bytes (offsets_at c o) s ≡ saved_at (48 + 16 * (8 - c.left.float)) s (record { integer = 8 * (6 - c.left.integer); float = 48 + 16 * (8 - c.left.float) + 16; overflow = o }))
      → Lot c s spent
  the_stack : spent ≡ nothing → ((bytes o : ℕ) → standing bytes (offsets_at c o) s ≡ in_overflow bytes (offsets_at c o) s) → Lot c s spent

module _ (c : Call) (low : c.left.integer ≤ 6) (high : c.left.float ≤ 8) where
  one_lot : (size : ℕ) → size ≤ 8 → round_up size 8 ≡ 8 → (b : Bool) → leb 1 c.left.integer ≡ b → Lot c (scalar integer size size) (cond b (spends 0 1 0 0) nothing)
  unfolding standing in_integers
  one_lot size small z true e =
      let w : 1 ≤ c.left.integer = leb-true _ _ e in
      one_word refl w small (λ bytes o. rw (z, le-leb (8 * (6 - c.left.integer) + 8) 48 (omega (arith, low))))
  one_lot size small z false e =
      let w : c.left.integer < 1 = leb-false _ _ e in
      the_stack refl (λ bytes o. rw (z, lt-leb (8 * (6 - c.left.integer) + 8) 48 (omega (arith, low))))

  two_lot : (b : Bool) → leb 2 c.left.integer ≡ b → Lot c (scalar integer 16 16) (cond b (spends 0 2 0 0) nothing)
  unfolding standing in_integers round_up
  two_lot true e =
      let w : 2 ≤ c.left.integer = leb-true _ _ e in
      two_words refl w refl (λ bytes o. rw (le-leb (8 * (6 - c.left.integer) + 16) 48 (omega (arith, low))))
  two_lot false e =
      let w : c.left.integer < 2 = leb-false _ _ e in
      the_stack refl (λ bytes o. rw (lt-leb (8 * (6 - c.left.integer) + 16) 48 (omega (arith, low))))

  float_lot : (kind size : ℕ) → eqb kind integer ≡ false → eqb kind x87_extended ≡ false → size ≤ 16 → (b : Bool) → leb 1 c.left.float ≡ b
      → Lot c (scalar kind size size) (spends 0 0 0 (min 1 c.left.float))
  unfolding standing in_floats
  float_lot kind size k x small true e =
      let w : 1 ≤ c.left.float = leb-true _ _ e in
      let one : min 1 c.left.float ≡ 1 = omega arith in
      a_float (ap (λ (n : ℕ). spends 0 0 0 n) one) w small (λ bytes o. rw (k, x, le-leb (48 + 16 * (8 - c.left.float) + 16) 176 (omega (arith, high))))
  float_lot kind size k x small false e =
      let w : c.left.float < 1 = leb-false _ _ e in
      let none : min 1 c.left.float ≡ 0 = omega arith in
      the_stack (ap (λ (n : ℕ). spends 0 0 0 n) none) (λ bytes o. rw (k, x, lt-leb (48 + 16 * (8 - c.left.float) + 16) 176 (omega (arith, high))))

  pub lot : (s : scalars.Scalar) (is : Listed s) → Lot c s (cost_of c.left is)
  unfolding round_up standing
  lot s integer_1 = one_lot 1 (omega arith) refl _ refl
  lot s integer_2 = one_lot 2 (omega arith) refl _ refl
  lot s integer_4 = one_lot 4 (omega arith) refl _ refl
  lot s integer_8 = one_lot 8 (omega arith) refl _ refl
  lot s integer_16 = two_lot _ refl
  lot s a_single = float_lot single 4 refl refl (omega arith) _ refl
  lot s a_double = float_lot double 8 refl refl (omega arith) _ refl
  lot s an_x87 = the_stack refl (λ bytes o. refl)
  lot s a_quad = float_lot quad 16 refl refl (omega arith) _ refl
