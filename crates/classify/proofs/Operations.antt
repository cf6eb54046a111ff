-- The laws of the operations: what decides a value, and from there to the answer and the buffer that are promised.
use Prim.Native.Nat.{ℕ, zero, suc, ◌-◌, ◌/◌, ◌≤◌, ◌<◌}
use mathlib.Core.Path.{◌≡◌, refl, ◌∙◌}
use mathlib.Core.List.{List, []}
use mathlib.Core.Bool.{Bool, true, false, ◌&&◌, ◌||◌, not, cond}
use native.Mathlib.Omega.{arith}
use borrow.Author.Tests.{le-ltb}
use lib.Dec.{eqb, leb, ltb}
use lib.ListN.{length}
use Rattle.std.specs.Prelude.{Ok, Err}
use Rattle.shape.specs.declared.Arg as args
use Rattle.shape.specs.declared.Scalar.{Scalar}
use Rattle.shape.specs.declared.Shape.{Shape}
use Rattle.shape.specs.declared.Piece.{Piece}
use Rattle.shape.specs.declared.refusals.Refusal.{Refusal}
use Rattle.shape.specs.Refusals.{number_of}
use Rattle.shape.specs.Numbers.{accepted, bad_abi, no_room, integer}
use Rattle.shape.specs.Questions.{is_float}
use Rattle.shape.specs.Words.{pieces_of}
use Rattle.checks.specs.Check.{or_else, unless_refused}
use Rattle.checks.proofs.Check.{number_leaves}
use Rattle.slots.specs.declared.Slot.{Slot}
use Rattle.slots.specs.Words.{slot_size, written}
use Rattle.describe.specs.declared.Banks.{Banks}
use Rattle.describe.specs.declared.Dots.{Dots}
use Rattle.describe.specs.declared.Rule.{Rule}
use Rattle.rows.specs.declared.Rules.{Rules}
use Rattle.describe.specs.declared.Scalars.{Scalars}
use Rattle.describe.specs.declared.Terms.{Terms}
use Rattle.describe.specs.declared.ReturnPointer.{ReturnPointer}
use Rattle.describe.specs.declared.ReturnPointer.TheVariants.{FirstArgument, FirstArgumentPopped, Dedicated}
use Rattle.describe.specs.declared.Variadic.{Variadic}
use Rattle.describe.specs.declared.Variadic.TheVariants.{SameAsFixed, AlwaysMemory, BothBanks, IntegersOnly, UnnamedIntegers, UnnamedIntegersEven}
use Rattle.describe.specs.Description.{Description, terms_of, Ends}
use Rattle.rows.specs.Row.{listed}
use Rattle.describe.specs.Questions.{is_by_reference, returns_by_reference}
use Rattle.abis.specs.declared.Brief.{Brief}
use Rattle.abis.specs.Abis.{described, description_count}
use Rattle.abis.specs.Brief.{brief_of}
use Rattle.abis.proofs.Rows.{returns_listed, arguments_listed}
use Rattle.abis.proofs.Lists.{returns_end, arguments_end}
use Rattle.spend.specs.declared.Left.{Left}
use Rattle.spend.specs.declared.Way as ways
use Rattle.spend.specs.declared.Spent.{Spent}
use Rattle.spend.specs.declared.Decision.{Decision}
use Rattle.spend.specs.Ways as made
use Rattle.spend.specs.Ways.{marked, with_mark}
use Rattle.spend.specs.Spending.{want_of, by_pointer}
use Rattle.spend_scalar.specs.Spending.{skip_of, integer_argument, scalar_in_registers, scalar_argument, scalar_return}
use Rattle.after_dots.specs.AfterDots.{skipped_for, left_for, settled_for}
use Rattle.eightbytes.specs.declared.Class.{Class}
use Rattle.find.specs.Matches.{no_classes}
use Rattle.slot_writing.specs.Sources.{source_slots, scalar_slots}
use Rattle.slot_writing.proofs.Writing.{nothing_written}
use Rattle.stack_place.specs.declared.Place.{Place}
use Rattle.stack_place.specs.Stacked.{Placed, told, behind}
use Rattle.stack_place.proofs.Placing.{no_length}
use Rattle.classify.specs.declared.Call.{Call}
use Rattle.classify.specs.declared.Answer.{Answer}
use Rattle.classify.specs.declared.Decided.{Decided}
use Rattle.classify.specs.declared.Role.{Role}
use Rattle.classify.specs.declared.Role.TheVariants.{Return, Argument, VariadicArgument}
use Rattle.classify.specs.Classify as rust
use Rattle.classify.specs.Classify.{Passed}
use Rattle.classify.specs.Spending as rules
use Rattle.classify.specs.Answers.{state_refusal, arg_refusal, checked, call_refusal_by, refusal_by, row_refusal, refused, done, Account, account_of, returns_account, argument_account, variadic_argument_account, or_answer, answer_to, written_to, Leaves, void_answer_by, void_answer, returns_answer_by, returns_written_by, argument_answer_by, argument_written_by, variadic_argument_answer_by, variadic_argument_written_by, returns_answer, returns_written, argument_answer, argument_written, variadic_argument_answer, variadic_argument_written, Returns, Passes, PassesVariadic}
use Rattle.classify.specs.Stacking.{stacked_of}
use Rattle.classify.specs.Parts as parts
use Rattle.classify.proofs.Accepted.{sound, call_checked, unmarked, alone_unmarked}
use Rattle.classify.proofs.Steps.{row_there, row_missing, or_refused, slots_short, slots_fit, stack_short, stack_fits}
use Rattle.classify.proofs.Agree.{Agrees, slots_for, argument_agrees, returns_agrees, variadic_argument_agrees}

-- ---- what decides a value

pub aggregate_found : (T : Terms) (list : List Rule) (returning : Bool) (dots : Dots) (left : Left) (shape : Shape) (ps : List Piece)
    (n : ℕ) → n ≡ skipped_for dots T.banks left shape.size shape.align → (l : Left) → l ≡ left_for dots n left
    → (d : Decided) → d ≡ parts.walked T returning l list shape ps → (r : Decision) → r ≡ settled_for dots left.integer n d.decision
    → parts.decided r d.classes ≡ parts.aggregate_decided T list returning dots left shape ps
unfolding parts.aggregate_decided parts.walked rules.aggregate_by
aggregate_found T list returning dots left shape ps n en l el d ed r er = rw (er, ed, el, en)

-- ---- what an operation reads of a row

module _ (abi : ℕ) (b : Brief) (eb : b ≡ brief_of (described abi)) where
  pub list_back : (returning : Bool) → returning ≡ true → b.returns ≡ parts.list_for returning b
  list_back returning h = rw h

  list_is : (returning : Bool) (list : Rules) → list ≡ parts.list_for returning b → listed list ≡ parts.rules_for returning (described abi)
  list_is true list e = rw (e, eb) (returns_listed abi)
  list_is false list e = rw (e, eb) (arguments_listed abi)

  pub list_ends : abi < description_count → (returning : Bool) (list : Rules) → list ≡ parts.list_for returning b → Ends (listed list)
  list_ends h returning list e = rw (list_is returning list e) (ends returning)
    where
      ends : (x : Bool) → Ends (parts.rules_for x (described abi))
      ends true = returns_end abi h
      ends false = arguments_end abi h

-- ---- an operation by terms, where nothing refuses it

module _ (T : Terms) (list : List Rule) (returning : Bool) (dots : Dots) (c : Call) (shape : Shape) (ws out : List ℕ) (r : Answer) (d : Decided)
    (ed : d ≡ parts.aggregate_decided T list returning dots c.left shape (pieces_of ws)) (room : ℕ) (er : room ≡ length out / slot_size) where
  pub aggregate_short : room < d.decision.count → r ≡ refused c no_room → parts.By T list returning dots c (parts.aggregate_arg shape) ws out r out
  unfolding parts.aggregate_decided
  aggregate_short h e = rw ed at (slots_short out room er c d.decision (parts.stacked_by T list returning dots c (parts.aggregate_arg shape) (pieces_of ws) d.decision) (parts.decided_slots d (pieces_of ws)) r h e)

  aggregate_done : d.decision.count ≤ room → (placed : Placed) → placed ≡ parts.stacked_by T list returning dots c (parts.aggregate_arg shape) (pieces_of ws) d.decision
      → (after : List ℕ) → parts.Settles c d.decision placed (parts.decided_slots d (pieces_of ws)) out r after → parts.By T list returning dots c (parts.aggregate_arg shape) ws out r after
  unfolding parts.aggregate_decided
  aggregate_done h placed ep after e = rw (ep, ed) at (slots_fit out room er c d.decision placed (parts.decided_slots d (pieces_of ws)) r h after e)

  module _ (h : d.decision.count ≤ room) where
    pub aggregate_placed : (place : Place) → told c.stack (Ok place) ≡ parts.stacked_by T list returning dots c (parts.aggregate_arg shape) (pieces_of ws) d.decision
        → (after : List ℕ) → after ≡ written (parts.decided_slots d (pieces_of ws)) out → r ≡ parts.accepted_by c d.decision (told c.stack (Ok place))
        → parts.By T list returning dots c (parts.aggregate_arg shape) ws out r after
    aggregate_placed place ep after ew e = aggregate_done h _ ep after (stack_fits c d.decision _ (parts.decided_slots d (pieces_of ws)) out r place refl e after ew)

    pub aggregate_unplaced : (q : Refusal) → told c.stack (Err q) ≡ parts.stacked_by T list returning dots c (parts.aggregate_arg shape) (pieces_of ws) d.decision
        → r ≡ refused c (number_of q) → parts.By T list returning dots c (parts.aggregate_arg shape) ws out r out
    aggregate_unplaced q ep e = aggregate_done h _ ep out (stack_short c d.decision _ (parts.decided_slots d (pieces_of ws)) out r q refl e)

-- the slots of a scalar stand in no pieces and no classes
module _ (cs : List Class) (ps : List Piece) where
  record Alone (d : Decision) : Type 0 where
    same : scalar_slots d.source ≡ source_slots d.source cs ps

  either : (b : Bool) (x y : Decision) → Alone x → Alone y → Alone (cond b x y)
  either true x y p q = p
  either false x y p q = q

  -- no slots, a size cut, or one slot
  empty : (w : ways.Way) (spent : Spent) → Alone (made.plain w spent)
  unfolding source_slots scalar_slots
  empty w spent = record { same = refl }

  integer_alone : (start : ℕ) (S : Scalars) (I want : ℕ) → Alone (integer_argument start S I want)
  unfolding integer_argument
  integer_alone start S I want =
      either S.wide_integer_is_all_or_nothing _ _ (either (leb want I) _ _ (empty _ _) (empty _ _))
      (either (ltb 1 want && (S.wide_integer_starts_even || S.wide_integer_drains)) _ _
      (either (leb want (I - skip_of S.wide_integer_starts_even (start - I) I)) _ _ (empty _ _) (either S.wide_integer_drains _ _ (empty _ _) (empty _ _)))
      (empty _ _))

  registers_alone : (B : Banks) (S : Scalars) (left : Left) (s : Scalar) (want : ℕ) → Alone (scalar_in_registers B S left s want)
  unfolding scalar_in_registers
  registers_alone B S left s want =
      either B.shared _ _ (empty _ _)
      (either (is_float s.kind && leb s.size B.float_width) _ _ (either S.float_falls_to_integers _ _ (either (eqb left.float 0) _ _ (empty _ _) (empty _ _)) (empty _ _))
      (either (is_float s.kind) _ _ (empty _ _) (integer_alone B.integer S left.integer want)))

  argument_alone : (B : Banks) (S : Scalars) (left : Left) (s : Scalar) → Alone (scalar_argument B S left s)
  unfolding scalar_argument source_slots scalar_slots
  argument_alone B S left s =
      let want : ℕ = want_of s.size B.integer_width in
      either (is_by_reference S s.size) _ _ (empty _ _)
      (either (is_float s.kind && eqb s.kind S.in_memory) _ _ (empty _ _)
      (either ((S.wide_integer_in_memory && eqb s.kind integer) && ltb 1 want) _ _ (empty _ _)
      (either (marked left && is_float s.kind) _ _ (record { same = refl }) (registers_alone B S left s want))))

  pointer_alone : (p : ReturnPointer) (I : ℕ) → Alone (by_pointer p I)
  pointer_alone FirstArgument I = empty _ _
  pointer_alone FirstArgumentPopped I = empty _ _
  pointer_alone Dedicated I = empty _ _

  return_alone : (S : Scalars) (p : ReturnPointer) (left : Left) (s : Scalar) → Alone (scalar_return S p left s)
  unfolding scalar_return source_slots scalar_slots
  return_alone S p left s =
      either (not (returns_by_reference S s.size)) _ _ (empty _ _)
      (either (eqb s.kind integer && not (eqb S.wide_integer_returns_in integer)) _ _ (record { same = refl }) (pointer_alone p left.integer))

  settled_alone : (dots : Dots) (I skipped : ℕ) (d : Decision) → Alone d → Alone (settled_for dots I skipped d)
  unfolding settled_for
  settled_alone dots I skipped d a = record { same = a.same }

  scalar_alone : (T : Terms) (returning : Bool) (dots : Dots) (left : Left) (s : Scalar) → Alone (rules.scalar_by T returning dots left s)
  unfolding rules.scalar_by
  scalar_alone T returning dots left s =
      either returning _ _ (return_alone T.scalars T.return_pointer left s)
      (either dots.emptied _ _ (empty _ _) (settled_alone dots left.integer _ _ (argument_alone T.banks T.scalars _ s)))

module _ (T : Terms) (returning : Bool) (dots : Dots) (c : Call) (s : Scalar) (out : List ℕ) (r : Answer) (d : Decision)
    (ed : d ≡ rules.scalar_by T returning dots c.left s) (room : ℕ) (er : room ≡ length out / slot_size) where
  alone : scalar_slots d.source ≡ source_slots d.source no_classes []
  alone = rw ed (scalar_alone no_classes [] T returning dots c.left s).same

  pub scalar_short : room < d.count → r ≡ refused c no_room → parts.By T [] returning dots c (parts.scalar_arg s) [] out r out
  unfolding pieces_of
  scalar_short h e = rw ed at (slots_short out room er c d (parts.stacked_by T [] returning dots c (parts.scalar_arg s) [] d) (source_slots d.source no_classes []) r h e)

  scalar_done : d.count ≤ room → (placed : Placed) → placed ≡ stacked_of T [] returning dots c.stack (parts.scalar_arg s) [] d.way d.spent d.count
      → (after : List ℕ) → parts.Settles c d placed (scalar_slots d.source) out r after → parts.By T [] returning dots c (parts.scalar_arg s) [] out r after
  unfolding pieces_of
  scalar_done h placed ep after e = rw (ep, alone, ed) at (slots_fit out room er c d placed (scalar_slots d.source) r h after e)

  module _ (h : d.count ≤ room) where
    pub scalar_placed : (place : Place) → told c.stack (Ok place) ≡ stacked_of T [] returning dots c.stack (parts.scalar_arg s) [] d.way d.spent d.count
        → (after : List ℕ) → after ≡ written (scalar_slots d.source) out → r ≡ parts.accepted_by c d (told c.stack (Ok place))
        → parts.By T [] returning dots c (parts.scalar_arg s) [] out r after
    scalar_placed place ep after ew e = scalar_done h _ ep after (stack_fits c d _ (scalar_slots d.source) out r place refl e after ew)

    pub scalar_unplaced : (q : Refusal) → told c.stack (Err q) ≡ stacked_of T [] returning dots c.stack (parts.scalar_arg s) [] d.way d.spent d.count
        → r ≡ refused c (number_of q) → parts.By T [] returning dots c (parts.scalar_arg s) [] out r out
    scalar_unplaced q ep e = scalar_done h _ ep out (stack_short c d _ (scalar_slots d.source) out r q refl e)

-- ---- what decides a value comes to what is promised, where the rules agree with the Rust

module _ (source : ℕ) (D : Description) (rules' : List Rule) (returning : Bool) (dots : Dots) (c : Call) (arg : args.Arg) (ws out : List ℕ) (p : Passed) (k : rules.Chosen)
    (agrees : refusal_by source D c arg ws ≡ accepted → Agrees c.left p k.decision (slots_for k arg (pieces_of ws))) where
  abbrev refusal : ℕ
  refusal = or_else source (checked (terms_of D) c arg ws)

  abbrev slots : List Slot
  slots = parts.decided_slots (parts.decided_by k arg (pieces_of ws)) (pieces_of ws)

  abbrev placed : Placed
  placed = parts.stacked_by (terms_of D) rules' returning dots c arg (pieces_of ws) k.decision

  abbrev account : Account
  account = account_of (terms_of D) rules' returning dots c arg (pieces_of ws) p k.decision.spent

  answer_is : or_answer refusal c (parts.finished c k.decision placed out) ≡ answer_to refusal c account out
  unfolding refusal_by parts.finished answer_to
  answer_is = go refusal refl
    where
      go : (n : ℕ) → refusal ≡ n → or_answer n c (parts.finished c k.decision placed out) ≡ answer_to n c account out
      go zero e = let a = agrees e in rw (a.count, a.way, a.left_is)
      go (suc n) e = refl

  words_are : unless_refused refusal (parts.finished_in k.decision placed slots out) out ≡ written_to refusal account out
  unfolding refusal_by parts.finished_in written_to
  words_are = go refusal refl
    where
      go : (n : ℕ) → refusal ≡ n → unless_refused n (parts.finished_in k.decision placed slots out) out ≡ written_to n account out
      go zero e = let a = agrees e in rw (a.count, a.way, a.slots)
      go (suc n) e = refl

  meets : (r : Answer) (after : List ℕ)
      → Leaves (or_answer refusal c (parts.finished c k.decision placed out)) (unless_refused refusal (parts.finished_in k.decision placed slots out) out) r after
      → Leaves (answer_to refusal c account out) (written_to refusal account out) r after
  meets r after e = record { answers = e.answers ∙ answer_is; writes = e.writes ∙ words_are }

-- after the dots they agree where the checks pass
pub agreed : (source : ℕ) (D : Description) (c : Call) (arg : args.Arg) (ws : List ℕ) → refusal_by source D c arg ws ≡ accepted
    → Agrees c.left (rust.variadic_argument D c.left arg (pieces_of ws)) (rules.variadic_argument_choice D c.left arg (pieces_of ws)).decision
    (slots_for (rules.variadic_argument_choice D c.left arg (pieces_of ws)) arg (pieces_of ws))
agreed source D c arg ws z =
    variadic_argument_agrees D c.left arg (pieces_of ws) (λ e. unmarked D c (sound source D c (call_checked source D c arg ws z)).1 (alone_unmarked D.variadic e))

module _ (source : ℕ) (D : Description) (c : Call) (arg : args.Arg) (ws out : List ℕ) (r : Answer) (after : List ℕ) where
  pub returns_by : parts.From source D true false c arg ws out r after → Leaves (returns_answer_by source D c arg ws out) (returns_written_by source D c arg ws out) r after
  unfolding returns_answer_by returns_written_by returns_account refusal_by rules.return_choice parts.performed_by parts.performed_by_in
  returns_by = meets source D _ true _ c arg ws out _ _ (λ _. returns_agrees D c.left arg (pieces_of ws)) r after

  pub argument_by : parts.From source D false false c arg ws out r after → Leaves (argument_answer_by source D c arg ws out) (argument_written_by source D c arg ws out) r after
  unfolding argument_answer_by argument_written_by argument_account refusal_by rules.argument_choice parts.performed_by parts.performed_by_in
  argument_by = meets source D _ false _ c arg ws out _ _ (λ _. argument_agrees D c.left arg (pieces_of ws)) r after

  pub variadic_argument_by : parts.From source D false true c arg ws out r after
      → Leaves (variadic_argument_answer_by source D c arg ws out) (variadic_argument_written_by source D c arg ws out) r after
  unfolding variadic_argument_answer_by variadic_argument_written_by variadic_argument_account refusal_by rules.variadic_argument_choice parts.performed_by parts.performed_by_in
  variadic_argument_by = meets source D _ false _ c arg ws out _ _ (agreed source D c arg ws) r after

-- ---- the operations of a call on a row

module _ (c : Call) (arg : args.Arg) (ws out : List ℕ) (r : Answer) (after : List ℕ) where
  returns_row : parts.OnRow true false c arg ws out r after → Returns c arg ws out r after
  unfolding returns_answer returns_written
  returns_row e = returns_by (row_refusal c.abi) (described c.abi) c arg ws out r after e

  argument_row : parts.OnRow false false c arg ws out r after → Passes c arg ws out r after
  unfolding argument_answer argument_written
  argument_row e = argument_by (row_refusal c.abi) (described c.abi) c arg ws out r after e

  variadic_argument_row : parts.OnRow false true c arg ws out r after → PassesVariadic c arg ws out r after
  unfolding variadic_argument_answer variadic_argument_written
  variadic_argument_row e = variadic_argument_by (row_refusal c.abi) (described c.abi) c arg ws out r after e

  performs : (returning variadic_argument : Bool) → parts.OnRow returning variadic_argument c arg ws out r after
      → parts.Performs returning variadic_argument c arg ws out r after
  performs true false = returns_row
  performs true true = λ e. e
  performs false false = argument_row
  performs false true = variadic_argument_row

module _ (returning variadic_argument : Bool) (c : Call) (arg : args.Arg) (ws out : List ℕ) (r : Answer) where
  pub row_missing_refused : description_count ≤ c.abi → r ≡ refused c bad_abi → parts.Performs returning variadic_argument c arg ws out r out
  unfolding parts.performed_by parts.performed_by_in
  row_missing_refused h er = performs c arg ws out r out returning variadic_argument (record { answers = rw (er, row_missing c.abi h); writes = rw (row_missing c.abi h) })

  module _ (h : c.abi < description_count) (b : Brief) (eb : b ≡ brief_of (described c.abi)) where
    pub row_refused : (q : Refusal) → number_of q ≡ checked b.terms c arg ws → r ≡ refused c (number_of q) → parts.Performs returning variadic_argument c arg ws out r out
    unfolding parts.performed_by parts.performed_by_in
    row_refused q en er =
        let checks : number_of q ≡ checked (terms_of (described c.abi)) c arg ws = rw eb at en in
        performs c arg ws out r out returning variadic_argument
        (record { answers = rw (er, row_there c.abi h, ← checks) (or_refused q c _); writes = rw (row_there c.abi h, ← checks) (number_leaves q _ out) })

    module _ (z : accepted ≡ checked b.terms c arg ws) (b' : Brief) (eb' : b' ≡ brief_of (described c.abi))
        (dots : Dots) (ed : dots ≡ parts.dots_for variadic_argument b'.terms.variadic) (after : List ℕ) where
      checks : accepted ≡ checked (terms_of (described c.abi)) c arg ws
      checks = rw eb at z

      by_row : (list : List Rule) → list ≡ parts.rules_for returning (described c.abi) → parts.By b'.terms list returning dots c arg ws out r after
          → parts.Performs returning variadic_argument c arg ws out r after
      unfolding parts.performed_by parts.performed_by_in
      by_row list el e =
          let ed' : dots ≡ parts.dots_for variadic_argument (described c.abi).variadic = rw eb' at ed in
          let e' : parts.By (terms_of (described c.abi)) list returning dots c arg ws out r after = rw eb' at e in
          performs c arg ws out r after returning variadic_argument (rw (row_there c.abi h, ← checks, ← ed', ← el) e')

      pub row_aggregate : (list : Rules) → list ≡ parts.list_for returning b' → (back : Bool) → back ≡ returning → parts.By b'.terms (listed list) back dots c arg ws out r after
          → parts.Performs returning variadic_argument c arg ws out r after
      row_aggregate list el back ek e = by_row (listed list) (list_is c.abi b' eb' returning list el) (rw ek at e)

-- a scalar's rules are no list's, and its terms are those that the checks looked at
pub row_scalar : (returning variadic_argument : Bool) (c : Call) (s : Scalar) (out : List ℕ) (r : Answer) → c.abi < description_count
    → (b : Brief) → b ≡ brief_of (described c.abi) → accepted ≡ checked b.terms c (parts.scalar_arg s) []
    → (dots : Dots) → dots ≡ parts.dots_for variadic_argument b.terms.variadic → (after : List ℕ)
    → (back : Bool) → back ≡ returning → parts.By b.terms [] back dots c (parts.scalar_arg s) [] out r after
    → parts.Performs returning variadic_argument c (parts.scalar_arg s) [] out r after
unfolding stacked_of
row_scalar returning variadic_argument c s out r h b eb z dots ed after back ek e =
    by_row returning variadic_argument c (parts.scalar_arg s) [] out r h b eb z b eb dots ed after (parts.rules_for returning (described c.abi)) refl (rw ek at e)

-- ---- the operations, by what is asked about

or_accepted : (n : ℕ) → or_else n accepted ≡ n
or_accepted zero = refl
or_accepted (suc n) = refl

-- void: the call alone is checked, and nothing is spent or written
module _ (source : ℕ) (T : Terms) (list : List Rule) (returning : Bool) (dots : Dots) (c : Call) (ws out : List ℕ) where
  no_slots : ltb (length out / slot_size) 0 ≡ false
  no_slots = le-ltb (length out / slot_size) 0 (omega arith)

  void_performed : or_answer (or_else source (state_refusal T c)) c (done c) ≡ parts.performed_by source T list returning dots c args.TheVariants.Void ws out
  unfolding parts.performed_by parts.finished stacked_of behind checked arg_refusal
  void_performed =
      let i : c.left.integer - 0 - 0 ≡ c.left.integer = omega arith in
      let f : c.left.float - 0 - 0 ≡ c.left.float = omega arith in
      rw (or_accepted, no_slots, no_length, i, f)

  void_kept : out ≡ parts.performed_by_in source T list returning dots c args.TheVariants.Void ws out
  unfolding parts.performed_by_in parts.finished_in stacked_of behind source_slots checked arg_refusal
  void_kept = rw (or_accepted, no_slots, no_length) (same (or_else source (state_refusal T c)))
    where
      same : (n : ℕ) → out ≡ unless_refused n (written [] out) out
      same zero = nothing_written out
      same (suc n) = refl

module _ (returning variadic_argument : Bool) (c : Call) (arg : args.Arg) (ws out : List ℕ) (r : Answer) where
  pub by_void : arg ≡ args.TheVariants.Void → r ≡ void_answer c → parts.Performs returning variadic_argument c arg ws out r out
  unfolding void_answer void_answer_by call_refusal_by
  by_void e er =
      rw e
      (performs c args.TheVariants.Void ws out r out returning variadic_argument
      (record { answers = er ∙ void_performed _ _ _ returning _ c ws out; writes = void_kept _ _ _ returning _ c ws out }))

  pub by_aggregate : (shape : Shape) → arg ≡ args.TheVariants.Aggregate shape → (after : List ℕ)
      → parts.Performs returning variadic_argument c (parts.aggregate_arg shape) ws out r after → parts.Performs returning variadic_argument c arg ws out r after
  by_aggregate shape e after k = rw e k

-- a scalar has no pieces
module _ (c : Call) (arg : args.Arg) (ws out : List ℕ) (r : Answer) (s : Scalar) (e : arg ≡ args.TheVariants.Scalar s) (after : List ℕ) where
  returns_scalar : Returns c (parts.scalar_arg s) [] out r after → Returns c arg ws out r after
  unfolding returns_answer returns_written returns_answer_by returns_written_by returns_account stacked_of refusal_by checked arg_refusal rust.returns rules.return_choice
  returns_scalar k = rw e k

  argument_scalar : Passes c (parts.scalar_arg s) [] out r after → Passes c arg ws out r after
  unfolding argument_answer argument_written argument_answer_by argument_written_by argument_account stacked_of refusal_by checked arg_refusal rust.argument rules.argument_choice
  argument_scalar k = rw e k

  variadic_argument_scalar : PassesVariadic c (parts.scalar_arg s) [] out r after → PassesVariadic c arg ws out r after
  unfolding variadic_argument_answer variadic_argument_written variadic_argument_answer_by variadic_argument_written_by variadic_argument_account stacked_of refusal_by checked arg_refusal rust.argument rust.variadic_argument rules.variadic_argument_choice
  variadic_argument_scalar k = rw (e, wordless (described c.abi).variadic (described c.abi) c.left) k
    where
      wordless : (v : Variadic) (D : Description) (left : Left)
          → rust.variadic_by v D left (args.TheVariants.Scalar s) (pieces_of ws) ≡ rust.variadic_by v D left (args.TheVariants.Scalar s) (pieces_of [])
      wordless SameAsFixed D left = refl
      wordless AlwaysMemory D left = refl
      wordless BothBanks D left = refl
      wordless IntegersOnly D left = refl
      wordless UnnamedIntegers D left = refl
      wordless UnnamedIntegersEven D left = refl

  pub by_scalar : (role : Role) → parts.Performs (parts.is_return role) (parts.is_after_dots role) c (parts.scalar_arg s) [] out r after
      → parts.Performs (parts.is_return role) (parts.is_after_dots role) c arg ws out r after
  by_scalar Return = returns_scalar
  by_scalar Argument = argument_scalar
  by_scalar VariadicArgument = variadic_argument_scalar
