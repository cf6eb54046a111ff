-- The ledger: on every description, after every prefix of every list of operations, each register has one holder and the counts add up. Each
-- operation is fair on the call that the one before handed back (Fair.antt), and over fair answers the registers are as stated (Registers.antt).
-- The theorem is for any description and any call that has every register left and passes the checks; that of a row is an instance.
use Prim.Native.Nat.{ℕ, zero, suc, ◌+◌, ◌-◌, ◌≤◌, ◌<◌}
use mathlib.Core.Path.{◌≡◌, refl, sym, ap, subst, ◌∙◌}
use mathlib.Core.List.{List, [], ◌∷◌}
use mathlib.Core.Bool.{Bool, true, false}
use mathlib.Core.Option.Option.{some}
use native.Mathlib.Omega.{arith}
use borrow.Author.Tests.{ltb-true, ltb-false, lt-leb}
use lib.Dec.{T, ltb}
use lib.ListN.{take, get_elem?}
use Rattle.shape.specs.Numbers.{accepted}
use Rattle.shape.proofs.Bools.{implied}
use Rattle.describe.specs.Description.{Description}
use Rattle.abis.specs.Abis.{described, description_count}
use Rattle.classify.specs.declared.Call.{Call}
use Rattle.classify.specs.declared.Answer.{Answer}
use Rattle.classify.specs.Classify.{call}
use Rattle.classify.specs.Answers.{call_with, row_refusal, call_refusal_by, fresh_answer, variadic_answer, returns_answer, argument_answer, variadic_argument_answer}
use Rattle.classify.proofs.Steps.{row_there}
use Rattle.classify.proofs.Accepted.{sound, sound_accepted}
use Rattle.ledger.specs.Ledger.{Operation, mark, return, argument, variadic_argument, answer_by, answer_for, answers_by, answers_from, fresh_call, history, call_after, Bank, integers, floats, start_of, left_in, run_at, InRun, InPassedOver, InGiven, Holder, passed_over_by, given_to, left, holds, Has, LedgerBy, RoundedBy, Ledger, Rounded}
use Rattle.ledger.proofs.Fair.{Fair, fair, even}
use Rattle.ledger.proofs.Registers.{AllFair, totals, abut, ends, last_ends, run_counts, first_run, passed_over_holds, given_holds, left_holds, HasFrom, holder_has}
use Rattle.ledger.proofs.Ranges.{below_last, ordered, in_one}

-- ---- every operation of a list is fair

pub all_fair : (source : ℕ) (D : Description) (c : Call) → call_refusal_by source D c ≡ accepted → (ops : List Operation) → AllFair source D c (answers_by source D c ops)
unfolding answers_by
all_fair source D c good [] = tt
all_fair source D c good (op ∷ ops) =
    let f = fair source D c good op in
    (f, all_fair source D (answer_by source D op c).next f.acceptable ops)

-- a prefix of the answers to a list is the answers to a prefix of it
pub prefix : (n source : ℕ) (D : Description) (c : Call) (ops : List Operation) → take n (answers_by source D c ops) ≡ answers_by source D c (take n ops)
unfolding answers_by
prefix zero source D c ops = refl
prefix (suc n) source D c [] = refl
prefix (suc n) source D c (op ∷ ops) = ap (λ (past : List Answer). answer_by source D op c ∷ past) (prefix n source D (answer_by source D op c).next ops)

-- the call after fair answers passes the checks, with the same number
pub last_accepted : (source : ℕ) (D : Description) (c : Call) (past : List Answer) → call_refusal_by source D c ≡ accepted → AllFair source D c past
    → ((call_after c past).abi ≡ c.abi) × (call_refusal_by source D (call_after c past) ≡ accepted)
unfolding call_after
last_accepted source D c [] good f = (refl, good)
last_accepted source D c (a ∷ past) good f =
    let later = last_accepted source D a.next past f.0.acceptable f.1 in
    (later.0 ∙ f.0.same_abi, later.1)

fair_at : (source : ℕ) (D : Description) (c : Call) (past : List Answer) (k : ℕ) (a : Answer) → AllFair source D c past → get_elem? past k ≡ some a → Fair source D (call_after c (take k past)) a
unfolding call_after
fair_at source D c [] k a f e = absurd (let z : ◌≡◌ {A = ℕ} 0 1 = cc in omega arith)
fair_at source D c (x ∷ past) zero a f e = let q : x ≡ a = cc in rw (← q) f.0
fair_at source D c (x ∷ past) (suc k) a f e = fair_at source D x.next past k a f.1 e

-- ---- the ledger of fair answers

-- the operation of a holder, and what kind of holder it is
operation : Holder → ℕ
operation (passed_over_by k) = k
operation (given_to k) = k
operation left = 0

is_passed_over : Holder → Bool
is_passed_over (passed_over_by k) = true
is_passed_over (given_to k) = false
is_passed_over left = false

-- from a call that has every register left and passes the checks
module _ (source : ℕ) (D : Description) (c : Call) (good : call_refusal_by source D c ≡ accepted) (whole : (b : Bank) → left_in b c ≡ start_of b D.banks)
    (past : List Answer) (f : AllFair source D c past) where
  starts : (b : Bank) → left_in b c ≤ start_of b D.banks
  starts b = omega (arith, whole b)

  from_zero : (b : Bank) → 0 ≡ start_of b D.banks - left_in b c
  from_zero b = omega (arith, whole b)

  -- a holder by the runs is the one by the counts
  no_other : (b : Bank) (r : ℕ) (h : Holder) → Has b D.banks c past r h → h ≡ holds past b r
  no_other b r (passed_over_by k) m =
      ap passed_over_by (omega arith) ∙ sym (passed_over_holds b source D c past 0 0 k r f (starts b) (from_zero b) m)
  no_other b r (given_to k) m = ap given_to (omega arith) ∙ sym (given_holds b source D c past 0 0 k r f (starts b) (from_zero b) m)
  no_other b r left m = sym (left_holds b source D c past 0 0 r f (starts b) (from_zero b) m)

  counted_has : (b : Bank) (r : ℕ) (h : Holder) → HasFrom b source D c past 0 r h → Has b D.banks c past r h
  counted_has b r (passed_over_by k) m = let e : k ≡ m.0 = omega arith in rw e m.2
  counted_has b r (given_to k) m = let e : k ≡ m.0 = omega arith in rw e m.2
  counted_has b r left m = m

  has : (b : Bank) (r : ℕ) → Has b D.banks c past r (holds past b r)
  has b r = counted_has b r (holds past b r) (holder_has b source D c past 0 0 r f (starts b) (from_zero b) (omega arith))

  run_operation : (b : Bank) (k r : ℕ) → InRun (run_at b D.banks c past k) r → operation (holds past b r) ≡ k
  unfolding operation
  run_operation b k r i = go (ltb r ((run_at b D.banks c past k).first + (run_at b D.banks c past k).passes)) refl
    where
      go : (x : Bool) → ltb r ((run_at b D.banks c past k).first + (run_at b D.banks c past k).passes) ≡ x → operation (holds past b r) ≡ k
      go true e = sym (ap operation (no_other b r (passed_over_by k) (i.0, ltb-true _ _ e)))
      go false e = sym (ap operation (no_other b r (given_to k) (ltb-false _ _ e, i.1)))

  apart : (b : Bank) (j k r : ℕ) → InPassedOver (run_at b D.banks c past j) r → InGiven (run_at b D.banks c past k) r → ⊥
  unfolding is_passed_over
  apart b j k r i g = subst (λ (h : Holder). T (is_passed_over h)) (no_other b r (passed_over_by j) i ∙ sym (no_other b r (given_to k) g)) tt

  ledger_of_fair : LedgerBy source D c past
  ledger_of_fair =
      let last = last_accepted source D c past good f in
      record {
        adds_up = λ b. totals b source D c past f ∙ whole b;
        begins_at_zero = λ b l. first_run b source D c past l ∙ sym (from_zero b);
        begins_where_ended = λ b k l. abut b source D c past k f (starts b) l;
        ends_within = λ b k. omega (arith, ends b source D c past k f (starts b));
        left_from_end = λ b k l. last_ends b source D c past k f (starts b) l;
        in_one_run = λ b j k r i i'. sym (run_operation b j r i) ∙ run_operation b k r i';
        not_passed_over_and_given = apart;
        not_passed_over_and_left = λ b k r i m. omega (arith, ends b source D c past k f (starts b), i, m);
        not_given_and_left = λ b k r i m. omega (arith, ends b source D c past k f (starts b), i, m);
        has_holder = λ b r l. has b r;
        has_no_other = λ b r l h m. no_other b r h m;
        refused_is_empty = λ k a e x b.
            let n = run_counts b source D c past k a e in
            let z = (fair_at source D c past k a f e).refused_is_empty x b in
            (n.0 ∙ z.0, n.1 ∙ z.1);
        refused_keeps_call = λ k a e x. (fair_at source D c past k a f e).refused_keeps_call x;
        same_abi = last.0;
        acceptable = last.1;
        never_above = λ b. omega (arith, totals b source D c past f, whole b);
        marked_where_used = implied _ _ (sound source D _ last.1).1.mark_used;
        stands_behind = λ k a e. (fair_at source D c past k a f e).stands_behind;
        hands_on_end = λ k a e. (fair_at source D c past k a f e).hands_on_end;
        nowhere_stays = λ k a e. (fair_at source D c past k a f e).nowhere_stays;
        refused_is_nowhere = λ k a e. (fair_at source D c past k a f e).refused_is_nowhere;
        below_offset = λ k. below_last source D c past k f;
        below_limit = (sound source D _ last.1).1.stack_within;
        in_order = λ j k. ordered source D c past j k f;
        no_byte_twice = λ j k byte. in_one source D c past j k byte f;
      }

-- ---- the theorem: after every prefix of every list of operations, on every description

pub ledger_by : (source : ℕ) (D : Description) (c : Call) → call_refusal_by source D c ≡ accepted → ((b : Bank) → left_in b c ≡ start_of b D.banks)
    → (ops : List Operation) (n : ℕ) → LedgerBy source D c (take n (answers_by source D c ops))
ledger_by source D c good whole ops n = rw (prefix n source D c ops) (ledger_of_fair source D c good whole _ (all_fair source D c good (take n ops)))

-- ---- the roundings, of any list of operations on any call

pub answer_at : (source : ℕ) (D : Description) (c : Call) (ops : List Operation) (k : ℕ) (op : Operation) → get_elem? ops k ≡ some op
    → (a : Answer) → get_elem? (answers_by source D c ops) k ≡ some a → a ≡ answer_by source D op (call_after c (take k (answers_by source D c ops)))
unfolding answers_by call_after
answer_at source D c [] k op e a x = absurd (let z : ◌≡◌ {A = ℕ} 0 1 = cc in omega arith)
answer_at source D c (o ∷ ops) zero op e a x = let q : o ≡ op = cc in let r : answer_by source D o c ≡ a = cc in sym r ∙ rw q
answer_at source D c (o ∷ ops) (suc k) op e a x = answer_at source D (answer_by source D o c).next ops k op e a x

pub rounded_by : (source : ℕ) (D : Description) (c : Call) (ops : List Operation) → RoundedBy D c ops (answers_by source D c ops)
rounded_by source D c ops =
    record {
      at_multiple = λ k op e a x. rw (answer_at source D c ops k op e a x) (even source D _ op).at_multiple;
      little_padding = λ k op e a x. rw (answer_at source D c ops k op e a x) (even source D _ op).little_padding;
    }

-- ---- a row

-- every register is left on its fresh call, and it passes the checks
module _ (d : ℕ) (known : d < description_count) where
  pub fresh_is : fresh_call d ≡ call_with d (call (described d)) 0
  unfolding fresh_answer
  fresh_is = rw (lt-leb description_count d known, fresh_call)

  pub fresh_accepted : call_refusal_by (row_refusal d) (described d) (fresh_call d) ≡ accepted
  fresh_accepted =
      rw fresh_is
      (sound_accepted (row_refusal d) (described d) (call_with d (call (described d)) 0) (row_there d known)
      (record { integers = omega arith; floats = omega arith; stack_within = omega arith; mark_used = refl }))

  fresh_left : (b : Bank) → left_in b (fresh_call d) ≡ start_of b (described d).banks
  fresh_left integers = rw fresh_is
  fresh_left floats = rw fresh_is

  pub fresh_row : (fresh_call d).abi ≡ d
  fresh_row = rw fresh_is

-- an operation on a call of the row is that of its description, and hands back a call of the row
pub answer_on_row : (d : ℕ) (c : Call) → c.abi ≡ d → (op : Operation) → answer_for op c ≡ answer_by (row_refusal d) (described d) op c
unfolding variadic_answer returns_answer argument_answer variadic_argument_answer
answer_on_row d c e mark = rw (← e)
answer_on_row d c e (return arg words out) = rw (← e)
answer_on_row d c e (argument arg words out) = rw (← e)
answer_on_row d c e (variadic_argument arg words out) = rw (← e)

pub answers_on_row : (d : ℕ) (c : Call) → c.abi ≡ d → call_refusal_by (row_refusal d) (described d) c ≡ accepted → (ops : List Operation)
    → answers_from c ops ≡ answers_by (row_refusal d) (described d) c ops
unfolding answers_from answers_by
answers_on_row d c e good [] = refl
answers_on_row d c e good (op ∷ ops) =
    let f = fair (row_refusal d) (described d) c good op in
    rw (answer_on_row d c e op) (ap (λ (past : List Answer). answer_by (row_refusal d) (described d) op c ∷ past)
    (answers_on_row d (answer_by (row_refusal d) (described d) op c).next (f.same_abi ∙ e) f.acceptable ops))

pub ledger : (d : ℕ) → d < description_count → (ops : List Operation) (n : ℕ) → Ledger d (take n (history d ops))
ledger d known ops n =
    rw (answers_on_row d (fresh_call d) (fresh_row d known) (fresh_accepted d known) ops)
    (ledger_by (row_refusal d) (described d) (fresh_call d) (fresh_accepted d known) (fresh_left d known) ops n)

pub rounded : (d : ℕ) → d < description_count → (ops : List Operation) → Rounded d ops (history d ops)
rounded d known ops =
    rw (answers_on_row d (fresh_call d) (fresh_row d known) (fresh_accepted d known) ops) (rounded_by (row_refusal d) (described d) (fresh_call d) ops)
