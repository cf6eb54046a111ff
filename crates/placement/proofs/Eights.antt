-- On description 0 the stack offset stays in eightbytes, in every history whose aggregates are aligned to 0 or to a power of two. (To 12 is another thing:
-- from 8 on a record of 24 bytes that is aligned so stands at 12, and the next offset is 36.)
use Prim.Native.Nat.{ℕ, zero, suc, ◌+◌, ◌*◌, ◌/◌, ◌%◌, ◌<◌, max}
use mathlib.Core.Path.{◌≡◌, refl, sym, ◌∙◌, ap}
use mathlib.Core.Bool.{Bool, true, false, cond}
use mathlib.Core.List.{List, [], ◌∷◌}
use native.Mathlib.Omega.{arith}
use native.Mathlib.Nat.{div-add-mod', mul_assoc, mul-mod_left}
use lib.Dec.{eqb, ltb}
use Rattle.shape.specs.declared.Arg.{Arg}
use Rattle.shape.specs.declared.Arg.TheVariants.{Void, Scalar, Aggregate}
use Rattle.shape.specs.declared.Piece.{Piece}
use Rattle.shape.specs.Arithmetic.{round_up}
use Rattle.shape.specs.Words.{pieces_of}
use Rattle.describe.specs.declared.Dots.{Dots}
use Rattle.describe.specs.declared.Rule.{Rule}
use Rattle.describe.specs.Description.{terms_of}
use Rattle.describe.specs.Dots.{as_fixed, dots_of}
use Rattle.abis.specs.Abis as abis
use Rattle.abis.specs.Abis.{described}
use Rattle.spend.specs.declared.Spent.{Spent}
use Rattle.spend.specs.declared.Way.{Way}
use Rattle.spend.specs.declared.Way.TheVariants.{Ignore, Direct, Pieces, Reference, Memory}
use Rattle.stack_align.specs.InMemory.{in_memory_by}
use Rattle.stack_place.specs.Stacked.{most_stack, value_rounding, nowhere, without_room, from, behind}
use Rattle.classify.specs.declared.Call.{Call}
use Rattle.classify.specs.declared.Answer.{Answer}
use Rattle.classify.specs.Classify.{variadic}
use Rattle.classify.specs.Stacking.{stacked_of}
use Rattle.classify.specs.Answers as answers
use Rattle.classify.specs.Answers.{Account, or_answer, done, answer_to}
use Rattle.classify.proofs.Accepted.{by_cases}
use Rattle.ledger.specs.Ledger.{Operation, mark, return, argument, variadic_argument, answer_for, answers_from, fresh_call, call_after}
use Rattle.placement.specs.Back.{call_named, UsualAlign, zero_is, one_is, twice, UsualArg, Usual, AllUsual, no_more, and_then}

-- ---- roundings

-- an alignment below eight, or in eightbytes
data Eighth : ℕ → Type 0 where
  is_0 : Eighth 0
  is_1 : Eighth 1
  is_2 : Eighth 2
  is_4 : Eighth 4
  eights : {n : ℕ} → n % 8 ≡ 0 → Eighth n

doubled : (n : ℕ) → n % 8 ≡ 0 → (n + n) % 8 ≡ 0
doubled n e = omega arith

eighth_twice : {n : ℕ} → Eighth n → Eighth (n + n)
eighth_twice is_0 = is_0
eighth_twice is_1 = is_2
eighth_twice is_2 = is_4
eighth_twice is_4 = eights refl
eighth_twice (eights {n = n} e) = eights (doubled n e)

eighth : {n : ℕ} → UsualAlign n → Eighth n
eighth zero_is = is_0
eighth one_is = is_1
eighth (twice u) = eighth_twice (eighth u)

eight_at_least : {n : ℕ} → Eighth n → max n 8 % 8 ≡ 0
eight_at_least is_0 = refl
eight_at_least is_1 = refl
eight_at_least is_2 = refl
eight_at_least is_4 = refl
eight_at_least (eights e) = omega (arith, e)

by_way : (way : Way) (own : ℕ) → own % 8 ≡ 0 → value_rounding way 8 own % 8 ≡ 0
by_way Ignore own e = e
by_way Direct own e = e
by_way Pieces own e = e
by_way Reference own e = refl
by_way Memory own e = e

-- ---- a place

eight_times : (q r : ℕ) → r % 8 ≡ 0 → (q * r) % 8 ≡ 0
eight_times q r e =
    let d : r / 8 * 8 ≡ r = omega (arith, div-add-mod' r 8, e) in
    ap (λ (n : ℕ). (q * n) % 8) (sym d) ∙ ap (λ (n : ℕ). n % 8) (sym (mul_assoc q (r / 8) 8)) ∙ mul-mod_left (q * (r / 8)) 8

behind_eights : (stack n rounding : ℕ) → stack % 8 ≡ 0 → n % 8 ≡ 0 → rounding % 8 ≡ 0 → (behind stack n rounding).next % 8 ≡ 0
unfolding behind round_up
behind_eights stack n rounding es en er = go (eqb n 0) (ltb most_stack (round_up stack rounding + n))
  where
    start : round_up stack rounding % 8 ≡ 0
    start = eight_times _ rounding er

    go : (x y : Bool) → (cond x (nowhere stack) (cond y (without_room stack) (from (round_up stack rounding) n))).next % 8 ≡ 0
    go true y = es
    go false true = es
    go false false = omega (arith, start, en)

-- one of two roundings, neither 0
one_of_two : (x y : ℕ) → x % 8 ≡ 0 → 0 < x → y % 8 ≡ 0 → 0 < y → (b : Bool) → max (cond b x y) 1 % 8 ≡ 0
one_of_two x y ex px ey py true = omega arith
one_of_two x y ex px ey py false = omega arith

some_way : (way : Way) (own : ℕ) → 0 < own → 0 < value_rounding way 8 own
some_way Ignore own p = p
some_way Direct own p = p
some_way Pieces own p = p
some_way Reference own p = omega arith
some_way Memory own p = p

sixteen_or_eight : (b : Bool) → (cond b 16 8 % 8 ≡ 0) × (0 < cond b 16 8)
sixteen_or_eight true = (refl, omega arith)
sixteen_or_eight false = (refl, omega arith)

whole_words : (n : ℕ) → round_up n 8 % 8 ≡ 0
unfolding round_up
whole_words n = omega arith

behind_none : (stack : ℕ) → stack % 8 ≡ 0 → (behind stack (round_up 0 8) 1).next % 8 ≡ 0
unfolding behind round_up
behind_none stack es = es

module _ (rules : List Rule) (returning : Bool) (dots : Dots) (fixed : dots.emptied ≡ false) (stack : ℕ) (es : stack % 8 ≡ 0) where
  stacked_eights : (arg : Arg) → UsualArg arg → (ps : List Piece) (way : Way) (spent : Spent) (slots : ℕ)
      → (stacked_of (terms_of (described 0)) rules returning dots stack arg ps way spent slots).next % 8 ≡ 0
  unfolding abis.descriptions described stacked_of in_memory_by
  stacked_eights Void u ps way spent slots = behind_none stack es
  stacked_eights (Scalar s) u ps way spent slots =
      let own = sixteen_or_eight (eqb s.align 16) in
      rw fixed (behind_eights stack _ _ es (whole_words _) (one_of_two 8 _ refl (omega arith) (by_way way _ own.0) (some_way way _ own.1) returning))
  stacked_eights (Aggregate shape) u ps way spent slots =
      rw fixed
      (behind_eights stack _ _ es (whole_words _)
      (one_of_two 8 _ refl (omega arith) (by_way way (max shape.align 8) (eight_at_least (eighth u))) (some_way way (max shape.align 8) (omega arith)) returning))

-- ---- an operation, and all of a history

record Kept (a : Answer) : Type 0 where
  row : a.next.abi ≡ 0
  eights_are : a.next.stack % 8 ≡ 0

answer_kept : (checks : ℕ) (c : Call) (account : Account) (out : List ℕ) → c.abi ≡ 0 → c.stack % 8 ≡ 0 → account.placed.next % 8 ≡ 0 → Kept (answer_to checks c account out)
answer_kept checks c account out row es ep =
    by_cases checks c account out (λ (a : Answer) (words : List ℕ). Kept a) (λ n e. record { row = row; eights_are = es }) (λ z h s. record { row = row; eights_are = ep })

mark_kept : (n : ℕ) (c next : Call) → c.abi ≡ 0 → c.stack % 8 ≡ 0 → next.abi ≡ 0 → next.stack % 8 ≡ 0 → Kept (or_answer n c (done next))
mark_kept zero c next row es row' en = record { row = row'; eights_are = en }
mark_kept (suc n) c next row es row' en = record { row = row; eights_are = es }

as_fixed_lem : (dots_of (described 0).variadic).emptied ≡ false
unfolding abis.descriptions described
as_fixed_lem = refl

operation_kept : (op : Operation) (c : Call) → c.abi ≡ 0 → c.stack % 8 ≡ 0 → Usual op → Kept (answer_for op c)
unfolding answers.variadic_answer answers.variadic_answer_by answers.returns_answer answers.returns_answer_by answers.returns_account answers.argument_answer answers.argument_answer_by answers.argument_account answers.variadic_argument_answer answers.variadic_argument_answer_by answers.variadic_argument_account
operation_kept mark c row es u =
    mark_kept (answers.call_refusal_by (answers.row_refusal c.abi) (described c.abi) c) c (answers.call_with c.abi (variadic (described c.abi) c.left) c.stack) row es row es
operation_kept (return arg words out) c row es u =
    answer_kept _ c _ out row es (rw row (stacked_eights _ true as_fixed refl c.stack es arg u (pieces_of words) _ _ _))
operation_kept (argument arg words out) c row es u =
    answer_kept _ c _ out row es (rw row (stacked_eights _ false as_fixed refl c.stack es arg u (pieces_of words) _ _ _))
operation_kept (variadic_argument arg words out) c row es u =
    answer_kept _ c _ out row es (rw row (stacked_eights _ false (dots_of (described 0).variadic) as_fixed_lem c.stack es arg u (pieces_of words) _ _ _))

all_kept : (ops : List Operation) (c : Call) → c.abi ≡ 0 → c.stack % 8 ≡ 0 → AllUsual ops → (call_after c (answers_from c ops)).stack % 8 ≡ 0
unfolding answers_from call_after
all_kept [] c row es no_more = es
all_kept (op ∷ ops) c row es (and_then u us) =
    let k = operation_kept op c row es u in
    all_kept ops (answer_for op c).next k.row k.eights_are us

pub named_eights : (ops : List Operation) → AllUsual ops → (call_named ops).stack % 8 ≡ 0
unfolding answers.fresh_answer
named_eights ops us = all_kept ops (fresh_call 0) refl refl us
