-- What a refusal is, of every entry: one of its numbers, every other number 0, and whatever was handed in or lent as it was. A check's numbers are in
-- any list that has them, and each entry looks them up in its own.
use Prim.Native.Nat.{ℕ, zero, suc, ◌/◌, ◌%◌}
use mathlib.Core.Path.{◌≡◌, refl, sym, subst}
use mathlib.Core.List.{List, [], ◌∷◌}
use mathlib.Core.Bool.{Bool, true, false, cond}
use mathlib.Core.Option.{Option}
use mathlib.Core.Option.Option.{none, some}
use mathlib.Core.Logic.{⊎_elim}
use native.Mathlib.Omega.{arith}
use borrow.Author.Tests.{leb-false, ne_eqb}
use lib.Dec.{eqb, leb, ltb}
use lib.ListN.{length}
use Rattle.shape.specs.declared.Arg as args
use Rattle.shape.specs.declared.Piece.{Piece}
use Rattle.shape.specs.declared.Scalar.{Scalar}
use Rattle.shape.specs.declared.Shape.{Shape}
use Rattle.shape.specs.Lists.{any}
use Rattle.shape.specs.Numbers.{quad, accepted, bad_abi, bad_call, bad_list, bad_kind, bad_size, bad_align, no_room, bad_extent, most_size, most_offset, most_align, most_pieces}
use Rattle.shape.specs.Words.{piece_size, scalar_size, pieces_of, scalars_of, put_at}
use Rattle.shape.proofs.Put.{put_short}
use Rattle.checks.specs.Check.{refuse, or_else, unless_refused, scalar_refusal, piece_refusal, pieces_refusal, is_past, extent_refusal, list_refusal, shape_refusal}
use Rattle.slots.specs.Words.{slot_size}
use Rattle.layouts.specs.Answers.{Recorded}
use Rattle.shape.specs.Arithmetic.{round_up}
use Rattle.layouts.specs.Record.{largest_align, furthest_end, refuse_record, record_made, or_record, record_answer}
use Rattle.layouts.specs.Members.{scalars_refusal, members_refusal, placed, pieces_words, or_placed, if_room, pieces_answer, pieces_written}
use Rattle.layouts.proofs.Members.{room_words}
use Rattle.text.specs.Text.{wrote, put_answer, put_written}
use Rattle.describe.specs.declared.Dots.{Dots}
use Rattle.describe.specs.declared.Rule.{Rule}
use Rattle.describe.specs.declared.Terms.{Terms}
use Rattle.describe.specs.Description.{Description, terms_of}
use Rattle.abis.specs.Abis.{described, description_count}
use Rattle.abis.specs.Answers.{question_refusal, asked_yes, asked_format, is_by_reference_answer, returns_by_reference_answer, wide_returns_in_answer, name_answer, name_written}
use Rattle.attributes.specs.Spellings.{spelling_answer, spelling_written}
use Rattle.attributes.specs.Answers.{name_of, attribute_answer, attribute_written}
use Rattle.spend.specs.declared.Spent.{Spent}
use Rattle.spend.specs.declared.Way.{Way}
use Rattle.classify.specs.declared.Call.{Call}
use Rattle.classify.specs.declared.Answer.{Answer}
use Rattle.classify.specs.Stacking.{stacked_of}
use Rattle.classify.specs.Answers.{unmarked, is_bad_call, state_refusal, arg_refusal, checked, call_refusal_by, refusal_by, row_refusal, refusal_of, room_refusal, Account, slots_of, returns_account, argument_account, variadic_argument_account, refused, done, or_answer, or_align, whole_refusal, answer_to, written_to, variadic_answer_by, returns_answer_by, returns_written_by, argument_answer_by, argument_written_by, variadic_argument_answer_by, variadic_argument_written_by, in_memory_answer_by, fresh_answer, variadic_answer, returns_answer, returns_written, argument_answer, argument_written, variadic_argument_answer, variadic_argument_written, in_memory_answer}
use Rattle.classify.proofs.Accepted.{by_cases}
use Rattle.classify.proofs.Stacking.{stacked_stands}
use Rattle.ledger.specs.Ledger.{Operation, mark, return, argument, variadic_argument, buffer_of, answer_for, written_for}
use Rattle.export_questions.specs.Answers.{align_told, count_told, length_told, yes_told, format_told, record_numbers}
use Rattle.export_questions.specs.Descriptions.{no_description, fields_of, description_answer, rule_in, return_rule_answer, argument_rule_answer}
use Rattle.demands.specs.Refusals.{value_refusals, mark_refusals, refusals_of, number_refusals, in_memory_refusals, member_refusals, record_refusals, name_refusals, attribute_refusals, question_refusals, IsRefusal, is_one_of, OneOf, Refused, RefusedTold, RefusedAs, no_record, no_rule}

-- nothing, or one of them
abbrev pub Within : List ℕ → ℕ → Type 0
Within numbers zero = Unit {0}
Within numbers (suc n) = OneOf numbers (suc n)

module _ (numbers : List ℕ) where
  pub refuse_within : (b : Bool) (n rest : ℕ) → Within numbers n → Within numbers rest → Within numbers (refuse b n rest)
  refuse_within true n rest h k = h
  refuse_within false n rest h k = k

  pub else_within : (n rest : ℕ) → Within numbers n → Within numbers rest → Within numbers (or_else n rest)
  else_within zero rest h k = k
  else_within (suc n) rest h k = h

  -- a refusal is one of them
  pub one_of : (n : ℕ) → Within numbers n → IsRefusal n → OneOf numbers n
  one_of zero w h = absurd (h refl)
  one_of (suc n) w h = w

-- ---- the checks: what each answers is in any list that has its numbers

module _ (numbers : List ℕ) where
  module _ (kind : OneOf numbers bad_kind) (size : OneOf numbers bad_size) (align : OneOf numbers bad_align) where
    pub scalar_within : (s : Scalar) → Within numbers (scalar_refusal s)
    unfolding scalar_refusal
    scalar_within s =
        refuse_within numbers (ltb quad s.kind) bad_kind _ kind
        (refuse_within numbers (ltb most_size s.size) bad_size _ size (refuse_within numbers (ltb most_align s.align) bad_align accepted align tt))

    scalars_within : (ss : List Scalar) → Within numbers (scalars_refusal ss)
    unfolding scalars_refusal
    scalars_within [] = tt
    scalars_within (s ∷ ss) = else_within numbers (scalar_refusal s) (scalars_refusal ss) (scalar_within s) (scalars_within ss)

    piece_within : (p : Piece) → Within numbers (piece_refusal p)
    unfolding piece_refusal
    piece_within p =
        refuse_within numbers (ltb quad p.kind) bad_kind _ kind
        (refuse_within numbers (ltb most_size p.size) bad_size _ size
        (refuse_within numbers (ltb most_offset p.offset) bad_size _ size (refuse_within numbers (ltb most_align p.align) bad_align accepted align tt)))

    pieces_within : (ps : List Piece) → Within numbers (pieces_refusal ps)
    unfolding pieces_refusal
    pieces_within [] = tt
    pieces_within (p ∷ ps) = else_within numbers (piece_refusal p) (pieces_refusal ps) (piece_within p) (pieces_within ps)

  list_within : OneOf numbers bad_list → (ws : List ℕ) → Within numbers (list_refusal ws)
  unfolding list_refusal
  list_within list ws =
      refuse_within numbers (ltb 0 (length ws % piece_size)) bad_list _ list
      (refuse_within numbers (ltb most_pieces (length (pieces_of ws))) bad_list accepted list tt)

  extent_within : OneOf numbers bad_extent → (size : ℕ) (ps : List Piece) → Within numbers (extent_refusal size ps)
  unfolding extent_refusal
  extent_within extent size ps = refuse_within numbers (any (is_past size) ps) bad_extent accepted extent tt

  row_within : OneOf numbers bad_abi → (d : ℕ) → Within numbers (row_refusal d)
  unfolding row_refusal
  row_within abi d = refuse_within numbers (leb description_count d) bad_abi accepted abi tt

  state_within : OneOf numbers bad_call → (T : Terms) (c : Call) → Within numbers (state_refusal T c)
  unfolding state_refusal
  state_within call T c = refuse_within numbers (is_bad_call T c) bad_call accepted call tt

  module _ (list : OneOf numbers bad_list) (kind : OneOf numbers bad_kind) (size : OneOf numbers bad_size) (align : OneOf numbers bad_align) where
    members_within : (ws : List ℕ) → Within numbers (members_refusal ws)
    unfolding members_refusal
    members_within ws =
        refuse_within numbers (ltb 0 (length ws % scalar_size)) bad_list _ list
        (refuse_within numbers (ltb most_pieces (length (scalars_of ws))) bad_list _ list (scalars_within kind size align (scalars_of ws)))

    module _ (extent : OneOf numbers bad_extent) where
      shape_within : (shape : Shape) (ws : List ℕ) → Within numbers (shape_refusal shape ws)
      unfolding shape_refusal
      shape_within shape ws =
          else_within numbers (list_refusal ws) _ (list_within list ws)
          (refuse_within numbers (ltb most_offset shape.size) bad_size _ size
          (refuse_within numbers (ltb most_align shape.align) bad_align _ align
          (else_within numbers (pieces_refusal (pieces_of ws)) _ (pieces_within kind size align (pieces_of ws)) (extent_within extent shape.size (pieces_of ws)))))

      arg_within : (arg : args.Arg) (ws : List ℕ) → Within numbers (arg_refusal arg ws)
      unfolding arg_refusal
      arg_within args.TheVariants.Void ws = tt
      arg_within (args.TheVariants.Scalar s) ws = scalar_within kind size align s
      arg_within (args.TheVariants.Aggregate shape) ws = shape_within shape ws

      checks_within : OneOf numbers bad_abi → OneOf numbers bad_call → (c : Call) (arg : args.Arg) (ws : List ℕ) → Within numbers (refusal_of c arg ws)
      unfolding refusal_of refusal_by checked
      checks_within abi call c arg ws =
          else_within numbers (row_refusal c.abi) _ (row_within abi c.abi)
          (else_within numbers (state_refusal (terms_of (described c.abi)) c) (arg_refusal arg ws)
          (state_within call (terms_of (described c.abi)) c) (arg_within arg ws))

-- ---- operations on a call

by_number : (numbers : List ℕ) (n : ℕ) (c : Call) (out : List ℕ) → Within numbers (suc n) → Refused numbers c out (refused c (suc n)) out
by_number numbers n c out h = record { one_of_them = h; same_call = refl; rest_zero = refl; same_words = refl }

-- a place on the stack is refused with NO_ROOM alone
stacked_within : (T : Terms) (rules : List Rule) (returning : Bool) (dots : Dots) (stack : ℕ) (arg : args.Arg) (ps : List Piece) (way : Way) (spent : Spent) (slots : ℕ)
    → Within value_refusals (stacked_of T rules returning dots stack arg ps way spent slots).refusal
unfolding is_one_of
stacked_within T rules returning dots stack arg ps way spent slots =
    ⊎_elim (λ (e : (stacked_of T rules returning dots stack arg ps way spent slots).refusal ≡ accepted). rw e tt)
    (λ (e : (stacked_of T rules returning dots stack arg ps way spent slots).refusal ≡ no_room). rw e refl)
    (stacked_stands T rules returning dots stack arg ps way spent slots).one_refusal

-- every operation on a value
module _ (c : Call) (arg : args.Arg) (words out : List ℕ) where
  whole_within : (account : Account) → Within value_refusals account.placed.refusal → Within value_refusals (whole_refusal (refusal_of c arg words) account out)
  unfolding is_one_of
  whole_within account stack =
      else_within value_refusals (refusal_of c arg words) _ (checks_within value_refusals refl refl refl refl refl refl refl c arg words)
      (else_within value_refusals (room_refusal (length (slots_of account)) out) _
      (refuse_within value_refusals (ltb (length out / slot_size) (length (slots_of account))) no_room accepted refl tt) stack)

  answer_refused : (account : Account) → Within value_refusals account.placed.refusal → IsRefusal (answer_to (refusal_of c arg words) c account out).outcome.refusal
      → Refused value_refusals c out (answer_to (refusal_of c arg words) c account out) (written_to (refusal_of c arg words) account out)
  answer_refused account stack =
      by_cases (refusal_of c arg words) c account out (λ (a : Answer) (after : List ℕ). IsRefusal a.outcome.refusal → Refused value_refusals c out a after)
      (λ n e _. by_number value_refusals n c out (subst (Within value_refusals) e (whole_within account stack)))
      (λ z room s x. absurd (x refl))

  return_refused : IsRefusal (returns_answer c arg words out).outcome.refusal → Refused value_refusals c out (returns_answer c arg words out) (returns_written c arg words out)
  unfolding returns_answer returns_written returns_answer_by returns_written_by returns_account refusal_of
  return_refused = answer_refused _ (stacked_within _ _ _ _ _ arg _ _ _ _)

  argument_refused : IsRefusal (argument_answer c arg words out).outcome.refusal → Refused value_refusals c out (argument_answer c arg words out) (argument_written c arg words out)
  unfolding argument_answer argument_written argument_answer_by argument_written_by argument_account refusal_of
  argument_refused = answer_refused _ (stacked_within _ _ _ _ _ arg _ _ _ _)

  variadic_argument_refused : IsRefusal (variadic_argument_answer c arg words out).outcome.refusal
      → Refused value_refusals c out (variadic_argument_answer c arg words out) (variadic_argument_written c arg words out)
  unfolding variadic_argument_answer variadic_argument_written variadic_argument_answer_by variadic_argument_written_by variadic_argument_account refusal_of
  variadic_argument_refused = answer_refused _ (stacked_within _ _ _ _ _ arg _ _ _ _)

pub call_within : (D : Description) (c : Call) → Within mark_refusals (call_refusal_by (row_refusal c.abi) D c)
unfolding call_refusal_by is_one_of
call_within D c =
    else_within mark_refusals (row_refusal c.abi) _ (row_within mark_refusals refl c.abi) (state_within mark_refusals refl (terms_of D) c)

mark_refused : (c : Call) → IsRefusal (variadic_answer c).outcome.refusal → Refused mark_refusals c [] (variadic_answer c) []
unfolding variadic_answer variadic_answer_by
mark_refused c = go (call_refusal_by (row_refusal c.abi) (described c.abi) c) _ (call_within (described c.abi) c)
  where
    go : (n : ℕ) (next : Call) → Within mark_refusals n → IsRefusal (or_answer n c (done next)).outcome.refusal → Refused mark_refusals c [] (or_answer n c (done next)) []
    go zero next k h = absurd (h refl)
    go (suc n) next k h = by_number mark_refusals n c [] k

pub operation_refused : (op : Operation) (c : Call) → IsRefusal (answer_for op c).outcome.refusal
    → Refused (refusals_of op) c (buffer_of op) (answer_for op c) (written_for op c)
operation_refused mark c = mark_refused c
operation_refused (return arg words out) c = return_refused c arg words out
operation_refused (argument arg words out) c = argument_refused c arg words out
operation_refused (variadic_argument arg words out) c = variadic_argument_refused c arg words out

pub fresh_refused : (d : ℕ) → IsRefusal (fresh_answer d).outcome.refusal → Refused number_refusals (unmarked 0 0 0) [] (fresh_answer d) []
unfolding fresh_answer is_one_of
fresh_refused d = go (leb description_count d) _
  where
    go : (b : Bool) (next : Call) → IsRefusal (cond b (refused (unmarked 0 0 0) bad_abi) (done next)).outcome.refusal
        → Refused number_refusals (unmarked 0 0 0) [] (cond b (refused (unmarked 0 0 0) bad_abi) (done next)) []
    go true next h = record { one_of_them = refl; same_call = refl; rest_zero = refl; same_words = refl }
    go false next h = absurd (h refl)

-- ---- what tells one number

pub in_memory_refused : (c : Call) (shape : Shape) (words : List ℕ) → IsRefusal (in_memory_answer c shape words).refusal
    → RefusedTold in_memory_refusals (align_told (in_memory_answer c shape words)) [] []
unfolding in_memory_answer in_memory_answer_by refusal_of is_one_of
in_memory_refused c shape words =
    go (refusal_of c (args.TheVariants.Aggregate shape) words) _ (checks_within in_memory_refusals refl refl refl refl refl refl refl c (args.TheVariants.Aggregate shape) words)
  where
    go : (n align : ℕ) → Within in_memory_refusals n → IsRefusal (or_align n align).refusal → RefusedTold in_memory_refusals (align_told (or_align n align)) [] []
    go zero align k h = absurd (h refl)
    go (suc n) align k h = record { one_of_them = k; value_zero = refl; same_words = refl }

pub pieces_refused : (members out : List ℕ) → IsRefusal (pieces_answer members out).refusal
    → RefusedTold member_refusals (count_told (pieces_answer members out)) out (pieces_written members out)
unfolding pieces_answer pieces_written is_one_of
pieces_refused ws out =
    go (members_refusal ws) (members_within member_refusals refl refl refl refl ws) (leb (length (scalars_of ws)) (length out / piece_size)) refl
  where
    go : (n : ℕ) → Within member_refusals n → (room : Bool) → leb (length (scalars_of ws)) (length out / piece_size) ≡ room → IsRefusal (or_placed n (if_room room (length (scalars_of ws)))).refusal
        → RefusedTold member_refusals (count_told (or_placed n (if_room room (length (scalars_of ws))))) out (unless_refused n (put_at out 0 (pieces_words (placed 0 (scalars_of ws)))) out)
    go zero k true e h = absurd (h refl)
    go zero k false e h = record {
      one_of_them = refl;
      value_zero = refl;
      same_words =
          sym (put_short out 0 (pieces_words (placed 0 (scalars_of ws))) (omega (arith, room_words 0 (scalars_of ws), leb-false (length (scalars_of ws)) (length out / piece_size) e)));
    }
    go (suc n) k room e h = record { one_of_them = k; value_zero = refl; same_words = refl }

-- a name, where there is one: it is written where it fits
put_refused : (numbers : List ℕ) → OneOf numbers no_room → (name out : List ℕ) → IsRefusal (put_answer name (length out)).refusal
    → RefusedTold numbers (length_told (put_answer name (length out))) out (put_written name out)
unfolding put_answer
put_refused numbers k name out = go (leb (length name) (length out)) refl
  where
    go : (fits : Bool) → leb (length name) (length out) ≡ fits → IsRefusal (cond fits (wrote accepted (length name)) (wrote no_room 0)).refusal
        → RefusedTold numbers (length_told (cond fits (wrote accepted (length name)) (wrote no_room 0))) out (put_written name out)
    go true e h = absurd (h refl)
    go false e h = record { one_of_them = k; value_zero = refl; same_words = sym (put_short out 0 name (omega (arith, leb-false (length name) (length out) e))) }

pub name_refused : (d : ℕ) (out : List ℕ) → IsRefusal (name_answer d (length out)).refusal → RefusedTold name_refusals (length_told (name_answer d (length out))) out (name_written d out)
unfolding name_answer name_written is_one_of
name_refused d out = go (leb description_count d)
  where
    go : (b : Bool) → IsRefusal (cond b (wrote bad_abi 0) (put_answer (described d).name (length out))).refusal
        → RefusedTold name_refusals (length_told (cond b (wrote bad_abi 0) (put_answer (described d).name (length out)))) out (cond b out (put_written (described d).name out))
    go true h = record { one_of_them = refl; value_zero = refl; same_words = refl }
    go false h = put_refused name_refusals refl (described d).name out h

pub attribute_refused : (convention : ℕ) (out : List ℕ) → IsRefusal (attribute_answer convention (length out)).refusal
    → RefusedTold attribute_refusals (length_told (attribute_answer convention (length out))) out (attribute_written convention out)
unfolding spelling_answer spelling_written is_one_of
attribute_refused convention out = go (name_of convention)
  where
    go : (name : Option (List ℕ)) → IsRefusal (spelling_answer name (length out)).refusal → RefusedTold attribute_refusals (length_told (spelling_answer name (length out))) out (spelling_written name out)
    go none h = absurd (h refl)
    go (some name) h = put_refused attribute_refusals refl name out h

-- the three questions: each answers by the refusal of its number and its size
question_within : (d size : ℕ) → Within question_refusals (question_refusal d size)
unfolding question_refusal is_one_of
question_within d size = refuse_within question_refusals (leb description_count d) bad_abi _ refl (refuse_within question_refusals (ltb most_size size) bad_size accepted refl tt)

yes_refused : (n : ℕ) (answer : Bool) → Within question_refusals n → IsRefusal (asked_yes n answer).refusal → RefusedTold question_refusals (yes_told (asked_yes n answer)) [] []
unfolding asked_yes
yes_refused zero answer k h = absurd (h refl)
yes_refused (suc n) answer k h = rw (ne_eqb (suc n) 0 (omega arith)) (record { one_of_them = k; value_zero = refl; same_words = refl })

pub by_reference_refused : (d size : ℕ) → IsRefusal (is_by_reference_answer d size).refusal → RefusedTold question_refusals (yes_told (is_by_reference_answer d size)) [] []
unfolding is_by_reference_answer
by_reference_refused d size = yes_refused (question_refusal d size) _ (question_within d size)

pub returns_by_reference_refused : (d size : ℕ) → IsRefusal (returns_by_reference_answer d size).refusal → RefusedTold question_refusals (yes_told (returns_by_reference_answer d size)) [] []
unfolding returns_by_reference_answer
returns_by_reference_refused d size = yes_refused (question_refusal d size) _ (question_within d size)

pub wide_returns_in_refused : (d size : ℕ) → IsRefusal (wide_returns_in_answer d size).refusal → RefusedTold question_refusals (format_told (wide_returns_in_answer d size)) [] []
unfolding wide_returns_in_answer asked_format
wide_returns_in_refused d size = go (question_refusal d size) _ (question_within d size)
  where
    go : (n format : ℕ) → Within question_refusals n → IsRefusal (asked_format n format).refusal → RefusedTold question_refusals (format_told (asked_format n format)) [] []
    go zero format k h = absurd (h refl)
    go (suc n) format k h = rw (ne_eqb (suc n) 0 (omega arith)) (record { one_of_them = k; value_zero = refl; same_words = refl })

-- ---- what answers several numbers

abbrev RecordSays : Recorded → Type 0
RecordSays a = IsRefusal a.refusal → RefusedAs record_refusals a.refusal (no_record a.refusal) (record_numbers a)

made_so : (b : Bool) (n : ℕ) (rest : Recorded) → OneOf record_refusals n → RecordSays rest → RecordSays (refuse_record b n rest)
made_so true n rest k later h = record { one_of_them = k; rest_zero = refl }
made_so false n rest k later h = later h

made_refused : (ps : List Piece) → RecordSays (record_made ps)
unfolding record_made is_one_of
made_refused [] = λ h. absurd (h refl)
made_refused (p ∷ ps) =
    made_so (eqb (largest_align (p ∷ ps)) 0) bad_align _ refl
    (made_so (ltb most_offset (round_up (furthest_end (p ∷ ps)) (largest_align (p ∷ ps)))) bad_size _ refl (λ h. absurd (h refl)))

pub record_refused : (words : List ℕ) → RecordSays (record_answer words)
unfolding record_answer is_one_of
record_refused words =
    go (or_else (list_refusal words) (pieces_refusal (pieces_of words))) (pieces_of words)
    (else_within record_refusals (list_refusal words) _ (list_within record_refusals refl words) (pieces_within record_refusals refl refl refl (pieces_of words)))
  where
    go : (n : ℕ) (ps : List Piece) → Within record_refusals n → RecordSays (or_record n (record_made ps))
    go zero ps k = made_refused ps
    go (suc n) ps k = λ h. record { one_of_them = k; rest_zero = refl }

pub description_refused : (d : ℕ) → IsRefusal (description_answer d).refusal → RefusedAs number_refusals (description_answer d).refusal no_description (description_answer d)
unfolding description_answer is_one_of
description_refused d = go (leb description_count d)
  where
    go : (b : Bool) → IsRefusal (cond b no_description (fields_of (described d))).refusal
        → RefusedAs number_refusals (cond b no_description (fields_of (described d))).refusal no_description (cond b no_description (fields_of (described d)))
    go true h = record { one_of_them = refl; rest_zero = refl }
    go false h = absurd (h refl)

rule_refused : (b : Bool) (rules : List Rule) (i : ℕ) → IsRefusal (cond b no_rule (rule_in rules i)).refusal
    → RefusedAs number_refusals (cond b no_rule (rule_in rules i)).refusal no_rule (cond b no_rule (rule_in rules i))
unfolding is_one_of
rule_refused true rules i h = record { one_of_them = refl; rest_zero = refl }
rule_refused false rules i h = absurd (h refl)

pub return_rule_refused : (d i : ℕ) → IsRefusal (return_rule_answer d i).refusal → RefusedAs number_refusals (return_rule_answer d i).refusal no_rule (return_rule_answer d i)
unfolding return_rule_answer
return_rule_refused d i = rule_refused (leb description_count d) (described d).returns i

pub argument_rule_refused : (d i : ℕ) → IsRefusal (argument_rule_answer d i).refusal → RefusedAs number_refusals (argument_rule_answer d i).refusal no_rule (argument_rule_answer d i)
unfolding argument_rule_answer
argument_rule_refused d i = rule_refused (leb description_count d) (described d).arguments i
