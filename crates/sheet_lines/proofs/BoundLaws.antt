-- No line is longer than the longest: a name, six counts, the words of the most slots and two offsets of a mark and a number each, and a newline.
use Prim.Native.Nat.{ℕ, ◌+◌, ◌*◌, ◌≤◌}
use mathlib.Core.List.{List, [], ◌∷◌, ◌++◌}
use mathlib.Core.Bool.{Bool, true, false, cond}
use native.Mathlib.Omega.{arith}
use lib.Dec.{eqb}
use lib.ListN.{length, take, length-append, length-take}
use Rattle.slots.specs.Words.{slot_size, most_slots}
use Rattle.spend.specs.declared.Way as ways
use Rattle.spend.specs.Ways.{way_from}
use Rattle.classify.specs.declared.Outcome.{Outcome}
use Rattle.classify.specs.declared.Answer.{Answer}
use Rattle.sheet_records.specs.declared.known.Act as acts
use Rattle.text.specs.Numbers.{part, most_part}
use Rattle.sheet_lines.specs.Printing.{newline, space, way_text, act_text, refused_text, name_text, pair, counts_text, mark_at, slots_text, rest_text, offsets_text, end_text, line, most_name, most_pair, most_counts, most_rest, most_end, longest}
use Rattle.text.proofs.Digits.{part_bound}

either : (b : Bool) (x y : List ℕ) (n : ℕ) → length x ≤ n → length y ≤ n → length (cond b x y) ≤ n
either true x y n h k = h
either false x y n h k = k

joined : (x y : List ℕ) (m n : ℕ) → length x ≤ m → length y ≤ n → length (x ++ y) ≤ m + n
joined x y m n h k = simp length-append (omega arith)

way_bound : (way : ways.Way) → length (way_text way) ≤ most_name
unfolding way_text
way_bound ways.TheVariants.Ignore = omega arith
way_bound ways.TheVariants.Direct = omega arith
way_bound ways.TheVariants.Pieces = omega arith
way_bound ways.TheVariants.Reference = omega arith
way_bound ways.TheVariants.Memory = omega arith

act_bound : (act : acts.Act) (way : ways.Way) → length (act_text act way) ≤ most_name
unfolding act_text
act_bound acts.TheVariants.Fresh way = omega arith
act_bound acts.TheVariants.Mark way = omega arith
act_bound acts.TheVariants.Value way = way_bound way

name_bound : (act : acts.Act) (o : Outcome) → length (name_text act o) ≤ most_name
unfolding name_text
name_bound act o = either (eqb o.refusal 0) (act_text act (way_from o.way)) refused_text most_name (act_bound act (way_from o.way)) (omega arith)

pair_bound : (m n : ℕ) → length (pair m n) ≤ most_pair
pair_bound m n = joined (part space m) (part space n) most_part most_part (part_bound space m) (part_bound space n)

counts_bound : (a : Answer) → length (counts_text a) ≤ most_counts
unfolding counts_text
counts_bound a =
    joined (pair _ _) _ most_pair (most_pair + most_pair) (pair_bound _ _) (joined (pair _ _) (pair _ _) most_pair most_pair (pair_bound _ _) (pair_bound _ _))

slots_bound : (i : ℕ) (ws : List ℕ) → length (slots_text i ws) ≤ length ws * most_part
unfolding slots_text
slots_bound i [] = omega arith
slots_bound i (w ∷ ws) =
    let h = joined (part (mark_at i) w) (slots_text (i + 1) ws) most_part (length ws * most_part) (part_bound (mark_at i) w) (slots_bound (i + 1) ws) in omega arith

rest_bound : (o : Outcome) (slots : List ℕ) → o.slots ≤ most_slots → length (rest_text o slots) ≤ most_rest
unfolding rest_text
rest_bound o slots h =
    let l = length-take (o.slots * slot_size) slots in
    let k = slots_bound 0 (take (o.slots * slot_size) slots) in
    let b : length (slots_text 0 (take (o.slots * slot_size) slots)) ≤ most_rest = omega arith in
    let p = part_bound space o.refusal in
    either (eqb o.refusal 0) (slots_text 0 (take (o.slots * slot_size) slots)) (part space o.refusal) most_rest b (omega arith)

end_bound : (act : acts.Act) (before : ℕ) (a : Answer) → length (end_text act before a) ≤ most_end
unfolding offsets_text
end_bound act before a = joined (pair _ _) (newline ∷ []) most_pair 1 (pair_bound _ _) (omega arith)

pub line_bound : (act : acts.Act) (before : ℕ) (a : Answer) (slots : List ℕ) → a.outcome.slots ≤ most_slots → length (line act before a slots) ≤ longest
unfolding line
line_bound act before a slots h =
    joined (name_text act a.outcome) _ most_name (most_counts + (most_rest + most_end)) (name_bound act a.outcome)
    (joined (counts_text a) _ most_counts (most_rest + most_end) (counts_bound a)
    (joined (rest_text a.outcome slots) (end_text act before a) most_rest most_end (rest_bound a.outcome slots h) (end_bound act before a)))
