-- Operations to lines (REFERENCE 11): what the operation is or how the value travels; the counts left; integers passed over and given; floats
-- passed over and given; then the slots, or the refusal's number; and last the stack offsets before and after. One space between all, and a
-- newline.
use Rattle.std.specs.Prelude.{ℕ, ◌+◌, ◌*◌, ◌/◌, ◌%◌, ◌≡◌, List, [], ◌∷◌, ◌++◌, Bool, ◌&&◌, cond, leb, eqb, length, take}
use Rattle.shape.specs.Words.{put_at}
use Rattle.slots.specs.Words.{slot_size, most_slots}
use Rattle.text.specs.Text.{bytes}
use Rattle.spend.specs.declared.Way as ways
use Rattle.spend.specs.Ways.{way_from}
use Rattle.classify.specs.declared.Outcome.{Outcome}
use Rattle.classify.specs.declared.Answer.{Answer}
use Rattle.sheet_records.specs.declared.known.Act as acts
use Rattle.text.specs.Numbers.{part, most_part}

abbrev pub space : ℕ
space = 32

abbrev pub colon : ℕ
colon = 58

abbrev pub newline : ℕ
newline = 10

unfoldable pub way_text : ways.Way → List ℕ
way_text ways.TheVariants.Ignore = bytes "ignore"
way_text ways.TheVariants.Direct = bytes "direct"
way_text ways.TheVariants.Pieces = bytes "pieces"
way_text ways.TheVariants.Reference = bytes "reference"
way_text ways.TheVariants.Memory = bytes "memory"

-- what the operation is, or the way
unfoldable pub act_text : acts.Act → ways.Way → List ℕ
act_text acts.TheVariants.Fresh way = bytes "fresh"
act_text acts.TheVariants.Mark way = bytes "marked"
act_text acts.TheVariants.Value way = way_text way

abbrev pub refused_text : List ℕ
refused_text = bytes "refused"

unfoldable pub name_text : acts.Act → Outcome → List ℕ
name_text act o = cond (eqb o.refusal 0) (act_text act (way_from o.way)) refused_text

-- two numbers, each behind a space
abbrev pub pair : ℕ → ℕ → List ℕ
pair m n = part space m ++ part space n

-- I and F, integers passed over and given, floats passed over and given
unfoldable pub counts_text : Answer → List ℕ
counts_text a =
    pair a.next.left.integer a.next.left.float
    ++ (pair a.outcome.spent.integers_passed a.outcome.spent.integers_given
    ++ pair a.outcome.spent.floats_passed a.outcome.spent.floats_given)

-- a space before each slot, and a colon between its words
abbrev pub mark_at : ℕ → ℕ
mark_at i = cond (eqb (i % slot_size) 0) space colon

-- the words of slots, of which the first has this index
unfoldable pub slots_text : ℕ → List ℕ → List ℕ
slots_text i [] = []
slots_text i (w ∷ ws) = part (mark_at i) w ++ slots_text (i + 1) ws

unfoldable pub rest_text : Outcome → List ℕ → List ℕ
rest_text o slots =
    cond (eqb o.refusal 0) (slots_text 0 (take (o.slots * slot_size) slots)) (part space o.refusal)

-- of the stack offset of the call that an operation was performed on and of the one that it leaves, the one that is shown first: a fresh call is
-- performed on none, and has its own offset twice
abbrev pub offset_before : acts.Act → ℕ → ℕ → ℕ
offset_before acts.TheVariants.Fresh before after = after
offset_before acts.TheVariants.Mark before after = before
offset_before acts.TheVariants.Value before after = before

unfoldable pub offsets_text : acts.Act → ℕ → Answer → List ℕ
offsets_text act before a = pair (offset_before act before a.next.stack) a.next.stack

abbrev pub end_text : acts.Act → ℕ → Answer → List ℕ
end_text act before a = offsets_text act before a ++ (newline ∷ [])

unfoldable pub line : acts.Act → ℕ → Answer → List ℕ → List ℕ
line act before a slots =
    name_text act a.outcome ++ (counts_text a ++ (rest_text a.outcome slots ++ end_text act before a))

-- ---- a line at a place of a text

-- the letters of the longest name, two numbers behind their marks, the six counts, the words of the most slots, with room for four words a slot,
-- and the offsets with the newline
abbrev pub most_name : ℕ
most_name = 9

abbrev pub most_pair : ℕ
most_pair = 2 * most_part

abbrev pub most_counts : ℕ
most_counts = 3 * most_pair

abbrev pub line_slot : ℕ
line_slot = 4

abbrev pub most_rest : ℕ
most_rest = most_slots * line_slot * most_part

abbrev pub most_end : ℕ
most_end = most_pair + 1

abbrev pub longest : ℕ
longest = most_name + most_counts + most_rest + most_end

-- the longest line has room from `at` on, and the slots are no more than any result needs and stand among the words
abbrev pub printable : Answer → List ℕ → ℕ → ℕ → Bool
printable a slots room at =
    leb (at + longest) room && (leb a.outcome.slots most_slots && leb a.outcome.slots (length slots / slot_size))

-- where the line ends, and the text with it; nothing is written of what isn't printable
unfoldable pub line_end : acts.Act → ℕ → Answer → List ℕ → ℕ → ℕ → ℕ
line_end act before a slots room at = cond (printable a slots room at) (at + length (line act before a slots)) at

unfoldable pub line_out : acts.Act → ℕ → Answer → List ℕ → List ℕ → ℕ → List ℕ
line_out act before a slots out at = cond (printable a slots (length out) at) (put_at out at (line act before a slots)) out

pub record Lined (act : acts.Act) (before : ℕ) (a : Answer) (slots out : List ℕ) (at to : ℕ) (out' : List ℕ) : Type 0 where
  pub ends : to ≡ line_end act before a slots (length out) at
  pub text_left : out' ≡ line_out act before a slots out at
