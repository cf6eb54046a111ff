-- The line of an operation, part by part.
use Prim.Native.Nat.{ℕ, ◌+◌, ◌*◌, ◌≤◌, ◌<◌}
use mathlib.Core.Path.{◌≡◌}
use mathlib.Core.List.{List, [], ◌∷◌, ◌++◌}
use native.Mathlib.Numerals.{add-one}
use borrow.Author.Tests.{eq-eqb, ne_eqb}
use lib.ListN.{length, take, drop, get_or}
use lib.Seq.{drop-cons, drop-length}
use Rattle.slots.specs.Words.{slot_size}
use Rattle.classify.specs.declared.Outcome.{Outcome}
use Rattle.classify.specs.declared.Answer.{Answer}
use Rattle.sheet_records.specs.declared.known.Act as acts
use Rattle.text.specs.Text.{Put}
use Rattle.text.specs.Numbers.{part}
use Rattle.sheet_lines.specs.Printing.{space, newline, name_text, pair, counts_text, mark_at, slots_text, rest_text, offset_before, offsets_text, end_text, line}
use Rattle.text.proofs.Putting.{put_then, put_nothing}

module _ (o : List ℕ) (at r : ℕ) (p : List ℕ) where
  module _ (out : Outcome) (slots : List ℕ) where
    pub rest_refused : (out.refusal ≡ 0 → ⊥) → Put o at (part space out.refusal) r p → Put o at (rest_text out slots) r p
    unfolding rest_text
    rest_refused h x = rw (ne_eqb _ _ h) x

    pub rest_slots : out.refusal ≡ 0 → Put o at (slots_text 0 (take (out.slots * slot_size) slots)) r p → Put o at (rest_text out slots) r p
    unfolding rest_text
    rest_slots h x = rw (eq-eqb _ _ h) x

pub pair_put : (o : List ℕ) (at m n r : ℕ) (p : List ℕ) (t : ℕ) (q : List ℕ)
    → Put o at (part space m) r p → Put p r (part space n) t q → Put o at (pair m n) t q
pair_put o at m n r p t q x y = put_then x y

pub counts_put : (answer : Answer) (o : List ℕ) (at a : ℕ) (p : List ℕ) (b : ℕ) (q : List ℕ) (c : ℕ) (s : List ℕ)
    → Put o at (pair answer.next.left.integer answer.next.left.float) a p
    → Put p a (pair answer.outcome.spent.integers_passed answer.outcome.spent.integers_given) b q
    → Put q b (pair answer.outcome.spent.floats_passed answer.outcome.spent.floats_given) c s
    → Put o at (counts_text answer) c s
unfolding counts_text
counts_put answer o at a p b q c s x1 x2 x3 = put_then x1 (put_then x2 x3)

module _ (act : acts.Act) (before : ℕ) where
  pub end_put : (answer : Answer) (first : ℕ) → first ≡ offset_before act before answer.next.stack
      → (o : List ℕ) (at a : ℕ) (p : List ℕ) (b : ℕ) (q : List ℕ)
      → Put o at (pair first answer.next.stack) a p → Put p a (newline ∷ []) b q → Put o at (end_text act before answer) b q
  unfolding offsets_text
  end_put answer first e o at a p b q x1 x2 = put_then (rw e at x1) x2

  pub line_put : (answer : Answer) (slots o : List ℕ) (at a : ℕ) (p : List ℕ) (b : ℕ) (q : List ℕ) (c : ℕ) (s : List ℕ) (d : ℕ) (t : List ℕ)
      → (name : List ℕ) → name ≡ name_text act answer.outcome → Put o at name a p → Put p a (counts_text answer) b q → Put q b (rest_text answer.outcome slots) c s
      → Put s c (end_text act before answer) d t → Put o at (line act before answer slots) d t
  unfolding line
  line_put answer slots o at a p b q c s d t name e x1 x2 x3 x4 = put_then (rw e at x1) (put_then x2 (put_then x3 x4))

-- ---- the loop of `put_slots`

-- whatever puts the rest from here on puts the whole
pub record Goes (o : List ℕ) (at : ℕ) (whole : List ℕ) (p : List ℕ) (to : ℕ) (rest : List ℕ) : Type 0 where
  pub on : (r : ℕ) (q : List ℕ) → Put p to rest r q → Put o at whole r q

pub goes_first : (o : List ℕ) (at : ℕ) (whole : List ℕ) → Goes o at whole o at whole
goes_first o at whole = record { on = λ r q x. x }

module _ (slots : List ℕ) (i : ℕ) where
  slot_next : i < length slots → slots_text i (drop i slots) ≡ part (mark_at i) (get_or slots i 0) ++ slots_text (i + 1) (drop (i + 1) slots)
  unfolding slots_text
  slot_next h = rw (add-one, drop-cons slots i 0 h, add-one)

  module _ (o : List ℕ) (at : ℕ) (whole p : List ℕ) (to : ℕ) (g : Goes o at whole p to (slots_text i (drop i slots))) where
    pub goes_next : i < length slots → (m t : ℕ) (q : List ℕ) → m ≡ mark_at i → Put p to (part m (get_or slots i 0)) t q
        → Goes o at whole q t (slots_text (i + 1) (drop (i + 1) slots))
    goes_next h m t q em x = record { on = λ r u y. g.on r u (rw (slot_next h) (put_then (rw em at x) y)) }

-- none are left
pub goes_last : (slots o : List ℕ) (at : ℕ) (whole p : List ℕ) (to i : ℕ) → Goes o at whole p to (slots_text i (drop i slots)) → i ≡ length slots
    → to ≤ length p → Put o at whole to p
unfolding slots_text
goes_last slots o at whole p to i g e fits = g.on to p (rw (e, drop-length slots) (put_nothing p to fits))
