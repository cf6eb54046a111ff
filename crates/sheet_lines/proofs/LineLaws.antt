-- A line at a place of a text: written whole where it is printable, and otherwise not at all.
use Prim.Native.Nat.{ℕ, ◌+◌, ◌*◌, ◌/◌, ◌≤◌}
use mathlib.Core.Path.{◌≡◌, sym, ◌∙◌}
use mathlib.Core.List.{List}
use mathlib.Core.Bool.{Bool, true, false, ◌&&◌, not}
use native.Mathlib.Omega.{arith}
use borrow.Author.Tests.{le-leb, leb-true, not-true, not-false}
use lib.Dec.{leb}
use lib.ListN.{length}
use Rattle.shape.proofs.Bools.{both_true}
use Rattle.slots.specs.Words.{slot_size, most_slots}
use Rattle.classify.specs.declared.Answer.{Answer}
use Rattle.sheet_records.specs.declared.known.Act.{Act}
use Rattle.text.specs.Text.{Put}
use Rattle.sheet_lines.specs.Printing.{longest, line, line_end, line_out, Lined}
use Rattle.sheet_lines.proofs.BoundLaws.{line_bound}

-- what the tests told
pub room_there : (n at : ℕ) (b : Bool) → b ≡ leb (at + longest) n → not b ≡ false → at + longest ≤ n
room_there n at b eb t = leb-true _ _ (sym eb ∙ not-false b t)

module _ (k n : ℕ) (g : Bool) (eg : g ≡ leb k most_slots && leb k (n / slot_size)) (t : not g ≡ false) where
  tests : (leb k most_slots ≡ true) × (leb k (n / slot_size) ≡ true)
  tests = both_true _ _ (sym eg ∙ not-false g t)

  pub few_enough : k ≤ most_slots
  few_enough = leb-true _ _ tests.0

  pub words_there : k * slot_size ≤ n
  words_there = let h : k ≤ n / slot_size = leb-true _ _ tests.1 in omega arith

module _ (act : Act) (before : ℕ) (a : Answer) (slots out : List ℕ) (at : ℕ) (b : Bool) (eb : b ≡ leb (at + longest) (length out)) where
  pub line_roomless : not b ≡ true → Lined act before a slots out at at out
  unfolding line_end line_out
  line_roomless t = let f : leb (at + longest) (length out) ≡ false = sym eb ∙ not-true b t in record { ends = rw f; text_left = rw f }

  module _ (t : not b ≡ false) (g : Bool) (eg : g ≡ leb a.outcome.slots most_slots && leb a.outcome.slots (length slots / slot_size)) where
    roomy : leb (at + longest) (length out) ≡ true
    roomy = sym eb ∙ not-false b t

    pub line_slotless : not g ≡ true → Lined act before a slots out at at out
    unfolding line_end line_out
    line_slotless u = record { ends = rw (roomy, ← eg, not-true g u); text_left = rw (roomy, ← eg, not-true g u) }

    module _ (u : not g ≡ false) where
      pub line_printed : (r : ℕ) (out' : List ℕ) → Put out at (line act before a slots) r out'
          → Lined act before a slots out at r out'
      unfolding line_end line_out
      line_printed r out' x =
          record { ends = rw (roomy, ← eg, not-false g u) x.ends; text_left = rw (roomy, ← eg, not-false g u) x.put }

-- a line that is printable stands there
pub line_there : (act : Act) (before : ℕ) (a : Answer) (slots out : List ℕ) (at to : ℕ) (out' : List ℕ) → Lined act before a slots out at to out'
    → at + longest ≤ length out → a.outcome.slots ≤ most_slots → a.outcome.slots ≤ length slots / slot_size → Put out at (line act before a slots) to out'
unfolding line_end line_out
line_there act before a slots out at to out' x room few inside =
    let f = le-leb (at + longest) (length out) room in
    let g = le-leb a.outcome.slots most_slots few in
    let h = le-leb a.outcome.slots (length slots / slot_size) inside in
    let k = line_bound act before a slots few in
    record { ends = rw (f, g, h) at x.ends; put = rw (f, g, h) at x.text_left; fits = omega arith }
