-- The law of chunks: reading a sheet in any chunks of whole records gives the same lines as reading it whole, and leaves the same state and
-- the same buffers. Said of `take_records`, `take_record` and `finish` by their own promises (Taken, Stepped, Finished).
use Prim.Native.Nat.{ℕ, ◌+◌, ◌*◌, ◌≤◌, ◌<◌}
use mathlib.Core.Path.{◌≡◌, refl, sym, ap, ◌∙◌}
use mathlib.Core.List.{List, [], ◌∷◌, ◌++◌}
use mathlib.Core.Bool.{Bool, true, false, cond}
use native.Mathlib.Omega.{arith}
use borrow.Author.Tests.{le-leb}
use lib.Dec.{leb}
use lib.ListN.{length, take, drop, length-append, take-append-drop}
use lib.Seq.{length-take-le, drop_at}
use Rattle.shape.specs.Words.{put_at}
use Rattle.sheet_records.specs.Records.{record_size}
use Rattle.sheet_lines.specs.Printing.{longest}
use Rattle.sheet.specs.declared.Step.{Step}
use Rattle.sheet.specs.declared.Steps.{Steps}
use Rattle.sheet.specs.Sheet.{Between, between, begin, step_to, stop_text, ended, finish_state, text, after_record, texts, after_all, records_in, whole, taken, step_answer, step_out, Stepped, finish_text, finish_answer, finish_out, Finished, steps_answer, steps_pieces, steps_slots, steps_out, Taken, end_text, sheet_text}
use Rattle.sheet.proofs.BoundLaws.{text_bound}
use Rattle.sheet.proofs.ChunkLaws.{texts_append, after_append, records_front, records_join, taken_most, taken_fits, read_back}

-- the whole records of some bytes
abbrev pub records : List ℕ → List (List ℕ)
records bytes = records_in (whole bytes) bytes

-- ---- one edge

-- The lines of x ++ y, x being whole records, are those of x and then those of y from what x left: the state, the words of the pieces and
-- those of the slots. And y leaves then what x ++ y leaves.
module _ (b : Between) (m : ℕ) (x y : List ℕ) (e : length x ≡ m * record_size) where
  pub edge_lines : texts b (records (x ++ y)) ≡ texts b (records x) ++ texts (after_all b (records x)) (records y)
  edge_lines = ap (texts b) (records_join m x y e) ∙ texts_append b (records x) (records y)

  pub edge_leaves : after_all b (records (x ++ y)) ≡ after_all (after_all b (records x)) (records y)
  edge_leaves = ap (after_all b) (records_join m x y e) ∙ after_append b (records x) (records y)

-- ---- any chunks

-- one call of `take_records`: the bytes lent to it and the text as it was, its answer, and the buffers that it left
pub record Turn : Type 0 where
  pub lent : List ℕ
  pub room : List ℕ
  pub answer : Steps
  pub pieces : List ℕ
  pub slots : List ℕ
  pub out : List ℕ

-- it kept the promise of `take_records`, called on what stood between two records
abbrev pub Kept : Between → Turn → Type 0
Kept b t = Taken b.state t.lent b.pieces b.slots t.room t.answer t.pieces t.slots t.out

-- what it left, its chunk (the bytes that it used) and its lines
abbrev pub left : Turn → Between
left t = between t.answer.next t.pieces t.slots

abbrev pub chunk : Turn → List ℕ
chunk t = take t.answer.used t.lent

abbrev pub lines : Turn → List ℕ
lines t = take t.answer.at t.out

-- calls one after the other, each on what the one before left
unfoldable pub AllKept : Between → List Turn → Type 0
AllKept b [] = Unit {0}
AllKept b (t ∷ ts) = Kept b t × AllKept (left t) ts

unfoldable pub left_by : Between → List Turn → Between
left_by b [] = b
left_by b (t ∷ ts) = left_by (left t) ts

unfoldable pub bytes_of : List Turn → List ℕ
bytes_of [] = []
bytes_of (t ∷ ts) = chunk t ++ bytes_of ts

unfoldable pub lines_of : List Turn → List ℕ
lines_of [] = []
lines_of (t ∷ ts) = lines t ++ lines_of ts

-- one call
abbrev count : Between → Turn → ℕ
count b t = taken (whole t.lent) b t.lent (length t.room) 0

module _ (b : Between) (t : Turn) (x : Kept b t) where
  used_is : t.answer.used ≡ count b t * record_size
  unfolding steps_answer
  used_is = ap (λ (r : Steps). r.used) x.answers

  inside : count b t * record_size ≤ length t.lent
  inside = let h = taken_most (whole t.lent) b t.lent (length t.room) 0 in omega arith

  chunk_length : length (chunk t) ≡ count b t * record_size
  chunk_length = ap (λ (k : ℕ). length (take k t.lent)) used_is ∙ length-take-le (count b t * record_size) t.lent inside

  chunk_records : records (chunk t) ≡ records_in (count b t) t.lent
  chunk_records =
      let l = chunk_length in
      let w : whole (chunk t) ≡ count b t = omega arith in
      let s : chunk t ++ drop t.answer.used t.lent ≡ t.lent = take-append-drop t.answer.used t.lent in
      ap (λ (n : ℕ). records_in n (chunk t)) w
      ∙ sym (records_front (count b t) (chunk t) (drop t.answer.used t.lent) (omega arith))
      ∙ ap (records_in (count b t)) s

  left_is : left t ≡ after_all b (records (chunk t))
  unfolding steps_answer steps_pieces steps_slots
  left_is =
      let p : t.answer.next ≡ (after_all b (records_in (count b t) t.lent)).state = ap (λ (r : Steps). r.next) x.answers in
      rw chunk_records (rw (p, x.pieces_left, x.slots_left))

  lines_are : lines t ≡ texts b (records (chunk t))
  unfolding steps_answer steps_out
  lines_are =
      let h = taken_fits (whole t.lent) b t.lent (length t.room) 0 (omega arith) in
      let p : t.answer.at ≡ length (texts b (records_in (count b t) t.lent)) = ap (λ (r : Steps). r.at) x.answers in
      rw chunk_records (rw (p, x.text_left) (read_back t.room (texts b (records_in (count b t) t.lent)) (omega arith)))

-- calls one after the other write the lines of their bytes and leave what these leave
pub turns_write : (b : Between) (ts : List Turn) → AllKept b ts → lines_of ts ≡ texts b (records (bytes_of ts))
unfolding AllKept bytes_of lines_of texts records_in
turns_write b [] x = refl
turns_write b (t ∷ ts) x =
    rw (lines_are b t x.0, turns_write (left t) ts x.1, edge_lines b (count b t) (chunk t) (bytes_of ts) (chunk_length b t x.0), left_is b t x.0)

pub turns_leave : (b : Between) (ts : List Turn) → AllKept b ts → left_by b ts ≡ after_all b (records (bytes_of ts))
unfolding AllKept bytes_of left_by after_all records_in
turns_leave b [] x = refl
turns_leave b (t ∷ ts) x =
    turns_leave (left t) ts x.1
    ∙ ap (λ (z : Between). after_all z (records (bytes_of ts))) (left_is b t x.0)
    ∙ sym (edge_leaves b (count b t) (chunk t) (bytes_of ts) (chunk_length b t x.0))

-- The law: the same bytes in any chunks, in one or in many, have the same lines and leave the same state and the same words.
module _ (b : Between) (ts us : List Turn) (x : AllKept b ts) (y : AllKept b us) (same : bytes_of ts ≡ bytes_of us) where
  pub same_lines : lines_of ts ≡ lines_of us
  same_lines = turns_write b ts x ∙ ap (λ (z : List ℕ). texts b (records z)) same ∙ sym (turns_write b us y)

  pub same_left : left_by b ts ≡ left_by b us
  same_left = turns_leave b ts x ∙ ap (λ (z : List ℕ). after_all b (records z)) same ∙ sym (turns_leave b us y)

-- ---- from start to finish

-- the call that ends a sheet, with room for a line: `finish` where no byte is left, and otherwise `take_record` on the bytes that are, a short record
pub record Last : Type 0 where
  pub room : List ℕ
  pub answer : Step
  pub pieces : List ℕ
  pub slots : List ℕ
  pub out : List ℕ

abbrev pub last_line : Last → List ℕ
last_line l = take l.answer.at l.out

unfoldable pub Ends : Between → List ℕ → Last → Type 0
Ends b [] l = Finished b.state l.room 0 l.answer l.out
Ends b (x ∷ xs) l = Stepped b.state (x ∷ xs) b.pieces b.slots l.room 0 l.answer l.pieces l.slots l.out

-- the end, and a short record, each with room for its line
read_it : (o t o' : List ℕ) (at : ℕ) → length t ≤ length o → at ≡ 0 + length t → o' ≡ put_at o 0 t → take at o' ≡ t
read_it o t o' at h e p =
    let z : at ≡ length t = omega arith in rw (z, p) (read_back o t h)

finish_bound : (ended : Bool) → length (cond ended [] stop_text) ≤ longest
finish_bound true = omega arith
finish_bound false = omega arith

last_line_lem : (b : Between) (rest : List ℕ) (l : Last) → longest ≤ length l.room → Ends b rest l → last_line l ≡ end_text b rest
unfolding Ends end_text step_answer step_out finish_answer finish_out
last_line_lem b [] l h x =
    let g : leb (0 + longest) (length l.room) ≡ true = le-leb (0 + longest) (length l.room) (omega arith) in
    let k = finish_bound (ended b.state) in
    let a : l.answer ≡ step_to (finish_state b.state) (0 + length (finish_text b.state)) = rw g at x.answers in
    let t : l.out ≡ put_at l.room 0 (finish_text b.state) = rw g at x.text_left in
    read_it l.room (finish_text b.state) l.out l.answer.at (omega arith) (ap (λ (r : Step). r.at) a) t
last_line_lem b (r ∷ rs) l h x =
    let g : leb (0 + longest) (length l.room) ≡ true = le-leb (0 + longest) (length l.room) (omega arith) in
    let k = text_bound b (r ∷ rs) in
    let a : l.answer ≡ step_to (after_record b (r ∷ rs)).state (0 + length (text b (r ∷ rs))) = rw g at x.answers in
    let t : l.out ≡ put_at l.room 0 (text b (r ∷ rs)) = rw g at x.text_left in
    read_it l.room (text b (r ∷ rs)) l.out l.answer.at (omega arith) (ap (λ (r : Step). r.at) a) t

-- calls use whole records
unfoldable counts : Between → List Turn → ℕ
counts b [] = 0
counts b (t ∷ ts) = count b t + counts (left t) ts

bytes_length : (b : Between) (ts : List Turn) → AllKept b ts → length (bytes_of ts) ≡ counts b ts * record_size
unfolding AllKept bytes_of counts
bytes_length b [] x = refl
bytes_length b (t ∷ ts) x =
    let l = chunk_length b t x.0 in
    let r = bytes_length (left t) ts x.1 in
    let s = length-append (chunk t) (bytes_of ts) in
    omega arith

-- Any chunks, and then the bytes that are left: together the lines of the sheet.
pub whole_sheet : (ts : List Turn) → AllKept begin ts → (rest : List ℕ) → length rest < record_size
    → (l : Last) → longest ≤ length l.room → Ends (left_by begin ts) rest l
    → lines_of ts ++ last_line l ≡ sheet_text (bytes_of ts ++ rest)
unfolding sheet_text
whole_sheet ts x rest short l h y =
    let n = bytes_length begin ts x in
    let s = length-append (bytes_of ts) rest in
    let w : whole (bytes_of ts ++ rest) ≡ counts begin ts = omega arith in
    let v : whole (bytes_of ts) ≡ counts begin ts = omega arith in
    let f : records_in (counts begin ts) (bytes_of ts ++ rest) ≡ records (bytes_of ts) =
    records_front (counts begin ts) (bytes_of ts) rest (omega arith) ∙ ap (λ (k : ℕ). records_in k (bytes_of ts)) (sym v) in
    let d : drop (counts begin ts * record_size) (bytes_of ts ++ rest) ≡ rest = drop_at (bytes_of ts) rest _ n in
    rw (w, f, d, turns_write begin ts x, last_line_lem (left_by begin ts) rest l h y, turns_leave begin ts x)
