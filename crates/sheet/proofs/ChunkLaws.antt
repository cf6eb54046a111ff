-- What Chunks.antt rests on: records of bytes that are cut, and what is taken of an input.
use Prim.Native.Nat.{ℕ, zero, suc, ◌+◌, ◌-◌, ◌*◌, ◌≤◌}
use mathlib.Core.Path.{◌≡◌, refl, sym, ap, ◌∙◌}
use mathlib.Core.List.{List, [], ◌∷◌, ◌++◌, append_assoc}
use mathlib.Core.Bool.{Bool, true, false, cond}
use native.Mathlib.Omega.{arith}
use native.Mathlib.Nat.{suc-add}
use borrow.Author.Tests.{leb-true}
use lib.Dec.{leb}
use lib.ListN.{length, take, drop, length-append, length-drop}
use lib.Seq.{drop-drop, drop_at, take-append-le, drop-append-le, take-append_seam}
use Rattle.shape.specs.Words.{put_at}
use Rattle.shape.proofs.Put.{put_fits}
use Rattle.sheet_records.specs.Records.{record_size}
use Rattle.sheet_lines.specs.Printing.{longest}
use Rattle.sheet.specs.Sheet.{Between, text, after_record, texts, after_all, records_in, whole, taken}
use Rattle.sheet.proofs.BoundLaws.{text_bound}

pub texts_append : (b : Between) (xs ys : List (List ℕ)) → texts b (xs ++ ys) ≡ texts b xs ++ texts (after_all b xs) ys
unfolding texts after_all
texts_append b [] ys = refl
texts_append b (x ∷ xs) ys =
    ap (λ (t : List ℕ). text b x ++ t) (texts_append (after_record b x) xs ys)
    ∙ sym (append_assoc (text b x) (texts (after_record b x) xs) (texts (after_all (after_record b x) xs) ys))

pub after_append : (b : Between) (xs ys : List (List ℕ)) → after_all b (xs ++ ys) ≡ after_all (after_all b xs) ys
unfolding after_all
after_append b [] ys = refl
after_append b (x ∷ xs) ys = after_append (after_record b x) xs ys

-- the first m records of some bytes, and then n of the bytes behind them
pub records_append : (m n : ℕ) (bytes : List ℕ) → records_in (m + n) bytes ≡ records_in m bytes ++ records_in n (drop (m * record_size) bytes)
unfolding records_in
records_append zero n bytes =
    let z : zero + n ≡ n = omega arith in ap (λ (k : ℕ). records_in k bytes) z
records_append (suc m) n bytes =
    let e : record_size + m * record_size ≡ suc m * record_size = omega arith in
    let d : drop (m * record_size) (drop record_size bytes) ≡ drop (suc m * record_size) bytes =
    drop-drop (m * record_size) record_size bytes ∙ ap (λ (k : ℕ). drop k bytes) e in
    rw suc-add (ap (λ (rs : List (List ℕ)). take record_size bytes ∷ rs) (records_append m n (drop record_size bytes) ∙ rw d))

-- the first so many records of some bytes, whatever stands behind
pub records_front : (n : ℕ) (x y : List ℕ) → n * record_size ≤ length x → records_in n (x ++ y) ≡ records_in n x
unfolding records_in
records_front zero x y h = refl
records_front (suc n) x y h =
    let l : length (drop record_size x) ≡ length x - record_size = length-drop record_size x in
    let t : take record_size (x ++ y) ≡ take record_size x = take-append-le record_size x y (omega arith) in
    let d : drop record_size (x ++ y) ≡ drop record_size x ++ y = drop-append-le record_size x y (omega arith) in
    rw (t, d) (ap (λ (rs : List (List ℕ)). take record_size x ∷ rs) (records_front n (drop record_size x) y (omega arith)))

-- whole records, and then any bytes
pub records_join : (m : ℕ) (x y : List ℕ) → length x ≡ m * record_size
    → records_in (whole (x ++ y)) (x ++ y) ≡ records_in (whole x) x ++ records_in (whole y) y
records_join m x y e =
    let l : length (x ++ y) ≡ length x + length y = length-append x y in
    let w : whole (x ++ y) ≡ m + whole y = omega arith in
    let v : whole x ≡ m = omega arith in
    let d : drop (m * record_size) (x ++ y) ≡ y = drop_at x y (m * record_size) e in
    rw (w, v) (records_append m (whole y) (x ++ y) ∙ rw (d, records_front m x y (omega arith)))

-- ---- what is taken

pub taken_most : (n : ℕ) (b : Between) (bytes : List ℕ) (room at : ℕ) → taken n b bytes room at ≤ n
unfolding taken
taken_most zero b bytes room at = omega arith
taken_most (suc n) b bytes room at =
    by_room (leb (at + longest) room) _ n (taken_most n (after_record b (take record_size bytes)) (drop record_size bytes) room (at + length (text b (take record_size bytes))))
  where
    by_room : (g : Bool) (k n : ℕ) → k ≤ n → cond g (suc k) 0 ≤ suc n
    by_room true k n h = omega arith
    by_room false k n h = omega arith

-- the text of what is taken fits: of one record, and of those behind it
fits_by : (b : Between) (bytes : List ℕ) (room at k : ℕ) → at ≤ room → (g : Bool) → leb (at + longest) room ≡ g
    → (at + length (text b (take record_size bytes)) ≤ room
    → at + length (text b (take record_size bytes)) + length (texts (after_record b (take record_size bytes)) (records_in k (drop record_size bytes))) ≤ room)
    → at + length (texts b (records_in (cond g (suc k) 0) bytes)) ≤ room
unfolding records_in texts
fits_by b bytes room at k h false e i = omega arith
fits_by b bytes room at k h true e i =
    let r : at + longest ≤ room = leb-true _ _ e in
    let l = text_bound b (take record_size bytes) in
    let j = i (omega arith) in
    simp length-append (omega arith)

pub taken_fits : (n : ℕ) (b : Between) (bytes : List ℕ) (room at : ℕ) → at ≤ room
    → at + length (texts b (records_in (taken n b bytes room at) bytes)) ≤ room
unfolding taken texts records_in
taken_fits zero b bytes room at h = omega arith
taken_fits (suc n) b bytes room at h =
    fits_by b bytes room at _ h (leb (at + longest) room) refl
    (taken_fits n (after_record b (take record_size bytes)) (drop record_size bytes) room (at + length (text b (take record_size bytes))))

-- a text at the front of a buffer is read back
pub read_back : (o t : List ℕ) → length t ≤ length o → take (length t) (put_at o 0 t) ≡ t
read_back o t h = ap (take (length t)) (put_fits o 0 t (omega arith)) ∙ take-append_seam t (drop (0 + length t) o)
