-- The loop of `take_records`: what is left of the input from here on completes the records that are taken.
use Prim.Native.Nat.{ℕ, zero, suc, ◌+◌, ◌-◌, ◌*◌, ◌≤◌, ◌<◌}
use mathlib.Core.Path.{◌≡◌, refl, sym, ap, ◌∙◌}
use mathlib.Core.List.{List, ◌∷◌, ◌++◌}
use mathlib.Core.Bool.{true, false}
use native.Mathlib.Omega.{arith}
use borrow.Author.Tests.{leb-true}
use lib.Dec.{leb}
use lib.ListN.{length, take, drop, length-drop, length-append}
use lib.Seq.{drop-drop, take-append_seam, drop-append_seam}
use Rattle.sheet_records.specs.Records.{record_size}
use Rattle.text.specs.Text.{Put}
use Rattle.sheet_lines.specs.Printing.{longest}
use Rattle.text.proofs.Putting.{put_then, put_nothing}
use Rattle.sheet_lines.proofs.PrintingLaws.{Goes, goes_first}
use Rattle.sheet_perform.specs.declared.State.{State}
use Rattle.sheet.specs.declared.Step.{Step}
use Rattle.sheet.specs.Sheet.{Between, between, step_to, text, after_record, step_answer, step_pieces, step_slots, step_out, Stepped, texts, after_all, records_in, whole, taken, taken_of, steps_answer, steps_pieces, steps_slots, steps_out, Taken}
use Rattle.sheet.proofs.BoundLaws.{text_bound}

-- the records that are taken from here on
abbrev taking : Between → List ℕ → ℕ → ℕ → List (List ℕ)
taking b rest room at = records_in (taken (whole rest) b rest room at) rest

pub record Left (b₀ : Between) (input out₀ : List ℕ) (b : Between) (used at : ℕ) (out : List ℕ) : Type 0 where
  pub inside : used ≤ length input
  pub same : length out ≡ length out₀
  pub ends : at ≤ length out
  pub count : taken (whole input) b₀ input (length out₀) 0 * record_size ≡ used + taken (whole (drop used input)) b (drop used input) (length out₀) at * record_size
  pub behind : after_all b₀ (taken_of b₀ input (length out₀)) ≡ after_all b (taking b (drop used input) (length out₀) at)
  pub goes : Goes out₀ 0 (texts b₀ (taken_of b₀ input (length out₀))) out at (texts b (taking b (drop used input) (length out₀) at))

pub left_first : (b₀ : Between) (input out₀ : List ℕ) → Left b₀ input out₀ b₀ 0 0 out₀
left_first b₀ input out₀ =
    record { inside = omega arith; same = refl; ends = omega arith; count = omega arith; behind = refl; goes = goes_first _ _ _ }

-- ---- a turn

-- one record more
module _ (b : Between) (rest : List ℕ) (room at : ℕ) (fits : record_size ≤ length rest) (roomy : leb (at + longest) room ≡ true)
    (b' : Between) (eb : after_record b (take record_size rest) ≡ b') (at' : ℕ) (ea : at + length (text b (take record_size rest)) ≡ at')
    (rest' : List ℕ) (er : drop record_size rest ≡ rest') where
  whole_more : whole rest ≡ suc (whole rest')
  whole_more = let l : length rest' ≡ length rest - record_size = ap length (sym er) ∙ length-drop record_size rest in omega arith

  taken_more : taken (whole rest) b rest room at ≡ suc (taken (whole rest') b' rest' room at')
  unfolding taken
  taken_more = rw (whole_more, roomy, eb, er, ea)

  taking_more : taking b rest room at ≡ take record_size rest ∷ taking b' rest' room at'
  unfolding records_in
  taking_more = rw (taken_more, er)

  after_more : after_all b (taking b rest room at) ≡ after_all b' (taking b' rest' room at')
  unfolding after_all
  after_more =
      ap (after_all b) taking_more ∙ ap (λ (z : Between). after_all z (taking b' rest' room at')) eb

  texts_more : texts b (taking b rest room at) ≡ text b (take record_size rest) ++ texts b' (taking b' rest' room at')
  unfolding texts
  texts_more = rw (taking_more, eb)

-- what a step with room leaves
module _ (s : State) (bs ps slots out : List ℕ) (at : ℕ) (answer : Step) (ps' slots' out' : List ℕ)
    (x : Stepped s bs ps slots out at answer ps' slots' out') (roomy : leb (at + longest) (length out) ≡ true) where
  answered : answer ≡ step_to (after_record (between s ps slots) bs).state (at + length (text (between s ps slots) bs))
  unfolding step_answer
  answered = rw roomy at x.answers

  behind_it : after_record (between s ps slots) bs ≡ between answer.next ps' slots'
  unfolding step_pieces step_slots
  behind_it =
      let p : ps' ≡ (after_record (between s ps slots) bs).pieces = rw roomy at x.pieces_left in
      let q : slots' ≡ (after_record (between s ps slots) bs).slots = rw roomy at x.slots_left in
      rw (answered, p, q)

  ends_at : at + length (text (between s ps slots) bs) ≡ answer.at
  ends_at = rw answered

  put_it : Put out at (text (between s ps slots) bs) answer.at out'
  unfolding step_out
  put_it =
      let h : at + longest ≤ length out = leb-true _ _ roomy in
      let k = text_bound (between s ps slots) bs in
      record { ends = sym ends_at; put = rw roomy at x.text_left; fits = omega arith }

module _ (b₀ : Between) (input out₀ : List ℕ) (s : State) (ps slots : List ℕ) (used at : ℕ) (out : List ℕ)
    (l : Left b₀ input out₀ (between s ps slots) used at out) where
  -- the bytes of the record, and those behind it
  module _ (bs rest' : List ℕ) (cut : drop used input ≡ bs ++ rest') (long : length bs ≡ record_size) where
    first : take record_size (drop used input) ≡ bs
    first = rw (cut, ← long) (take-append_seam bs rest')

    pub behind_record : rest' ≡ drop (used + record_size) input
    behind_record = rw (sym (drop-drop record_size used input), cut, ← long) (sym (drop-append_seam bs rest'))

    pub left_next : leb (at + longest) (length out) ≡ true → (answer : Step) (ps' slots' out' : List ℕ)
        → Stepped s bs ps slots out at answer ps' slots' out' → length out' ≡ length out
        → Left b₀ input out₀ (between answer.next ps' slots') (used + record_size) answer.at out'
    left_next roomy_now answer ps' slots' out' x same_out =
        let b : Between = between s ps slots in
        let rest : List ℕ = drop used input in
        let y : Stepped s (take record_size rest) ps slots out at answer ps' slots' out' = rw first x in
        let len : length rest ≡ length input - used = length-drop used input in
        let fits : record_size ≤ length rest = omega (arith, ap length cut, length-append bs rest', long) in
        let roomy : leb (at + longest) (length out₀) ≡ true = rw l.same at roomy_now in
        let eb = behind_it s (take record_size rest) ps slots out at answer ps' slots' out' y roomy_now in
        let ea = ends_at s (take record_size rest) ps slots out at answer ps' slots' out' y roomy_now in
        let put = put_it s (take record_size rest) ps slots out at answer ps' slots' out' y roomy_now in
        let er = drop-drop record_size used input in
        let inside_was = l.inside in
        let same_was = l.same in
        let count_was = l.count in
        let more = taken_more b rest (length out₀) at fits roomy _ eb _ ea _ er in
        record {
          inside = omega arith;
          same = omega arith;
          ends = omega (arith, put.ends, put.fits);
          count = omega (arith, more);
          behind = l.behind ∙ after_more b rest (length out₀) at fits roomy _ eb _ ea _ er;
          goes =
              record {
                on = λ r q z. l.goes.on r q (rw (texts_more b rest (length out₀) at fits roomy _ eb _ ea _ er) (put_then put z));
              };
        }

-- ---- the end of the loop

-- the input has no whole record any more, or the text no room
pub data Over (rest : List ℕ) (room at : ℕ) : Type 0 where
  short : length rest < record_size → Over rest room at
  full : leb (at + longest) room ≡ false → Over rest room at

none_taken : (n : ℕ) (b : Between) (rest : List ℕ) (room at : ℕ) → n ≡ whole rest → Over rest room at → taken n b rest room at ≡ 0
unfolding taken
none_taken zero b rest room at e t = refl
none_taken (suc n) b rest room at e (short h) = absurd (omega arith)
none_taken (suc n) b rest room at e (full h) = rw h

module _ (s₀ : State) (ps₀ slots₀ input out₀ : List ℕ) (s : State) (ps slots : List ℕ) (used at : ℕ) (out : List ℕ)
    (l : Left (between s₀ ps₀ slots₀) input out₀ (between s ps slots) used at out) where
  pub left_last : Over (drop used input) (length out) at → Taken s₀ input ps₀ slots₀ out₀ (record { next = s; used = used; at = at }) ps slots out
  unfolding steps_answer steps_pieces steps_slots steps_out texts after_all records_in
  left_last over =
      let b : Between = between s ps slots in
      let rest : List ℕ = drop used input in
      let u : Over rest (length out₀) at = rw l.same at over in
      let none_left = none_taken (whole rest) b rest (length out₀) at refl u in
      let behind : after_all (between s₀ ps₀ slots₀) (taken_of (between s₀ ps₀ slots₀) input (length out₀)) ≡ b = rw none_left at l.behind in
      let put : Put out₀ 0 (texts (between s₀ ps₀ slots₀) (taken_of (between s₀ ps₀ slots₀) input (length out₀))) at out =
      l.goes.on at out (rw none_left (put_nothing out at l.ends)) in
      let count : taken (whole input) (between s₀ ps₀ slots₀) input (length out₀) 0 * record_size ≡ used = omega (arith, l.count, none_left) in
      let ends : length (texts (between s₀ ps₀ slots₀) (taken_of (between s₀ ps₀ slots₀) input (length out₀))) ≡ at = omega (arith, put.ends) in
      record { answers = rw (behind, count, ends); pieces_left = sym (ap (λ (z : Between). z.pieces) behind); slots_left = sym (ap (λ (z : Between). z.slots) behind); text_left = put.put }
