-- A copy byte by byte to a place of a buffer, and what it has done at its end.
use Prim.Native.Nat.{ℕ, ◌+◌, ◌-◌, ◌≤◌, ◌<◌}
use mathlib.Core.Path.{◌≡◌, refl, ap, sym, ◌∙◌}
use mathlib.Core.List.{List}
use native.Mathlib.Omega.{arith}
use native.Mathlib.Numerals.{add-one}
use borrow.Author.Tests.{le-leb, lt-leb}
use lib.ListN.{length, set, get_or}
use lib.Seq.{take-length, paste, paste-suc}
use Rattle.std.specs.Prelude.{Result, Ok, Err}
use Rattle.shape.specs.Numbers.{accepted, no_room}
use Rattle.shape.specs.Words.{put_at}
use Rattle.shape.specs.declared.refusals.Refusal.{Refusal}
use Rattle.shape.specs.Refusals.{refusal_of}
use Rattle.shape.proofs.Refused.{answer_decides}
use Rattle.shape.proofs.Put.{put_fits, put_short}
use Rattle.text.specs.Text.{Written, told, wrote, put_answer, put_written, append_end}

module _ (out₀ : List ℕ) (at : ℕ) (bs : List ℕ) where
  pub left_out : length out₀ < at + length bs → (at ≡ append_end (length out₀) at bs) × (out₀ ≡ put_at out₀ at bs)
  unfolding append_end
  left_out h = (rw (lt-leb _ _ h), put_short out₀ at bs h)

  module _ (p : at ≤ length out₀) (room : length bs ≤ length out₀ - at) where
    pub copy_next : (i : ℕ) (out : List ℕ) → i < length bs → out ≡ paste out₀ at bs i → set out (at + i) (get_or bs i 0) ≡ paste out₀ at bs (i + 1)
    copy_next i out h e = rw (e, add-one) (paste-suc out₀ at bs i 0 (omega arith) (omega arith))

    pub copy_end : at + length bs ≡ append_end (length out₀) at bs
    unfolding append_end
    copy_end = rw (le-leb (at + length bs) (length out₀) (omega arith))

    pub copy_done : (i : ℕ) (out : List ℕ) → length bs ≤ i → i ≤ length bs → out ≡ paste out₀ at bs i → out ≡ put_at out₀ at bs
    copy_done i out q r e =
        let n : i ≡ length bs = omega arith in
        e ∙ rw (n, take-length) (sym (put_fits out₀ at bs (omega arith)))

module _ (name out₀ : List ℕ) where
  pub refused : length out₀ < length name → (wrote no_room 0 ≡ put_answer name (length out₀)) × (out₀ ≡ put_written name out₀)
  unfolding put_answer
  refused h = (rw (lt-leb _ _ h), put_short out₀ 0 name (omega arith))

  pub put_answer_lem : (n : ℕ) → length name ≤ length out₀ → n ≡ append_end (length out₀) 0 name → wrote accepted n ≡ put_answer name (length out₀)
  unfolding put_answer append_end
  put_answer_lem n room e =
      let f : n ≡ length name = e ∙ sym (copy_end out₀ 0 name (omega arith) (omega arith)) ∙ omega arith in
      rw (f, le-leb (length name) (length out₀) room)

-- what the answer tells decides it
told_refusal : (a : Result ℕ Refusal) → (told a).refusal ≡ refusal_of a
told_refusal (Ok n) = refl
told_refusal (Err r) = refl

pub told_decides : (a b : Result ℕ Refusal) → told a ≡ told b → a ≡ b
told_decides a b e =
    answer_decides a b (sym (told_refusal a) ∙ ap (λ (w : Written). w.refusal) e ∙ told_refusal b) (λ x y p q. ap (λ (w : Written). w.length) (rw (p, q) at e))
