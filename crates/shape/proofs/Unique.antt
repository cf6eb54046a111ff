-- No second answer, and no other words in a lent buffer, meet the promise of a public function.
use Prim.Native.Nat.{ℕ}
use mathlib.Core.Path.{◌≡◌, refl, sym, ap, ◌∙◌}
use mathlib.Core.List.{List, [], ◌∷◌, map}
use native.Mathlib.Omega.{arith}
use contract.Lifetimes.{Lfts}
use denote.Param.{number, value_of}
use denote.Param.Laws.{Laws}
use denote.RattleType.{RattleType}
use lib.ListN.{length, drop}
use mir.Syntax.{Dict, w64}
use mir.Val.{Fits}
use Rattle.std.specs.Prelude.{Option, None, Some}
use Rattle.std.specs.Iterator.{YieldsFirst}
use Rattle.shape.specs.declared.Record as Record
use Rattle.shape.specs.declared.Records.{Records}
use Rattle.shape.specs.Words.{pieces_left, scalars_left}
use Rattle.shape.proofs.OneAnswer.{OneAnswer, OneExit, OneShown}
use Rattle.shape.proofs.is_all_of.Reads as is_all_of
use Rattle.shape.proofs.each_piece.Reads as each_piece
use Rattle.shape.proofs.each_scalar.Reads as each_scalar
use Rattle.shape.proofs.PieceRecordPIECE.from_words.Reads as piece_from_words
use Rattle.shape.proofs.ScalarRecordSCALAR.from_words.Reads as scalar_from_words
use Rattle.shape.proofs.RecordsIterator.next.Reads as next
use Rattle.shape.proofs.piece_at.Reads as piece_at
use Rattle.shape.proofs.put_piece.Reads as put_piece
use Rattle.shape.proofs.scalar_at.Reads as scalar_at
use Rattle.shape.proofs.Scalar.integer.Reads as scalar_integer
use Rattle.shape.proofs.Scalar.float.Reads as scalar_float
use Rattle.shape.proofs.Scalar.is_float.Reads as scalar_is_float
use Rattle.shape.proofs.Scalar.at.Reads as scalar_as_piece
use Rattle.shape.proofs.Piece.is_float.Reads as piece_is_float
use Rattle.shape.proofs.Piece.end.Reads as piece_end
use Rattle.shape.proofs.round_up.Reads as round_up
use Rattle.shape.proofs.refusals.Refusal.number.Reads as refusal_number

is_all_of_decides : (κs : Lfts 1) → OneAnswer (is_all_of.Post κs)
is_all_of_decides κs a r q s t p p' = p ∙ sym p'

each_piece_decides : (κs : Lfts 1) → OneShown (each_piece.Post κs) pieces_left
each_piece_decides κs a r q s t p p' = p ∙ sym p'

each_scalar_decides : (κs : Lfts 1) → OneShown (each_scalar.Post κs) scalars_left
each_scalar_decides κs a r q s t p p' = p ∙ sym p'

piece_from_words_decides : (κs : Lfts 0) → OneAnswer (piece_from_words.Post κs)
piece_from_words_decides κs a r q s t p p' = p ∙ sym p'

scalar_from_words_decides : (κs : Lfts 0) → OneAnswer (scalar_from_words.Post κs)
scalar_from_words_decides κs a r q s t p p' = p ∙ sym p'

piece_at_decides : (κs : Lfts 1) → OneAnswer (piece_at.Post κs)
piece_at_decides κs a r q s t p p' = p ∙ sym p'

put_piece_decides : (κs : Lfts 1) → OneAnswer (put_piece.Post κs)
put_piece_decides κs a r q s t p p' = p.0 ∙ sym p'.0

put_piece_words : (κs : Lfts 1) → OneExit (put_piece.Post κs) (λ s. s.0.now)
put_piece_words κs a r q s t p p' = p.1 ∙ sym p'.1

scalar_at_decides : (κs : Lfts 1) → OneAnswer (scalar_at.Post κs)
scalar_at_decides κs a r q s t p p' = p ∙ sym p'

scalar_integer_decides : (κs : Lfts 0) → OneAnswer (scalar_integer.Post κs)
scalar_integer_decides κs a r q s t p p' = p ∙ sym p'

scalar_float_decides : (κs : Lfts 0) → OneAnswer (scalar_float.Post κs)
scalar_float_decides κs a r q s t p p' = p ∙ sym p'

scalar_is_float_decides : (κs : Lfts 0) → OneAnswer (scalar_is_float.Post κs)
scalar_is_float_decides κs a r q s t p p' = p ∙ sym p'

scalar_as_piece_decides : (κs : Lfts 0) → OneAnswer (scalar_as_piece.Post κs)
scalar_as_piece_decides κs a r q s t p p' = p ∙ sym p'

piece_is_float_decides : (κs : Lfts 0) → OneAnswer (piece_is_float.Post κs)
piece_is_float_decides κs a r q s t p p' = p ∙ sym p'

piece_end_decides : (κs : Lfts 0) → OneAnswer (piece_end.Post κs)
piece_end_decides κs a r q s t p p' = p ∙ sym p'

round_up_decides : (κs : Lfts 0) → OneAnswer (round_up.Post κs)
round_up_decides κs a r q s t p p' = p ∙ sym p'

refusal_number_decides : (κs : Lfts 0) → OneAnswer (refusal_number.Post κs)
refusal_number_decides κs a r q s t p p' = p ∙ sym p'

-- an iterator that shows what it has left gives the first of it, and leaves the others
abbrev head_or : {A : Type 0} → A → List A → A
head_or d [] = d
head_or d (x ∷ xs) = x

abbrev rest_of : {A : Type 0} → List A → List A
rest_of [] = []
rest_of (x ∷ xs) = xs

module _ {S A : Type 0} (rest : S → List A) (s t u : S) where
  gives_one : (r q : Option A) → YieldsFirst rest s r t → YieldsFirst rest s q u → r ≡ q
  gives_one None None h k = refl
  gives_one None (Some y) h k = absurd (omega (arith, ap length (sym h.0 ∙ k)))
  gives_one (Some x) None h k = absurd (omega (arith, ap length (sym k.0 ∙ h)))
  gives_one (Some x) (Some y) h k = ap Some (ap (head_or x) (sym h ∙ k))

  leaves_one : (r q : Option A) → YieldsFirst rest s r t → YieldsFirst rest s q u → rest t ≡ rest u
  leaves_one None None h k = h.1 ∙ sym k.1
  leaves_one None (Some y) h k = absurd (omega (arith, ap length (sym h.0 ∙ k)))
  leaves_one (Some x) None h k = absurd (omega (arith, ap length (sym k.0 ∙ h)))
  leaves_one (Some x) (Some y) h k = ap rest_of (sym h ∙ k)

module _ (T : RattleType) (N : ℕ) (laws : Laws T) (fits : Fits w64 N) (reads : Record.Ghosts T.Denot (value_of (number N))) (its_reads : Dict) where
  abbrev left : Records T.Denot N → List T.Denot
  left s = map reads.of (drop s.at s.all.now)

  next_decides : (κs : Lfts 4) → OneAnswer (next.Post T N laws fits reads its_reads κs)
  next_decides κs a r q s t p p' = gives_one left a.0.now s.0.now t.0.now r q p.0 p'.0

  next_leaves : (κs : Lfts 4) → OneExit (next.Post T N laws fits reads its_reads κs) (λ s. left s.0.now)
  next_leaves κs a r q s t p p' = leaves_one left a.0.now s.0.now t.0.now r q p.0 p'.0
