-- A whole call: row 0's answers are the psABI's, one after the other, since each leaves the registers free that the psABI leaves.
use Prim.Native.Nat.{ℕ, ◌≤◌}
use mathlib.Core.Path.{◌≡◌, refl, sym, ap, ap₂, ◌∙◌}
use mathlib.Core.List.{List, [], ◌∷◌, map}
use mathlib.Core.Option.{Option}
use mathlib.Core.Option.Option.{none, some}
use native.Mathlib.Omega.{arith}
use Rattle.shape.specs.declared.Arg.TheVariants.{Aggregate}
use Rattle.abis.specs.Abis.{described, descriptions}
use Rattle.spend.specs.declared.Left.{Left}
use Rattle.spend.specs.Ways.{no_mark}
use Rattle.classify.specs.Pass.{Pass, ignore, direct, pieces, reference, memory}
use Rattle.classify.specs.Classify.{Passed, counts, leaves, argument, returns}
use Rattle.psabi.specs.Psabi.{Free, free, Travels}
use Rattle.psabi.specs.Domain.{Domain}
use Rattle.psabi.specs.Reading.{last_of, standing, results, read_pass, read_in}
use Rattle.psabi.specs.Calls.{Value, All, ended, also, afterwards, psabi_arguments, psabi_call, row_arguments, row_call}
use Rattle.psabi.proofs.Clauses.{above_0}
use Rattle.psabi.proofs.RowZero.{argument_is_psabi, result_is_psabi, Stays, argument_stays, result_stays}

abbrev left_by : Option Travels → Free
left_by none = free [] []
left_by (some t) = afterwards t

after_read : (from before : Free) (p : Pass) (after : Free) (t : Travels) → read_pass from before p after ≡ some t → afterwards t ≡ after
after_read from before ignore after t e = sym (ap left_by e)
after_read from before direct after t e = absurd (let z : ◌≡◌ {A = ℕ} 0 1 = cc in omega arith)
after_read from before (pieces ss) after t e = sym (ap left_by e)
after_read from before reference after t e = sym (ap left_by e)
after_read from before memory after t e = sym (ap left_by e)

unmarked : (left : Left) → left.integers_only ≡ no_mark → left ≡ counts left.integer left.float
unmarked left e = λ j. leaves left.integer left.float (e j)

-- one answer, and the arguments after it
then : (i f : ℕ) (from : Free) (p : Passed) (t : Travels) (vs : List Value) → read_in from (counts i f) p ≡ some t → Stays i f p.left
    → (row_arguments (counts p.left.integer p.left.float) vs ≡ map some (psabi_arguments (standing p.left.integer p.left.float) vs))
    → read_in from (counts i f) p ∷ row_arguments p.left vs ≡ some t ∷ map some (psabi_arguments (afterwards t) vs)
then i f from p t vs e s rest =
    ap₂ ◌∷◌ e
    (ap (λ l. row_arguments l vs) (unmarked p.left s.unmarked)
    ∙ rest
    ∙ sym (ap (λ b. map some (psabi_arguments b vs)) (after_read from (standing i f) p.pass (standing p.left.integer p.left.float) t e)))

arguments_are : (vs : List Value) → All vs → (i f : ℕ) → i ≤ 6 → f ≤ 8 → row_arguments (counts i f) vs ≡ map some (psabi_arguments (standing i f) vs)
unfolding row_arguments psabi_arguments
arguments_are [] ended i f hi hf = refl
arguments_are (v ∷ vs) (also d ds) i f hi hf =
    let s = argument_stays i f v.shape v.pieces (above_0 d) in
    then i f (standing i f) (argument (described 0) (counts i f) (Aggregate v.shape) v.pieces) _ vs
    (argument_is_psabi v.shape v.pieces d i f hi hf) s (arguments_are vs ds _ _ (omega arith) (omega arith))

pub call_is_psabi : (result : Value) (vs : List Value) → Domain result.shape result.pieces → All vs → row_call result vs ≡ map some (psabi_call result vs)
unfolding row_call psabi_call described descriptions last_of
call_is_psabi r vs d ds =
    let s = result_stays 6 8 r.shape r.pieces (above_0 d) in
    then 6 8 results (returns (described 0) (counts 6 8) (Aggregate r.shape) r.pieces) _ vs
    (result_is_psabi r.shape r.pieces d 6 8 (omega arith) (omega arith)) s (arguments_are vs ds _ _ (omega arith) (omega arith))
