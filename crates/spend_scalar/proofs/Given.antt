-- No scalar travels as Memory, so that what is said of such a value holds of every scalar (REFERENCE 9.2, 9.4).
use Prim.Native.Nat.{ℕ, ◌-◌}
use mathlib.Core.Bool.{◌&&◌, ◌||◌, not}
use lib.Dec.{eqb, leb, ltb}
use Rattle.shape.specs.declared.Scalar.{Scalar}
use Rattle.shape.specs.Numbers.{integer}
use Rattle.shape.specs.Questions.{is_float}
use Rattle.describe.specs.declared.Banks.{Banks}
use Rattle.describe.specs.declared.Scalars.{Scalars}
use Rattle.describe.specs.declared.ReturnPointer.{ReturnPointer}
use Rattle.describe.specs.Questions.{is_by_reference, returns_by_reference}
use Rattle.spend.specs.declared.Left.{Left}
use Rattle.spend.specs.Ways.{marked}
use Rattle.spend.specs.Spending.{want_of}
use Rattle.spend.proofs.Given.{Ungiven, another_way, either, pointer_ungiven}
use Rattle.spend_scalar.specs.Spending.{skip_of, integer_argument, scalar_in_registers, scalar_argument, scalar_return}

integer_ungiven : (start : ℕ) (S : Scalars) (I want : ℕ) → Ungiven (integer_argument start S I want)
unfolding integer_argument
integer_ungiven start S I want =
    either S.wide_integer_is_all_or_nothing _ _ (either (leb want I) _ _ (another_way tt) (another_way tt))
    (either (ltb 1 want && (S.wide_integer_starts_even || S.wide_integer_drains)) _ _
    (either (leb want (I - skip_of S.wide_integer_starts_even (start - I) I)) _ _ (another_way tt) (either S.wide_integer_drains _ _ (another_way tt) (another_way tt)))
    (another_way tt))

registers_ungiven : (B : Banks) (S : Scalars) (left : Left) (s : Scalar) (want : ℕ) → Ungiven (scalar_in_registers B S left s want)
unfolding scalar_in_registers
registers_ungiven B S left s want =
    either B.shared _ _ (another_way tt)
    (either (is_float s.kind && leb s.size B.float_width) _ _ (either S.float_falls_to_integers _ _ (either (eqb left.float 0) _ _ (another_way tt) (another_way tt)) (another_way tt))
    (either (is_float s.kind) _ _ (another_way tt) (integer_ungiven B.integer S left.integer want)))

pub argument_ungiven : (B : Banks) (S : Scalars) (left : Left) (s : Scalar) → Ungiven (scalar_argument B S left s)
unfolding scalar_argument
argument_ungiven B S left s =
    let want : ℕ = want_of s.size B.integer_width in
    either (is_by_reference S s.size) _ _ (another_way tt)
    (either (is_float s.kind && eqb s.kind S.in_memory) _ _ (another_way tt)
    (either ((S.wide_integer_in_memory && eqb s.kind integer) && ltb 1 want) _ _ (another_way tt)
    (either (marked left && is_float s.kind) _ _ (another_way tt) (registers_ungiven B S left s want))))

pub return_ungiven : (S : Scalars) (pointer : ReturnPointer) (left : Left) (s : Scalar) → Ungiven (scalar_return S pointer left s)
unfolding scalar_return
return_ungiven S pointer left s =
    either (not (returns_by_reference S s.size)) _ _ (another_way tt)
    (either (eqb s.kind integer && not (eqb S.wide_integer_returns_in integer)) _ _ (another_way tt) (pointer_ungiven pointer left.integer))
