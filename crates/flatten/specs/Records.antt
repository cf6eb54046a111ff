-- A list whose last entry is a record of scalars alone: what `pieces` and `record` know (REFERENCE 4.2, 4.3).
use Rattle.std.specs.Prelude.{ℕ, ◌-◌, ◌≡◌, false, List, [], ◌∷◌}
use Rattle.shape.specs.declared.Scalar.{Scalar}
use Rattle.types.specs.Entries.{one, several, meaning_at}
use Rattle.types.specs.Trees.{entries}

-- these entries are these scalars
pub data AreScalars (ts ms : List ℕ) : List ℕ → List Scalar → Type 0 where
  none : AreScalars ts ms [] []
  next : (m : ℕ) (l : List ℕ) (s : Scalar) (ss : List Scalar) → meaning_at ts ms m ≡ one s → AreScalars ts ms l ss → AreScalars ts ms (m ∷ l) (s ∷ ss)

-- the type wanted is a record, and its members are these scalars
pub record IsRecordOf (ts ms : List ℕ) (ss : List Scalar) : Type 0 where
  pub members : List ℕ
  pub is_record : meaning_at ts ms (entries ts - 1) ≡ several false members
  pub are_scalars : AreScalars ts ms members ss
