-- Whether a call is open behind an operation on a value.
use Prim.Native.Nat.{ℕ}
use mathlib.Core.Path.{◌≡◌}
use mathlib.Core.Bool.{Bool}
use Rattle.sheet_records.specs.declared.known.Act as acts
use Rattle.sheet_records.specs.Known.{open_after}

module _ (opened : Bool) (act : acts.Act) (refusal : ℕ) where
  pub open_value : act ≡ acts.TheVariants.Value → opened ≡ open_after opened act refusal
  open_value e = rw e
