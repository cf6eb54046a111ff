-- The classes from an index on: what a loop over eightbytes has left.
use Prim.Native.Nat.{ℕ, ◌+◌, ◌≤◌, ◌<◌}
use mathlib.Core.Path.{◌≡◌}
use mathlib.Core.List.{List, [], ◌∷◌}
use native.Mathlib.Omega.{arith}
use native.Mathlib.Numerals.{add-one}
use lib.ListN.{length, get_or, set, drop, drop_of_length-le}
use lib.Seq.{drop-cons, drop-set-lt}
use Rattle.eightbytes.specs.Class.{Class, None}

module _ (cs : List Class) (i : ℕ) where
  pub rest_step : i < length cs → drop i cs ≡ get_or cs i None ∷ drop (i + 1) cs
  rest_step h = rw (add-one, drop-cons cs i None)

  pub rest_set : (v : Class) → drop (i + 1) (set cs i v) ≡ drop (i + 1) cs
  rest_set v = drop-set-lt (i + 1) cs i v (omega arith)

  pub rest_end : length cs ≤ i → drop i cs ≡ []
  rest_end h = drop_of_length-le _ {i = i} h
