-- The limit that the parts of `in_memory` answer one another, or none.
use Rattle.std.specs.Prelude as Prelude
use Rattle.std.specs.Prelude.{ℕ, List}
use Rattle.std.proofs.Math.Option.{Option}
use Rattle.std.proofs.Math.Option.Option.{none, some}
use Rattle.describe.specs.declared.Rule.{Rule}
use Rattle.stack_align.specs.InMemory.{homogeneous_limit}

abbrev pub limit_option : Option ℕ → Prelude.Option ℕ
limit_option none = Prelude.None
limit_option (some n) = Prelude.Some n

unfoldable pub list_limit : List Rule → Prelude.Option ℕ
list_limit rules = limit_option (homogeneous_limit rules)
