-- What sets rows apart that isn't one field: the rows of fastcall, and rules by which an aggregate in memory is counted against registers; the rows
-- that the Rust hasn't, and what they alone have.
use Rattle.std.specs.Prelude.{ℕ, Bool, ◌||◌, List, [], ◌∷◌, eqb}
use Rattle.shape.specs.Lists.{any}
use Rattle.describe.specs.declared.Rule.{Rule}
use Rattle.describe.specs.declared.Travel.TheVariants.{InMemoryAndSpend}
use Rattle.describe.specs.declared.Short.TheVariants.{Split}
use Rattle.describe.specs.declared.Variadic.TheVariants.{UnnamedIntegersEven}
use Rattle.describe.specs.Description.{Description}
use Rattle.rows.specs.Codes.{travel_code, short_code, variadic_code}

abbrev pub fastcall_rows : List ℕ
fastcall_rows = 22 ∷ 23 ∷ 27 ∷ 29 ∷ []

abbrev pub is_fastcall : ℕ → Bool
is_fastcall d = any (λ row. eqb d row) fastcall_rows

-- a rule of the list travels as InMemoryAndSpend
abbrev pub spends_in_memory : List Rule → Bool
spends_in_memory rules = any (λ (rule : Rule). eqb (travel_code rule.then) (travel_code InMemoryAndSpend)) rules

-- the rows that the Rust has come first
abbrev pub rust_count : ℕ
rust_count = 30

-- RISC-V by its own book
abbrev pub riscv_psabi_rows : List ℕ
riscv_psabi_rows = 30 ∷ 31 ∷ 32 ∷ []

abbrev pub is_riscv_psabi : ℕ → Bool
is_riscv_psabi d = any (λ row. eqb d row) riscv_psabi_rows

-- a rule of the list is split where it is short
abbrev pub splits : List Rule → Bool
splits rules = any (λ (rule : Rule). eqb (short_code rule.short) (short_code Split)) rules

-- arguments after the dots start at an even register where they are a pair of words
abbrev pub pairs_start_even : Description → Bool
pairs_start_even D = eqb (variadic_code D.variadic) (variadic_code UnnamedIntegersEven)

-- a description says something that no description of the Rust can say
abbrev pub is_beyond_rust : Description → Bool
is_beyond_rust D = splits D.returns || (splits D.arguments || (pairs_start_even D || D.scalars.float_falls_to_integers))
