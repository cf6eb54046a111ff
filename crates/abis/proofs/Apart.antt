-- Which rows a field or a way of travel sets apart: antt computes that no other row has its number, and past the last row none has.
use mathlib.Core.Path.{◌≡◌, refl, sym, ap, ◌∙◌}
use mathlib.Core.Bool.{Bool, true, false, ◌&&◌, ◌||◌, not, false≢true}
use mathlib.Core.List.{List, [], ◌∷◌}
use mathlib.Core.Logic.{◌⊎◌, inl, inr}
use Prim.Native.Nat.{ℕ, zero, suc, ◌+◌, ◌<◌}
use native.Mathlib.Omega.{arith}
use borrow.Author.Tests.{eq-eqb, ne_eqb}
use lib.Dec.{T, eqb, eqb→eq, lit<}
use lib.ListN.{get_or}
use Rattle.shape.proofs.Bools.{and_left, and_right, or_cases}
use Rattle.shape.specs.Numbers.{one_if}
use Rattle.shape.specs.Lists.{any}
use Rattle.describe.specs.declared.Variadic.TheVariants.{AlwaysMemory, IntegersOnly, UnnamedIntegers}
use Rattle.describe.specs.declared.StackArgs.TheVariants.{Packed}
use Rattle.describe.specs.Description.{Description}
use Rattle.rows.specs.Codes.{variadic_code, stack_args_code}
use Rattle.abis.specs.Abis.{described, descriptions, description_count, blank, riscv_with}
use Rattle.abis.specs.Apart.{fastcall_rows, is_fastcall, spends_in_memory, rust_count, riscv_psabi_rows, is_riscv_psabi, splits, pairs_start_even, is_beyond_rust}

-- Of the rows from i on, none but those within has the number n.
abbrev only_within : (Description → ℕ) → ℕ → (ℕ → Bool) → ℕ → List Description → Bool
only_within code n within i [] = true
only_within code n within i (D ∷ Ds) = (not (eqb (code D) n) || within i) && only_within code n within (suc i) Ds

the_one : (a b : Bool) → T (not a || b) → a ≡ true → T b
the_one true b t e = t
the_one false b t e = absurd (false≢true e)

from : (code : Description → ℕ) (n : ℕ) (within : ℕ → Bool) → (code blank ≡ n → ⊥) → (Ds : List Description) (i : ℕ) → T (only_within code n within i Ds)
    → (j k : ℕ) → k ≡ i + j → code (get_or Ds j blank) ≡ n → T (within k)
from code n within none [] i t j k ek e = absurd (none e)
from code n within none (D ∷ Ds) i t zero k ek e =
    let here : k ≡ i = omega arith in
    rw here (the_one (eqb (code D) n) (within i) (and_left (not (eqb (code D) n) || within i) (only_within code n within (suc i) Ds) t) (eq-eqb (code D) n e))
from code n within none (D ∷ Ds) i t (suc j) k ek e =
    from code n within none Ds (suc i) (and_right (not (eqb (code D) n) || within i) (only_within code n within (suc i) Ds) t) j k (omega arith) e

only_within_lem : (code : Description → ℕ) (n : ℕ) (within : ℕ → Bool) → (code blank ≡ n → ⊥) → T (only_within code n within 0 descriptions)
    → (d : ℕ) → code (described d) ≡ n → T (within d)
unfolding described
only_within_lem code n within none t d e = from code n within none descriptions 0 t d d (omega arith) e

-- ---- one row alone

only : (code : Description → ℕ) (n k : ℕ) → (code blank ≡ n → ⊥) → T (only_within code n (λ i. eqb i k) 0 descriptions) → (d : ℕ) → code (described d) ≡ n → d ≡ k
only code n k none t d e = eqb→eq d k (only_within_lem code n (λ i. eqb i k) none t d e)

pub integers_only : ((described 3).variadic ≡ IntegersOnly) × ((d : ℕ) → (described d).variadic ≡ IntegersOnly → d ≡ 3)
unfolding described descriptions
integers_only =
    (refl, λ d e. only (λ (D : Description). variadic_code D.variadic) 3 3 (λ h. omega arith) tt d (ap variadic_code e))

pub always_memory : ((described 2).variadic ≡ AlwaysMemory) × ((d : ℕ) → (described d).variadic ≡ AlwaysMemory → d ≡ 2)
unfolding described descriptions
always_memory =
    (refl, λ d e. only (λ (D : Description). variadic_code D.variadic) 1 2 (λ h. omega arith) tt d (ap variadic_code e))

pub unnamed_integers : ((described 5).variadic ≡ UnnamedIntegers) × ((d : ℕ) → (described d).variadic ≡ UnnamedIntegers → d ≡ 5)
unfolding described descriptions
unnamed_integers =
    (refl, λ d e. only (λ (D : Description). variadic_code D.variadic) 4 5 (λ h. omega arith) tt d (ap variadic_code e))

pub packed : ((described 2).stack_args ≡ Packed) × ((d : ℕ) → (described d).stack_args ≡ Packed → d ≡ 2)
unfolding described descriptions
packed =
    (refl, λ d e. only (λ (D : Description). stack_args_code D.stack_args) 1 2 (λ h. omega arith) tt d (ap stack_args_code e))

-- ---- several rows, and none

exactly : (has : Description → Bool) (within : ℕ → Bool) → has blank ≡ false → T (only_within (λ D. one_if (has D)) 1 within 0 descriptions)
    → ((d : ℕ) → T (within d) → has (described d) ≡ true) → (d : ℕ) → has (described d) ≡ within d
exactly has within none t there d = go (has (described d)) refl (within d) refl
  where
    nowhere : one_if (has blank) ≡ 1 → ⊥
    nowhere h = let z : one_if false ≡ 1 = rw none at h in omega arith

    go : (x : Bool) → has (described d) ≡ x → (y : Bool) → within d ≡ y → x ≡ y
    go true e true w = refl
    go true e false w = absurd (rw w at (only_within_lem (λ D. one_if (has D)) 1 within nowhere t d (rw e)))
    go false e true w = absurd (false≢true (sym e ∙ there d (rw w tt)))
    go false e false w = refl

-- What holds of each of some rows.
abbrev pub Each : (ℕ → Type 0) → List ℕ → Type 0
Each P [] = Unit {0}
Each P (row ∷ rows) = P row × Each P rows

pub each_among : (P : ℕ → Type 0) (rows : List ℕ) → Each P rows → (d : ℕ) → T (any (λ row. eqb d row) rows) → P d
unfolding any
each_among P [] each d t = absurd t
each_among P (row ∷ rows) each d t = go (or_cases (eqb d row) (any (λ row. eqb d row) rows) t) (each_among P rows each.1 d)
  where
    go : T (eqb d row) ⊎ T (any (λ row. eqb d row) rows) → (T (any (λ row. eqb d row) rows) → P d) → P d
    go (inl h) later = rw (eqb→eq d row h) each.0
    go (inr h) later = later h

-- The rows whose rules for arguments have InMemoryAndSpend are those of fastcall, and no row's rules for returns have it.
pub in_memory_and_spend : ((d : ℕ) → spends_in_memory (described d).arguments ≡ is_fastcall d) × ((d : ℕ) → spends_in_memory (described d).returns ≡ false)
unfolding described descriptions any
in_memory_and_spend = (
  exactly (λ (D : Description). spends_in_memory D.arguments) is_fastcall refl tt
      (each_among (λ (d : ℕ). spends_in_memory (described d).arguments ≡ true) fastcall_rows (refl, (refl, (refl, (refl, tt))))),
  exactly (λ (D : Description). spends_in_memory D.returns) (λ d. false) refl tt (λ d t. absurd t),
)

-- The rows that say what the Rust can't are those of RISC-V's own book, and each of them says all of it: rules for arguments that split, an even start
-- after the dots, floats that fall to the integers. So rows 0 to 29 say nothing of it.
pub record RiscvPsabi (d : ℕ) : Type 0 where
  pub beyond : is_beyond_rust (described d) ≡ is_riscv_psabi d
  pub splitting : splits (described d).arguments ≡ is_riscv_psabi d
  pub coming_back : splits (described d).returns ≡ false
  pub even : pairs_start_even (described d) ≡ is_riscv_psabi d
  pub falling : (described d).scalars.float_falls_to_integers ≡ is_riscv_psabi d

pub riscv_psabi : (d : ℕ) → RiscvPsabi d
unfolding described descriptions any
riscv_psabi d =
    record {
      beyond = exactly is_beyond_rust is_riscv_psabi refl tt (each_among (λ (d : ℕ). is_beyond_rust (described d) ≡ true) riscv_psabi_rows (refl, (refl, (refl, tt)))) d;
      splitting =
          exactly (λ (D : Description). splits D.arguments) is_riscv_psabi refl tt
          (each_among (λ (d : ℕ). splits (described d).arguments ≡ true) riscv_psabi_rows (refl, (refl, (refl, tt)))) d;
      coming_back = exactly (λ (D : Description). splits D.returns) (λ d. false) refl tt (λ d t. absurd t) d;
      even =
          exactly pairs_start_even is_riscv_psabi refl tt
          (each_among (λ (d : ℕ). pairs_start_even (described d) ≡ true) riscv_psabi_rows (refl, (refl, (refl, tt)))) d;
      falling =
          exactly (λ (D : Description). D.scalars.float_falls_to_integers) is_riscv_psabi refl tt
          (each_among (λ (d : ℕ). (described d).scalars.float_falls_to_integers ≡ true) riscv_psabi_rows (refl, (refl, (refl, tt)))) d;
    }

-- A row that the Rust has is none of these.
pub nothing_beyond : (d : ℕ) → d < rust_count → is_beyond_rust (described d) ≡ false
unfolding any
nothing_beyond d h =
    (riscv_psabi d).beyond
    ∙ (rw (ne_eqb d 30 (λ (e : d ≡ 30). omega arith), ne_eqb d 31 (λ (e : d ≡ 31). omega arith), ne_eqb d 32 (λ (e : d ≡ 32). omega arith)))

-- They are one definition, with a float bank and a name of their own.
pub riscv_described : (d : ℕ) → is_riscv_psabi d ≡ true → described d ≡ riscv_with (described d).name (described d).banks.float (described d).banks.float_width
unfolding described descriptions
riscv_described d e =
    each_among (λ (d : ℕ). described d ≡ riscv_with (described d).name (described d).banks.float (described d).banks.float_width) riscv_psabi_rows (refl, (refl, (refl, tt))) d
    (rw e tt)

pub riscv_known : (d : ℕ) → is_riscv_psabi d ≡ true → d < description_count
riscv_known d e = each_among (λ (d : ℕ). d < description_count) riscv_psabi_rows (lit< tt, (lit< tt, (lit< tt, tt))) d (rw e tt)
