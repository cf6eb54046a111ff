-- What a row says, for users: each part of it is read back as the description has it. That every description fits a row is one
-- test that antt computes over all of them.
use mathlib.Core.Path.{◌≡◌, refl, sym, ap, ◌∙◌}
use mathlib.Core.List.{List, [], ◌∷◌, map}
use Prim.Native.Nat.{ℕ, zero, suc, ◌<◌, ◌≤◌}
use native.Mathlib.Nat.{le_of_suc-le-suc, not-suc-le-zero}
use mathlib.Core.Bool.{◌&&◌}
use lib.Dec.{T, leb}
use lib.ListN.{length, get_or, get_or-map, get_or-eq_default}
use Rattle.shape.specs.Lists.{every}
use Rattle.shape.proofs.Bools.{and_left, and_right}
use Rattle.shape.proofs.Lists.{anywhere}
use Rattle.describe.specs.Description.{Description, past, terms_of, others_of}
use Rattle.rows.specs.Row.{encode, decode, held, held_banks, held_formats, held_rules, held_tests, packed, listed, return_rule, argument_rule, terms_from, others_from}
use Rattle.rows.proofs.Inverse.{return_rule_back, argument_rule_back, terms_back, others_back, decode_back}
use Rattle.rows.proofs.Packed.{listed_packed, returns_packed, arguments_packed}
use Rattle.abis.specs.declared.Brief.{Brief}
use Rattle.abis.specs.Abis.{described, descriptions, blank, description_count}
use Rattle.abis.specs.Brief.{brief_of, brief_from}

pub fits : (d : ℕ) → T (held (described d))
unfolding every described descriptions held
fits = anywhere held descriptions blank tt tt

pub return_rule_lem : (d i : ℕ) → return_rule (encode (described d)) i ≡ get_or (described d).returns i past
return_rule_lem d = return_rule_back (described d) (fits d)

pub argument_rule_lem : (d i : ℕ) → argument_rule (encode (described d)) i ≡ get_or (described d).arguments i past
argument_rule_lem d = argument_rule_back (described d) (fits d)

row_terms : (d : ℕ) → terms_from (encode (described d)) ≡ terms_of (described d)
row_terms d = terms_back (described d) (fits d)

pub row_others : (d : ℕ) → others_from (encode (described d)) ≡ others_of (described d)
row_others d = others_back (described d) (fits d)

pub row_decoded : (d : ℕ) → decode (described d).name (encode (described d)) ≡ described d
row_decoded d = decode_back (described d) (fits d)

-- The row of a number, where a `match` found it.
pub here : (k : ℕ) {d : ℕ} → d ≡ k → encode (described k) ≡ encode (described d)
here k e = ap (λ (n : ℕ). encode (described n)) (sym e)

pub past_last : (d : ℕ) → description_count ≤ d → encode blank ≡ encode (described d)
unfolding described descriptions
past_last d h = ap encode (sym (get_or-eq_default descriptions blank h))

-- What stands at a number in a table that holds a part of each description.
inside : {A : Type 0} (xs : List A) (a b : A) (k : ℕ) → k < length xs → get_or xs k a ≡ get_or xs k b
inside [] a b k h = absurd (not-suc-le-zero h)
inside (x ∷ xs) a b zero h = refl
inside (x ∷ xs) a b (suc k) h = inside xs a b k (le_of_suc-le-suc h)

pub indexed : {A : Type 0} (f : Description → A) (table : List A) (other : A) → table ≡ map f descriptions → (d : ℕ) → d < description_count → get_or table d other ≡ f (described d)
unfolding described descriptions
indexed {A} f table other e d h =
    ap (λ (entries : List A). get_or entries d other) e
    ∙ (inside (map f descriptions) other (f blank) d h ∙ get_or-map f descriptions d blank)

record Held (D : Description) : Type 0 where
  returns : T (held_rules D.returns)
  arguments : T (held_rules D.arguments)

lists_held : (d : ℕ) → Held (described d)
unfolding held
lists_held d =
    let D = described d in
    let rest = and_right (held_banks D.banks) (held_formats D.scalars && (held_rules D.returns && held_rules D.arguments)) (fits d) in
    let rules = and_right (held_formats D.scalars) (held_rules D.returns && held_rules D.arguments) rest in
    record {
      returns = and_left (held_rules D.returns) (held_rules D.arguments) rules;
      arguments = and_right (held_rules D.returns) (held_rules D.arguments) rules;
    }

-- The lists that a row's numbers stand for are the description's.
pub returns_listed : (d : ℕ) → listed (packed (described d).returns) ≡ (described d).returns
returns_listed d =
    listed_packed (described d).returns (and_right (leb (length (described d).returns) 4) (held_tests (described d).returns) (lists_held d).returns)

pub arguments_listed : (d : ℕ) → listed (packed (described d).arguments) ≡ (described d).arguments
arguments_listed d =
    listed_packed (described d).arguments (and_right (leb (length (described d).arguments) 4) (held_tests (described d).arguments) (lists_held d).arguments)

-- What is read of a row, where a `match` found it.
pub read_here : (d : ℕ) {row : List ℕ} {r : Brief} → row ≡ encode (described d) → r ≡ brief_from row → r ≡ brief_of (described d)
unfolding brief_from
read_here d e er =
    rw (er, e, row_terms d, returns_packed (described d) (lists_held d).returns, arguments_packed (described d) (lists_held d).arguments)
