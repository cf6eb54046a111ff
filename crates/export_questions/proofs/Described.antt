-- From a description's parts and from the bytes of its row, to the numbers that are promised of it.
use Prim.Native.Nat.{ℕ, zero, suc, ◌/◌, ◌%◌, ◌<◌, ◌≤◌}
use mathlib.Core.Path.{◌≡◌, refl, ap}
use mathlib.Core.Bool.{Bool, true, false, cond}
use mathlib.Core.Logic.{◌⊎◌, inl, inr, ⊎_elim}
use mathlib.Core.List.{List, [], ◌∷◌, map}
use native.Mathlib.Omega.{arith}
use borrow.Author.Tests.{le-leb, lt-leb, leb-true, leb-false}
use mir.Val.{bool_byte}
use lib.Dec.{leb}
use lib.ListN.{length, get_or}
use Rattle.shape.specs.Numbers.{bad_abi, one_if}
use Rattle.describe.specs.declared.Rule.{Rule}
use Rattle.rows.specs.Codes.{test_code, test_number, travel_code, short_code}
use Rattle.rows.specs.Row.{encode, way_byte}
use Rattle.rows.proofs.Numbers.{travel_fits}
use Rattle.rows.proofs.Inverse.{There, returns_there, arguments_there}
use Rattle.abis.specs.Abis.{described, description_count}
use Rattle.abis.proofs.Lists.{returns_few, arguments_few}
use Rattle.export_questions.specs.declared.descriptions.RuleNumbers.{RuleNumbers}
use Rattle.export_questions.specs.Descriptions.{return_rule_answer, argument_rule_answer, rule_in, rule_made, rule_told, rule_numbers_at}

-- a yes as 1, as the library's conversion has it
pub flag_number : (b : Bool) → bool_byte b ≡ one_if b
flag_number true = refl
flag_number false = refl

-- ---- rules

-- The way of travel and what happens when short, out of the byte that they share.
way_travels : (rules : List Rule) (i : ℕ) → get_or (map way_byte rules) i 0 % 8 ≡ get_or (map (λ (r : Rule). travel_code r.then) rules) i 0
way_travels [] i = refl
way_travels (r ∷ rules) zero = let fits = travel_fits r.then in omega arith
way_travels (r ∷ rules) (suc i) = way_travels rules i

way_shorts : (rules : List Rule) (i : ℕ) → get_or (map way_byte rules) i 0 / 8 ≡ get_or (map (λ (r : Rule). short_code r.short) rules) i 0
way_shorts [] i = refl
way_shorts (r ∷ rules) zero = let fits = travel_fits r.then in omega arith
way_shorts (r ∷ rules) (suc i) = way_shorts rules i

none_past : (f : Rule → ℕ) (rules : List Rule) (i : ℕ) → length rules ≤ i → get_or (map f rules) i 0 ≡ 0
none_past f [] i h = refl
none_past f (r ∷ rules) zero h = absurd (omega arith)
none_past f (r ∷ rules) (suc i) h = none_past f rules i (omega arith)

past_or_not : (i : ℕ) (t : Bool) → leb 4 i ≡ t → (4 ≤ i) ⊎ (i < 4)
past_or_not i true e = inl (leb-true 4 i e)
past_or_not i false e = inr (leb-false 4 i e)

module _ (row : List ℕ) (first : ℕ) (rules : List Rule) (few : length rules ≤ 4) (there : (i : ℕ) → i < 4 → There row first rules i) where
  rule_read : (i : ℕ) → rule_numbers_at row first i ≡ rule_in rules i
  unfolding rule_numbers_at
  rule_read i =
      ⊎_elim
      (λ (h : 4 ≤ i). let p : length rules ≤ i = omega arith in rw (le-leb 4 i h, none_past (λ (r : Rule). test_code r.when) rules i p, none_past (λ (r : Rule). test_number r.when) rules i p, none_past (λ (r : Rule). travel_code r.then) rules i p, none_past (λ (r : Rule). short_code r.short) rules i p))
      (λ (h : i < 4). rw (lt-leb 4 i h, (there i h).0, (there i h).1, (there i h).2, way_travels rules i, way_shorts rules i))
      (past_or_not i (leb 4 i) refl)

-- rule i of a list, from the row of its description
pub return_rule_read : (abi i : ℕ) → rule_told abi 8 i ≡ return_rule_answer abi i
unfolding return_rule_answer
return_rule_read abi i =
    ap (λ (r : RuleNumbers). cond (leb description_count abi) (rule_made bad_abi 0 0 0 0) r)
    (rule_read (encode (described abi)) 8 (described abi).returns (returns_few abi) (returns_there (described abi)) i)

pub argument_rule_read : (abi i : ℕ) → rule_told abi 20 i ≡ argument_rule_answer abi i
unfolding argument_rule_answer
argument_rule_read abi i =
    ap (λ (r : RuleNumbers). cond (leb description_count abi) (rule_made bad_abi 0 0 0 0) r)
    (rule_read (encode (described abi)) 20 (described abi).arguments (arguments_few abi) (arguments_there (described abi)) i)
