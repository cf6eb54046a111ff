-- What holds of each decision that a line for a scalar or a rule for an aggregate can come to holds of what is decided: on RISC-V's own descriptions,
-- whatever the float bank, of any statement P about decisions.
use Prim.Native.Nat.{ℕ, min}
use mathlib.Core.Path.{◌≡◌, refl}
use mathlib.Core.List.{List, [], ◌∷◌}
use mathlib.Core.Bool.{Bool, true, false, ◌&&◌, not, cond, and-false}
use borrow.Author.Tests.{eqb-false}
use lib.Dec.{eqb, leb, ltb}
use Rattle.std.specs.Prelude.{Option, Some, None}
use Rattle.shape.specs.declared.Piece.{Piece}
use Rattle.shape.specs.declared.Scalar.{Scalar}
use Rattle.shape.specs.declared.Shape.{Shape}
use Rattle.shape.specs.Numbers.{integer}
use Rattle.shape.specs.Questions.{is_float}
use Rattle.slots.specs.Search.{Search, found, nothing, floats_in}
use Rattle.describe.specs.declared.Rule.{Rule}
use Rattle.describe.specs.declared.Test.{Test}
use Rattle.describe.specs.declared.Test.TheVariants.{Anything, Empty, FloatPair, SizeAtMost}
use Rattle.describe.specs.declared.Travel.TheVariants as travels
use Rattle.describe.specs.declared.Travel.TheVariants.{AsFound, AsIntegers, ByReference}
use Rattle.describe.specs.declared.Short.TheVariants.{TryNextRule, Split}
use Rattle.describe.specs.Description.{Description, terms_of, rule, rule_short}
use Rattle.abis.specs.Abis.{riscv_with}
use Rattle.spend.specs.declared.Left.{Left}
use Rattle.spend.specs.declared.Wanted.{Wanted}
use Rattle.spend.specs.declared.Way.TheVariants.{Ignore, Direct}
use Rattle.spend.specs.declared.Decision.{Decision}
use Rattle.spend.specs.Ways as made
use Rattle.spend.specs.Ways.{spends, plain, in_pieces, cut_slots, marked}
use Rattle.spend.specs.Spending.{want_of, reference, in_slots, travel_of}
use Rattle.spend_scalar.specs.Spending.{integer_argument, scalar_in_registers, scalar_argument}
use Rattle.find.specs.Matches.{matches}
use Rattle.classify.specs.Spending.{Chosen, wanted_by, or_next, decide_by, by_rules}

-- where a rule's way comes to a decision
abbrev pub IfDecided : (Decision → Type 0) → Option Decision → Type 0
IfDecided P (Some d) = P d
IfDecided P None = Unit {0}

module _ (name : List ℕ) (float_registers float_width : ℕ) (P : Decision → Type 0) where
  abbrev riscv : Description
  riscv = riscv_with name float_registers float_width

  -- ---- a scalar argument: in words, in a float register, or, after the dots, a float in words

  module _ (left : Left) (s : Scalar) where
    abbrev words : ℕ
    words = min (want_of s.size 8) left.integer

    either : (b : Bool) (d e : Decision) → (b ≡ true → P d) → (b ≡ false → P e) → P (cond b d e)
    either true d e h k = h refl
    either false d e h k = k refl

    -- no format is the description's
    no_format : (is_float s.kind && eqb s.kind integer) ≡ false
    no_format = go (eqb s.kind integer)
      where
        go : (b : Bool) → (not b && b) ≡ false
        go true = refl
        go false = refl

    pub scalar_so : P (plain Direct (spends 0 words 0 0)) → ((left.float ≡ 0 → ⊥) → P (plain Direct (spends 0 0 0 (min 1 left.float)))) → P (in_pieces (cut_slots s.size 8) (spends 0 words 0 0))
        → P (scalar_argument riscv.banks riscv.scalars left s)
    unfolding scalar_argument scalar_in_registers integer_argument
    scalar_so direct held pieces =
        rw no_format
        (either (marked left && is_float s.kind) _ _ (λ _. pieces)
        (λ _. either (is_float s.kind && leb s.size float_width) _ _
        (λ _. either (eqb left.float 0) _ _ (λ _. direct) (λ e. held (eqb-false _ _ e)))
        (λ _. either (is_float s.kind) _ _ (λ _. direct) (λ _. rw and-false direct))))

  -- ---- an aggregate: each rule that decides, and the rules behind one that doesn't

  module _ (returning : Bool) (left : Left) (shape : Shape) (ps : List Piece) where
    abbrev travelled : Rule → Wanted → Option Decision
    travelled rule slots = travel_of riscv.banks riscv.return_pointer returning left rule shape.size slots

    abbrev Decides : List Rule → Type 0
    Decides rules = P (by_rules (terms_of riscv) returning left rules shape ps).decision

    or_rest : (skipped : Bool) (t : Option Decision) (test : Test) (rest : Chosen) → IfDecided P t → P rest.decision → P (cond skipped rest (or_next t test rest)).decision
    or_rest true t test rest h later = later
    or_rest false (Some d) test rest h later = h
    or_rest false None test rest h later = later

    decided_so : (rule : Rule) (rest : Chosen) → ((slots : Wanted) → IfDecided P (travelled rule slots)) → P rest.decision
        → (s : Search) → P (decide_by s (terms_of riscv) returning left rule shape rest).decision
    decided_so rule rest h later nothing = later
    decided_so rule rest h later (found ss) =
        let slots : Wanted = wanted_by rule.when shape.size ss in
        or_rest ((marked left && not returning) && ltb 0 (floats_in ss)) (travelled rule slots) rule.when rest (h slots) later

    by_rule : (rule : Rule) (rules : List Rule) → ((slots : Wanted) → IfDecided P (travelled rule slots)) → Decides rules → Decides (rule ∷ rules)
    unfolding by_rules
    by_rule rule rules h later = decided_so rule (by_rules (terms_of riscv) returning left rules shape ps) h later (matches riscv.banks rule.when shape ps)

    -- the last rule is never skipped: its test finds no slot
    by_address : (d : Decision) → travelled (rule Anything ByReference) (wanted_by Anything shape.size []) ≡ Some d → P d → Decides (rule Anything ByReference ∷ [])
    unfolding by_rules matches floats_in
    by_address d e h = rw (and-false, e) h

  module _ (left : Left) (shape : Shape) (ps : List Piece) where
    -- an argument is ignored, has the slots that were found, has those that its size is cut into, or goes by its address
    pub argument_so : P (plain Ignore made.nothing) → ((slots : Wanted) → IfDecided P (in_slots false false left TryNextRule slots))
        → IfDecided P (in_slots false false left Split (cut_slots shape.size 8)) → P (reference (min 1 left.integer))
        → P (by_rules (terms_of riscv) false left riscv.arguments shape ps).decision
    unfolding travel_of
    argument_so ignored found_slots cut_slots_lem address =
        by_rule false left shape ps (rule Empty travels.Ignore) _ (λ slots. ignored)
        (by_rule false left shape ps (rule_short FloatPair AsFound TryNextRule) _ found_slots
        (by_rule false left shape ps (rule_short (SizeAtMost 16) AsIntegers Split) _ (λ slots. cut_slots_lem) (by_address false left shape ps _ refl address)))

    -- what comes back likewise, and no register is counted for its slots
    pub return_so : P (plain Ignore made.nothing) → ((slots : Wanted) → P (in_pieces slots made.nothing)) → P (reference (min 1 left.integer))
        → P (by_rules (terms_of riscv) true left riscv.returns shape ps).decision
    unfolding travel_of in_slots
    return_so ignored in_slots_lem address =
        by_rule true left shape ps (rule Empty travels.Ignore) _ (λ slots. ignored)
        (by_rule true left shape ps (rule FloatPair AsFound) _ in_slots_lem
        (by_rule true left shape ps (rule (SizeAtMost 16) AsIntegers) _ (λ slots. in_slots_lem (cut_slots shape.size 8)) (by_address true left shape ps _ refl address)))
