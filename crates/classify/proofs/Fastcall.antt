-- What the rules of fastcall decide about an aggregate argument, fixed or after the dots: nothing travels, or it is in memory, and then what has no
-- floating mode is counted against the integer registers, which it passes over (REFERENCE 9.3).
use Prim.Native.Nat.{ℕ, max}
use mathlib.Core.Path.{◌≡◌, refl, ap, ◌∙◌}
use mathlib.Core.List.{List, [], ◌∷◌}
use mathlib.Core.Bool.{Bool, true, false, ◌&&◌, ◌||◌, cond}
use lib.Dec.{T, eqb, ltb}
use Rattle.shape.proofs.Bools.{second_fails}
use Rattle.shape.specs.declared.Arg.TheVariants.{Aggregate}
use Rattle.shape.specs.declared.Piece.{Piece}
use Rattle.shape.specs.declared.Shape.{Shape}
use Rattle.shape.specs.Arithmetic.{round_up}
use Rattle.slots.specs.Search.{floats_in}
use Rattle.describe.specs.declared.Dots.{Dots}
use Rattle.describe.specs.declared.StackArgs.TheVariants.{RegisterSized}
use Rattle.describe.specs.declared.Test.{Test}
use Rattle.describe.specs.declared.Test.TheVariants.{Anything, Empty, FloatingMode}
use Rattle.describe.specs.declared.Travel.{Travel}
use Rattle.describe.specs.declared.Travel.TheVariants.{Ignore, InMemory, InMemoryAndSpend}
use Rattle.describe.specs.declared.Terms.{Terms}
use Rattle.describe.specs.declared.Variadic.{Variadic}
use Rattle.describe.specs.declared.Variadic.TheVariants.{SameAsFixed}
use Rattle.describe.specs.Description.{Description, rule, terms_of}
use Rattle.describe.specs.Dots.{dots_of}
use Rattle.abis.specs.Abis.{described, descriptions}
use Rattle.abis.specs.Apart.{fastcall_rows, is_fastcall}
use Rattle.abis.proofs.Apart.{each_among}
use Rattle.find.specs.Find.{found_if, floating_mode}
use Rattle.find.specs.Matches.{matches}
use Rattle.spend.specs.declared.Left.{Left}
use Rattle.spend.specs.declared.Way as ways
use Rattle.spend.specs.declared.Decision.{Decision}
use Rattle.spend.specs.declared.Spent.{Spent}
use Rattle.spend.specs.Ways.{marked, plain, nothing}
use Rattle.spend.specs.Spending.{takes, want_of, memory, travel_of}
use Rattle.stack_align.specs.InMemory.{in_memory_by}
use Rattle.stack_place.specs.Stacked.{nowhere, behind}
use Rattle.stack_place.proofs.Placing.{no_length}
use Rattle.after_dots.specs.AfterDots.{settled_for}
use Rattle.classify.specs.Stacking.{area_of, stacked_of}
use Rattle.classify.specs.Spending.{Chosen, decide_by, by_rules, aggregate_by, choice, argument_choice, variadic_argument_choice}

-- what a description of fastcall has
record Fastcall (D : Description) : Type 0 where
  rules : D.arguments ≡ rule Empty Ignore ∷ rule FloatingMode InMemory ∷ rule Anything InMemoryAndSpend ∷ []
  words : D.banks.integer_width ≡ 4
  dots : D.variadic ≡ SameAsFixed
  area : D.stack_args ≡ RegisterSized

fastcall_row : (d : ℕ) → T (is_fastcall d) → Fastcall (described d)
unfolding described descriptions
fastcall_row =
    each_among (λ (d : ℕ). Fastcall (described d)) fastcall_rows (
      record { rules = refl; words = refl; dots = refl; area = refl },
      (
        record { rules = refl; words = refl; dots = refl; area = refl },
        (
          record { rules = refl; words = refl; dots = refl; area = refl },
          (record { rules = refl; words = refl; dots = refl; area = refl }, tt),
        ),
      ),
    )

-- what its rules decide, test by test; a rule without a float slot is never skipped
unfoldable pub fastcall_decision : Shape → ℕ → ℕ → Decision
fastcall_decision shape width I =
    cond (eqb shape.size 0) (plain ways.TheVariants.Ignore nothing)
    (cond (shape.complex || shape.floating) (memory 0 0 0 0) (memory (takes (want_of shape.size width) I) 0 0 0))

module _ (T : Terms) (left : Left) (shape : Shape) (ps : List Piece) where
  abbrev decides : Bool → Test → Travel → Chosen → Chosen
  decides matched when then rest = decide_by (found_if matched []) T false left (rule when then) shape rest

  unskipped : (marked left && true) && ltb 0 (floats_in []) ≡ false
  unfolding floats_in
  unskipped = second_fails (marked left && true) false refl

  by_tests : (empty floating : Bool)
      → (decides empty Empty Ignore (decides floating FloatingMode InMemory (decides true Anything InMemoryAndSpend (by_rules T false left [] shape ps)))).decision
      ≡ cond empty (plain ways.TheVariants.Ignore nothing)
      (cond floating (memory 0 0 0 0) (memory (takes (want_of shape.size T.banks.integer_width) left.integer) 0 0 0))
  unfolding found_if travel_of
  by_tests true floating = rw unskipped refl
  by_tests false true = rw unskipped refl
  by_tests false false = rw unskipped refl

  by_rules_lem : (by_rules T false left (rule Empty Ignore ∷ rule FloatingMode InMemory ∷ rule Anything InMemoryAndSpend ∷ []) shape ps).decision
      ≡ fastcall_decision shape T.banks.integer_width left.integer
  unfolding by_rules matches found_if floating_mode fastcall_decision
  by_rules_lem = by_tests (eqb shape.size 0) (shape.complex || shape.floating)

module _ (d : ℕ) (row : is_fastcall d ≡ true) (left : Left) (shape : Shape) (ps : List Piece) where
  abbrev D : Description
  D = described d

  fastcall : Fastcall D
  fastcall = fastcall_row d (rw row tt)

  pub fixed_decision : (argument_choice D left (Aggregate shape) ps).decision ≡ fastcall_decision shape 4 left.integer
  unfolding argument_choice aggregate_by settled_for
  fixed_decision = rw (fastcall.rules, by_rules_lem (terms_of D) left shape ps, fastcall.words)

  pub variadic_decision : (variadic_argument_choice D left (Aggregate shape) ps).decision ≡ fastcall_decision shape 4 left.integer
  unfolding argument_choice variadic_argument_choice
  variadic_decision = ap (λ (v : Variadic). (choice (terms_of D) D.arguments false (dots_of v) left (Aggregate shape) ps).decision) fastcall.dots ∙ fixed_decision

  -- where it stands: its words, at its alignment or at a word's, if it is in memory
  module _ (values : Dots) (fixed : values.emptied ≡ false) (stack : ℕ) (spent : Spent) (slots : ℕ) where
    pub memory_stands : stacked_of (terms_of D) D.arguments false values stack (Aggregate shape) ps ways.TheVariants.Memory spent slots
        ≡ behind stack (round_up shape.size 4) (max (max shape.align 4) 1)
    unfolding stacked_of in_memory_by
    memory_stands = rw (fixed, fastcall.area, fastcall.words)

    pub nothing_stands : stacked_of (terms_of D) D.arguments false values stack (Aggregate shape) ps ways.TheVariants.Ignore spent slots ≡ nowhere stack
    unfolding stacked_of behind
    nothing_stands = rw (no_length (area_of (terms_of D) values))

  pub variadic_fixed : (dots_of D.variadic).emptied ≡ false
  variadic_fixed = rw fastcall.dots
