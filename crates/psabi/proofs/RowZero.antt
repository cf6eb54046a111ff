-- Row 0 is the psABI: on the shapes of the domain, with any counts left, what the classifier's definitions answer for an aggregate on description 0
-- is what section 3.2.3 says. Both walk at most two eightbytes, or end in memory.
use Prim.Native.Nat.{ℕ, ◌-◌, ◌≤◌, ◌<◌}
use mathlib.Core.Path.{◌≡◌, refl, sym, ap, subst, ◌∙◌}
use mathlib.Core.Bool.{Bool, true, false, cond, not, ◌&&◌}
use mathlib.Core.List.{List, [], ◌∷◌, map}
use mathlib.Core.Option.{Option}
use mathlib.Core.Option.Option.{none, some}
use native.Mathlib.Omega.{arith}
use native.Mathlib.Decide.{dec_le}
use borrow.Author.Tests.{ne_eqb, lt-ltb, le-ltb}
use lib.Dec.{leb}
use lib.ListN.{length, replicate, length-replicate}
use Rattle.shape.specs.declared.Arg.TheVariants.{Aggregate}
use Rattle.shape.specs.declared.Piece.{Piece}
use Rattle.shape.specs.declared.Shape.{Shape}
use Rattle.shape.specs.Lists.{any}
use Rattle.shape.specs.Words.{piece}
use Rattle.shape.specs.Questions.{all_of, is_all_of}
use Rattle.slots.specs.Search.{Search, found, nothing, floats_in}
use Rattle.find.specs.Find.{found_if, floats_at, x87_stack}
use Rattle.eightbytes.specs.Class as ours
use Rattle.eightbytes.specs.declared.Class.TheVariants.{None}
use Rattle.eightbytes.specs.Eightbytes.{cover, mark, classes_after, spoiled, mend, settled, classified, slots_found, eightbytes}
use Rattle.eightbytes.specs.Reach.{fits}
use Rattle.eightbytes.proofs.At.{all_fit, mark_all, marked_all}
use Rattle.describe.specs.declared.Test.TheVariants.{X87Stack, Eightbytes}
use Rattle.describe.specs.declared.Travel.TheVariants.{AsFound}
use Rattle.describe.specs.declared.Short.TheVariants.{Memory}
use Rattle.describe.specs.Description.{rule, rule_short}
use Rattle.abis.specs.Abis.{described, descriptions}
use Rattle.spend.specs.declared.Left.{Left}
use Rattle.find.specs.Matches.{matches}
use Rattle.spend.specs.Ways.{no_mark}
use Rattle.classify.specs.Pass.{pieces, reference, memory}
use Rattle.classify.specs.Classify.{Passed, counts, passed, short_of, slots_in_registers, travel, less_both, or_rest, tried, apply, argument, returns}
use Rattle.psabi.specs.Psabi as psabi
use Rattle.psabi.specs.Psabi.{Class, NO-CLASS, is, Travels, merged_in, classes_from, any_unaligned, eightbytes_in, cleaned, psabi_argument, psabi_result}
use Rattle.psabi.specs.Domain.{is_x87_piece, Domain}
use Rattle.psabi.specs.Reading.{standing, places_of, read_argument, read_result}
use Rattle.psabi.proofs.Clauses.{Regular, Each, above_0, regular, touched}
use Rattle.psabi.proofs.Agree.{rep, Ready, Plain, plain_at, classes_agree}
use Rattle.psabi.proofs.Lone.{Kinds, x87_value, no_x87, kinds, no_stack}
use Rattle.psabi.proofs.Sides.{all_fit_lem, ready, unaligned, small, large, has_class}
use Rattle.psabi.proofs.Ways.{spend, give, in_memory, argument_one, argument_two, result_one, result_two}

-- ---- the row: `described 0`, its rules walked

argument_walk : (i f : ℕ) (shape : Shape) (ps : List Piece) → 0 < shape.size
    → argument (described 0) (counts i f) (Aggregate shape) ps ≡ spend i f (eightbytes 16 shape ps)
unfolding argument apply matches described descriptions found_if travel slots_in_registers short_of spend
argument_walk i f shape ps h = rw (ne_eqb shape.size 0 (omega arith)) (go (eightbytes 16 shape ps))
  where
    go : (s : Search)
        → tried s (described 0) (counts i f) (rule_short (Eightbytes 16) AsFound Memory) shape false (passed memory (counts i f)) ≡ spend i f s
    go nothing = refl
    go (found ss) = by_cost (leb (length ss - floats_in ss) i && leb (floats_in ss) f)
      where
        by_cost : (b : Bool)
            → or_rest
            (cond b (some (passed (pieces ss) (less_both (length ss - floats_in ss) (floats_in ss) (counts i f)))) (some (passed memory (counts i f))))
            (passed memory (counts i f))
            ≡ cond b (passed (pieces ss) (counts (i - (length ss - floats_in ss)) (f - floats_in ss))) (passed memory (counts i f))
        by_cost true = refl
        by_cost false = refl

-- a result that the x87 stack has no place for
return_walk : (i f : ℕ) (shape : Shape) (ps : List Piece) → 0 < shape.size → x87_stack shape ps ≡ nothing
    → returns (described 0) (counts i f) (Aggregate shape) ps ≡ give i f (eightbytes 16 shape ps)
unfolding returns apply matches described descriptions found_if travel slots_in_registers give
return_walk i f shape ps h x = rw (ne_eqb shape.size 0 (omega arith), x) (go (eightbytes 16 shape ps))
  where
    go : (s : Search)
        → tried s (described 0) (counts i f) (rule (Eightbytes 16) AsFound) shape true (passed reference (counts (i - 1) f)) ≡ give i f s
    go nothing = refl
    go (found ss) = refl

-- ---- the eightbytes of either side

our_large : (shape : Shape) (ps : List Piece) → 16 < shape.size → eightbytes 16 shape ps ≡ nothing
unfolding eightbytes classified slots_found
our_large shape ps h = rw (lt-ltb 16 shape.size h)

module _ (shape : Shape) (ps : List Piece) (h : shape.size ≤ 16) (rs : Each (Regular shape.size) ps) where
  abbrev n : ℕ
  n = eightbytes_in shape.size

  all_marked : (b : Bool) → any_unaligned ps ≡ b → classes_after (replicate n None) ps ≡ cond b none (some (mark_all (replicate n None) ps))
  all_marked b u =
      let a : all_fit (length (replicate n None)) ps ≡ not b = rw (length-replicate n None) (all_fit_lem shape.size ps h rs ∙ ap not u) in
      marked_all (replicate n None) ps ∙ rw a (go b)
    where
      go : (b : Bool) → cond (not b) (some (mark_all (replicate n None) ps)) none ≡ cond b none (some (mark_all (replicate n None) ps))
      go true = refl
      go false = refl

  our_unaligned : any_unaligned ps ≡ true → eightbytes 16 shape ps ≡ nothing
  unfolding eightbytes classified slots_found
  our_unaligned u = rw (le-ltb 16 shape.size h, all_marked true u)

  our_classes : any_unaligned ps ≡ false → any is_x87_piece ps ≡ false → eightbytes 16 shape ps ≡ slots_found shape.size (settled (map rep (classes_from ps 0 n)))
  unfolding eightbytes classified
  our_classes u x = rw (le-ltb 16 shape.size h, all_marked false u, classes_agree ps n (ready shape.size ps h rs u) x)

-- ---- what agrees in memory, on one eightbyte and on two agrees on every shape of the domain in which the x87 stack has no part

module _ {shape : Shape} {ps : List Piece} (d : Domain shape ps) (f : Search → Option Travels) (g : Option (List Class) → Travels)
    (in_none : f nothing ≡ some (g none))
    (in_one : (c : Class) → Plain c → is NO-CLASS c ≡ false → f (slots_found shape.size (settled (map rep (c ∷ [])))) ≡ some (g (cleaned (c ∷ []))))
    (in_two : (c e : Class) → Plain c → Plain e → is NO-CLASS c ≡ false → is NO-CLASS e ≡ false
    → f (slots_found shape.size (settled (map rep (c ∷ e ∷ [])))) ≡ some (g (cleaned (c ∷ e ∷ []))))
  where
    abbrev Agrees : Type 0
    Agrees = f (eightbytes 16 shape ps) ≡ some (g (psabi.classified shape.size ps))

    in_large : 16 < shape.size → Agrees
    in_large h = ap f (our_large shape ps h) ∙ in_none ∙ sym (ap (λ o. some (g o)) (large shape.size ps h (regular d)))

    module _ (h : shape.size ≤ 16) where
      in_unaligned : any_unaligned ps ≡ true → Agrees
      in_unaligned u = ap f (our_unaligned shape ps h (regular d) u) ∙ in_none ∙ sym (ap (λ o. some (g o)) (unaligned shape.size ps u))

      in_classes : any is_x87_piece ps ≡ false → any_unaligned ps ≡ false → Agrees
      unfolding classes_from
      in_classes x u = ap f (our_classes shape ps h (regular d) u x) ∙ go (dec_le shape.size 8) ∙ sym (ap (λ o. some (g o)) (small shape.size ps h u))
        where
          rs : Each Ready ps
          rs = ready shape.size ps h (regular d) u

          z : 0 < shape.size
          z = above_0 d

          Of : ℕ → Type 0
          Of n = f (slots_found shape.size (settled (map rep (classes_from ps 0 n)))) ≡ some (g (cleaned (classes_from ps 0 n)))

          go : Dec (shape.size ≤ 8) → Of (eightbytes_in shape.size)
          go (yes s) =
              let n : 1 ≡ eightbytes_in shape.size = omega (arith, z) in
              subst Of n (in_one _ (plain_at ps 1 rs x 0 (omega arith)) (has_class ps NO-CLASS 0 (touched d 0 (omega (arith, z)))))
          go (no s) =
              let n : 2 ≡ eightbytes_in shape.size = omega (arith, z) in
              subst Of n
              (in_two _ _ (plain_at ps 2 rs x 0 (omega arith)) (plain_at ps 2 rs x 1 (omega arith))
              (has_class ps NO-CLASS 0 (touched d 0 (omega (arith, z)))) (has_class ps NO-CLASS 1 (touched d 1 (omega arith))))

    in_all : (shape.size ≤ 16 → any is_x87_piece ps ≡ false) → Agrees
    in_all x = go (dec_le shape.size 16) (any_unaligned ps) refl
      where
        go : Dec (shape.size ≤ 16) → (u : Bool) → any_unaligned ps ≡ u → Agrees
        go (no h) u e = in_large (omega arith)
        go (yes h) true u = in_unaligned h u
        go (yes h) false u = in_classes h (x h) u

-- ---- the theorem

-- an X87 value alone: on the stack as an argument, in st0 as a result
module _ (i f : ℕ) (shape : Shape) (e : shape.size ≡ 16) where
  x87_argument : read_argument (counts i f) (spend i f (eightbytes 16 shape (piece 3 16 16 0 ∷ []))) ≡ some (psabi_argument (standing i f) shape.size (piece 3 16 16 0 ∷ []))
  unfolding eightbytes classified classes_after mark cover fits settled spoiled mend slots_found ours.merge ours.same ours.code spend psabi_argument psabi.classified any_unaligned classes_from merged_in psabi.merge psabi.low_of psabi.high_of cleaned psabi.any_memory psabi.lone_x87_up psabi.is_one_vector psabi.converted psabi.passing
  x87_argument = rw e

  x87_result : read_result (counts i f) (returns (described 0) (counts i f) (Aggregate shape) (piece 3 16 16 0 ∷ []))
      ≡ some (psabi_result (standing i f) shape.size (piece 3 16 16 0 ∷ []))
  unfolding returns apply matches described descriptions found_if x87_stack is_all_of all_of floats_at travel slots_in_registers places_of psabi_result psabi.classified any_unaligned classes_from merged_in psabi.merge psabi.low_of psabi.high_of cleaned psabi.any_memory psabi.lone_x87_up psabi.is_one_vector psabi.converted psabi.returning
  x87_result = rw e

abbrev ArgumentAgrees : ℕ → ℕ → Shape → List Piece → Type 0
ArgumentAgrees i f shape ps =
    read_argument (counts i f) (argument (described 0) (counts i f) (Aggregate shape) ps) ≡ some (psabi_argument (standing i f) shape.size ps)

abbrev ResultAgrees : ℕ → ℕ → Shape → List Piece → Type 0
ResultAgrees i f shape ps =
    read_result (counts i f) (returns (described 0) (counts i f) (Aggregate shape) ps) ≡ some (psabi_result (standing i f) shape.size ps)

-- on every shape of the domain, with so many integer and float registers left
module _ (shape : Shape) (ps : List Piece) (d : Domain shape ps) (i f : ℕ) (hi : i ≤ 6) (hf : f ≤ 8) where
  pub argument_is_psabi : ArgumentAgrees i f shape ps
  unfolding psabi_argument spend
  argument_is_psabi = ap (read_argument (counts i f)) (argument_walk i f shape ps (above_0 d)) ∙ go (kinds shape ps d)
    where
      go : Kinds shape ps → read_argument (counts i f) (spend i f (eightbytes 16 shape ps)) ≡ some (psabi_argument (standing i f) shape.size ps)
      go (no_x87 x) =
          in_all d (λ s. read_argument (counts i f) (spend i f s)) (psabi.passed (standing i f)) refl
          (λ c. argument_one i f shape.size hi hf) (λ c e. argument_two i f shape.size hi hf) x
      go (x87_value l) = rw l.only (x87_argument i f shape l.whole)

  pub result_is_psabi : ResultAgrees i f shape ps
  unfolding psabi_result
  result_is_psabi = go (kinds shape ps d)
    where
      go : Kinds shape ps → ResultAgrees i f shape ps
      go (no_x87 x) =
          ap (read_result (counts i f)) (return_walk i f shape ps (above_0 d) (no_stack shape ps d x))
          ∙ in_all d (λ s. read_result (counts i f) (give i f s)) (psabi.returned (standing i f)) (in_memory i f hi)
          (λ c. result_one i f shape.size hi hf) (λ c e. result_two i f shape.size hi hf) x
      go (x87_value l) = rw l.only (x87_result i f shape l.whole)

-- ---- what is left afterwards: no more than before, and no mark

pub record Stays (i f : ℕ) (left : Left) : Type 0 where
  pub integer≤ : left.integer ≤ i
  pub float≤ : left.float ≤ f
  pub unmarked : left.integers_only ≡ no_mark

module _ (i f : ℕ) (shape : Shape) (ps : List Piece) (h : 0 < shape.size) where
  pub argument_stays : Stays i f (argument (described 0) (counts i f) (Aggregate shape) ps).left
  unfolding spend
  argument_stays = rw (argument_walk i f shape ps h) (go (eightbytes 16 shape ps))
    where
      by_cost : (b : Bool) (p q : Passed) → Stays i f p.left → Stays i f q.left → Stays i f (cond b p q).left
      by_cost true p q x y = x
      by_cost false p q x y = y

      go : (s : Search) → Stays i f (spend i f s).left
      go nothing = record { integer≤ = omega arith; float≤ = omega arith; unmarked = refl }
      go (found ss) =
          by_cost (leb (length ss - floats_in ss) i && leb (floats_in ss) f)
          (passed (pieces ss) (counts (i - (length ss - floats_in ss)) (f - floats_in ss)))
          (passed memory (counts i f))
          (record { integer≤ = omega arith; float≤ = omega arith; unmarked = refl })
          (record { integer≤ = omega arith; float≤ = omega arith; unmarked = refl })

  pub result_stays : Stays i f (returns (described 0) (counts i f) (Aggregate shape) ps).left
  unfolding returns apply matches described descriptions found_if travel slots_in_registers
  result_stays = rw (ne_eqb shape.size 0 (omega arith)) (go (x87_stack shape ps) (eightbytes 16 shape ps))
    where
      go : (s t : Search)
          → Stays i f
          (tried s (described 0) (counts i f) (rule X87Stack AsFound) shape true
          (tried t (described 0) (counts i f) (rule (Eightbytes 16) AsFound) shape true (passed reference (counts (i - 1) f)))
          ).left
      go (found ss) t = record { integer≤ = omega arith; float≤ = omega arith; unmarked = refl }
      go nothing (found ss) = record { integer≤ = omega arith; float≤ = omega arith; unmarked = refl }
      go nothing nothing = record { integer≤ = omega arith; float≤ = omega arith; unmarked = refl }
