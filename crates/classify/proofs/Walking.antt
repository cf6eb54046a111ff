-- The laws of the rule walk: what one rule's search and step decide of the list from there on, and that a rule that doesn't decide leaves
-- others behind it.
use Prim.Native.Nat.{ℕ}
use mathlib.Core.Path.{◌≡◌, refl, ap, sym, ◌∙◌}
use mathlib.Core.List.{List, [], ◌∷◌}
use mathlib.Core.Bool.{Bool, true, false, ◌&&◌, not}
use native.Mathlib.Omega.{arith}
use lib.Dec.{ltb}
use lib.ListN.{length}
use Rattle.std.specs.Prelude.{Option, Some, None}
use Rattle.shape.specs.declared.Shape.{Shape}
use Rattle.shape.specs.declared.Piece.{Piece}
use Rattle.slots.specs.declared.Slot.{Slot}
use Rattle.slots.specs.declared.Found.{Found}
use Rattle.slots.specs.Search.{Search, found, nothing, counted, found_of, floats_in}
use Rattle.describe.specs.declared.Rule.{Rule}
use Rattle.describe.specs.declared.Test.{Test}
use Rattle.rows.specs.declared.Rules.{Rules}
use Rattle.describe.specs.declared.Terms.{Terms}
use Rattle.describe.specs.Description.{Decides, Ends}
use Rattle.rows.specs.Row.{first_rule, listed}
use Rattle.rows.proofs.Packed.{ends_later}
use Rattle.spend.specs.declared.Left.{Left}
use Rattle.spend.specs.declared.Decision.{Decision}
use Rattle.spend.specs.Ways.{marked}
use Rattle.spend.specs.Spending.{travel_of}
use Rattle.find.specs.declared.Matched.{Matched}
use Rattle.find.specs.Matches.{matches, source_of, classes_by, matched_by}
use Rattle.classify.specs.Spending.{wanted_by, by_rules}
use Rattle.classify.specs.Parts.{decided, walked}
use Rattle.classify.proofs.Ends.{decides_found, decides_step}

-- ---- what a search's counts say of its slots

found_nothing : (m : Search) → found_of m ≡ None → m ≡ nothing
unfolding found_of
found_nothing (found ss) e = absurd (let z : ◌≡◌ {A = ℕ} 0 1 = cc in omega arith)
found_nothing nothing e = refl

record FoundAs (m : Search) (n k : ℕ) : Type 0 where
  ss : List Slot
  is : m ≡ found ss
  count : n ≡ length ss
  floats : k ≡ floats_in ss

found_slots : (m : Search) (f : Found) → found_of m ≡ Some f → FoundAs m f.count f.floats
unfolding found_of
found_slots (found ss) f e =
    let z : f ≡ counted (length ss) (floats_in ss) = cc in
    record { ss = ss; is = refl; count = ap (λ (x : Found). x.count) z; floats = ap (λ (x : Found). x.floats) z }
found_slots nothing f e = absurd (let z : ◌≡◌ {A = ℕ} 0 1 = cc in omega arith)

-- ---- one rule of a list

-- under integers-only an argument's rule that found a float is skipped
abbrev skipped : Left → Bool → ℕ → Bool
skipped left returning floats = (marked left && not returning) && ltb 0 floats

no_float : (b : Bool) → (b && ltb 0 (floats_in [])) ≡ true → ⊥
unfolding floats_in
no_float true t = let z : ◌≡◌ {A = ℕ} 0 1 = cc in omega arith
no_float false t = let z : ◌≡◌ {A = ℕ} 0 1 = cc in omega arith

module _ (T : Terms) (returning : Bool) (left : Left) (shape : Shape) (ps : List Piece) (rule : Rule) (rest : List Rule) where
  step_nothing : matches T.banks rule.when shape ps ≡ nothing
      → walked T returning left (rule ∷ rest) shape ps ≡ walked T returning left rest shape ps
  unfolding walked by_rules
  step_nothing e = rw e

  module _ (ss : List Slot) (e : matches T.banks rule.when shape ps ≡ found ss) where
    step_skipped : skipped left returning (floats_in ss) ≡ true → walked T returning left (rule ∷ rest) shape ps ≡ walked T returning left rest shape ps
    unfolding walked by_rules
    step_skipped h = rw (e, h)

    module _ (h : skipped left returning (floats_in ss) ≡ false) where
      step_short : travel_of T.banks T.return_pointer returning left rule shape.size (wanted_by rule.when shape.size ss) ≡ None
          → walked T returning left (rule ∷ rest) shape ps ≡ walked T returning left rest shape ps
      unfolding walked by_rules
      step_short t = rw (e, h, t)

      step_decided : (d : Decision)
          → travel_of T.banks T.return_pointer returning left rule shape.size (wanted_by rule.when shape.size ss) ≡ Some d
          → walked T returning left (rule ∷ rest) shape ps ≡ decided d (classes_by rule.when shape ps)
      unfolding walked by_rules
      step_decided d t = rw (e, h, t)

-- ---- the loop of `apply`, with what the code knows as premises

-- the rules that are left end with one that decides, and decide what the whole list decides
pub record Remaining (T : Terms) (list : Rules) (returning : Bool) (left : Left) (shape : Shape) (ps : List Piece) (R : Rules) : Type 0 where
  pub ends : Ends (listed R)
  pub decide : walked T returning left (listed list) shape ps ≡ walked T returning left (listed R) shape ps

pub whole_list : (T : Terms) (list : Rules) → Ends (listed list) → (returning : Bool) (left : Left) (shape : Shape) (ps : List Piece)
    → Remaining T list returning left shape ps list
whole_list T list ends returning left shape ps = record { ends = ends; decide = refl }

module _ (T : Terms) (list : Rules) (returning : Bool) (left : Left) (shape : Shape) (ps : List Piece)
    (R : Rules) (inv : Remaining T list returning left shape ps R)
    (these R' : Rules) (next : listed R ≡ first_rule these ∷ listed R') (when : Test) (ew : when ≡ (first_rule these).when) (s : Matched) (esw : s ≡ matched_by T.banks when shape ps) where
  abbrev rule : Rule
  rule = first_rule these

  es : s ≡ matched_by T.banks rule.when shape ps
  es = rw (← ew) esw

  opened : walked T returning left (listed list) shape ps ≡ walked T returning left (rule ∷ listed R') shape ps
  opened = inv.decide ∙ ap (λ (rules : List Rule). walked T returning left rules shape ps) next

  -- where the rule doesn't decide, the rules behind it are left
  goes_on : (Decides rule → ⊥) → walked T returning left (rule ∷ listed R') shape ps ≡ walked T returning left (listed R') shape ps
      → Remaining T list returning left shape ps R'
  goes_on n w = record { ends = ends_later rule (listed R') (rw next at inv.ends) n; decide = opened ∙ w }

  found_is : s.found ≡ found_of (matches T.banks rule.when shape ps)
  unfolding matched_by
  found_is = rw es

  source_is : s.source ≡ source_of rule.when shape.size
  unfolding matched_by
  source_is = ap (λ (x : Matched). x.source) es

  classes_are : s.classes ≡ classes_by rule.when shape ps
  unfolding matched_by
  classes_are = ap (λ (x : Matched). x.classes) es

  module _ (e : s.found ≡ None) where
    none : matches T.banks rule.when shape ps ≡ nothing
    none = found_nothing _ (sym found_is ∙ e)

    pub nothing_next : Remaining T list returning left shape ps R'
    nothing_next =
        goes_on (λ (d : Decides rule). let p : nothing ≡ found [] = sym none ∙ decides_found T.banks rule shape ps d in
        let z : ◌≡◌ {A = ℕ} 0 1 = cc in omega arith) (step_nothing T returning left shape ps rule _ none)

  module _ (f : Found) (e : s.found ≡ Some f) where
    some : FoundAs (matches T.banks rule.when shape ps) f.count f.floats
    some = found_slots _ f (sym found_is ∙ e)

    module _ (h : skipped left returning f.floats ≡ true) where
      skip : skipped left returning (floats_in some.ss) ≡ true
      skip = rw (← some.floats) h

      pub skipped_next : Remaining T list returning left shape ps R'
      skipped_next =
          goes_on (λ (d : Decides rule). let p : found some.ss ≡ found [] = sym some.is ∙ decides_found T.banks rule shape ps d in
          let q : some.ss ≡ [] = cc in
          let t : skipped left returning (floats_in []) ≡ true = rw q at skip in no_float (marked left && not returning) t)
          (step_skipped T returning left shape ps rule _ some.ss some.is skip)

    module _ (h : skipped left returning f.floats ≡ false) (first : Rule) (ef : first ≡ first_rule these) (t : Option Decision)
        (et : t ≡ travel_of T.banks T.return_pointer returning left first shape.size (record { count = f.count; floats = f.floats; source = s.source })) where
      kept : skipped left returning (floats_in some.ss) ≡ false
      kept = rw (← some.floats) h

      travelled : t ≡ travel_of T.banks T.return_pointer returning left rule shape.size (wanted_by rule.when shape.size some.ss)
      travelled =
          let eu : s.source ≡ source_of rule.when shape.size = source_is in
          let en : f.count ≡ length some.ss = some.count in
          let em : f.floats ≡ floats_in some.ss = some.floats in
          let el : first ≡ rule = ef in
          cc

      pub short_next : t ≡ None → Remaining T list returning left shape ps R'
      short_next x =
          goes_on (λ (d : Decides rule). decides_step _ _ _ _ _ _ _ d (sym travelled ∙ x))
          (step_short T returning left shape ps rule _ some.ss some.is kept (sym travelled ∙ x))

      pub decided_here : (d : Decision) → t ≡ Some d → decided d s.classes ≡ walked T returning left (listed list) shape ps
      decided_here d x =
          ap (decided d) classes_are
          ∙ sym (opened ∙ step_decided T returning left shape ps rule _ some.ss some.is kept d (sym travelled ∙ x))
