-- The levels that are found are those of the entries' types.
use Prim.Native.Nat.{ℕ, suc, ◌+◌, ◌-◌, ◌≤◌, ◌<◌, min, max}
use mathlib.Core.Path.{◌≡◌, refl, ap, ◌∙◌}
use mathlib.Core.Bool.{Bool, true, false, ◌&&◌, not, cond}
use mathlib.Core.List.{List, [], ◌∷◌}
use mathlib.Core.Logic.{⊎_elim}
use native.Mathlib.Nat.{eq-or-lt_of_le}
use native.Mathlib.Omega.{arith}
use borrow.Author.Tests.{lt-ltb, le-ltb, ltb-true}
use lib.Dec.{ltb}
use lib.ListN.{length, take, get_or, set}
use Rattle.std.proofs.lemmas.List.{get_or-take}
use lib.Seq.{length-take-le, get_or-set_same, get_or-set_other}
use Rattle.shape.specs.Lists.{every}
use Rattle.shape.specs.Numbers.{accepted, bad_type, too_deep, most_word}
use Rattle.shape.proofs.Bools.{both_true}
use Rattle.shape.specs.declared.refusals.Refusal.{Refusal}
use Rattle.shape.specs.Refusals.{number_of}
use Rattle.shape.proofs.Refused.{number_refuses}
use Rattle.checks.specs.Check.{refuse}
use Rattle.types.specs.declared.Form.{Form}
use Rattle.types.specs.Entries.{most_levels, Meaning, one, several, repeated, referred, refers_back, entry_at, meaning_at, form_of, form_meaning, all_refer_back}
use Rattle.types.specs.Tree.{Tree, align_of, takes_of, levels_of, levels_in}
use Rattle.types.specs.Trees.{offset_from, laid_out, tree_of, type_at, wanted, entries, back_refusal, references_refusal}
use Rattle.types.specs.Table.{level_above, level_of, Levelled}
use Rattle.types.proofs.Reading.{form_means}
use Rattle.types.proofs.Types.{own_type}
use Rattle.types.proofs.Sizes.{max_regroup}

-- the deepest of some entries
unfoldable deepest : (ℕ → Tree) → List ℕ → ℕ
deepest g [] = 0
deepest g (m ∷ ms) = max (levels_of (g m)) (deepest g ms)

laid_levels : (g : ℕ → Tree) (overlaid : Bool) (end : ℕ) (ms : List ℕ) → levels_in (laid_out g overlaid end ms) ≡ deepest g ms
unfolding laid_out levels_of deepest
laid_levels g overlaid end [] = refl
laid_levels g overlaid end (m ∷ ms) = rw (laid_levels g overlaid (offset_from overlaid end (align_of (g m)) + takes_of (g m)) ms)

tree_levels : (g : ℕ → Tree) (x : Meaning) → levels_of (tree_of g x) ≡ suc (deepest g (referred x))
unfolding tree_of levels_of referred deepest
tree_levels g (one s) = refl
tree_levels g (several overlaid ms) = ap suc (laid_levels g overlaid 0 ms)
tree_levels g (repeated m n) = omega arith

-- what is found from the levels before it: 0 where an entry isn't earlier, else one more than the deepest
late_none : (lv : List ℕ) (e best : ℕ) (ms : List ℕ) → every (λ m. ltb m e) ms ≡ false → level_above lv e best ms ≡ 0
unfolding level_above every
late_none lv e best [] h = cc
late_none lv e best (m ∷ ms) h = go (ltb m e) h (λ (q : every (λ m. ltb m e) ms ≡ false). late_none lv e (max best (get_or lv m 0)) ms q)
  where
    go : (b : Bool) → (b && every (λ m. ltb m e) ms) ≡ false → (every (λ m. ltb m e) ms ≡ false → level_above lv e (max best (get_or lv m 0)) ms ≡ 0)
        → cond b (level_above lv e (max best (get_or lv m 0)) ms) 0 ≡ 0
    go true q rest = rest q
    go false q rest = refl

module _ (lv : List ℕ) (T : ℕ → Tree) (e : ℕ) (is : (m : ℕ) → m < e → get_or lv m 0 ≡ min (levels_of (T m)) most_word) where
  above_is : (ms : List ℕ) → every (λ m. ltb m e) ms ≡ true → (best b : ℕ) → best ≡ min b most_word
      → level_above lv e best ms ≡ min (suc (max b (deepest T ms))) most_word
  unfolding level_above every deepest
  above_is [] h best b eb = omega arith
  above_is (m ∷ ms) h best b eb =
      let both = both_true (ltb m e) (every (λ m. ltb m e) ms) h in
      let l : get_or lv m 0 ≡ min (levels_of (T m)) most_word = is m (ltb-true m e both.0) in
      rw both.0 (above_is ms both.1 (max best (get_or lv m 0)) (max b (levels_of (T m))) (omega arith)
      ∙ ap (λ (n : ℕ). min (suc n) most_word) (max_regroup b (levels_of (T m)) (deepest T ms)))

-- an entry's levels by those of the entries before it
module _ (ts ms lv : List ℕ) (e : ℕ) (fits : e ≤ length lv) (L : Levelled ts ms lv e) (form : Form) (ef : form ≡ form_of (entry_at ts e)) where
  abbrev early : List ℕ
  early = take e lv

  abbrev seen : ℕ
  seen = level_of early (length early) (form_meaning ms form)

  same_level : seen ≡ level_of early e (meaning_at ts ms e)
  same_level =
      let l : length early ≡ e = length-take-le e lv fits in
      rw (l, ef, form_means ms (entry_at ts e))

  early_is : (m : ℕ) → m < e → get_or early m 0 ≡ min (levels_of (type_at ts ms m)) most_word
  early_is m h = get_or-take e lv m 0 h ∙ L.level_is m h

  -- found, or an entry that isn't earlier
  found : (b : Bool) → refers_back e (meaning_at ts ms e) ≡ b → (0 < seen → (b ≡ true) × (seen ≡ min (levels_of (type_at ts ms e)) most_word)) × (0 ≡ seen → b ≡ false)
  found true h =
      let z : 0 ≡ min 0 most_word = omega arith in
      let a = above_is early (type_at ts ms) e early_is (referred (meaning_at ts ms e)) h 0 0 z in
      let l : levels_of (type_at ts ms e) ≡ suc (deepest (type_at ts ms) (referred (meaning_at ts ms e))) =
      rw (own_type ts ms e h) (tree_levels (type_at ts ms) (meaning_at ts ms e)) in
      let y : max 0 (deepest (type_at ts ms) (referred (meaning_at ts ms e))) ≡ deepest (type_at ts ms) (referred (meaning_at ts ms e)) = omega arith in
      let r : seen ≡ min (levels_of (type_at ts ms e)) most_word = same_level ∙ a ∙ rw (y, l) in
      (λ nz. (refl, r), λ n. absurd (omega arith))
  found false h =
      let r : seen ≡ 0 = same_level ∙ late_none early e 0 (referred (meaning_at ts ms e)) h in
      (λ nz. absurd (omega arith), λ n. refl)

  module _ (lt : e < entries ts) (inv : all_refer_back ts ms 0 (entries ts) ≡ all_refer_back ts ms e (entries ts - e)) where
    one_more : entries ts - e ≡ suc (entries ts - (e + 1))
    one_more = omega arith

    pub levels_late : 0 ≡ seen → bad_type ≡ back_refusal ts ms
    unfolding all_refer_back
    levels_late z = rw (inv, one_more, (found _ refl).1 z)

    module _ (l : ℕ) (el : l ≡ seen) (nz : 0 < l) where
      seen_some : 0 < seen
      seen_some = omega arith

      pub levels_next : all_refer_back ts ms 0 (entries ts) ≡ all_refer_back ts ms (e + 1) (entries ts - (e + 1))
      unfolding all_refer_back
      levels_next = rw (inv, one_more, ((found _ refl).0 seen_some).0)

      pub levels_more : e < length lv → Levelled ts ms (set lv e l) (e + 1)
      levels_more room = record {
        level_is = λ m h. ⊎_elim
            (λ (q : m ≡ e). rw q (get_or-set_same lv e l 0 room ∙ el ∙ ((found _ refl).0 seen_some).1))
            (λ (q : m < e). get_or-set_other lv e m l 0 (λ (r : m ≡ e). omega arith) ∙ L.level_is m q)
            (eq-or-lt_of_le {n = m} {m = e} (omega arith));
      }

module _ (ts ms lv : List ℕ) (e : ℕ) (ge : entries ts ≤ e) where
  pub levels_end : all_refer_back ts ms 0 (entries ts) ≡ all_refer_back ts ms e (entries ts - e) → accepted ≡ back_refusal ts ms
  unfolding all_refer_back
  levels_end inv = let s : entries ts - e ≡ 0 = omega arith in rw (inv, s)

  pub levels_all : Levelled ts ms lv e → Levelled ts ms lv (entries ts)
  levels_all L = record { level_is = λ m h. L.level_is m (omega arith) }

pub levels_none : (ts ms lv : List ℕ) → Levelled ts ms lv 0
levels_none ts ms lv = record { level_is = λ m h. absurd (omega arith) }

-- ---- what is refused for them

pub refers_badly : (ts ms : List ℕ) (r : Refusal) → number_of r ≡ back_refusal ts ms → number_of r ≡ references_refusal ts ms
unfolding references_refusal
refers_badly ts ms r e = by (all_refer_back ts ms 0 (entries ts)) e
  where
    by : (b : Bool) → number_of r ≡ refuse (not b) bad_type accepted
        → number_of r ≡ refuse (not b) bad_type (refuse (ltb most_levels (levels_of (wanted ts ms))) too_deep accepted)
    by true h = absurd (number_refuses r h)
    by false h = h

module _ (ts ms lv : List ℕ) (back : accepted ≡ back_refusal ts ms) (L : Levelled ts ms lv (entries ts)) (some : 0 < entries ts) where
  all_back : (b : Bool) → accepted ≡ refuse (not b) bad_type accepted → b ≡ true
  all_back true h = refl
  all_back false h = absurd (omega arith)

  last_level : get_or lv (entries ts - 1) 0 ≡ min (levels_of (wanted ts ms)) most_word
  last_level = L.level_is (entries ts - 1) (omega arith)

  pub too_deep_for : most_levels < get_or lv (entries ts - 1) 0 → too_deep ≡ references_refusal ts ms
  unfolding references_refusal
  too_deep_for d = rw (all_back _ back, lt-ltb most_levels (levels_of (wanted ts ms)) (omega (arith, last_level)))

  pub deep_enough : get_or lv (entries ts - 1) 0 ≤ most_levels → accepted ≡ references_refusal ts ms
  unfolding references_refusal
  deep_enough d = rw (all_back _ back, le-ltb most_levels (levels_of (wanted ts ms)) (omega (arith, last_level)))
