-- Rows and levels as the code makes them, in the form in which each function's proof meets them.
use Prim.Native.Nat.{ℕ, suc, ◌+◌, ◌-◌, ◌≤◌, ◌<◌, min, max}
use mathlib.Core.Path.{◌≡◌}
use mathlib.Core.Bool.{Bool}
use mathlib.Core.List.{List}
use native.Mathlib.Omega.{arith}
use borrow.Author.Tests.{lt-ltb, le-ltb}
use lib.ListN.{get_or}
use Rattle.shape.specs.Numbers.{accepted}
use Rattle.shape.specs.Arithmetic.{plus, rounded}
use Rattle.shape.specs.declared.refusals.Refusal.{Refusal}
use Rattle.shape.specs.Refusals.{number_of}
use Rattle.checks.proofs.Check.{else_number, number_leaves}
use Rattle.types.specs.Trees.{entries}
use Rattle.types.specs.declared.Row.{Row}
use Rattle.types.specs.declared.Form.{Form}
use Rattle.types.specs.Entries.{nowhere, entry_at, members_from, form_of, form_meaning}
use Rattle.types.specs.Table.{row, row_at, put_row, place_from, members_row, row_of, row_here, refusal_here, form_refusal, filled_refusal, filled, level_above}
use Rattle.types.proofs.Reading.{members_step, members_end, form_means, form_refuses}

-- ---- levels

module _ (lv ms : List ℕ) (e first count : ℕ) where
  module _ (i best whole : ℕ) (inv : whole ≡ level_above lv e best (members_from ms (first + i) (count - i))) where
    module _ (lt : i < count) (m : ℕ) (em : m ≡ get_or ms (first + i) nowhere) where
      pub level_late : e ≤ m → 0 ≡ whole
      unfolding level_above
      level_late h = rw (inv, members_step ms first count i lt m em, le-ltb _ _ h)

      pub level_turn : m < e → (w : ℕ) → w ≡ get_or lv m 0 → (b : ℕ) → b ≡ max best w → whole ≡ level_above lv e b (members_from ms (first + (i + 1)) (count - (i + 1)))
      unfolding level_above
      level_turn h w ew b eb = rw (inv, members_step ms first count i lt m em, lt-ltb _ _ h, ← ew, ← eb)

    pub level_end : count ≤ i → (r : ℕ) → r ≡ plus best 1 → r ≡ whole
    unfolding level_above
    level_end h r er = rw (inv, members_end ms first count i h) er

-- ---- rows

module _ (tb ms : List ℕ) (overlaid : Bool) (first count : ℕ) where
  module _ (i end far align leaves : ℕ) (whole : Row) (inv : whole ≡ members_row tb overlaid end far align leaves (members_from ms (first + i) (count - i))) where
    pub row_turn : i < count → (m : ℕ) → m ≡ get_or ms (first + i) nowhere → (r : Row) → r ≡ row_at tb m → (o : ℕ) → o ≡ place_from overlaid end r.align
        → (en : ℕ) → en ≡ plus o r.takes → (f : ℕ) → f ≡ plus o r.reach → (fa : ℕ) → fa ≡ max far f → (al : ℕ) → al ≡ max align r.align
        → (l : ℕ) → l ≡ plus leaves r.leaves → (le : ℕ) → le ≡ min l 1025
        → whole ≡ members_row tb overlaid en fa al le (members_from ms (first + (i + 1)) (count - (i + 1)))
    unfolding members_row
    row_turn lt m em r er o eo en een f ef fa efa al eal l el le ele =
        rw (inv, members_step ms first count i lt m em, ele, el, eal, efa, ef, een, eo, er)

    pub row_end : count ≤ i → (s : ℕ) → s ≡ rounded far align → row s s align leaves ≡ whole
    unfolding members_row
    row_end h s es = rw (inv, members_end ms first count i h, es)

-- ---- rows filled, up to the first that is refused

module _ (ts ms tb : List ℕ) (e : ℕ) where
  module _ (lt : e < entries ts) (f : Form) (ef : f ≡ form_of (entry_at ts e)) (r : Row) (er : r ≡ row_of tb (form_meaning ms f))
      (q : ℕ) (eq : q ≡ filled_refusal ts ms tb e (entries ts - e)) (vs : List ℕ) (ev : vs ≡ filled ts ms tb e (entries ts - e)) where
    one_more : entries ts - e ≡ suc (entries ts - (e + 1))
    one_more = omega arith

    own_row : r ≡ row_here ts ms tb e
    own_row = rw (er, ef, form_means ms (entry_at ts e))

    own_refusal : (n : ℕ) → n ≡ form_refusal f r → n ≡ refusal_here ts ms tb e
    own_refusal n h = rw (← own_row, form_refuses (entry_at ts e) r, ← ef) h

    pub fill_refused : (n : Refusal) → number_of n ≡ form_refusal f r → (number_of n ≡ q) × (tb ≡ vs)
    unfolding filled_refusal filled
    fill_refused n h = (rw (eq, one_more, ← own_refusal _ h) (else_number n _), rw (ev, one_more, ← own_refusal _ h) (number_leaves n _ tb))

    pub fill_next : accepted ≡ form_refusal f r → (more : List ℕ) → more ≡ put_row tb e r
        → (q ≡ filled_refusal ts ms more (e + 1) (entries ts - (e + 1))) × (vs ≡ filled ts ms more (e + 1) (entries ts - (e + 1)))
    unfolding filled_refusal filled
    fill_next h more em = (rw (eq, one_more, ← own_refusal _ h, em, own_row), rw (ev, one_more, ← own_refusal _ h, em, own_row))

  pub fill_end : entries ts ≤ e → (q : ℕ) → q ≡ filled_refusal ts ms tb e (entries ts - e) → (vs : List ℕ) → vs ≡ filled ts ms tb e (entries ts - e)
      → (accepted ≡ q) × (tb ≡ vs)
  unfolding filled_refusal filled
  fill_end ge q eq vs ev = let s : entries ts - e ≡ 0 = omega arith in (rw (eq, s), rw (ev, s))
