-- What `measure` answers and leaves, by the tests that led there.
use Prim.Native.Nat.{ℕ, zero, suc, ◌+◌, ◌%◌, ◌≤◌, ◌<◌, min}
use mathlib.Core.Path.{◌≡◌, refl, sym, ◌∙◌}
use mathlib.Core.Bool.{true, not}
use mathlib.Core.List.{List}
use native.Mathlib.Omega.{arith}
use borrow.Author.Tests.{lt-ltb, le-ltb, ltb-false, eqb-false, not-false}
use lib.Dec.{ltb, eqb}
use lib.ListN.{length}
use Rattle.shape.specs.Numbers.{accepted, no_room}
use Rattle.checks.specs.Check.{refuse, or_else, unless_refused}
use Rattle.shape.specs.declared.refusals.Refusal.{Refusal}
use Rattle.shape.specs.Refusals.{number_of}
use Rattle.shape.proofs.Refused.{number_refuses}
use Rattle.checks.proofs.Check.{else_number, else_regroup, left_alone}
use Rattle.checks.proofs.Accepted.{refuse_none, else_none}
use Rattle.types.specs.Entries.{most_entries, refers_back, meaning_at, all_refer_back}
use Rattle.types.specs.Tree.{levels_of}
use Rattle.types.specs.Trees.{entries, wanted, lists_refusal, references_refusal, trees_refusal, types_refusal}
use Rattle.types.specs.Table.{filled_refusal, filled, table_refusal, measure_refusal, Measured}
use Rattle.types.proofs.Types.{each_back}
use Rattle.types.proofs.Measuring.{fill_right, fill_measured}

-- lists that aren't refused by their lengths
pub record Whole (ts ms : List ℕ) : Type 0 where
  pub parts : length ts % 4 ≡ 0
  pub some : 0 < entries ts
  pub few : entries ts ≤ most_entries

pub whole : (ts ms : List ℕ) → lists_refusal ts ms ≡ accepted → Whole ts ms
unfolding lists_refusal
whole ts ms h =
    let a = refuse_none (ltb 0 (length ts % 4)) 2 _ h in
    let b = refuse_none (eqb (entries ts) 0) 2 _ a.1 in
    let c = refuse_none (ltb most_entries (entries ts)) 2 _ b.1 in
    let z = eqb-false (entries ts) 0 b.0 in
    record { parts = omega (arith, ltb-false 0 (length ts % 4) a.0); some = omega (arith, z); few = ltb-false most_entries (entries ts) c.0 }

pub whole_enough : (ts ms : List ℕ) → accepted ≡ lists_refusal ts ms → (0 < entries ts) × (entries ts ≤ most_entries)
whole_enough ts ms el = let w = whole ts ms (sym el) in (w.some, w.few)

-- and not by their references
pub record Sound (ts ms : List ℕ) : Type 0 where
  pub back : (e : ℕ) → e < entries ts → refers_back e (meaning_at ts ms e) ≡ true
  pub levels : levels_of (wanted ts ms) ≤ 16

pub sound : (ts ms : List ℕ) → references_refusal ts ms ≡ accepted → Sound ts ms
unfolding references_refusal
sound ts ms h =
    let a = refuse_none (not (all_refer_back ts ms 0 (entries ts))) 9 _ h in
    let b = refuse_none (ltb 16 (levels_of (wanted ts ms))) 10 _ a.1 in
    record {
      back = λ e lt. let z : 0 + e ≡ e = omega arith in rw z at (each_back ts ms (entries ts) 0 (not-false _ a.0) e lt);
      levels = ltb-false 16 (levels_of (wanted ts ms)) b.0;
    }

module _ (ts ms tb : List ℕ) where
  -- what `measure` answers, and the table that it leaves
  abbrev pub IsMeasured : ℕ → List ℕ → Type 0
  IsMeasured q vs = (q ≡ measure_refusal ts ms tb) × (vs ≡ unless_refused (table_refusal ts ms tb) (filled ts ms tb 0 (entries ts)) tb)

  pub lists_refused : (r : Refusal) → number_of r ≡ lists_refusal ts ms → IsMeasured (number_of r) tb
  unfolding measure_refusal table_refusal
  lists_refused r e = (
    rw (← else_regroup (lists_refusal ts ms) _ (trees_refusal ts ms 0 (entries ts)), ← e) (else_number r _),
    left_alone _ (filled ts ms tb 0 (entries ts)) tb (λ (z : table_refusal ts ms tb ≡ accepted). number_refuses r (e ∙ (else_none (lists_refusal ts ms) _ z).0)),
  )

  module _ (el : accepted ≡ lists_refusal ts ms) where
    pub references_refused : (r : Refusal) → number_of r ≡ references_refusal ts ms → IsMeasured (number_of r) tb
    unfolding measure_refusal table_refusal
    references_refused r e = (
      rw (← el, ← e, ← else_regroup (number_of r) _ (trees_refusal ts ms 0 (entries ts))) (else_number r _),
      left_alone _ (filled ts ms tb 0 (entries ts)) tb
          (λ (z : table_refusal ts ms tb ≡ accepted). number_refuses r (e ∙ (else_none (references_refusal ts ms) _ (else_none (lists_refusal ts ms) _ z).1).0)),
    )

    module _ (er : accepted ≡ references_refusal ts ms) where
      pub table_short : length tb < length ts → IsMeasured no_room tb
      unfolding measure_refusal table_refusal
      table_short h = rw (← el, ← er, lt-ltb (length tb) (length ts) h) (refl, refl)

      module _ (fits : length ts ≤ length tb) where
        pub table_accepted : table_refusal ts ms tb ≡ accepted
        unfolding table_refusal
        table_accepted = rw (← el, ← er, le-ltb _ _ fits)

        pub rows_filled : (q : ℕ) → q ≡ filled_refusal ts ms tb 0 (entries ts) → (vs : List ℕ) → vs ≡ filled ts ms tb 0 (entries ts) → IsMeasured q vs
        unfolding measure_refusal
        rows_filled q eq vs ev =
            let s = sound ts ms (sym er) in
            rw table_accepted (eq ∙ fill_right ts ms (entries ts) s.back tb (omega arith), ev)

-- an answer between two that refuses nothing once the first accepts
passed_over : (l r x t : ℕ) → (l ≡ accepted → x ≡ accepted) → or_else (or_else l (or_else r x)) t ≡ or_else l (or_else r t)
passed_over zero zero x t h = rw (h refl)
passed_over zero (suc r) x t h = refl
passed_over (suc l) r x t h = refl

-- ---- for whoever lends a table that is long enough

module _ (ts ms tb : List ℕ) (fits : min (length ts) 4096 ≤ length tb) where
  long_enough : lists_refusal ts ms ≡ accepted → length ts ≤ length tb
  long_enough z = let w = whole ts ms z in omega (arith, w.parts, w.few)

  room_enough : lists_refusal ts ms ≡ accepted → refuse (ltb (length tb) (length ts)) no_room accepted ≡ accepted
  room_enough z = rw (le-ltb (length tb) (length ts) (long_enough z))

  -- a table of this length is never what is refused
  pub measure_types : measure_refusal ts ms tb ≡ types_refusal ts ms
  unfolding measure_refusal table_refusal types_refusal
  measure_types = passed_over (lists_refusal ts ms) (references_refusal ts ms) _ (trees_refusal ts ms 0 (entries ts)) room_enough

  -- and where nothing is refused it holds the rows of the entries' types
  pub measured : types_refusal ts ms ≡ accepted → (vs : List ℕ) → vs ≡ unless_refused (table_refusal ts ms tb) (filled ts ms tb 0 (entries ts)) tb
      → Measured ts ms vs (entries ts)
  unfolding types_refusal
  measured ok vs ev =
      let l = else_none (lists_refusal ts ms) _ ok in
      let r = else_none (references_refusal ts ms) _ l.1 in
      let fits = long_enough l.0 in
      let t = table_accepted ts ms tb (sym l.0) (sym r.0) fits in
      rw (ev, t) (fill_measured ts ms (entries ts) (sound ts ms r.0).back tb (omega (arith, (whole ts ms l.0).parts)) r.1)
