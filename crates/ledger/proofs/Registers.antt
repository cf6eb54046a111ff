-- The registers of one bank over a list of fair answers: the runs lie end to end from the first register that is free, and each register above
-- has the holder that the counts say. By induction on the answers: what one operation leaves is where the next begins.
use Prim.Native.Nat.{ℕ, zero, suc, ◌+◌, ◌-◌, ◌≤◌, ◌<◌}
use mathlib.Core.Path.{◌≡◌, refl, ap, ◌∙◌}
use mathlib.Core.List.{List, [], ◌∷◌}
use mathlib.Core.Bool.{Bool, true, false, cond}
use mathlib.Core.Option.Option.{some}
use native.Mathlib.Omega.{arith}
use borrow.Author.Tests.{ltb-true, ltb-false, lt-ltb, le-ltb}
use lib.Dec.{ltb}
use lib.ListN.{length, take, get_or, get_elem?}
use Rattle.describe.specs.Description.{Description}
use Rattle.classify.specs.declared.Call.{Call}
use Rattle.classify.specs.declared.Answer.{Answer}
use Rattle.ledger.specs.Ledger.{call_after, Bank, start_of, left_in, passed_over, given, total, Run, run_end, runs_from, no_run, InRun, InPassedOver, InGiven, Holder, passed_over_by, given_to, left, next_after, holder_from}
use Rattle.ledger.proofs.Fair.{Fair}

-- each answer is fair on the call that the one before handed back
abbrev pub AllFair : ℕ → Description → Call → List Answer → Type 0
AllFair source D c [] = Unit {0}
AllFair source D c (a ∷ past) = Fair source D c a × AllFair source D a.next past

module _ (b : Bank) (source : ℕ) (D : Description) where
  abbrev pub run_from : Call → List Answer → ℕ → Run
  run_from c past k = get_or (runs_from b D.banks c past) k no_run

  -- the first register that a call has left
  abbrev free : Call → ℕ
  free c = start_of b D.banks - left_in b c

  pub totals : (c : Call) (past : List Answer) → AllFair source D c past
      → total (given b) past + total (passed_over b) past + left_in b (call_after c past) ≡ left_in b c
  unfolding total call_after
  totals c [] f = omega arith
  totals c (a ∷ past) f = omega (arith, f.0.adds_up b, totals a.next past f.1)

  -- ---- the runs

  pub run_counts : (c : Call) (past : List Answer) (k : ℕ) (a : Answer) → get_elem? past k ≡ some a
      → ((run_from c past k).passes ≡ passed_over b a) × ((run_from c past k).gives ≡ given b a)
  unfolding runs_from
  run_counts c [] k a e = absurd (let z : ◌≡◌ {A = ℕ} 0 1 = cc in omega arith)
  run_counts c (x ∷ past) zero a e = let q : x ≡ a = cc in (rw q, rw q)
  run_counts c (x ∷ past) (suc k) a e = run_counts x.next past k a e

  -- a run begins at the first register that is left of its call
  pub run_first : (c : Call) (past : List Answer) (k : ℕ) (a : Answer) → get_elem? past k ≡ some a → (run_from c past k).first ≡ free (call_after c (take k past))
  unfolding runs_from call_after
  run_first c [] k a e = absurd (let z : ◌≡◌ {A = ℕ} 0 1 = cc in omega arith)
  run_first c (x ∷ past) zero a e = refl
  run_first c (x ∷ past) (suc k) a e = run_first x.next past k a e

  pub first_run : (c : Call) (past : List Answer) → 0 < length past → (run_from c past 0).first ≡ free c
  unfolding runs_from
  first_run c [] l = absurd (omega arith)
  first_run c (a ∷ past) l = refl

  pub abut : (c : Call) (past : List Answer) (k : ℕ) → AllFair source D c past → left_in b c ≤ start_of b D.banks → suc k < length past
      → (run_from c past (suc k)).first ≡ run_end (run_from c past k)
  unfolding runs_from
  abut c [] k f h l = absurd (omega arith)
  abut c (a ∷ []) k f h l = absurd (omega arith)
  abut c (a ∷ a' ∷ past) zero f h l = omega (arith, f.0.adds_up b)
  abut c (a ∷ a' ∷ past) (suc k) f h l = abut a.next (a' ∷ past) k f.1 (omega (arith, f.0.adds_up b)) (omega arith)

  -- none ends past the first register that is left at the end
  pub ends : (c : Call) (past : List Answer) (k : ℕ) → AllFair source D c past → left_in b c ≤ start_of b D.banks → run_end (run_from c past k) ≤ free (call_after c past)
  unfolding runs_from call_after
  ends c [] k f h = omega arith
  ends c (a ∷ past) zero f h = omega (arith, f.0.adds_up b, totals a.next past f.1)
  ends c (a ∷ past) (suc k) f h = ends a.next past k f.1 (omega (arith, f.0.adds_up b))

  -- and the last one ends there
  pub last_ends : (c : Call) (past : List Answer) (k : ℕ) → AllFair source D c past → left_in b c ≤ start_of b D.banks → suc k ≡ length past
      → run_end (run_from c past k) ≡ free (call_after c past)
  unfolding runs_from call_after
  last_ends c [] k f h l = absurd (omega arith)
  last_ends c (a ∷ []) zero f h l = omega (arith, f.0.adds_up b)
  last_ends c (a ∷ []) (suc k) f h l = absurd (omega arith)
  last_ends c (a ∷ a' ∷ past) zero f h l = absurd (omega arith)
  last_ends c (a ∷ a' ∷ past) (suc k) f h l = last_ends a.next (a' ∷ past) k f.1 (omega (arith, f.0.adds_up b)) (omega arith)

  -- no register of a run is below the first one that was free
  above : (c : Call) (past : List Answer) (k r : ℕ) → AllFair source D c past → InRun (run_from c past k) r → free c ≤ r
  unfolding runs_from
  above c [] k r f i = absurd (omega arith)
  above c (a ∷ past) zero r f i = i.0
  above c (a ∷ past) (suc k) r f i = omega (arith, f.0.adds_up b, above a.next past k r f.1 i)

  -- ---- the holders

  module _ (k next : ℕ) (a : Answer) (past : List Answer) (r : ℕ) where
    beyond : next + passed_over b a + given b a ≤ r → holder_from b k next (a ∷ past) r ≡ holder_from b (suc k) (next_after b next a) past r
    unfolding holder_from
    beyond h = rw (le-ltb r (next + passed_over b a) (omega arith), le-ltb r (next + passed_over b a + given b a) h)

  pub passed_over_holds : (c : Call) (past : List Answer) (k next j r : ℕ) → AllFair source D c past → left_in b c ≤ start_of b D.banks → next ≡ free c
      → InPassedOver (run_from c past j) r → holder_from b k next past r ≡ passed_over_by (k + j)
  unfolding runs_from holder_from
  passed_over_holds c [] k next j r f h e i = absurd (omega arith)
  passed_over_holds c (a ∷ past) k next zero r f h e i = rw (lt-ltb r (next + passed_over b a) (omega arith)) (ap passed_over_by (omega arith))
  passed_over_holds c (a ∷ past) k next (suc j) r f h e i =
      let m : free a.next ≤ r = above a.next past j r f.1 (i.0, omega arith) in
      let s = f.0.adds_up b in
      beyond k next a past r (omega arith)
      ∙ passed_over_holds a.next past (suc k) _ j r f.1 (omega arith) (omega arith) i
      ∙ ap passed_over_by (omega arith)

  pub given_holds : (c : Call) (past : List Answer) (k next j r : ℕ) → AllFair source D c past → left_in b c ≤ start_of b D.banks → next ≡ free c
      → InGiven (run_from c past j) r → holder_from b k next past r ≡ given_to (k + j)
  unfolding runs_from holder_from
  given_holds c [] k next j r f h e i = absurd (omega arith)
  given_holds c (a ∷ past) k next zero r f h e i =
      rw (le-ltb r (next + passed_over b a) (omega arith), lt-ltb r (next + passed_over b a + given b a) (omega arith)) (ap given_to (omega arith))
  given_holds c (a ∷ past) k next (suc j) r f h e i =
      let m : free a.next ≤ r = above a.next past j r f.1 (omega arith, i.1) in
      let s = f.0.adds_up b in
      beyond k next a past r (omega arith)
      ∙ given_holds a.next past (suc k) _ j r f.1 (omega arith) (omega arith) i
      ∙ ap given_to (omega arith)

  pub left_holds : (c : Call) (past : List Answer) (k next r : ℕ) → AllFair source D c past → left_in b c ≤ start_of b D.banks → next ≡ free c
      → free (call_after c past) ≤ r → holder_from b k next past r ≡ left
  unfolding holder_from call_after
  left_holds c [] k next r f h e i = refl
  left_holds c (a ∷ past) k next r f h e i =
      let s = f.0.adds_up b in
      let t = totals a.next past f.1 in
      beyond k next a past r (omega arith) ∙ left_holds a.next past (suc k) _ r f.1 (omega arith) (omega arith) i

  -- what a holder says of a register, the operations being numbered from k
  abbrev pub HasFrom : Call → List Answer → ℕ → ℕ → Holder → Type 0
  HasFrom c past k r (passed_over_by n) = (j : ℕ) × (n ≡ k + j) × InPassedOver (run_from c past j) r
  HasFrom c past k r (given_to n) = (j : ℕ) × (n ≡ k + j) × InGiven (run_from c past j) r
  HasFrom c past k r left = free (call_after c past) ≤ r

  one_earlier : (c : Call) (a : Answer) (past : List Answer) (k r : ℕ) (h : Holder) → HasFrom a.next past (suc k) r h → HasFrom c (a ∷ past) k r h
  unfolding runs_from call_after
  one_earlier c a past k r (passed_over_by n) m = (suc m.0, omega arith, m.2)
  one_earlier c a past k r (given_to n) m = (suc m.0, omega arith, m.2)
  one_earlier c a past k r left m = m

  pub holder_has : (c : Call) (past : List Answer) (k next r : ℕ) → AllFair source D c past → left_in b c ≤ start_of b D.banks → next ≡ free c → next ≤ r
      → HasFrom c past k r (holder_from b k next past r)
  unfolding runs_from holder_from call_after
  holder_has c [] k next r f h e m = omega arith
  holder_has c (a ∷ past) k next r f h e m =
      let s = f.0.adds_up b in
      go (ltb r (next + passed_over b a)) (ltb r (next + passed_over b a + given b a)) refl refl
      (λ n. one_earlier c a past k r rest (holder_has a.next past (suc k) _ r f.1 (omega arith) (omega arith) n))
    where
      rest : Holder
      rest = holder_from b (suc k) (next_after b next a) past r

      go : (x y : Bool) → ltb r (next + passed_over b a) ≡ x → ltb r (next + passed_over b a + given b a) ≡ y
          → (next + passed_over b a + given b a ≤ r → HasFrom c (a ∷ past) k r rest)
          → HasFrom c (a ∷ past) k r (cond x (passed_over_by k) (cond y (given_to k) rest))
      go true y ex ey later = (0, omega arith, (omega arith, omega (arith, ltb-true r (next + passed_over b a) ex)))
      go false true ex ey later =
          (0, omega arith, (omega (arith, ltb-false r (next + passed_over b a) ex), omega (arith, ltb-true r (next + passed_over b a + given b a) ey)))
      go false false ex ey later = later (ltb-false _ _ ey)
