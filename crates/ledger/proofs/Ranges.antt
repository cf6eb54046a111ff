-- The bytes on the stack over a list of fair answers: each operation's stand behind the offset that the call before had, and below the last one, so none
-- is two operations'. By induction on the answers.
use Prim.Native.Nat.{ℕ, zero, suc, ◌≤◌, ◌<◌}
use mathlib.Core.Path.{◌≡◌}
use mathlib.Core.List.{List, [], ◌∷◌}
use mathlib.Core.Logic.{⊎_elim}
use native.Mathlib.Omega.{arith}
use Rattle.shape.proofs.Rounding.{at_most}
use Rattle.describe.specs.Description.{Description}
use Rattle.classify.specs.declared.Call.{Call}
use Rattle.classify.specs.declared.Answer.{Answer}
use Rattle.ledger.specs.Ledger.{call_after, range_end, InRange, range_of, range_at}
use Rattle.ledger.proofs.Fair.{Fair}
use Rattle.ledger.proofs.Registers.{AllFair}

module _ (source : ℕ) (D : Description) where
  -- the offset never falls
  grows : (c : Call) (a : Answer) → Fair source D c a → c.stack ≤ a.next.stack
  grows c a f = ⊎_elim
      (λ (h : (range_of a).bytes ≤ 0). omega (arith, f.nowhere_stays (omega arith)))
      (λ (h : 0 < (range_of a).bytes). omega (arith, f.stands_behind h, f.hands_on_end h))
      (at_most (range_of a).bytes 0)

  -- and a range ends where the next one may begin, at most
  ends : (c : Call) (a : Answer) → Fair source D c a → range_end (range_of a) ≤ a.next.stack
  ends c a f = ⊎_elim
      (λ (h : (range_of a).bytes ≤ 0). omega (arith, f.nowhere_stays (omega arith)))
      (λ (h : 0 < (range_of a).bytes). omega (arith, f.hands_on_end h))
      (at_most (range_of a).bytes 0)

  pub all_grow : (c : Call) (past : List Answer) → AllFair source D c past → c.stack ≤ (call_after c past).stack
  unfolding call_after
  all_grow c [] f = omega arith
  all_grow c (a ∷ past) f = omega (arith, grows c a f.0, all_grow a.next past f.1)

  pub below_last : (c : Call) (past : List Answer) (k : ℕ) → AllFair source D c past → range_end (range_at past k) ≤ (call_after c past).stack
  unfolding call_after
  below_last c [] k f = omega arith
  below_last c (a ∷ past) zero f = omega (arith, ends c a f.0, all_grow a.next past f.1)
  below_last c (a ∷ past) (suc k) f = below_last a.next past k f.1

  -- what has bytes there has them behind the first call's offset
  behind_first : (c : Call) (past : List Answer) (k : ℕ) → AllFair source D c past → 0 < (range_at past k).bytes → c.stack ≤ (range_at past k).at
  behind_first c [] k f h = absurd (omega arith)
  behind_first c (a ∷ past) zero f h = f.0.stands_behind h
  behind_first c (a ∷ past) (suc k) f h = omega (arith, grows c a f.0, behind_first a.next past k f.1 h)

  pub ordered : (c : Call) (past : List Answer) (j k : ℕ) → AllFair source D c past → j < k → 0 < (range_at past k).bytes → range_end (range_at past j) ≤ (range_at past k).at
  ordered c [] j k f l h = absurd (omega arith)
  ordered c (a ∷ past) j zero f l h = absurd (omega arith)
  ordered c (a ∷ past) zero (suc k) f l h = omega (arith, ends c a f.0, behind_first a.next past k f.1 h)
  ordered c (a ∷ past) (suc j) (suc k) f l h = ordered a.next past j k f.1 (omega arith) h

  pub in_one : (c : Call) (past : List Answer) (j k byte : ℕ) → AllFair source D c past → InRange (range_at past j) byte → InRange (range_at past k) byte → j ≡ k
  in_one c past j k byte f x y = ⊎_elim
      (λ (h : j ≤ k). ⊎_elim
      (λ (g : k ≤ j). omega arith)
      (λ (g : j < k). absurd (omega (arith, ordered c past j k f g (omega arith))))
      (at_most k j))
      (λ (h : k < j). absurd (omega (arith, ordered c past k j f h (omega arith))))
      (at_most j k)
