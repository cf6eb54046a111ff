-- A class is told by its code, and the laws of what is known of one by its code.
use Prim.Native.Nat.{ℕ, zero, suc, ◌≤◌, ◌<◌}
use mathlib.Core.Path.{◌≡◌, refl, sym, ap, ◌∙◌}
use mathlib.Core.List.{List, [], ◌∷◌, map}
use mathlib.Core.Bool.{Bool, true, false, cond, not, ◌&&◌, ◌||◌, false≢true}
use native.Mathlib.Omega.{arith}
use native.Mathlib.Decide.{dec_le}
use borrow.Author.Tests.{lt-ltb, ltb-true, eq-eqb, ne_eqb}
use lib.Dec.{eqb, ltb}
use lib.ListN.{length, get_or, get_or-eq_default}
use Rattle.eightbytes.specs.Class.{Class, None, Integer, Sse, SseUp, X87, Memory, code, class_of, same, kept, later, mended}

pub class_code : (c : Class) → class_of (code c) ≡ c
unfolding code class_of
class_code None = refl
class_code Integer = refl
class_code Sse = refl
class_code SseUp = refl
class_code X87 = refl
class_code Memory = refl

pub code_lt : (c : Class) → code c < 6
unfolding code
code_lt None = omega arith
code_lt Integer = omega arith
code_lt Sse = omega arith
code_lt SseUp = omega arith
code_lt X87 = omega arith
code_lt Memory = omega arith

pub coded_lt : {n : ℕ} (c : Class) → n ≡ code c → n < 6
coded_lt c e = rw e (code_lt c)

pub code_class : (n : ℕ) → n < 6 → code (class_of n) ≡ n
unfolding code class_of
code_class zero h = refl
code_class (suc zero) h = refl
code_class (suc (suc zero)) h = refl
code_class (suc (suc (suc zero))) h = refl
code_class (suc (suc (suc (suc zero)))) h = refl
code_class (suc (suc (suc (suc (suc zero))))) h = refl
code_class (suc (suc (suc (suc (suc (suc n)))))) h = absurd (omega arith)

past : (n : ℕ) → 5 ≤ n → class_of n ≡ Memory
unfolding class_of
past n h = get_or-eq_default (None ∷ Integer ∷ Sse ∷ SseUp ∷ X87 ∷ []) Memory {n = n} h

-- Sse and SseUp are told by their codes, at any number
pub sse_code : (n : ℕ) → eqb n 2 ≡ same (class_of n) Sse
unfolding code class_of same
sse_code zero = refl
sse_code (suc zero) = refl
sse_code (suc (suc zero)) = refl
sse_code (suc (suc (suc zero))) = refl
sse_code (suc (suc (suc (suc zero)))) = refl
sse_code (suc (suc (suc (suc (suc n))))) = ne_eqb (suc (suc (suc (suc (suc n))))) 2 (λ e. omega arith) ∙ ap (λ (c : Class). same c Sse) (sym (past (suc (suc (suc (suc (suc n))))) (omega arith)))

pub up_code : (n : ℕ) → eqb n 3 ≡ same (class_of n) SseUp
unfolding code class_of same
up_code zero = refl
up_code (suc zero) = refl
up_code (suc (suc zero)) = refl
up_code (suc (suc (suc zero))) = refl
up_code (suc (suc (suc (suc zero)))) = refl
up_code (suc (suc (suc (suc (suc n))))) = ne_eqb (suc (suc (suc (suc (suc n))))) 3 (λ e. omega arith) ∙ ap (λ (c : Class). same c SseUp) (sym (past (suc (suc (suc (suc (suc n))))) (omega arith)))

-- a class's code is what a function of its class answers, any other number is kept
pub kept_code : (n : ℕ) (c : Class) → n < 6 → kept n c ≡ code c
unfolding kept
kept_code n c h = rw (lt-ltb _ _ h)

pub kept_is : {r : ℕ} (n : ℕ) (c : Class) → r ≡ kept n c → n < 6 → r ≡ code c
kept_is n c e h = e ∙ kept_code n c h

kept_own : (n : ℕ) → n ≡ kept n (class_of n)
unfolding kept
kept_own n = go (ltb n 6) refl
  where
    go : (b : Bool) → ltb n 6 ≡ b → n ≡ cond b (code (class_of n)) n
    go true e = sym (code_class n (ltb-true _ _ e))
    go false e = refl

-- the class of a piece's next eightbyte
module _ (class : ℕ) where
  pub later_sse : class ≡ 2 → 3 ≡ kept class (later (class_of class))
  unfolding code
  later_sse e = rw (← sse_code class, eq-eqb _ _ e) (sym (kept_code class SseUp (omega arith)))

  pub later_other : (class ≡ 2 → ⊥) → class ≡ kept class (later (class_of class))
  later_other e = rw (← sse_code class, ne_eqb _ _ e) (kept_own class)

-- the rule after the merge
up_lt : (n : ℕ) (b : Bool) → (eqb n 3 && b) ≡ true → n < 6
up_lt n b h = go (dec_le n 5)
  where
    go : Dec (n ≤ 5) → n < 6
    go (yes e) = omega arith
    go (no e) = absurd (false≢true (sym (ap (λ (x : Bool). x && b) (ne_eqb n 3 (λ z. omega arith))) ∙ h))

module _ (below class : ℕ) where
  pub mended_alone : (eqb class 3 && not (eqb below 2 || eqb below 3)) ≡ true → 2 ≡ kept class (mended (class_of below) (class_of class))
  unfolding code
  mended_alone h = rw (← up_code class, ← sse_code below, ← up_code below, h) (sym (kept_code class Sse (up_lt class _ h)))

  pub mended_other : (eqb class 3 && not (eqb below 2 || eqb below 3)) ≡ false → class ≡ kept class (mended (class_of below) (class_of class))
  mended_other h = rw (← up_code class, ← sse_code below, ← up_code below, h) (kept_own class)

-- the classes of eight codes
pub eight_codes : (ns : List ℕ) → length ns ≡ 8 → (a b c d e f g h : Class) → a ≡ class_of (get_or ns 0 0) → b ≡ class_of (get_or ns 1 0)
    → c ≡ class_of (get_or ns 2 0) → d ≡ class_of (get_or ns 3 0) → e ≡ class_of (get_or ns 4 0) → f ≡ class_of (get_or ns 5 0)
    → g ≡ class_of (get_or ns 6 0) → h ≡ class_of (get_or ns 7 0)
    → ◌≡◌ {A = List Class} (a ∷ b ∷ c ∷ d ∷ e ∷ f ∷ g ∷ h ∷ []) (map class_of ns)
eight_codes ns l a b c d e f g h ea eb ec ed ee ef eg eh = rw (ea, eb, ec, ed, ee, ef, eg, eh) (go ns l)
  where
    go : (xs : List ℕ) → length xs ≡ 8
        → ◌≡◌ {A = List Class} (class_of (get_or xs 0 0) ∷ class_of (get_or xs 1 0) ∷ class_of (get_or xs 2 0) ∷ class_of (get_or xs 3 0)
        ∷ class_of (get_or xs 4 0) ∷ class_of (get_or xs 5 0) ∷ class_of (get_or xs 6 0) ∷ class_of (get_or xs 7 0) ∷ [])
        (map class_of xs)
    go (s ∷ t ∷ u ∷ v ∷ w ∷ x ∷ y ∷ z ∷ []) k = refl
    go [] k = absurd (omega arith)
    go (s ∷ []) k = absurd (omega arith)
    go (s ∷ t ∷ []) k = absurd (omega arith)
    go (s ∷ t ∷ u ∷ []) k = absurd (omega arith)
    go (s ∷ t ∷ u ∷ v ∷ []) k = absurd (omega arith)
    go (s ∷ t ∷ u ∷ v ∷ w ∷ []) k = absurd (omega arith)
    go (s ∷ t ∷ u ∷ v ∷ w ∷ x ∷ []) k = absurd (omega arith)
    go (s ∷ t ∷ u ∷ v ∷ w ∷ x ∷ y ∷ []) k = absurd (omega arith)
    go (s ∷ t ∷ u ∷ v ∷ w ∷ x ∷ y ∷ z ∷ r ∷ rs) k = absurd (omega arith)
