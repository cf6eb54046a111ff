-- Words put at a place of a buffer, and the stores that put them there.
use Prim.Native.Nat.{ℕ, suc, ◌+◌, ◌≤◌, ◌<◌}
use mathlib.Core.Path.{◌≡◌, refl, ap, sym, subst, ◌∙◌}
use mathlib.Core.Bool.{true, false}
use mathlib.Core.List.{List, [], ◌∷◌, ◌++◌, append_assoc, append-nil}
use native.Mathlib.Omega.{arith}
use native.Mathlib.Nat.{zero-add}
use native.Mathlib.Numerals.{add-one}
use borrow.Author.Tests.{le-leb, lt-leb}
use borrow.Rule.Slice.PartMut.{put_mid}
use lib.Dec.{leb}
use lib.ListN.{length, take, drop, set, length-append, length-drop, take-append-drop}
use lib.Seq.{sets, sets-eq, length-take-le, take-append_seam, drop-append_seam, drop-append-add, drop-drop, take_at}
use Rattle.shape.specs.Words.{put_at}

pub put_fits : (ws : List ℕ) (at : ℕ) (vs : List ℕ) → at + length vs ≤ length ws
    → put_at ws at vs ≡ take at ws ++ vs ++ drop (at + length vs) ws
unfolding put_at
put_fits ws at vs h = rw (le-leb _ _ h)

pub put_short : (ws : List ℕ) (at : ℕ) (vs : List ℕ) → length ws < at + length vs → ws ≡ put_at ws at vs
unfolding put_at
put_short ws at vs h = rw (lt-leb _ _ h)

pub length_put : (ws : List ℕ) (at : ℕ) (vs : List ℕ) → at + length vs ≤ length ws → length (put_at ws at vs) ≡ length ws
length_put ws at vs h =
    let t : length (take at ws) ≡ at = length-take-le at ws (omega arith) in
    rw (put_fits ws at vs h) (simp (length-append, length-drop) (omega arith))

pub drop_past : (p q : List ℕ) (n m : ℕ) → length p ≡ n → drop (n + m) (p ++ q) ≡ drop m q
drop_past p q n m e = subst (λ (k : ℕ). drop (k + m) (p ++ q) ≡ drop m q) e (drop-append-add p q m)

-- a run is its first part and then the rest, from where the first part ends
pub put_split : (ws : List ℕ) (at : ℕ) (vs rest : List ℕ) → at + (length vs + length rest) ≤ length ws
    → put_at ws at (vs ++ rest) ≡ put_at (put_at ws at vs) (at + length vs) rest
put_split ws at vs rest h =
    let n : ℕ = at + length vs in
    let la : length (vs ++ rest) ≡ length vs + length rest = length-append vs rest in
    let lt : length (take at ws) ≡ at = length-take-le at ws (omega arith) in
    let p : List ℕ = take at ws ++ vs in
    let w : List ℕ = p ++ drop n ws in
    let lp : length p ≡ n = simp length-append (omega arith) in
    let lw : length w ≡ length ws = simp (length-append, length-drop) (omega arith) in
    let d : drop (n + length rest) w ≡ drop (n + length rest) ws =
    drop_past p (drop n ws) n (length rest) lp ∙ drop-drop (length rest) n ws in
    let t : take n w ≡ p = take_at p (drop n ws) n lp in
    let e : at + length (vs ++ rest) ≡ n + length rest = omega arith in
    let m : take at ws ++ (vs ++ rest) ++ drop (at + length (vs ++ rest)) ws ≡ take n w ++ rest ++ drop (n + length rest) w =
    cc (append_assoc (take at ws) vs rest) in
    put_fits ws at (vs ++ rest) (omega arith)
    ∙ m
    ∙ sym (put_fits w n rest (omega arith))
    ∙ sym (ap (λ (l : List ℕ). put_at l n rest) (put_fits ws at vs (omega arith)))

pub put_none : (ws : List ℕ) (at : ℕ) → at ≤ length ws → put_at ws at [] ≡ ws
put_none ws at h =
    let z : at + 0 ≡ at = omega arith in
    put_fits ws at [] (omega arith) ∙ rw z (rw append-nil (take-append-drop at ws))

-- stores in a row, as the code has them: to the place `at`, and then to `at + 1`, `at + 2`, ..
abbrev stores_from : List ℕ → ℕ → ℕ → List ℕ → List ℕ
stores_from ws at i [] = ws
stores_from ws at i (v ∷ vs) = stores_from (set ws (at + i) v) at (suc i) vs

abbrev pub stores : List ℕ → ℕ → List ℕ → List ℕ
stores ws at [] = ws
stores ws at (v ∷ vs) = stores_from (set ws at v) at 1 vs

stores_from_lem : (ws : List ℕ) (at i : ℕ) (vs : List ℕ) → stores_from ws at i vs ≡ sets ws (at + i) vs
stores_from_lem ws at i [] = refl
stores_from_lem ws at i (v ∷ vs) =
    let e : at + suc i ≡ suc (at + i) = omega arith in
    rw e at (stores_from_lem (set ws (at + i) v) at (suc i) vs)

-- they put the words there
pub put_stores : (ws : List ℕ) (at : ℕ) (vs : List ℕ) → at + length vs ≤ length ws → stores ws at vs ≡ put_at ws at vs
put_stores ws at [] h = sym (put_none ws at (omega arith))
put_stores ws at (v ∷ vs) h =
    rw add-one at (stores_from_lem (set ws at v) at 1 vs) ∙ sets-eq (v ∷ vs) ws at h ∙ sym (put_fits ws at (v ∷ vs) h)

-- one copy puts them there, too
pub put_copied : (ws : List ℕ) (at : ℕ) (vs : List ℕ) → at + length vs ≤ length ws → (n : ℕ) → n ≡ length vs
    → (new : List ℕ) → new ≡ vs → put_mid at n ws new ≡ put_at ws at vs
put_copied ws at vs h n e new i = rw (put_fits ws at vs h, e, i, drop-drop (length vs) at ws, append_assoc)

-- a writer that answers whether the words fitted
module _ (ws : List ℕ) (at : ℕ) (vs : List ℕ) where
  pub fitted_not : length ws < at + length vs → (false ≡ leb (at + length vs) (length ws)) × (ws ≡ put_at ws at vs)
  fitted_not h = (sym (lt-leb _ _ h), put_short ws at vs h)

  pub copied : at + length vs ≤ length ws → (n : ℕ) → n ≡ length vs → (new : List ℕ) → new ≡ vs
      → (true ≡ leb (at + length vs) (length ws)) × (put_mid at n ws new ≡ put_at ws at vs)
  copied h n e new i = (sym (le-leb _ _ h), put_copied ws at vs h n e new i)

-- words put at the front stand there, and those behind them are as they were
module _ (ws vs : List ℕ) (fits : length vs ≤ length ws) where
  pub put_first : put_at ws 0 vs ≡ vs ++ drop (length vs) ws
  put_first = put_fits ws 0 vs (omega arith) ∙ ap (λ (n : ℕ). vs ++ drop n ws) (zero-add (length vs))

  pub put_front : take (length vs) (put_at ws 0 vs) ≡ vs
  put_front = ap (take (length vs)) put_first ∙ take-append_seam vs (drop (length vs) ws)

  pub put_behind : drop (length vs) (put_at ws 0 vs) ≡ drop (length vs) ws
  put_behind = ap (drop (length vs)) put_first ∙ drop-append_seam vs (drop (length vs) ws)
