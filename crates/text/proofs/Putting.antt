-- Text at a place of a buffer, part by part.
use Prim.Native.Nat.{ℕ, ◌+◌, ◌≤◌}
use mathlib.Core.Path.{◌≡◌, refl, ap, sym, ◌∙◌}
use mathlib.Core.List.{List, [], ◌∷◌, ◌++◌}
use native.Mathlib.Omega.{arith}
use borrow.Author.Tests.{le-leb}
use lib.ListN.{length, set, length-append}
use Rattle.shape.specs.Words.{put_at}
use Rattle.shape.proofs.Put.{put_stores, length_put, put_split, put_none}
use Rattle.text.specs.Text.{Put, append_end}

-- a text and then another from where it ends
pub put_then : {o : List ℕ} {at : ℕ} {a : List ℕ} {r : ℕ} {p : List ℕ} {b : List ℕ} {t : ℕ} {q : List ℕ}
    → Put o at a r p → Put p r b t q → Put o at (a ++ b) t q
put_then {o} {at} {a} {r} {p} {b} {t} {q} x y =
    let l : length p ≡ length o = ap length x.put ∙ length_put o at a x.fits in
    let s : length (a ++ b) ≡ length a + length b = length-append a b in
    let e : r ≡ at + length a = x.ends in
    let f : r + length b ≤ length p = y.fits in
    record {
      ends = omega (arith, y.ends);
      put = y.put ∙ rw (x.put, x.ends) (sym (put_split o at a b (omega arith)));
      fits = omega arith;
    }

pub put_nothing : (o : List ℕ) (at : ℕ) → at ≤ length o → Put o at [] at o
put_nothing o at h = record { ends = omega arith; put = sym (put_none o at h); fits = omega arith }

-- the store of a byte
pub put_one : (o : List ℕ) (at b : ℕ) → at + 1 ≤ length o → Put o at (b ∷ []) (at + 1) (set o at b)
put_one o at b h = record { ends = refl; put = put_stores o at (b ∷ []) h; fits = h }

-- what is appended where there is room
pub append_put : (o : List ℕ) (at : ℕ) (text : List ℕ) (r : ℕ) (p : List ℕ) → at + length text ≤ length o
    → r ≡ append_end (length o) at text → p ≡ put_at o at text → Put o at text r p
unfolding append_end
append_put o at text r p h er ep = record { ends = er ∙ rw (le-leb _ _ h); put = ep; fits = h }
