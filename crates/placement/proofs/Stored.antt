-- Registers, one stored behind the other: where each stands, what stays when another is written, and that what is put to the front of some is read
-- from there.
use Prim.Native.Nat.{ℕ, zero, suc, ◌+◌, ◌*◌, ◌≤◌, ◌<◌}
use mathlib.Core.Path.{◌≡◌, refl, sym, ◌∙◌, ap}
use mathlib.Core.Bool.{Bool, true, false}
use mathlib.Core.List.{List, [], ◌∷◌, ◌++◌, append_assoc}
use native.Mathlib.Omega.{arith}
use native.Mathlib.Nat.{mul-zero, mul-suc, add_comm}
use borrow.Author.Tests.{leb-true, leb-false}
use lib.Dec.{leb}
use lib.ListN.{length, take, drop, get_or, length-drop, length-append}
use lib.Seq.{take_all, take_at, take-take, take-add, drop-drop, take-append-add, drop-append-add, take-append-le, drop_at, length-take-le, take-set-le}
use Rattle.shape.specs.Words.{put_at}
use Rattle.shape.proofs.Put.{put_fits, length_put, put_short}
use Rattle.placement.specs.Caller.{Register, Registers, no_more, and_then, to_front, spread, stored}

-- ---- a part of some bytes, by what stands before its end

pub part_within : (n i k : ℕ) (xs : List ℕ) → i + n ≤ k → take n (drop i (take k xs)) ≡ take n (drop i xs)
part_within n zero k xs h = take-take n k xs (omega arith)
part_within n (suc i) zero xs h = absurd (omega arith)
part_within n (suc i) (suc k) [] h = refl
part_within n (suc i) (suc k) (x ∷ xs) h = part_within n i k xs (omega arith)

pub same_part : (n i k : ℕ) (xs ys : List ℕ) → i + n ≤ k → take k xs ≡ take k ys → take n (drop i xs) ≡ take n (drop i ys)
same_part n i k xs ys h e = sym (part_within n i k xs h) ∙ ap (λ (zs : List ℕ). take n (drop i zs)) e ∙ part_within n i k ys h

-- ---- bytes put at a place

put_length : (ws : List ℕ) (at : ℕ) (vs : List ℕ) (b : Bool) → leb (at + length vs) (length ws) ≡ b → length (put_at ws at vs) ≡ length ws
put_length ws at vs true e = length_put ws at vs (leb-true _ _ e)
put_length ws at vs false e = ap length (sym (put_short ws at vs (leb-false _ _ e)))

pub length_of_put : (ws : List ℕ) (at : ℕ) (vs : List ℕ) → length (put_at ws at vs) ≡ length ws
length_of_put ws at vs = put_length ws at vs _ refl

before_put : (ws : List ℕ) (k at : ℕ) (vs : List ℕ) (b : Bool) → k ≤ at → leb (at + length vs) (length ws) ≡ b → take k (put_at ws at vs) ≡ take k ws
before_put ws k at vs true h e =
    let fits : at + length vs ≤ length ws = leb-true _ _ e in
    let front : length (take at ws) ≡ at = length-take-le at ws (omega arith) in
    ap (take k) (put_fits ws at vs fits ∙ append_assoc (take at ws) vs (drop (at + length vs) ws)) ∙ take-append-le k (take at ws) _ (omega (arith, front)) ∙ take-take k at ws h
before_put ws k at vs false h e = ap (take k) (sym (put_short ws at vs (leb-false _ _ e)))

pub put_keeps : (ws : List ℕ) (k at : ℕ) (vs : List ℕ) → k ≤ at → take k (put_at ws at vs) ≡ take k ws
put_keeps ws k at vs h = before_put ws k at vs _ h refl

pub put_read : (ws : List ℕ) (at : ℕ) (vs : List ℕ) → at + length vs ≤ length ws → take (length vs) (drop at (put_at ws at vs)) ≡ vs
put_read ws at vs h =
    ap (λ (zs : List ℕ). take (length vs) (drop at zs)) (put_fits ws at vs h ∙ append_assoc (take at ws) vs (drop (at + length vs) ws))
    ∙ ap (take (length vs)) (drop_at (take at ws) (vs ++ drop (at + length vs) ws) at (length-take-le at ws (omega arith)))
    ∙ take_at vs (drop (at + length vs) ws) (length vs) refl

-- ---- registers stay registers

pub front_registers : (b n : ℕ) (rs : List Register) → Registers b n rs → (r : ℕ) (bytes : List ℕ) → Registers b n (to_front rs r bytes)
unfolding to_front
front_registers b zero (x ∷ rs) x3 r bytes = elim x3 [ ]
front_registers b (suc n) [] x3 r bytes = elim x3 [ ]
front_registers b zero [] no_more r bytes = no_more
front_registers b (suc n) (x ∷ rs) (and_then l more) zero bytes = and_then (length_of_put x 0 bytes ∙ l) more
front_registers b (suc n) (x ∷ rs) (and_then l more) (suc r) bytes = and_then l (front_registers b n rs more r bytes)

pub spread_registers : (n r b count : ℕ) (bytes : List ℕ) (rs : List Register) → Registers b count rs → Registers b count (spread n r bytes rs)
unfolding spread
spread_registers zero r b count bytes rs is = is
spread_registers (suc n) r b count bytes rs is = spread_registers n _ b count (drop 8 bytes) _ (front_registers b count rs is r (take 8 bytes))

-- ---- those before the first that is written stay

pub front_keeps : (k r : ℕ) (bytes : List ℕ) (rs : List Register) → k ≤ r → take k (to_front rs r bytes) ≡ take k rs
unfolding to_front
front_keeps k r bytes rs h = take-set-le k rs r _ h

pub spread_keeps : (n k r : ℕ) (bytes : List ℕ) (rs : List Register) → k ≤ r → take k (spread n r bytes rs) ≡ take k rs
unfolding spread
spread_keeps zero k r bytes rs h = refl
spread_keeps (suc n) k r bytes rs h = rw (front_keeps k r (take 8 bytes) rs h) at (spread_keeps n k (suc r) (drop 8 bytes) (to_front rs r (take 8 bytes)) (omega arith))

-- ---- register k of b bytes is stored at b times k

one_more : (b k : ℕ) (x : Register) → length x ≡ b → b * suc k ≡ length x + b * k
one_more b k x l = rw (mul-suc b k, l) (add_comm (b * k) b)

pub stored_before : (b n : ℕ) (rs : List Register) → Registers b n rs → (k : ℕ) → k ≤ n → (rest : List ℕ) → take (b * k) (stored rs ++ rest) ≡ stored (take k rs)
unfolding stored
stored_before b zero (x ∷ rs) is (suc k) h rest = elim is [ ]
stored_before b (suc n) [] is (suc k) h rest = elim is [ ]
stored_before b n rs is zero h rest = rw (mul-zero b)
stored_before b zero [] no_more (suc k) h rest = absurd (omega arith)
stored_before b (suc n) (x ∷ rs) (and_then l more) (suc k) h rest =
    rw (one_more b k x l) (ap (take (length x + b * k)) (append_assoc x (stored rs) rest) ∙ take-append-add x (stored rs ++ rest) (b * k) ∙ ap (λ (zs : List ℕ). x ++ zs) (stored_before b n rs more k (omega arith) rest))

-- a part that ends before register k is the same where the registers before k are
pub stored_same : (b n : ℕ) (rs qs : List Register) → Registers b n rs → Registers b n qs → (k : ℕ) → k ≤ n → take k rs ≡ take k qs → (size at : ℕ) → at + size ≤ b * k
    → (rest last : List ℕ) → take size (drop at (stored rs ++ rest)) ≡ take size (drop at (stored qs ++ last))
stored_same b n rs qs is are k h e size at inside rest last =
    same_part size at (b * k) _ _ inside (stored_before b n rs is k h rest ∙ ap stored e ∙ sym (stored_before b n qs are k h last))

-- what was put to the front of one is read there
pub front_read : (b n : ℕ) (rs : List Register) → Registers b n rs → (r : ℕ) → r < n → (bytes : List ℕ) → length bytes ≤ b → (rest : List ℕ)
    → take (length bytes) (drop (b * r) (stored (to_front rs r bytes) ++ rest)) ≡ bytes
unfolding to_front stored
front_read b zero (x ∷ rs) x7 r h bytes fits rest = elim x7 [ ]
front_read b (suc n) [] x5 r h bytes fits rest = elim x5 [ ]
front_read b zero [] no_more r h bytes fits rest = absurd (omega arith)
front_read b (suc n) (x ∷ rs) (and_then l more) zero h bytes fits rest =
    rw (mul-zero b, put_fits x 0 bytes (omega (arith, l)))
    (ap (take (length bytes)) (append_assoc (bytes ++ drop (0 + length bytes) x) (stored rs) rest ∙ append_assoc bytes (drop (0 + length bytes) x) (stored rs ++ rest)) ∙ take_at bytes _ (length bytes) refl)
front_read b (suc n) (x ∷ rs) (and_then l more) (suc r) h bytes fits rest =
    rw (one_more b r x l)
    (ap (λ (zs : List ℕ). take (length bytes) (drop (length x + b * r) zs)) (append_assoc x _ rest) ∙ ap (take (length bytes)) (drop-append-add x _ (b * r)) ∙ front_read b n rs more r (omega arith) bytes fits rest)

-- and 16 bytes over two are read as one
pub pair_read : (n : ℕ) (rs : List Register) → Registers 8 n rs → (r : ℕ) → suc r < n → (bytes : List ℕ) → length bytes ≡ 16 → (rest : List ℕ)
    → take 16 (drop (8 * r) (stored (spread 2 r bytes rs) ++ rest)) ≡ bytes
unfolding spread
pair_read n rs is r h bytes l rest =
    let low : List ℕ = take 8 bytes in
    let high : List ℕ = take 8 (drop 8 bytes) in
    let low_8 : length low ≡ 8 = length-take-le 8 bytes (omega arith) in
    let high_8 : length high ≡ 8 = length-take-le 8 (drop 8 bytes) (omega (arith, length-drop 8 bytes)) in
    let first : List Register = to_front rs r low in
    let is_first : Registers 8 n first = front_registers 8 n rs is r low in
    let both : List Register = to_front first (suc r) high in
    let is_both : Registers 8 n both = front_registers 8 n first is_first (suc r) high in
    let in_low : take 8 (drop (8 * r) (stored both ++ rest)) ≡ low =
    stored_same 8 n both first is_both is_first (suc r) (omega arith) (front_keeps (suc r) (suc r) high first (omega arith)) 8 (8 * r) (omega arith) rest rest
    ∙ (rw low_8 at (front_read 8 n rs is r (omega arith) low (omega arith) rest)) in
    let in_high : take 8 (drop 8 (drop (8 * r) (stored both ++ rest))) ≡ high =
    ap (take 8) (drop-drop 8 (8 * r) (stored both ++ rest)) ∙ rw (mul-suc 8 r, high_8) at (front_read 8 n first is_first (suc r) h high (omega arith) rest) in
    take-add 8 8 (drop (8 * r) (stored both ++ rest)) ∙ rw (in_low, in_high) (sym (take-add 8 8 bytes) ∙ take_all 16 bytes (omega arith))

-- all of them take b bytes each
pub length_stored : (b n : ℕ) (rs : List Register) → Registers b n rs → length (stored rs) ≡ b * n
unfolding stored
length_stored b zero (x ∷ rs) x3 = elim x3 [ ]
length_stored b (suc n) [] x3 = elim x3 [ ]
length_stored b zero [] no_more = sym (mul-zero b)
length_stored b (suc n) (x ∷ rs) (and_then l more) = length-append x (stored rs) ∙ ap (λ (k : ℕ). length x + k) (length_stored b n rs more) ∙ sym (one_more b n x l)

-- register k stands at b times k
pub register_at : (b n : ℕ) (rs : List Register) → Registers b n rs → (k : ℕ) → k < n → (rest : List ℕ) → take b (drop (b * k) (stored rs ++ rest)) ≡ get_or rs k []
unfolding stored
register_at b zero (x ∷ rs) x5 k h rest = elim x5 [ ]
register_at b (suc n) [] x4 k h rest = elim x4 [ ]
register_at b zero [] no_more k h rest = absurd (omega arith)
register_at b (suc n) (x ∷ rs) (and_then l more) zero h rest = rw (mul-zero b) (ap (take b) (append_assoc x (stored rs) rest) ∙ take_at x (stored rs ++ rest) b l)
register_at b (suc n) (x ∷ rs) (and_then l more) (suc k) h rest =
    rw (one_more b k x l) (ap (λ (zs : List ℕ). take b (drop (length x + b * k) zs)) (append_assoc x (stored rs) rest) ∙ ap (take b) (drop-append-add x (stored rs ++ rest) (b * k)) ∙ register_at b n rs more k (omega arith) rest)
