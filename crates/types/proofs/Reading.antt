-- What is read of the lists and of a table: words by their place, and what an entry says by the tests that its kind passed.
use Prim.Native.Nat.{ℕ, zero, suc, ◌+◌, ◌-◌, ◌*◌, ◌/◌, ◌≤◌, ◌<◌}
use mathlib.Core.Path.{◌≡◌, refl, ap, ◌∙◌}
use mathlib.Core.Bool.{Bool, true, false, cond}
use mathlib.Core.List.{List, [], ◌∷◌}
use native.Mathlib.Omega.{arith}
use borrow.Author.Tests.{eq-eqb, ne_eqb}
use lib.Dec.{eqb, ltb}
use lib.ListN.{length, take, drop, get_or}
use lib.Seq.{drop-drop}
use Rattle.std.specs.Simd.{first_chunks}
use Rattle.shape.specs.Numbers.{bad_size}
use Rattle.shape.specs.Words.{scalar, piece_at, piece_words}
use Rattle.shape.proofs.Words.{no_piece, read_piece, drop_word}
use Rattle.checks.specs.Check.{refuse, scalar_refusal}
use Rattle.types.specs.declared.Form.TheVariants.{One, Members, Elements}
use Rattle.types.specs.declared.Row.{Row}
use Rattle.types.specs.Entries.{Entry, entry_size, entry_at, nowhere, record_kind, union_kind, array_kind, most_elements, members_from, one, several, repeated, has_members, meaning_of, form_of, form_meaning}
use Rattle.types.specs.Trees.{size_refusal}
use Rattle.types.specs.Table.{entry_refusal, form_refusal}

-- ---- four words by their number

first_chunk : (ws : List ℕ) (k e : ℕ) → e < k → get_or (first_chunks 4 k ws) e [] ≡ take 4 (drop (4 * e) ws)
first_chunk ws zero e h = absurd (omega arith)
first_chunk ws (suc k) zero h = refl
first_chunk ws (suc k) (suc e) h =
    let s : 4 * suc e ≡ 4 + 4 * e = omega arith in
    first_chunk (drop 4 ws) k e (omega arith) ∙ rw s (ap (λ (l : List ℕ). take 4 l) (drop-drop (4 * e) 4 ws))

four_words : (ws : List ℕ) (at : ℕ) → at + 4 ≤ length ws → take 4 (drop at ws) ≡ piece_words (piece_at ws at)
four_words ws at h =
    let p = read_piece ws at h in
    let w0 = drop_word ws at (omega arith) in
    let w1 = drop_word ws (at + 1) (omega arith) in
    let w2 = drop_word ws (at + 1 + 1) (omega arith) in
    let w3 = drop_word ws (at + 1 + 1 + 1) (omega arith) in
    let e2 : at + 1 + 1 ≡ at + 2 = omega arith in
    let e3 : at + 2 + 1 ≡ at + 3 = omega arith in
    rw (w0, w1, w2, w3, e2, e3, ← p)

module _ (ws : List ℕ) (e : ℕ) where
  pub four_there : e < length ws / 4 → (four : List ℕ) → four ≡ get_or (first_chunks 4 (length ws / 4) ws) e [] → four ≡ piece_words (piece_at ws (4 * e))
  four_there h four f = f ∙ first_chunk ws (length ws / 4) e h ∙ four_words ws (4 * e) (omega arith)

  pub no_four : length ws / 4 ≤ e → 0 ∷ 0 ∷ 0 ∷ 0 ∷ [] ≡ piece_words (piece_at ws (4 * e))
  no_four h = ap piece_words (no_piece ws (4 * e) (omega arith))

-- ---- a loop over members: those from number i on

module _ (ms : List ℕ) (first count : ℕ) where
  module _ (i : ℕ) where
    pub members_step : i < count → (m : ℕ) → m ≡ get_or ms (first + i) nowhere
        → members_from ms (first + i) (count - i) ≡ m ∷ members_from ms (first + (i + 1)) (count - (i + 1))
    unfolding members_from
    members_step lt m em =
        let s : count - i ≡ suc (count - (i + 1)) = omega arith in
        let a : first + i + 1 ≡ first + (i + 1) = omega arith in
        rw (s, em, a)

    pub members_end : count ≤ i → members_from ms (first + i) (count - i) ≡ []
    unfolding members_from
    members_end ge = let s : count - i ≡ 0 = omega arith in rw s

-- ---- what an entry says

module _ (ts : List ℕ) (e : ℕ) (w : List ℕ) (ew : w ≡ piece_words (piece_at ts (entry_size * e))) where
  pub record_form : get_or w 0 0 ≡ record_kind → Members false (get_or w 1 0) (get_or w 2 0) ≡ form_of (entry_at ts e)
  unfolding form_of
  record_form k = rw (ew, rw ew at k)

  pub union_form : get_or w 0 0 ≡ union_kind → Members true (get_or w 1 0) (get_or w 2 0) ≡ form_of (entry_at ts e)
  unfolding form_of
  union_form k = rw (ew, rw ew at k)

  pub array_form : get_or w 0 0 ≡ array_kind → Elements (get_or w 1 0) (get_or w 2 0) ≡ form_of (entry_at ts e)
  unfolding form_of
  array_form k = rw (ew, rw ew at k)

  pub scalar_form : (get_or w 0 0 ≡ record_kind → ⊥) → (get_or w 0 0 ≡ union_kind → ⊥) → (get_or w 0 0 ≡ array_kind → ⊥)
      → One (scalar (get_or w 0 0) (get_or w 1 0) (get_or w 2 0)) ≡ form_of (entry_at ts e)
  unfolding form_of
  scalar_form r u a = rw (ew, ne_eqb _ record_kind (rw ew at r), ne_eqb _ union_kind (rw ew at u), ne_eqb _ array_kind (rw ew at a))

module _ (ms : List ℕ) (x : Entry) (b : Bool) (eb : b ≡ has_members x.kind) where
  pub means_several : b ≡ true → meaning_of ms x ≡ several (eqb x.kind union_kind) (members_from ms x.second x.third)
  unfolding meaning_of
  means_several h = rw (← eb, h)

  pub means_repeated : b ≡ false → x.kind ≡ array_kind → meaning_of ms x ≡ repeated x.second x.third
  unfolding meaning_of
  means_repeated h k = rw (← eb, h, eq-eqb _ _ k)

  pub means_one : b ≡ false → (x.kind ≡ array_kind → ⊥) → meaning_of ms x ≡ one (scalar x.kind x.second x.third)
  unfolding meaning_of
  means_one h k = rw (← eb, h, ne_eqb _ _ k)

-- and what its form means
pub form_means : (ms : List ℕ) (x : Entry) → meaning_of ms x ≡ form_meaning ms (form_of x)
unfolding meaning_of form_of
form_means ms x = by (has_members x.kind) (eqb x.kind array_kind)
  where
    by : (m a : Bool)
        → cond m (several (eqb x.kind union_kind) (members_from ms x.second x.third)) (cond a (repeated x.second x.third) (one (scalar x.kind x.second x.third)))
        ≡ form_meaning ms (cond m (Members (eqb x.kind union_kind) x.second x.third) (cond a (Elements x.second x.third) (One (scalar x.kind x.second x.third))))
    by true a = refl
    by false true = refl
    by false false = refl

pub form_refuses : (x : Entry) (r : Row) → entry_refusal x r ≡ form_refusal (form_of x) r
unfolding entry_refusal form_of
form_refuses x r = by (has_members x.kind) (eqb x.kind array_kind)
  where
    by : (m a : Bool)
        → cond m (size_refusal r.reach) (cond a (refuse (ltb most_elements x.third) bad_size (size_refusal r.reach)) (scalar_refusal (scalar x.kind x.second x.third)))
        ≡ form_refusal (cond m (Members (eqb x.kind union_kind) x.second x.third) (cond a (Elements x.second x.third) (One (scalar x.kind x.second x.third)))) r
    by true a = refl
    by false true = refl
    by false false = refl
