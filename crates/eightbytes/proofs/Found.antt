-- The whole search, from what its parts found, and what its users learn: its slots are those of the classes beside it, and how many there can be.
use Rattle.std.specs.Prelude as Prelude
use Prim.Native.Nat.{ℕ, suc, ◌+◌, ◌-◌, ◌≤◌, ◌<◌, min}
use mathlib.Core.Path.{◌≡◌, refl, sym, ap, ◌∙◌}
use mathlib.Core.Bool.{Bool, true, false, cond, not}
use mathlib.Core.List.{List, [], ◌∷◌, ◌++◌}
use mathlib.Core.Option.{Option}
use mathlib.Core.Option.Option.{none, some}
use native.Mathlib.Omega.{arith}
use borrow.Author.Tests.{lt-ltb, le-ltb, ltb-false}
use lib.Dec.{ltb}
use lib.Seq.{take_at}
use lib.ListN.{length, take, replicate, length-replicate}
use Rattle.shape.specs.declared.Piece.{Piece}
use Rattle.shape.specs.declared.Shape.{Shape}
use Rattle.slots.specs.declared.Slot.{Slot}
use Rattle.slots.specs.declared.Found.{Found}
use Rattle.shape.specs.Numbers.{one_if}
use Rattle.slots.specs.Search.{found, found_of}
use Rattle.eightbytes.specs.Class.{Class, None, SseUp, same, mended}
use Rattle.eightbytes.specs.Eightbytes.{most_limit, eightbytes_in, mark, classes_after, spoiled, mend, settled, and_then, classified, slots_from, slots_found, eightbytes, eight_of, classes_of, slots_of_eight, slot_count}
use Rattle.eightbytes.specs.Reach.{fits}
use Rattle.eightbytes.proofs.Marks.{mark_length}
use Rattle.eightbytes.proofs.Counts.{slots_length}

-- ---- from the parts: `o` is what is known of the classes

module _ (limit : ℕ) (shape : Shape) (ps : List Piece) (o : Option (List Class)) (e : classified limit shape ps ≡ o) where
  pub found_by : (f : Prelude.Option Found) → f ≡ found_of (slots_found shape.size o) → f ≡ found_of (eightbytes limit shape ps)
  unfolding eightbytes
  found_by f ef = rw e ef

  pub classes_by : (cs : List Class) → cs ≡ eight_of o → cs ≡ classes_of limit shape ps
  unfolding classes_of
  classes_by cs ec = rw e ec

pub nothing_by : (size : ℕ) (f : Prelude.Option Found) → f ≡ Prelude.None → f ≡ found_of (slots_found size none)
unfolding slots_found found_of
nothing_by size f e = e

module _ (limit : ℕ) (shape : Shape) (ps : List Piece) (m : ℕ) (em : m ≡ min limit most_limit) where
  pub over_limit : m < shape.size → classified limit shape ps ≡ none
  unfolding classified
  over_limit h = rw (← em, lt-ltb _ _ h)

  -- within it, n is the number of the shape's eightbytes
  module _ (n : ℕ) (h : shape.size ≤ m) (en : n ≡ eightbytes_in shape.size) where
    pub unfit : classes_after (replicate n None) ps ≡ none → classified limit shape ps ≡ none
    unfolding classified
    unfit e = rw (← em, le-ltb _ _ h, ← en, e)

    pub fit : (xs : List Class) → classes_after (replicate n None) ps ≡ some (take n xs) → classified limit shape ps ≡ settled (take n xs)
    unfolding classified
    fit xs e = rw (← em, le-ltb _ _ h, ← en, e)

-- ---- for users of the answer

mend_length : (below : Class) (cs : List Class) → length (mend below cs) ≡ length cs
unfolding mend
mend_length below [] = refl
mend_length below (c ∷ cs) = ap suc (mend_length (mended below c) cs)

marked_long : (cs ds : List Class) (ps : List Piece) → classes_after cs ps ≡ some ds → length ds ≡ length cs
unfolding classes_after
marked_long cs ds [] e = let s : cs ≡ ds = cc in sym (ap length s)
marked_long cs ds (p ∷ ps) e = go (marked_long (mark cs p) ds ps) (fits (length cs) p) e
  where
    go : (classes_after (mark cs p) ps ≡ some ds → length ds ≡ length (mark cs p)) → (b : Bool) → cond b (classes_after (mark cs p) ps) none ≡ some ds → length ds ≡ length cs
    go ih true x = ih x ∙ mark_length cs p
    go ih false x = let z : ◌≡◌ {A = ℕ} 0 1 = cc in absurd (omega arith)

settled_long : (cs ds : List Class) → settled cs ≡ some ds → length ds ≡ length cs
unfolding settled
settled_long cs ds e = go (spoiled cs) e
  where
    go : (b : Bool) → cond b none (some (mend None cs)) ≡ some ds → length ds ≡ length cs
    go true x = let z : ◌≡◌ {A = ℕ} 0 1 = cc in absurd (omega arith)
    go false x = let s : mend None cs ≡ ds = cc in sym (ap length s) ∙ mend_length None cs

-- what is found is within the limit, and has a class for each eightbyte
pub record Classes (limit : ℕ) (shape : Shape) (cs : List Class) : Type 0 where
  pub size≤ : shape.size ≤ min limit most_limit
  pub one_each : length cs ≡ eightbytes_in shape.size

pub classes_are : (limit : ℕ) (shape : Shape) (ps : List Piece) (cs : List Class) → classified limit shape ps ≡ some cs → Classes limit shape cs
unfolding classified
classes_are limit shape ps cs e = go (ltb (min limit most_limit) shape.size) refl e
  where
    n : ℕ
    n = eightbytes_in shape.size

    some_cs : (o : Option (List Class)) → classes_after (replicate n None) ps ≡ o → and_then o settled ≡ some cs → length cs ≡ n
    some_cs none m x = let z : ◌≡◌ {A = ℕ} 0 1 = cc in absurd (omega arith)
    some_cs (some ds) m x = settled_long ds cs x ∙ marked_long (replicate n None) ds ps m ∙ length-replicate n None

    go : (b : Bool) → ltb (min limit most_limit) shape.size ≡ b → cond b none (and_then (classes_after (replicate n None) ps) settled) ≡ some cs → Classes limit shape cs
    go true t x = let z : ◌≡◌ {A = ℕ} 0 1 = cc in absurd (omega arith)
    go false t x = record { size≤ = ltb-false _ _ t; one_each = some_cs _ refl x }

pub few_slots : (cs : List Class) → slot_count cs ≤ length cs
unfolding slot_count
few_slots [] = omega arith
few_slots (c ∷ cs) = go (same c SseUp) (few_slots cs)
  where
    go : (up : Bool) → slot_count cs ≤ length cs → one_if (not up) + slot_count cs ≤ suc (length cs)
    go true h = omega arith
    go false h = omega arith

-- the classes beside the answer stand for its slots
pub record Answer (limit : ℕ) (shape : Shape) (ps : List Piece) (ss : List Slot) : Type 0 where
  pub slots_are : ss ≡ slots_of_eight shape.size (classes_of limit shape ps)
  pub few : length ss ≤ eightbytes_in shape.size
  pub within : shape.size ≤ min limit most_limit

pub answer : (limit : ℕ) (shape : Shape) (ps : List Piece) (ss : List Slot) → eightbytes limit shape ps ≡ found ss → Answer limit shape ps ss
unfolding eightbytes slots_found classes_of eight_of slots_of_eight
answer limit shape ps ss e = go (classified limit shape ps) refl e
  where
    n : ℕ
    n = eightbytes_in shape.size

    back : (cs : List Class) → length cs ≡ n → take n (cs ++ replicate (8 - length cs) None) ≡ cs
    back cs l = take_at cs _ n l

    go : (o : Option (List Class)) → classified limit shape ps ≡ o → slots_found shape.size o ≡ found ss
        → Answer limit shape ps ss
    go none c x = let z : ◌≡◌ {A = ℕ} 0 1 = cc in absurd (omega arith)
    go (some cs) c x =
        let k = classes_are limit shape ps cs c in
        let s : slots_from 0 shape.size cs ≡ ss = cc in
        let l : length ss ≡ slot_count cs = ap length (sym s) ∙ slots_length 0 shape.size cs in
        record {
          slots_are = sym s ∙ rw (c) (sym (ap (slots_from 0 shape.size) (back cs k.one_each)));
          few = omega (arith, few_slots cs);
          within = k.size≤;
        }

-- at most one slot for each eightbyte of the limit, and at most eight
pub at_most : (limit : ℕ) (shape : Shape) (ps : List Piece) (ss : List Slot) → eightbytes limit shape ps ≡ found ss → length ss ≤ eightbytes_in (min limit most_limit)
at_most limit shape ps ss e = let a = answer limit shape ps ss e in omega arith
