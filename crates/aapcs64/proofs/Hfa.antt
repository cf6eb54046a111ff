-- The test for homogeneous pieces finds exactly the HFAs: pieces of one floating-point type have one kind, size and alignment, and in offset order
-- and without overlap no two of them share an address.
use Prim.Native.Nat.{ℕ, ◌+◌, ◌*◌, ◌≤◌, ◌<◌}
use mathlib.Core.Path.{◌≡◌, refl, sym, ap, ◌∙◌}
use mathlib.Core.List.{List, [], ◌∷◌, map}
use mathlib.Core.Bool.{Bool, true, false, ◌&&◌, ◌||◌, or-false}
use native.Mathlib.Omega.{arith}
use native.Mathlib.Nat.{mul_comm}
use lib.Dec.{leb, eqb}
use lib.ListN.{length, length-map}
use borrow.Author.Tests.{eqb-true, eqb-false, eq-eqb, ne_eqb, leb-true, le-leb, lt-ltb}
use Rattle.shape.proofs.Bools.{both_true}
use Rattle.shape.specs.declared.Piece.{Piece}
use Rattle.shape.specs.declared.Shape.{Shape}
use Rattle.shape.specs.Lists.{every}
use Rattle.shape.specs.Words.{piece}
use Rattle.shape.specs.Questions.{is_float}
use Rattle.slots.specs.declared.Slot.{Slot}
use Rattle.slots.specs.Search.{found, nothing, floats_in}
use Rattle.find.specs.Find.{found_if, floats_at, all_same, is_homogeneous, homogeneous}
use Rattle.find.proofs.Each.{length_at, floats_at_lem}
use Rattle.aapcs64.specs.Aapcs64.{Precision, single, double, bytes_of, Fundamental, integral, floating, size_of, Composite, is_of, all_of, insert, addressable, count, is_hfa_of, is_hfa, member_parts}
use Rattle.aapcs64.specs.Reading.{type_of, member_of, composite, format_bytes, parts_of}
use Rattle.aapcs64.specs.Domain.{is_usual, end, in_order, apart}
use Rattle.aapcs64.proofs.Enough.{Enough}

-- ---- the pieces' scalars

data Usual : ℕ → ℕ → ℕ → Type 0 where
  int : {s a : ℕ} → Usual 0 s a
  singles : Usual 1 4 4
  doubles : Usual 2 8 8

scalar : (k s a kind size : ℕ) → Usual kind size size → eqb k kind && eqb s size && eqb a size ≡ true → Usual k s a
scalar k s a kind size u e =
    let x = both_true (eqb k kind && eqb s size) (eqb a size) e in
    let y = both_true (eqb k kind) (eqb s size) x.0 in
    rw (eqb-true k kind y.0, eqb-true s size y.1, eqb-true a size x.1) u

usual : (p : Piece) → is_usual p ≡ true → Usual p.kind p.size p.align
usual p = go p.kind p.size p.align
  where
    go : (k s a : ℕ) → eqb k 0 || eqb k 1 && eqb s 4 && eqb a 4 || eqb k 2 && eqb s 8 && eqb a 8 ≡ true → Usual k s a
    go k s a e = by (eqb k 0) (eqb k 1 && eqb s 4 && eqb a 4) refl refl e
      where
        by : (b c : Bool) → eqb k 0 ≡ b → eqb k 1 && eqb s 4 && eqb a 4 ≡ c → b || c || eqb k 2 && eqb s 8 && eqb a 8 ≡ true → Usual k s a
        by true c eb ec e = rw (eqb-true k 0 eb) int
        by false true eb ec e = scalar k s a 1 4 singles ec
        by false false eb ec e = scalar k s a 2 8 doubles e

-- a kind stands for a floating-point type: of such pieces, those of the kind are of its size and alignment
record Stands (kind : ℕ) (p : Precision) : Type 0 where
  tests : (k s a : ℕ) → Usual k s a → eqb k kind && eqb s (bytes_of p) && eqb a (bytes_of p) ≡ is_of p (type_of k s)
  sized : (k s a : ℕ) → Usual k s a → is_of p (type_of k s) ≡ true → s ≡ bytes_of p
  some : 0 < bytes_of p
  format : format_bytes kind ≡ bytes_of p
  float : is_float kind ≡ true

single_stands : Stands 1 single
single_stands = record { tests = tests; sized = sized; some = omega arith; format = refl; float = refl }
  where
    tests : (k s a : ℕ) → Usual k s a → eqb k 1 && eqb s 4 && eqb a 4 ≡ is_of single (type_of k s)
    tests k s a int = refl
    tests k s a singles = refl
    tests k s a doubles = refl

    sized : (k s a : ℕ) → Usual k s a → is_of single (type_of k s) ≡ true → s ≡ 4
    sized k s a int e = absurd (let z : ◌≡◌ {A = ℕ} 0 1 = cc in omega arith)
    sized k s a singles e = refl
    sized k s a doubles e = absurd (let z : ◌≡◌ {A = ℕ} 0 1 = cc in omega arith)

double_stands : Stands 2 double
double_stands = record { tests = tests; sized = sized; some = omega arith; format = refl; float = refl }
  where
    tests : (k s a : ℕ) → Usual k s a → eqb k 2 && eqb s 8 && eqb a 8 ≡ is_of double (type_of k s)
    tests k s a int = refl
    tests k s a singles = refl
    tests k s a doubles = refl

    sized : (k s a : ℕ) → Usual k s a → is_of double (type_of k s) ≡ true → s ≡ 8
    sized k s a int e = absurd (let z : ◌≡◌ {A = ℕ} 0 1 = cc in omega arith)
    sized k s a singles e = absurd (let z : ◌≡◌ {A = ℕ} 0 1 = cc in omega arith)
    sized k s a doubles e = refl

-- ---- members of one type

size_of_lem : (p : Precision) (f : Fundamental) → is_of p f ≡ true → size_of f ≡ bytes_of p
size_of_lem p (integral n) e = absurd (let z : ◌≡◌ {A = ℕ} 0 1 = cc in omega arith)
size_of_lem p (floating q) e = sym (eqb-true (bytes_of p) (bytes_of q) e)

module _ (kind : ℕ) (p : Precision) (st : Stands kind p) where
  abbrev first : ℕ → Piece
  first o = piece kind (bytes_of p) (bytes_of p) o

  same_type : (o : ℕ) (ps : List Piece) → every is_usual ps ≡ true → all_same (first o) ps ≡ all_of p (map member_of ps)
  unfolding all_same all_of every
  same_type o [] u = refl
  same_type o (q ∷ ps) u =
      let x = both_true (is_usual q) (every is_usual ps) u in
      rw (st.tests q.kind q.size q.align (usual q x.0), same_type o ps x.1)

  -- of two that follow one another, the second starts behind the first
  behind : (q r : Piece) → Usual q.kind q.size q.align → Usual r.kind r.size r.align
      → is_of p (type_of q.kind q.size) ≡ true → is_of p (type_of r.kind r.size) ≡ true
      → q.offset ≤ r.offset → leb (end q) r.offset || leb (end r) q.offset ≡ true → q.offset < r.offset
  behind q r uq ur tq tr l e = go (leb (end q) r.offset) refl e
    where
      sq : q.size ≡ bytes_of p
      sq = st.sized q.kind q.size q.align uq tq

      sr : r.size ≡ bytes_of p
      sr = st.sized r.kind r.size r.align ur tr

      go : (b : Bool) → leb (end q) r.offset ≡ b → b || leb (end r) q.offset ≡ true → q.offset < r.offset
      go true t e = let h : end q ≤ r.offset = leb-true _ _ t in omega (arith, sq, st.some)
      go false t e = let h : end r ≤ q.offset = leb-true _ _ e in omega (arith, sr, st.some)

  by_address : (ps : List Piece) → every is_usual ps ≡ true → in_order ps ≡ true → apart ps ≡ true → all_of p (map member_of ps) ≡ true
      → addressable (map member_of ps) ≡ map member_of ps
  unfolding every in_order apart all_of addressable insert
  by_address [] u i a t = refl
  by_address (q ∷ []) u i a t = refl
  by_address (q ∷ r ∷ ps) u i a t =
      let uq = both_true (is_usual q) (every is_usual (r ∷ ps)) u in
      let ur = both_true (is_usual r) (every is_usual ps) uq.1 in
      let iq = both_true _ (in_order (r ∷ ps)) i in
      let ir = both_true (leb q.offset r.offset) _ iq.0 in
      let aq = both_true _ (apart (r ∷ ps)) a in
      let ar = both_true (leb (end q) r.offset || leb (end r) q.offset) _ aq.0 in
      let tq = both_true (is_of p (type_of q.kind q.size)) (all_of p (map member_of (r ∷ ps))) t in
      let tr = both_true (is_of p (type_of r.kind r.size)) (all_of p (map member_of ps)) tq.1 in
      let h : q.offset < r.offset = behind q r (usual q uq.0) (usual r ur.0) tq.0 tr.0 (leb-true _ _ ir.0) ar.0 in
      rw (by_address (r ∷ ps) uq.1 iq.1 aq.1 tq.1, lt-ltb q.offset r.offset h)

  -- a slot for each is a v register for each
  in_v : (n s : ℕ) (ps : List Piece) → all_of p (map member_of ps) ≡ true → parts_of n s (floats_at kind ps) ≡ member_parts s (map member_of ps)
  unfolding parts_of floats_at member_parts all_of
  in_v n s [] e = refl
  in_v n s (q ∷ ps) e =
      let a = both_true (is_of p (type_of q.kind q.size)) (all_of p (map member_of ps)) e in
      rw (st.float, st.format, size_of_lem p (type_of q.kind q.size) a.0, in_v n (s + 1) ps a.1)

-- ---- the two tests

-- what is found in an HFA, and that nothing is found in any other composite
pub record Vectors (natural : ℕ) (shape : Shape) (ps : List Piece) : Type 0 where
  pub slots : List Slot
  pub finds : homogeneous 4 shape ps ≡ found slots
  pub test : is_hfa (composite natural shape ps) ≡ true
  pub floats : floats_in slots ≡ count (composite natural shape ps)
  pub all : length slots ≡ count (composite natural shape ps)
  pub few : count (composite natural shape ps) ≤ 4
  pub parts : (n s : ℕ) → parts_of n s slots ≡ member_parts s (addressable (map member_of ps))

pub record Others (natural : ℕ) (shape : Shape) (ps : List Piece) : Type 0 where
  pub finds : homogeneous 4 shape ps ≡ nothing
  pub test : is_hfa (composite natural shape ps) ≡ false

pub data Agreed (natural : ℕ) (shape : Shape) (ps : List Piece) : Type 0 where
  vectors : Vectors natural shape ps → Agreed natural shape ps
  others : Others natural shape ps → Agreed natural shape ps

-- both tests ask for members of one type, and then for the same count and size
one_test : (all few fills few' fills' : Bool) → (all ≡ true → few ≡ few') → (all ≡ true → fills ≡ fills')
    → true && few && all && fills ≡ all && few' && fills'
one_test true true fills few' fills' f g = rw (← f refl, g refl)
one_test true false fills few' fills' f g = rw (← f refl)
one_test false true fills few' fills' f g = refl
one_test false false fills few' fills' f g = refl

same_size : (a b c : ℕ) → a ≡ c → eqb a b ≡ eqb b c
same_size a b c e = go (eqb a b) refl
  where
    go : (t : Bool) → eqb a b ≡ t → eqb a b ≡ eqb b c
    go true t = let h : a ≡ b = eqb-true _ _ t in t ∙ sym (eq-eqb b c (omega arith))
    go false t = let h = eqb-false a b t in t ∙ sym (ne_eqb b c (λ k. h (e ∙ sym k)))

module _ (natural : ℕ) (shape : Shape) where
  module _ (kind : ℕ) (p : Precision) (st : Stands kind p) (o : ℕ) (ps : List Piece) where
    abbrev whole : List Piece
    whole = first kind p st o ∷ ps

    abbrev c : Composite
    c = composite natural shape whole

    module _ (d : Enough shape whole) where
      members : all_of p c.members ≡ true → addressable c.members ≡ c.members
      members t = by_address kind p st whole d.usual d.order d.no_overlap t

      counted : all_of p c.members ≡ true → count c ≡ length whole
      unfolding count
      counted t = ap length (members t) ∙ length-map whole member_of

      tests : is_homogeneous 4 shape (first kind p st o) whole ≡ is_hfa_of p c
      unfolding is_homogeneous is_hfa_of
      tests =
          rw (st.float, same_type kind p st o whole d.usual)
          (one_test (all_of p c.members) (leb (length whole) 4) (eqb (bytes_of p * length whole) shape.size) (leb 1 (count c) && leb (count c) 4)
          (eqb shape.size (count c * bytes_of p))
          (λ t. rw (counted t, le-leb 1 (length whole) (omega arith)))
          (λ t. rw (counted t) (same_size (bytes_of p * length whole) shape.size (length whole * bytes_of p) (mul_comm (bytes_of p) (length whole)))))

      agreed : is_hfa c ≡ is_hfa_of p c → Agreed natural shape whole
      unfolding homogeneous found_if is_hfa_of
      agreed e = go (is_homogeneous 4 shape (first kind p st o) whole) refl
        where
          go : (b : Bool) → is_homogeneous 4 shape (first kind p st o) whole ≡ b → Agreed natural shape whole
          go true t =
              let x = both_true (all_of p c.members && (leb 1 (count c) && leb (count c) 4)) (eqb c.size (count c * bytes_of p)) (sym tests ∙ t) in
              let y = both_true (all_of p c.members) (leb 1 (count c) && leb (count c) 4) x.0 in
              let z = both_true (leb 1 (count c)) (leb (count c) 4) y.1 in
              vectors (record {
                slots = floats_at kind whole;
                finds = rw t;
                test = e ∙ (sym tests ∙ t);
                floats = rw (counted y.0) (floats_at_lem kind whole st.float);
                all = rw (counted y.0) (length_at kind whole);
                few = leb-true _ _ z.1;
                parts = λ n s. rw (members y.0) (in_v kind p st n s whole y.0);
              })
          go false t = others (record { finds = rw t; test = e ∙ (sym tests ∙ t) })

  -- a first member of one type leaves the other types out
  started : (k s a o : ℕ) (ps : List Piece) → Usual k s a → Enough shape (piece k s a o ∷ ps) → Agreed natural shape (piece k s a o ∷ ps)
  unfolding homogeneous is_homogeneous found_if is_hfa is_hfa_of all_of
  started k s a o ps int d = others (record { finds = refl; test = refl })
  started k s a o ps singles d = agreed 1 single single_stands o ps d (or-false _ ∙ or-false _)
  started k s a o ps doubles d = agreed 2 double double_stands o ps d (or-false _)

  pub agreement : (ps : List Piece) → Enough shape ps → Agreed natural shape ps
  unfolding homogeneous is_hfa is_hfa_of all_of count addressable every
  agreement [] d = others (record { finds = refl; test = refl })
  agreement (p ∷ ps) d = started p.kind p.size p.align p.offset ps (usual p (both_true (is_usual p) (every is_usual ps) d.usual).0) d
