-- What functions flattened is what the definitions say, and what these say: the refusals and when each is given, each leaf one piece, and records of
-- scalars.
use Prim.Native.Nat.{ℕ, zero, suc, ◌+◌, ◌/◌, ◌%◌, ◌≤◌, ◌<◌, max}
use mathlib.Core.Path.{◌≡◌, refl, ap, sym, subst, ◌∙◌}
use mathlib.Core.Bool.{Bool, true, false, not, ◌||◌}
use mathlib.Core.List.{List, [], ◌∷◌}
use mathlib.Core.Logic.{⊎_elim}
use native.Mathlib.Nat.{eq-or-lt_of_le}
use native.Mathlib.Omega.{arith}
use borrow.Author.Tests.{lt-ltb, le-ltb, le-leb, ltb-true, ltb-false, eqb-true}
use lib.Dec.{ltb, eqb}
use lib.ListN.{length}
use Rattle.shape.specs.declared.Piece.{Piece}
use Rattle.shape.specs.declared.Shape.{Shape}
use Rattle.shape.specs.Numbers.{accepted, bad_list, bad_kind, bad_size, bad_align, no_room, bad_type, too_deep, most_offset, most_pieces}
use Rattle.shape.specs.Arithmetic.{round_up}
use Rattle.shape.specs.Words.{scalar_size, pieces_of, scalars_of, put_at}
use Rattle.checks.specs.Check.{refuse, or_else, unless_refused, shape_refusal, Passes}
use Rattle.checks.proofs.Check.{else_first}
use Rattle.layouts.specs.Record.{max_of, largest_align, furthest_end, is_floating, recorded, record_answer}
use Rattle.layouts.specs.Members.{members_refusal, placed, pieces_words, pieces_answer, pieces_written}
use Rattle.layouts.proofs.Members.{pieces_back, length_placed}
use Rattle.types.specs.Entries.{most_entries, most_members, most_elements, most_levels, all_refer_back}
use Rattle.types.specs.Tree.{Tree, leaf, group, array, size_of, align_of, levels_of, leaves_of}
use Rattle.types.specs.Trees.{type_at, entries, wanted, lists_refusal, references_refusal, size_refusal, tree_refusal, trees_refusal, types_refusal}
use Rattle.types.proofs.Limits.{wanted_size}
use Rattle.flatten.specs.declared.Flattened.{Flattened}
use Rattle.flatten.specs.Leaves.{leaf_pieces}
use Rattle.flatten.specs.Flattened.{room_refusal, flatten_refusal, or_flattened, flatten_answer, flatten_written, front_words, Flattens}
use Rattle.flatten.specs.Records.{IsRecordOf}
use Rattle.flatten.proofs.Pieces.{length_leaves}
use Rattle.flatten.proofs.Passing.{wanted_passes}
use Rattle.flatten.proofs.Flattening as theorems
use Rattle.flatten.proofs.Scalars.{scalars_pieces, scalars_align, scalars_size, scalars_pass}
use Rattle.demands.specs.Refusals.{IsRefusal, is_one_of, OneOf}
use Rattle.demands.specs.Rust.{record_align, record_size}
use Rattle.demands.specs.Types as by
use Rattle.demands.specs.Types.{IsFlattened, type_refusals, RefusedType, entry_refusals, Refers, Because, AsRecord}
use Rattle.demands.proofs.Refusing.{Within, refuse_within, else_within, one_of, scalar_within}
use Rattle.demands.proofs.Answering.{record_as_rust}

-- ---- of functions

pub is_flattened_so : (types members out : List ℕ) (r : Flattened) (after : List ℕ) → IsFlattened types members out r after
    → (r ≡ flatten_answer types members out) × (after ≡ flatten_written types members out)
is_flattened_so types members out r after (by.flatten κs ts ms pieces et em eo m) =
    let p = rw (et, em, eo) at m.2 in
    (p.0, sym m.1 ∙ p.1)
is_flattened_so types members out r after (by.barkpaddle_flatten κs ts ms pieces et em eo m) =
    let p = rw (et, em, eo) at m.2 in
    (p.0, sym m.1 ∙ p.1)

-- ---- a refusal: one of the numbers

module _ (numbers : List ℕ) where
  lists_within : OneOf numbers bad_list → (ts ms : List ℕ) → Within numbers (lists_refusal ts ms)
  unfolding lists_refusal
  lists_within list ts ms =
      refuse_within numbers (ltb 0 (length ts % 4)) bad_list _ list
      (refuse_within numbers (eqb (entries ts) 0) bad_list _ list
      (refuse_within numbers (ltb most_entries (entries ts)) bad_list _ list (refuse_within numbers (ltb most_members (length ms)) bad_list accepted list tt)))

  references_within : OneOf numbers bad_type → OneOf numbers too_deep → (ts ms : List ℕ) → Within numbers (references_refusal ts ms)
  unfolding references_refusal
  references_within type deep ts ms =
      refuse_within numbers (not (all_refer_back ts ms 0 (entries ts))) bad_type _ type
      (refuse_within numbers (ltb most_levels (levels_of (wanted ts ms))) too_deep accepted deep tt)

  module _ (kind : OneOf numbers bad_kind) (size : OneOf numbers bad_size) (align : OneOf numbers bad_align) where
    size_within : (n : ℕ) → Within numbers (size_refusal n)
    size_within n = refuse_within numbers (ltb most_offset n) bad_size accepted size tt

    tree_within : (t : Tree) → Within numbers (tree_refusal t)
    unfolding tree_refusal
    tree_within (leaf s) = scalar_within numbers kind size align s
    tree_within (group f) = size_within (size_of (group f))
    tree_within (array t n) = refuse_within numbers (ltb most_elements n) bad_size _ size (size_within (size_of (array t n)))

    trees_within : (ts ms : List ℕ) (n e : ℕ) → Within numbers (trees_refusal ts ms e n)
    unfolding trees_refusal
    trees_within ts ms zero e = tt
    trees_within ts ms (suc n) e = else_within numbers (tree_refusal (type_at ts ms e)) _ (tree_within (type_at ts ms e)) (trees_within ts ms n (e + 1))

room_within : (numbers : List ℕ) → OneOf numbers no_room → (leaves : ℕ) (out : List ℕ) → Within numbers (room_refusal leaves out)
unfolding room_refusal
room_within numbers room leaves out =
    refuse_within numbers (ltb most_pieces leaves) no_room _ room (refuse_within numbers (ltb (length out / 4) leaves) no_room accepted room tt)

all_within : (ts ms out : List ℕ) → Within type_refusals (flatten_refusal ts ms out)
unfolding flatten_refusal types_refusal is_one_of
all_within ts ms out =
    else_within type_refusals (types_refusal ts ms) _
    (else_within type_refusals (lists_refusal ts ms) _ (lists_within type_refusals refl ts ms)
    (else_within type_refusals (references_refusal ts ms) _ (references_within type_refusals refl refl ts ms) (trees_within type_refusals refl refl refl ts ms (entries ts) 0)))
    (room_within type_refusals refl (leaves_of (wanted ts ms)) out)

pub flatten_refused : (ts ms out : List ℕ) → IsRefusal (flatten_answer ts ms out).refusal → RefusedType out (flatten_answer ts ms out) (flatten_written ts ms out)
unfolding flatten_answer flatten_written
flatten_refused ts ms out = go (flatten_refusal ts ms out) (all_within ts ms out)
  where
    go : (n : ℕ) → Within type_refusals n → IsRefusal (or_flattened n (wanted ts ms)).refusal
        → RefusedType out (or_flattened n (wanted ts ms)) (unless_refused n (put_at out 0 (pieces_words (leaf_pieces (wanted ts ms)))) out)
    go zero k h = absurd (h refl)
    go (suc n) k h = record { answer = record { one_of_them = k; rest_zero = refl }; same_words = refl }

-- ---- when each is given

-- the one number of a list of one
only_number : (k n : ℕ) → Within (k ∷ []) n → (n ≡ accepted → ⊥) → n ≡ k
unfolding is_one_of
only_number k zero w h = absurd (h refl)
only_number k (suc n) w h = go (eqb (suc n) k) refl w
  where
    go : (b : Bool) → eqb (suc n) k ≡ b → (b || false) ≡ true → suc n ≡ k
    go true e q = eqb-true _ _ e
    go false e q = let z : ◌≡◌ {A = ℕ} 0 1 = cc in absurd (omega arith)

lists_number : (ts ms : List ℕ) → IsRefusal (lists_refusal ts ms) → lists_refusal ts ms ≡ bad_list
unfolding is_one_of
lists_number ts ms h = only_number bad_list (lists_refusal ts ms) (lists_within (bad_list ∷ []) refl ts ms) h

entry_number : (t : Tree) → IsRefusal (tree_refusal t) → OneOf entry_refusals (tree_refusal t)
unfolding is_one_of
entry_number t = one_of entry_refusals (tree_refusal t) (tree_within entry_refusals refl refl refl t)

module _ (ts ms : List ℕ) where
  -- the first entry of some that is refused by itself
  record First (answer : ℕ) (end : ℕ) : Type 0 where
    at : ℕ
    there : at < end
    before : (i : ℕ) → i < at → tree_refusal (type_at ts ms i) ≡ accepted
    answers : tree_refusal (type_at ts ms at) ≡ answer

  first_refused : (n e : ℕ) → ((i : ℕ) → i < e → tree_refusal (type_at ts ms i) ≡ accepted) → IsRefusal (trees_refusal ts ms e n) → First (trees_refusal ts ms e n) (e + n)
  unfolding trees_refusal
  first_refused zero e before h = absurd (h refl)
  first_refused (suc n) e before h = go (tree_refusal (type_at ts ms e)) refl h (λ b r. first_refused n (e + 1) b r)
    where
      go : (k : ℕ) → tree_refusal (type_at ts ms e) ≡ k → IsRefusal (or_else k (trees_refusal ts ms (e + 1) n))
          → (((i : ℕ) → i < e + 1 → tree_refusal (type_at ts ms i) ≡ accepted) → IsRefusal (trees_refusal ts ms (e + 1) n) → First (trees_refusal ts ms (e + 1) n) (e + 1 + n))
          → First (or_else k (trees_refusal ts ms (e + 1) n)) (e + suc n)
      go zero q r rest =
          let f = rest (λ i lt. ⊎_elim (λ (z : i ≡ e). rw z q) (λ (z : i < e). before i z) (eq-or-lt_of_le {n = i} {m = e} (omega arith))) r in
          record { at = f.at; there = omega (arith, f.there); before = f.before; answers = f.answers }
      go (suc k) q r rest = record { at = e; there = omega arith; before = before; answers = q }

  refused_first : (n e k : ℕ) → e ≤ k → k < e + n → ((i : ℕ) → i < k → tree_refusal (type_at ts ms i) ≡ accepted) → IsRefusal (tree_refusal (type_at ts ms k))
      → trees_refusal ts ms e n ≡ tree_refusal (type_at ts ms k)
  unfolding trees_refusal
  refused_first zero e k le lt before h = absurd (omega arith)
  refused_first (suc n) e k le lt before h = ⊎_elim
      (λ (z : e ≡ k). rw z (sym (else_first (tree_refusal (type_at ts ms k)) _ h)))
      (λ (z : e < k). rw (before e z) (refused_first n (e + 1) k (omega arith) (omega arith) before h))
      (eq-or-lt_of_le {n = e} {m = k} le)

-- what is answered has its reason
module _ (ts ms out : List ℕ) where
  by_room : types_refusal ts ms ≡ accepted → Because ts ms out (room_refusal (leaves_of (wanted ts ms)) out)
  unfolding room_refusal
  by_room ok = go (ltb most_pieces (leaves_of (wanted ts ms))) refl (ltb (length out / 4) (leaves_of (wanted ts ms))) refl
    where
      go : (many : Bool) → ltb most_pieces (leaves_of (wanted ts ms)) ≡ many → (short : Bool) → ltb (length out / 4) (leaves_of (wanted ts ms)) ≡ short
          → Because ts ms out (refuse many no_room (refuse short no_room accepted))
      go true e short f = by.too_many_leaves ok (ltb-true _ _ e)
      go false e true f = by.short_buffer ok (ltb-false _ _ e) (ltb-true _ _ f)
      go false e false f = by.nothing_refused ok (ltb-false _ _ e) (ltb-false _ _ f)

  module _ (refers : Refers ts ms) (types_are : types_refusal ts ms ≡ trees_refusal ts ms 0 (entries ts)) where
    by_entries : (n : ℕ) → trees_refusal ts ms 0 (entries ts) ≡ n → Because ts ms out (or_else n (room_refusal (leaves_of (wanted ts ms)) out))
    by_entries zero e = by_room (types_are ∙ e)
    by_entries (suc n) e =
        let z : 0 + entries ts ≡ entries ts = omega arith in
        let h : IsRefusal (trees_refusal ts ms 0 (entries ts)) = λ r. omega arith in
        let f = first_refused ts ms (entries ts) 0 (λ i lt. absurd (omega arith)) h in
        let a : tree_refusal (type_at ts ms f.at) ≡ suc n = f.answers ∙ e in
        let r : IsRefusal (tree_refusal (type_at ts ms f.at)) = λ q. omega arith in
        subst (Because ts ms out) a (by.bad_entry refers f.at (omega (arith, f.there)) f.before r (entry_number (type_at ts ms f.at) r))

  module _ (lists : lists_refusal ts ms ≡ accepted) where
    by_references : (back : Bool) → all_refer_back ts ms 0 (entries ts) ≡ back → (deep : Bool) → ltb most_levels (levels_of (wanted ts ms)) ≡ deep
        → Because ts ms out (or_else (or_else (refuse (not back) bad_type (refuse deep too_deep accepted)) (trees_refusal ts ms 0 (entries ts))) (room_refusal (leaves_of (wanted ts ms)) out))
    unfolding types_refusal references_refusal
    by_references false eb deep ed = by.bad_reference lists eb
    by_references true eb true ed = by.too_many_levels lists eb (ltb-true _ _ ed)
    by_references true eb false ed =
        by_entries (record { lists = lists; back = eb; levels = ltb-false _ _ ed }) (rw (lists, eb, ed)) (trees_refusal ts ms 0 (entries ts)) refl

  by_lists : (n : ℕ) → lists_refusal ts ms ≡ n → Because ts ms out (or_else (or_else n (or_else (references_refusal ts ms) (trees_refusal ts ms 0 (entries ts)))) (room_refusal (leaves_of (wanted ts ms)) out))
  unfolding references_refusal
  by_lists zero e = by_references e (all_refer_back ts ms 0 (entries ts)) refl (ltb most_levels (levels_of (wanted ts ms))) refl
  by_lists (suc n) e =
      let h : IsRefusal (lists_refusal ts ms) = λ r. omega arith in
      subst (Because ts ms out) (sym (lists_number ts ms h) ∙ e) (by.bad_lengths h)

  pub because : Because ts ms out (flatten_answer ts ms out).refusal
  unfolding flatten_refusal types_refusal
  because = subst (Because ts ms out) (sym (theorems.refusal_is ts ms out)) (by_lists (lists_refusal ts ms) refl)

  -- and no other number has one
  because_refusal : (n : ℕ) → Because ts ms out n → n ≡ flatten_refusal ts ms out
  unfolding flatten_refusal types_refusal references_refusal room_refusal
  because_refusal _ (by.bad_lengths h) = rw (lists_number ts ms h)
  because_refusal _ (by.bad_reference l b) = rw (l, b)
  because_refusal _ (by.too_many_levels l b d) = rw (l, b, lt-ltb _ _ d)
  because_refusal _ (by.bad_entry refers e lt before h one) =
      let t = refused_first ts ms (entries ts) 0 e (omega arith) (omega arith) before h in
      rw (refers.lists, refers.back, le-ltb _ _ refers.levels, t) (else_first (tree_refusal (type_at ts ms e)) _ h)
  because_refusal _ (by.too_many_leaves ok many) = rw (ok, lt-ltb _ _ many)
  because_refusal _ (by.short_buffer ok few short) = rw (ok, le-ltb _ _ few, lt-ltb _ _ short)
  because_refusal _ (by.nothing_refused ok few room) = rw (ok, le-ltb _ _ few, le-ltb _ _ room)

  pub because_alone : (n : ℕ) → Because ts ms out n → n ≡ (flatten_answer ts ms out).refusal
  because_alone n b = because_refusal n b ∙ sym (theorems.refusal_is ts ms out)

-- ---- a record of scalars

module _ (ts ms out words : List ℕ) (parts : length words % scalar_size ≡ 0) (is : IsRecordOf ts ms (scalars_of words)) (ok : (flatten_answer ts ms out).refusal ≡ accepted) where
  fine : theorems.Taken ts ms out
  fine = theorems.fine ts ms out ok

  placed_are : leaf_pieces (wanted ts ms) ≡ placed 0 (scalars_of words)
  placed_are = scalars_pieces ts ms fine.lists (scalars_of words) is

  counted : length (scalars_of words) ≡ leaves_of (wanted ts ms)
  counted = sym (length_placed 0 (scalars_of words)) ∙ ap length (sym placed_are) ∙ length_leaves (wanted ts ms)

  members_pass : members_refusal words ≡ accepted
  unfolding members_refusal
  members_pass =
      rw (le-ltb 0 (length words % scalar_size) (omega arith), le-ltb most_pieces (length (scalars_of words)) (omega (arith, counted, fine.few)))
      (scalars_pass ts ms fine.lists (scalars_of words) is)

  as_pieces : pieces_answer words out ≡ record { refusal = accepted; count = (flatten_answer ts ms out).pieces }
  unfolding pieces_answer
  as_pieces =
      rw (members_pass, le-leb (length (scalars_of words)) (length out / 4) (omega (arith, counted, fine.room)), theorems.answer_is ts ms out ok, counted)

  same_words : flatten_written ts ms out ≡ pieces_written words out
  unfolding pieces_written
  same_words = rw (members_pass, theorems.written_is ts ms out ok, placed_are)

  front_is : front_words (flatten_answer ts ms out) (flatten_written ts ms out) ≡ pieces_words (leaf_pieces (wanted ts ms))
  front_is = theorems.front_is ts ms out ok (flatten_answer ts ms out) refl (flatten_written ts ms out) refl

  -- `record` finds the alignment, where these aren't all 0, and the size
  module _ (h : record_align (placed 0 (scalars_of words)) ≡ 0 → ⊥) where
    at_least_one : (ps : List Piece) → (record_align ps ≡ 0 → ⊥) → max (largest_align ps) 1 ≡ record_align ps
    unfolding max_of
    at_least_one [] z = refl
    at_least_one (p ∷ ps) z = omega arith

    align_is : record_align (placed 0 (scalars_of words)) ≡ align_of (wanted ts ms)
    align_is = sym (scalars_align ts ms fine.lists (scalars_of words) is ∙ at_least_one (placed 0 (scalars_of words)) h)

    size_is : record_size (placed 0 (scalars_of words)) ≡ size_of (wanted ts ms)
    size_is =
        ap (round_up (furthest_end (placed 0 (scalars_of words)))) (sym (at_least_one (placed 0 (scalars_of words)) h))
        ∙ sym (scalars_size ts ms fine.lists (scalars_of words) is)

    passes : Passes (record { size = size_of (wanted ts ms); align = align_of (wanted ts ms); complex = false; floating = false }) (pieces_words (leaf_pieces (wanted ts ms)))
    passes = wanted_passes ts ms fine.lists fine.few _ refl refl

    record_found : record_answer (pieces_words (leaf_pieces (wanted ts ms)))
        ≡ recorded accepted (size_of (wanted ts ms)) (align_of (wanted ts ms)) (is_floating (size_of (wanted ts ms)) (placed 0 (scalars_of words)))
    record_found =
        let back : pieces_of (pieces_words (leaf_pieces (wanted ts ms))) ≡ placed 0 (scalars_of words) = pieces_back (leaf_pieces (wanted ts ms)) ∙ placed_are in
        record_as_rust (pieces_words (leaf_pieces (wanted ts ms))) (rw passes.list passes.pieces) (rw back h)
        (rw (back, size_is) (wanted_size ts ms fine.lists))
        ∙ rw (back, size_is, align_is)

  pub as_record : AsRecord words out (flatten_answer ts ms out) (flatten_written ts ms out)
  as_record =
      record {
        as_pieces = as_pieces;
        same_words = same_words;
        as_record = λ h. rw (front_is, theorems.answer_is ts ms out ok) (record_found h);
      }

-- ---- all of that, of functions

module _ (types members out : List ℕ) (r : Flattened) (after : List ℕ) (is : IsFlattened types members out r after) where
  answer_is : r ≡ flatten_answer types members out
  answer_is = (is_flattened_so types members out r after is).0

  words_are : after ≡ flatten_written types members out
  words_are = (is_flattened_so types members out r after is).1

  module _ (ok : r.refusal ≡ accepted) where
    accepts : (flatten_answer types members out).refusal ≡ accepted
    accepts = ap (λ (k : Flattened). k.refusal) (sym answer_is) ∙ ok

    pub performed_flattens : Flattens (wanted types members) out r after
    performed_flattens = theorems.flattens types members out accepts r answer_is after words_are

    pub performed_passes : (shape : Shape) → shape.size ≡ r.size → shape.align ≡ r.align → shape_refusal shape (front_words r after) ≡ accepted
    performed_passes = theorems.passes types members out accepts r answer_is after words_are

  pub performed_flatten_refused : IsRefusal r.refusal → RefusedType out r after
  performed_flatten_refused = rw (answer_is, words_are) (flatten_refused types members out)

  pub performed_because : Because types members out r.refusal × ((n : ℕ) → Because types members out n → n ≡ r.refusal)
  performed_because = rw answer_is (because types members out, because_alone types members out)

pub performed_as_record : (types members out scalars : List ℕ) (r : Flattened) (after : List ℕ) → IsFlattened types members out r after
    → length scalars % scalar_size ≡ 0 → IsRecordOf types members (scalars_of scalars) → r.refusal ≡ accepted → AsRecord scalars out r after
performed_as_record types members out scalars r after is parts record_is ok =
    rw (answer_is types members out r after is, words_are types members out r after is)
    (as_record types members out scalars parts record_is (accepts types members out r after is ok))
