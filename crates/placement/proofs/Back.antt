-- The reader finds what the caller placed.
--     what_was_placed_is_read   every value of a list that fits, at the offsets that the placing left, and nothing that stood before is touched
--     a_short_area              where less is lent, the reads before the first value that isn't lent whole are the same, and that one is refused
--     integer_stored, float_stored   where the prologue stores each register
--     after_named               a call that any operations on description 0 left: its offsets are what they were given and passed over
use Prim.Native.Nat.{ℕ, ◌+◌, ◌-◌, ◌*◌, ◌%◌, ◌≤◌, ◌<◌}
use mathlib.Core.Path.{◌≡◌, refl, sym, ◌∙◌, ap, subst}
use mathlib.Core.Bool.{true}
use mathlib.Core.List.{List, [], ◌∷◌, ◌++◌, append-nil}
use native.Mathlib.Omega.{arith}
use lib.ListN.{length, take, drop, get_or}
use lib.Seq.{take_all, take-take, take-length, drop-append-add}
use Rattle.shape.specs.Numbers.{accepted}
use Rattle.abis.specs.Abis as abis
use Rattle.abis.specs.Abis.{described, description_count}
use Rattle.classify.specs.Answers.{call_refusal}
use Rattle.classify.specs.Answers as answers
use Rattle.ledger.specs.Ledger.{Operation, integers, floats, history, Ledger}
use Rattle.ledger.proofs.Ledger.{ledger}
use Rattle.varargs.specs.declared.Offsets.{Offsets}
use Rattle.varargs.specs.Lists.{Shown, reads_as}
use Rattle.placement.specs.Caller.{Machine, Whole, Value, State, stored, saved, place, place_all}
use Rattle.placement.specs.Back.{Ready, IsValue, AllValues, no_more, and_then, AllInside, is_stacked, stack_end, offsets_of, Stays, Keeps, call_named, named_state, used, readings, as_placed, too_short}
use Rattle.placement.specs.Back as back
use Rattle.placement.proofs.Stored.{register_at, length_stored}
use Rattle.placement.proofs.Steps.{Step, step}

-- ---- the prologue stores integer register k at 8k, and float register k at 48 + 16k

pub integer_stored : (m : Machine) → Whole m → (k : ℕ) → k < 6 → take 8 (drop (8 * k) (saved m)) ≡ get_or m.integers k []
integer_stored m w k h = register_at 8 6 m.integers w.six k h (stored m.floats)

pub float_stored : (m : Machine) → Whole m → (k : ℕ) → k < 8 → take 16 (drop (48 + 16 * k) (saved m)) ≡ get_or m.floats k []
float_stored m w k h =
    let skip = drop-append-add (stored m.integers) (stored m.floats) (16 * k) in
    ap (take 16) (rw (length_stored 8 6 m.integers w.six) at skip ∙ ap (drop (16 * k)) (sym (append-nil (stored m.floats)))) ∙ register_at 16 8 m.floats w.eight k h []

-- ---- what was kept before is kept after

keeps_itself : (st : State) → Keeps st st.machine
keeps_itself st = record { integers_stay = refl; floats_stay = refl; area_stays = refl; as_long = refl }

earlier : {A : Type 0} (n k : ℕ) (xs ys : List A) → n ≤ k → take k xs ≡ take k ys → take n xs ≡ take n ys
earlier n k xs ys h e = sym (take-take n k xs h) ∙ ap (take n) e ∙ take-take n k ys h

keeps_then : (st : State) (v : Value) (to : State) → Step st v to → (m : Machine) → Keeps to m → Keeps st m
keeps_then st v to s m k =
    record {
      integers_stay = earlier _ _ m.integers to.machine.integers s.integers_grow k.integers_stay ∙ s.keeps.integers_stay;
      floats_stay = earlier _ _ m.floats to.machine.floats s.floats_grow k.floats_stay ∙ s.keeps.floats_stay;
      area_stays = earlier _ _ m.area to.machine.area s.stack_grows k.area_stays ∙ s.keeps.area_stays;
      as_long = k.as_long ∙ s.keeps.as_long;
    }

-- ---- all of a list

pub all_ready : (vs : List Value) (st : State) → Ready st → AllValues vs → Ready (place_all st vs)
unfolding place_all
all_ready [] st ready no_more = ready
all_ready (v ∷ vs) st ready (and_then is are) = all_ready vs (place st v) (step st ready v is).ready are

pub all_keep : (vs : List Value) (st : State) → Ready st → AllValues vs → (m : Machine) → Keeps (place_all st vs) m → Keeps st m
unfolding place_all
all_keep [] st ready no_more m k = k
all_keep (v ∷ vs) st ready (and_then is are) m k = let s = step st ready v is in keeps_then st v (place st v) s m (all_keep vs (place st v) s.ready are m k)

reads_none : (save overflow : List ℕ) (at : Offsets) → readings save overflow at [] ≡ []
unfolding readings
reads_none save overflow at = refl

-- from a machine that has kept all of them, lent so many bytes of its area; `last` is read behind them
module _ (m : Machine) (w : Whole m) (bytes : ℕ) (lent : bytes ≤ length m.area) where
  abbrev reads : Offsets → List Value → List Shown
  reads at vs = readings (saved m) (take bytes m.area) at vs

  reads_one : (at : Offsets) (v : Value) → reads at (v ∷ []) ≡ reads_as (saved m) (take bytes m.area) at v.scalar ∷ []
  unfolding readings
  reads_one at v = refl

  followed : (x y : Shown) → x ≡ y → (vs : List Value) (rest : List Shown) → reads y.next vs ≡ rest → x ∷ reads x.next vs ≡ y ∷ rest
  followed x y e vs rest h = rw e (ap (λ (xs : List Shown). y ∷ xs) h)

  all_read : (vs : List Value) (st : State) → Ready st → AllValues vs → AllInside bytes st vs → Keeps (place_all st vs) m → (last : List Value)
      → reads (offsets_of st) (vs ++ last) ≡ as_placed st vs ++ reads (offsets_of (place_all st vs)) last
  unfolding place_all readings as_placed
  all_read [] st ready no_more back.no_more k last = refl
  all_read (v ∷ vs) st ready (and_then is are) (back.and_then inside rest) k last =
      let s = step st ready v is in
      followed _ _ (s.reads m w (all_keep vs (place st v) s.ready are m k) bytes lent inside) (vs ++ last) _ (all_read vs (place st v) s.ready are rest k last)

-- ---- what was placed is read

pub what_was_placed_is_read : (st : State) (vs : List Value) → Ready st → AllValues vs → AllInside (length st.machine.area) st vs
    → (readings (saved (place_all st vs).machine) (place_all st vs).machine.area (offsets_of st) vs ≡ as_placed st vs) × Keeps st (place_all st vs).machine
what_was_placed_is_read st vs ready are inside =
    let m : Machine = (place_all st vs).machine in
    let kept : Keeps st m = all_keep vs st ready are m (keeps_itself (place_all st vs)) in
    let w : Whole m = (all_ready vs st ready are).whole in
    let all : take (length st.machine.area) m.area ≡ m.area = take_all (length st.machine.area) m.area (omega (arith, kept.as_long)) in
    let read = all_read m w (length st.machine.area) (omega (arith, kept.as_long)) vs st ready are inside (keeps_itself (place_all st vs)) [] in
    (rw (all, append-nil vs, reads_none (saved m) m.area (offsets_of (place_all st vs)), append-nil (as_placed st vs)) at read, kept)

-- ---- a short area

place_more : (vs ws : List Value) (st : State) → place_all st (vs ++ ws) ≡ place_all (place_all st vs) ws
unfolding place_all
place_more [] ws st = refl
place_more (v ∷ vs) ws st = place_more vs ws (place st v)

pub all_values : (vs ws : List Value) → AllValues vs → AllValues ws → AllValues (vs ++ ws)
all_values [] ws no_more more = more
all_values (v ∷ vs) ws (and_then is are) more = and_then is (all_values vs ws are more)

-- the list is `before`, then v, then `behind`; all are placed, and `bytes` of the area are lent
pub a_short_area : (st : State) (before : List Value) (v : Value) (behind : List Value) → Ready st → AllValues before → IsValue v → AllValues behind
    → (bytes : ℕ) → bytes ≤ length st.machine.area → AllInside bytes st before → is_stacked (place_all st before) v ≡ true → bytes < stack_end (place_all st before) v
    → readings (saved (place_all st (before ++ v ∷ behind)).machine) (take bytes (place_all st (before ++ v ∷ behind)).machine.area) (offsets_of st) (before ++ v ∷ [])
    ≡ as_placed st before ++ too_short (place_all st before) ∷ []
a_short_area st before v behind ready are is more bytes lent inside stacked early =
    let to : State = place_all st before in
    let end : State = place_all st (before ++ v ∷ behind) in
    let m : Machine = end.machine in
    let all : AllValues (before ++ v ∷ behind) = all_values before (v ∷ behind) are (and_then is more) in
    let w : Whole m = (all_ready (before ++ v ∷ behind) st ready all).whole in
    let kept : Keeps to m = all_keep (v ∷ behind) to (all_ready before st ready are) (and_then is more) m (subst (λ (x : State). Keeps x m) (place_more before (v ∷ behind) st) (keeps_itself end)) in
    let long : length m.area ≡ length st.machine.area = (all_keep before st ready are m kept).as_long in
    let here : bytes ≤ length m.area = omega (arith, long, lent) in
    all_read m w bytes here before st ready are inside kept (v ∷ [])
    ∙ ap (λ (xs : List Shown). as_placed st before ++ xs)
    (reads_one m w bytes here (offsets_of to) v ∙ ap (λ (x : Shown). x ∷ []) ((step to (all_ready before st ready are) v is).short m w bytes here stacked early))

-- ---- after named parameters

module _ (ops : List Operation) where
  known : 0 < description_count
  known = omega arith

  so_far : Ledger 0 (history 0 ops)
  so_far = rw (take-length (history 0 ops)) at (ledger 0 known ops (length (history 0 ops)))

  pub named_row : (call_named ops).abi ≡ 0
  unfolding answers.fresh_answer
  named_row = so_far.same_abi

  pub named_passes : call_refusal (call_named ops) ≡ accepted
  unfolding call_refusal answers.call_refusal_by answers.state_refusal
  named_passes = rw named_row so_far.acceptable

  -- the registers that come before the call's next ones are those that the operations were given and passed over
  pub named_integers : 6 - (call_named ops).left.integer ≡ used integers ops
  unfolding abis.descriptions described
  named_integers = omega (arith, so_far.adds_up integers)

  pub named_floats : 8 - (call_named ops).left.float ≡ used floats ops
  unfolding abis.descriptions described
  named_floats = omega (arith, so_far.adds_up floats)

pub after_named : (ops : List Operation) (m : Machine) (vs : List Value) → Whole m → (call_named ops).stack % 8 ≡ 0 → AllValues vs
    → AllInside (length m.area) (named_state ops m) vs
    → (offsets_of (named_state ops m) ≡ record { integer = 8 * used integers ops; float = 48 + 16 * used floats ops; overflow = (call_named ops).stack })
    × (readings (saved (place_all (named_state ops m) vs).machine) (place_all (named_state ops m) vs).machine.area (offsets_of (named_state ops m)) vs ≡ as_placed (named_state ops m) vs)
    × Stays (used integers ops) (used floats ops) (call_named ops).stack m (place_all (named_state ops m) vs).machine
after_named ops m vs w eights are inside =
    let ready : Ready (named_state ops m) = record { row = named_row ops; passes = named_passes ops; whole = w; eights = eights } in
    let both = what_was_placed_is_read (named_state ops m) vs ready are inside in
    (rw (named_integers ops, named_floats ops), both.0, rw (named_integers ops, named_floats ops) at both.1)
