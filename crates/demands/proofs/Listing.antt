-- What functions placed and read is what the definitions place and read, so that the theorems of crates/placement hold of the functions themselves.
use Prim.Native.Nat.{ℕ, ◌+◌, ◌*◌, ◌%◌, ◌≤◌, ◌<◌}
use mathlib.Core.Path.{◌≡◌, refl, sym, ◌∙◌, ap, subst}
use mathlib.Core.Bool.{true, ◌||◌, not}
use mathlib.Core.List.{List, [], ◌∷◌, ◌++◌}
use native.Mathlib.Omega.{arith}
use lib.Dec.{ltb, eqb}
use lib.ListN.{length, take}
use Rattle.shape.specs.declared.Arg as args
use Rattle.shape.specs.declared.Scalar.{Scalar}
use Rattle.shape.specs.Numbers.{quad, accepted, bad_kind, bad_size, bad_align, most_size, most_align}
use Rattle.classify.specs.declared.Answer.{Answer}
use Rattle.ledger.specs.Ledger.{Operation, integers, floats, history, call_after, fresh_call}
use Rattle.varargs.specs.declared.Offsets.{Offsets}
use Rattle.varargs.specs.Lists as lists
use Rattle.varargs.specs.Lists.{Located, is_own_size, located_nowhere, located, Inside, Shown, shown_at, reads_as}
use Rattle.varargs.proofs.Lists.{located_so, located_inside, area_bytes, part_length, nowhere_part}
use Rattle.varargs.proofs.Scalars.{listed}
use Rattle.placement.specs.Caller.{Machine, Whole, Value, State, saved, placed_by, place, place_all}
use Rattle.placement.specs.Back as back
use Rattle.placement.specs.Back.{Ready, IsValue, AllValues, AllInside, is_stacked, stack_end, offsets_of, Stays, Keeps, named_state, used, readings, as_placed, too_short}
use Rattle.placement.proofs.Asked.{asked_so, alike}
use Rattle.placement.proofs.Steps.{step}
use Rattle.placement.proofs.Back as theorems
use Rattle.export_varargs.specs.Numbers.{part_numbers, area_from}
use Rattle.export_varargs.proofs.Shown.{area_back, shown_back}
use Rattle.demands.specs.Refusals.{IsRefusal, is_one_of, RefusedAs, read_refusals, no_bytes}
use Rattle.demands.specs.Performed.{Started, Performed, Asks, as_fixed, as_variadic, AllPerformed}
use Rattle.demands.specs.Lists as by
use Rattle.demands.specs.Lists.{AllPlaced, IsRead, AllRead}
use Rattle.demands.proofs.Refusing.{refuse_within, one_of, Within}
use Rattle.demands.proofs.Performed.{performed_defined, started_defined, ledger_performed}

-- ---- a read

pub is_read_so : (save overflow : List ℕ) (at : Offsets) (s : Scalar) (r : Shown) → IsRead save overflow at s r → r ≡ reads_as save overflow at s
is_read_so save overflow at s _ (by.read κs sv ov r e hs ho m) = rw (hs, ho) at m
is_read_so save overflow at s _ (by.find κs sv ov r hs ho m) = ap (shown_at save overflow) (rw (hs, ho) at m.1)
is_read_so save overflow at s _ (by.barkpaddle_read_scalar κs sv ov r hs ho m) = rw (rw (hs, ho) at m.1) (shown_back save overflow _)

all_read_so : (save overflow : List ℕ) (at : Offsets) (vs : List Value) (rs : List Shown) → AllRead save overflow at vs rs → rs ≡ readings save overflow at vs
unfolding readings
all_read_so save overflow _ _ _ (by.none at) = refl
all_read_so save overflow _ _ _ (by.next at v vs r rest is more) = rw (all_read_so save overflow r.next vs rest more, is_read_so save overflow at v.scalar r is)

-- ---- a refused one, and one that isn't

list_within : (s : Scalar) → Within read_refusals (lists.unnamed_refusal s)
unfolding lists.unnamed_refusal is_one_of
list_within s =
    refuse_within read_refusals (ltb quad s.kind) bad_kind _ refl
    (refuse_within read_refusals (ltb most_size s.size || not (is_own_size s.kind s.size)) bad_size _ refl
    (refuse_within read_refusals (ltb most_align s.align || not (eqb s.align s.size)) bad_align accepted refl tt))

pub located_refused : (save overflow : ℕ) (at : Offsets) (s : Scalar) → IsRefusal (located save overflow at s).refusal
    → RefusedAs read_refusals (located save overflow at s).refusal (located_nowhere (located save overflow at s).refusal at) (located save overflow at s)
unfolding is_one_of
located_refused save overflow at s =
    located_so (λ (l : Located). IsRefusal l.refusal → RefusedAs read_refusals l.refusal (located_nowhere l.refusal at) l) s at
    (λ h. record { one_of_them = refl; rest_zero = refl }) (λ l e z h. absurd (h e)) save overflow
    (λ wrong h. record { one_of_them = one_of read_refusals _ (list_within s) wrong; rest_zero = refl })

pub read_refused : (save overflow : List ℕ) (at : Offsets) (s : Scalar) → IsRefusal (reads_as save overflow at s).refusal
    → RefusedAs read_refusals (reads_as save overflow at s).refusal (no_bytes (reads_as save overflow at s).refusal at) (reads_as save overflow at s)
read_refused save overflow at s h =
    let l : Located = located (length save) (length overflow) at s in
    let r = located_refused (length save) (length overflow) at s h in
    record {
      one_of_them = r.one_of_them;
      rest_zero = ap (shown_at save overflow) r.rest_zero ∙ ap (λ (bytes : List ℕ). record { refusal = l.refusal; bytes = bytes; next = at }) (nowhere_part save overflow l.refusal at);
    }

pub located_part : (save overflow : ℕ) (at : Offsets) (s : Scalar) → (located save overflow at s).refusal ≡ accepted
    → ((located save overflow at s).length ≡ s.size) × Inside save overflow (located save overflow at s)
located_part save overflow at s e = (
  located_so (λ (l : Located). l.refusal ≡ accepted → l.length ≡ s.size) s at (λ z. absurd (omega arith)) (λ l z h z'. h) save overflow (λ wrong z. absurd (wrong z)) e,
  located_inside save overflow at s,
)

-- the same, by the numbers
pub located_numbers : (save overflow : List ℕ) (at : Offsets) (s : Scalar) → (located (length save) (length overflow) at s).refusal ≡ accepted
    → ((part_numbers (located (length save) (length overflow) at s)).length ≡ s.size)
    × ((part_numbers (located (length save) (length overflow) at s)).start + (part_numbers (located (length save) (length overflow) at s)).length
    ≤ length (area_from (part_numbers (located (length save) (length overflow) at s)).area save overflow))
located_numbers save overflow at s e =
    let l : Located = located (length save) (length overflow) at s in
    let both = located_part (length save) (length overflow) at s e in
    (both.0, rw (area_back l.area save overflow, ← area_bytes l save overflow) both.1)

pub read_part : (save overflow : List ℕ) (at : Offsets) (s : Scalar) → (reads_as save overflow at s).refusal ≡ accepted → length (reads_as save overflow at s).bytes ≡ s.size
read_part save overflow at s e =
    let both = located_part (length save) (length overflow) at s e in
    part_length save overflow (located (length save) (length overflow) at s) both.1 ∙ both.0

module _ (save overflow : List ℕ) (at : Offsets) (s : Scalar) (r : Shown) (is : IsRead save overflow at s r) where
  pub reads_refused : IsRefusal r.refusal → RefusedAs read_refusals r.refusal (no_bytes r.refusal at) r
  reads_refused = rw (is_read_so save overflow at s r is) (read_refused save overflow at s)

  pub reads_part : r.refusal ≡ accepted → length r.bytes ≡ s.size
  reads_part = rw (is_read_so save overflow at s r is) (read_part save overflow at s)

-- ---- a value placed by a function's answer

answered_so : (st : State) → Ready st → (v : Value) → IsValue v → (op : Operation) (a : Answer) (after : List ℕ) → Asks (args.TheVariants.Scalar v.scalar) op → Performed st.call op a after
    → placed_by a st v ≡ place st v
answered_so st ready v is _ a after (as_variadic words out) p =
    ap (λ (x : Answer). placed_by x st v)
    ((performed_defined st.call _ a after p).answers ∙ asked_so st.call ready.row ready.passes v.scalar (listed v.scalar is.taken) words out)
answered_so st ready v is _ a after (as_fixed words out) p =
    ap (λ (x : Answer). placed_by x st v)
    ((performed_defined st.call _ a after p).answers ∙ alike st.call ready.row _ words out
    ∙ asked_so st.call ready.row ready.passes v.scalar (listed v.scalar is.taken) words out)

placed_so : (st : State) (vs : List Value) (to : State) → Ready st → AllValues vs → AllPlaced st vs to → to ≡ place_all st vs
unfolding place_all
placed_so _ _ _ ready back.no_more (by.none st) = refl
placed_so _ _ _ ready (back.and_then is are) (by.next st to v vs op a after asks p more) =
    let here : placed_by a st v ≡ place st v = answered_so st ready v is op a after asks p in
    placed_so (place st v) vs to (step st ready v is).ready are (subst (λ (x : State). AllPlaced x vs to) here more)

-- ---- the theorems, of the functions

pub placed_is_read : (st : State) (vs : List Value) (to : State) (seen : List Shown) → Ready st → AllValues vs → AllInside (length st.machine.area) st vs
    → AllPlaced st vs to → AllRead (saved to.machine) to.machine.area (offsets_of st) vs seen → (seen ≡ as_placed st vs) × Keeps st to.machine
placed_is_read st vs to seen ready are inside p r =
    let both = theorems.what_was_placed_is_read st vs ready are inside in
    let there : to ≡ place_all st vs = placed_so st vs to ready are p in
    let kept : Keeps st to.machine = subst (λ (x : State). Keeps st x.machine) (sym there) both.1 in
    (all_read_so _ _ _ vs seen r ∙ ap (λ (x : State). readings (saved x.machine) x.machine.area (offsets_of st) vs) there ∙ both.0, kept)

pub short_area : (st : State) (before : List Value) (v : Value) (behind : List Value) (to : State) (seen : List Shown) → Ready st → AllValues before → IsValue v → AllValues behind
    → (bytes : ℕ) → bytes ≤ length st.machine.area → AllInside bytes st before → is_stacked (place_all st before) v ≡ true → bytes < stack_end (place_all st before) v
    → AllPlaced st (before ++ v ∷ behind) to → AllRead (saved to.machine) (take bytes to.machine.area) (offsets_of st) (before ++ v ∷ []) seen
    → seen ≡ as_placed st before ++ too_short (place_all st before) ∷ []
short_area st before v behind to seen ready are is more bytes lent inside stacked early p r =
    let there : to ≡ place_all st (before ++ v ∷ behind) = placed_so st (before ++ v ∷ behind) to ready (theorems.all_values before (v ∷ behind) are (back.and_then is more)) p in
    all_read_so _ _ _ (before ++ v ∷ []) seen r ∙ ap (λ (x : State). readings (saved x.machine) (take bytes x.machine.area) (offsets_of st) (before ++ v ∷ [])) there
    ∙ theorems.a_short_area st before v behind ready are is more bytes lent inside stacked early

-- the call after named parameters that functions performed
named_so : (first : Answer) → Started 0 first → (ops : List Operation) (past : List Answer) → AllPerformed first.next ops past → call_after first.next past ≡ back.call_named ops
named_so first s ops past p =
    let same : past ≡ history 0 ops = (ledger_performed 0 (omega arith) first s ops past p).0 in
    let start : first.next ≡ fresh_call 0 = ap (λ (x : Answer). x.next) (started_defined 0 first s) in
    rw (same, start)

pub after_named : (first : Answer) → Started 0 first → (ops : List Operation) (past : List Answer) → AllPerformed first.next ops past
    → (m : Machine) (vs : List Value) (to : State) (seen : List Shown) → Whole m → (call_after first.next past).stack % 8 ≡ 0 → AllValues vs → AllInside (length m.area) (named_state ops m) vs
    → AllPlaced (record { machine = m; call = call_after first.next past }) vs to
    → AllRead (saved to.machine) to.machine.area (record { integer = 8 * used integers ops; float = 48 + 16 * used floats ops; overflow = (call_after first.next past).stack }) vs seen
    → (seen ≡ as_placed (named_state ops m) vs) × Stays (used integers ops) (used floats ops) (call_after first.next past).stack m to.machine
after_named first s ops past h m vs to seen w = rw (named_so first s ops past h) go
  where
    go : (back.call_named ops).stack % 8 ≡ 0 → AllValues vs → AllInside (length m.area) (named_state ops m) vs → AllPlaced (named_state ops m) vs to
        → AllRead (saved to.machine) to.machine.area (record { integer = 8 * used integers ops; float = 48 + 16 * used floats ops; overflow = (back.call_named ops).stack }) vs seen
        → (seen ≡ as_placed (named_state ops m) vs) × Stays (used integers ops) (used floats ops) (back.call_named ops).stack m to.machine
    go eights are inside p r =
        let ready : Ready (named_state ops m) = record { row = theorems.named_row ops; passes = theorems.named_passes ops; whole = w; eights = eights } in
        let three = theorems.after_named ops m vs w eights are inside in
        let both = placed_is_read (named_state ops m) vs to seen ready are inside p (subst (λ (o : Offsets). AllRead (saved to.machine) to.machine.area o vs seen) (sym three.0) r) in
        (both.0, rw (theorems.named_integers ops, theorems.named_floats ops) at both.1)
