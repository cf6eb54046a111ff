-- The laws of the parts of an operation: each way out of the code is one line of a definition. A law's premises are the tests and the callees'
-- promises as the code has them.
use Prim.Native.Nat.{ℕ, zero, suc, ◌/◌, ◌≤◌, ◌<◌, min}
use mathlib.Core.Path.{◌≡◌, refl, ap, sym, ◌∙◌}
use mathlib.Core.List.{List}
use mathlib.Core.Bool.{Bool, true, false}
use borrow.Author.Tests.{lt-ltb, le-ltb, le-leb, lt-leb}
use lib.ListN.{length}
use Rattle.std.specs.Prelude.{Ok, Err, Result}
use Rattle.shape.specs.declared.Piece.{Piece}
use Rattle.shape.specs.declared.Shape.{Shape}
use Rattle.shape.specs.declared.refusals.Refusal.{Refusal}
use Rattle.shape.specs.declared.refusals.Refusal.TheVariants.{BadAbi}
use Rattle.shape.specs.Refusals.{number_of}
use Rattle.shape.proofs.Refused.{number_decides, number_refuses}
use Rattle.shape.specs.Numbers.{most_word, accepted, bad_abi, no_room}
use Rattle.shape.specs.Words.{pieces_of}
use Rattle.checks.proofs.Check.{number_leaves}
use Rattle.slots.specs.declared.Slot.{Slot}
use Rattle.slots.specs.Words.{slot_size, written}
use Rattle.describe.specs.declared.Dots.{Dots}
use Rattle.describe.specs.declared.Rule.{Rule}
use Rattle.describe.specs.declared.Terms.{Terms}
use Rattle.describe.specs.declared.Variadic.{Variadic}
use Rattle.describe.specs.declared.Variadic.TheVariants.{SameAsFixed, AlwaysMemory, BothBanks, IntegersOnly, UnnamedIntegers, UnnamedIntegersEven}
use Rattle.describe.specs.Description.{terms_of}
use Rattle.describe.specs.Dots.{dots_of}
use Rattle.rows.specs.Row.{listed}
use Rattle.abis.specs.declared.Brief.{Brief}
use Rattle.abis.specs.Abis.{described, description_count}
use Rattle.abis.specs.Brief.{brief_of}
use Rattle.abis.proofs.Rows.{arguments_listed}
use Rattle.spend.specs.declared.Left.{Left}
use Rattle.spend.specs.declared.Decision.{Decision}
use Rattle.stack_align.specs.InMemory.{in_memory_by}
use Rattle.stack_place.specs.declared.Area.{Area}
use Rattle.stack_place.specs.declared.Place.{Place}
use Rattle.stack_place.specs.Stacked.{Placed, told, aggregate_bytes, is_held, aggregate_rounding, nowhere, placed_of, return_placed}
use Rattle.stack_place.proofs.Placing.{held_none, place_none, place_capped}
use Rattle.classify.specs.declared.Call.{Call}
use Rattle.classify.specs.declared.Answer.{Answer}
use Rattle.classify.specs.Classify.{is_integers_only}
use Rattle.classify.specs.Stacking.{area_of, stacked_of}
use Rattle.classify.specs.Answers.{InMemory, memory_told, call_with, state_refusal, checked, call_refusal_by, refusal_by, row_refusal, refused, done, or_answer, Leaves, variadic_answer_by, variadic_answer, void_answer_by, void_answer, or_align, in_memory_answer_by, in_memory_answer}
use Rattle.classify.specs.Parts as parts

-- ---- a row

pub row_there : (abi : ℕ) → abi < description_count → row_refusal abi ≡ accepted
unfolding row_refusal
row_there abi h = rw (lt-leb _ _ h)

pub row_missing : (abi : ℕ) → description_count ≤ abi → row_refusal abi ≡ bad_abi
unfolding row_refusal
row_missing abi h = rw (le-leb _ _ h)

-- ---- check

-- the Rust's test of a variadic kind, and what the kind comes to
pub mark_is : (v : Variadic) → is_integers_only v ≡ (dots_of v).mark
mark_is SameAsFixed = refl
mark_is AlwaysMemory = refl
mark_is BothBanks = refl
mark_is IntegersOnly = refl
mark_is UnnamedIntegers = refl
mark_is UnnamedIntegersEven = refl

-- ---- the mark and void

or_nonzero : (n : ℕ) (c : Call) (rest : Answer) → (n ≡ accepted → ⊥) → refused c n ≡ or_answer n c rest
or_nonzero zero c rest h = absurd (h refl)
or_nonzero (suc n) c rest h = refl

pub or_refused : (e : Refusal) (c : Call) (rest : Answer) → refused c (number_of e) ≡ or_answer (number_of e) c rest
or_refused e c rest = or_nonzero (number_of e) c rest (number_refuses e)

module _ (c : Call) (r : Answer) where
  pub mark_missing : description_count ≤ c.abi → r ≡ refused c bad_abi → r ≡ variadic_answer c
  unfolding variadic_answer variadic_answer_by call_refusal_by
  mark_missing h er = rw (er, row_missing c.abi h)

  pub void_missing : description_count ≤ c.abi → r ≡ refused c bad_abi → r ≡ void_answer c
  unfolding void_answer void_answer_by call_refusal_by
  void_missing h er = rw (er, row_missing c.abi h)

  module _ (h : c.abi < description_count) (b : Brief) (eb : b ≡ brief_of (described c.abi)) where
    module _ (e : Refusal) (en : number_of e ≡ state_refusal b.terms c) (er : r ≡ refused c (number_of e)) where
      refusal_is : number_of e ≡ state_refusal (terms_of (described c.abi)) c
      refusal_is = rw eb at en

      pub mark_refused : r ≡ variadic_answer c
      unfolding variadic_answer variadic_answer_by call_refusal_by
      mark_refused = rw (er, row_there c.abi h, ← refusal_is) (or_refused e c _)

      pub void_refused : r ≡ void_answer c
      unfolding void_answer void_answer_by call_refusal_by
      void_refused = rw (er, row_there c.abi h, ← refusal_is) (or_refused e c _)

    module _ (z : accepted ≡ state_refusal b.terms c) where
      none_is : accepted ≡ state_refusal (terms_of (described c.abi)) c
      none_is = rw eb at z

      pub mark_done : (left : Left) → left ≡ parts.marked_by b.terms.variadic c.left → r ≡ done (call_with c.abi left c.stack) → r ≡ variadic_answer c
      unfolding variadic_answer variadic_answer_by call_refusal_by
      mark_done left el er = rw (er, el, eb, row_there c.abi h, mark_is, ← none_is)

      pub void_done : r ≡ done c → r ≡ void_answer c
      unfolding void_answer void_answer_by call_refusal_by
      void_done er = rw (er, row_there c.abi h, ← none_is)

-- ---- where it stands

module _ (T : Terms) (dots : Dots) (stack : ℕ) (d : Decision) (r : Placed) where
  pub aggregate_back : (rules : List Rule) (returning : Bool) → returning ≡ true → r ≡ return_placed (area_of T dots) stack d.way T.return_pointer d.spent
      → (shape : Shape) (ps : List Piece) → r ≡ stacked_of T rules returning dots stack (parts.aggregate_arg shape) ps d.way d.spent d.count
  unfolding stacked_of return_placed
  aggregate_back rules returning h er shape ps = rw h er

  pub aggregate_held : (rules : List Rule) (returning : Bool) → returning ≡ false → (shape : Shape) (ps : List Piece) (b : Bool) → b ≡ is_held d.way d.spent d.count → b ≡ true → r ≡ nowhere stack
      → r ≡ stacked_of T rules returning dots stack (parts.aggregate_arg shape) ps d.way d.spent d.count
  unfolding stacked_of
  aggregate_held rules returning h shape ps b eb held er =
      rw (h, held_none d.way d.spent d.count shape.size T.banks.integer_width (sym eb ∙ held)) (er ∙ place_none (area_of T dots) stack 0 _ refl)

  module _ (a : Area) (ea : a ≡ area_of T dots) where
    module _ (rules : List Rule) (returning : Bool) (h : returning ≡ false) where
      pub aggregate_stands : (shape : Shape) (ps : List Piece) (n : ℕ) → n ≡ min (aggregate_bytes d.way d.spent d.count shape.size a.width) most_word
          → (align : ℕ) → align ≡ in_memory_by T rules shape ps → r ≡ placed_of a stack n (aggregate_rounding d.way a align)
          → r ≡ stacked_of T rules returning dots stack (parts.aggregate_arg shape) ps d.way d.spent d.count
      unfolding stacked_of
      aggregate_stands shape ps n en align el er =
          let bytes : ℕ = aggregate_bytes d.way d.spent d.count shape.size T.banks.integer_width in
          let en' : n ≡ min bytes most_word = rw ea at en in
          let er' : r ≡ placed_of (area_of T dots) stack n (aggregate_rounding d.way (area_of T dots) align) = rw ea at er in
          rw (h, ← el) (er' ∙ (rw en' (place_capped (area_of T dots) stack bytes _)))

-- ---- the writing and the answer

module _ (c : Call) (d : Decision) (placed : Placed) (slots : List Slot) (out : List ℕ) (r : Answer) where
  pub stack_short : (q : Refusal) → told c.stack (Err q) ≡ placed → r ≡ refused c (number_of q) → parts.Settles c d placed slots out r out
  stack_short q ep e = rw (← ep) (record { answers = e ∙ or_refused q c _; writes = number_leaves q _ out })

  pub stack_fits : (place : Place) → told c.stack (Ok place) ≡ placed → r ≡ parts.accepted_by c d (told c.stack (Ok place)) → (after : List ℕ) → after ≡ written slots out
      → parts.Settles c d placed slots out r after
  stack_fits place ep e after ew = rw (← ep) (record { answers = e; writes = ew })

-- the slots' room, whatever the place
module _ (out : List ℕ) (room : ℕ) (er : room ≡ length out / slot_size) (c : Call) (d : Decision) (placed : Placed) (slots : List Slot) (r : Answer) where
  pub slots_short : room < d.count → r ≡ refused c no_room → Leaves (parts.finished c d placed out) (parts.finished_in d placed slots out) r out
  unfolding parts.finished parts.finished_in
  slots_short h e = record { answers = rw (e, ← er, lt-ltb _ _ h); writes = rw (← er, lt-ltb _ _ h) }

  pub slots_fit : d.count ≤ room → (after : List ℕ) → parts.Settles c d placed slots out r after → Leaves (parts.finished c d placed out) (parts.finished_in d placed slots out) r after
  unfolding parts.finished parts.finished_in
  slots_fit h after e = record { answers = rw (← er, le-ltb _ _ h) e.answers; writes = rw (← er, le-ltb _ _ h) e.writes }

-- ---- in_memory

or_unaligned : (n align : ℕ) → (n ≡ accepted → ⊥) → ◌≡◌ {A = InMemory} (record { refusal = n; align = 0 }) (or_align n align)
or_unaligned zero align h = absurd (h refl)
or_unaligned (suc n) align h = refl

module _ (c : Call) (shape : Shape) (ws : List ℕ) where
  pub memory_missing : description_count ≤ c.abi → memory_told (Err BadAbi) ≡ in_memory_answer c shape ws
  unfolding in_memory_answer in_memory_answer_by refusal_by
  memory_missing h = rw (row_missing c.abi h)

  module _ (h : c.abi < description_count) (b : Brief) (eb : b ≡ brief_of (described c.abi)) where
    pub memory_refused : (e : Refusal) → number_of e ≡ checked b.terms c (parts.aggregate_arg shape) ws → memory_told (Err e) ≡ in_memory_answer c shape ws
    unfolding in_memory_answer in_memory_answer_by refusal_by
    memory_refused e en =
        let checks : number_of e ≡ checked (terms_of (described c.abi)) c (parts.aggregate_arg shape) ws = rw eb at en in
        rw (row_there c.abi h, ← checks) (or_unaligned (number_of e) _ (number_refuses e))

    pub memory_answered : accepted ≡ checked b.terms c (parts.aggregate_arg shape) ws → (a : ℕ) → a ≡ in_memory_by b.terms (listed b.arguments) shape (pieces_of ws)
        → memory_told (Ok a) ≡ in_memory_answer c shape ws
    unfolding in_memory_answer in_memory_answer_by refusal_by
    memory_answered z a ea =
        let checks : accepted ≡ checked (terms_of (described c.abi)) c (parts.aggregate_arg shape) ws = rw eb at z in
        rw (row_there c.abi h, ea, eb, arguments_listed c.abi, ← checks)

-- what is told of an answer tells it apart from any other
pub memory_decides : (r q : Result ℕ Refusal) → memory_told r ≡ memory_told q → r ≡ q
memory_decides (Ok a) (Ok b) e = ap Ok (ap (λ (m : InMemory). m.align) e)
memory_decides (Ok a) (Err q) e = absurd (number_refuses q (sym (ap (λ (m : InMemory). m.refusal) e)))
memory_decides (Err r) (Ok b) e = absurd (number_refuses r (ap (λ (m : InMemory). m.refusal) e))
memory_decides (Err r) (Err q) e = ap Err (number_decides r q (ap (λ (m : InMemory). m.refusal) e))
