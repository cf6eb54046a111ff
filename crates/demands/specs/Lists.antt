-- A variable argument list that functions placed and functions read (REFERENCE 15): what it means that each value was placed by the answer of a
-- function, and that each read meets the contract of one, as the checker reads it.
use Rattle.std.specs.Prelude.{ℕ, ◌≡◌, List, [], ◌∷◌, Result}
use contract.Lifetimes.{Lfts}
use Rattle.std.specs.Borrow.{Bor}
use denote.Triple.Clauses.{AtExit}
use Rattle.shape.specs.declared.Arg.TheVariants.{Scalar}
use Rattle.shape.specs.declared.Scalar as scalars
use Rattle.shape.specs.declared.refusals.Refusal.{Refusal}
use Rattle.classify.specs.declared.Answer.{Answer}
use Rattle.ledger.specs.Ledger.{Operation}
use Rattle.varargs.specs.declared.Offsets.{Offsets}
use Rattle.varargs.specs.declared.Located as places
use Rattle.varargs.specs.declared.Reading.{Reading}
use Rattle.varargs.specs.Lists.{Shown, told, shown, shown_at}
use Rattle.varargs.specs.contracts.read as on_read
use Rattle.varargs.proofs.Promised.{Reads}
use Rattle.varargs.proofs.find.Reads as list_find
use Rattle.placement.specs.Caller.{Value, State, placed_by}
use Rattle.export_varargs.specs.declared.Part.{Part}
use Rattle.export_varargs.specs.Numbers.{shown_by}
use Rattle.export_varargs.proofs.barkpaddle_read_scalar.Reads as entry_read_scalar
use Rattle.demands.specs.Performed.{Performed, Asks, MetAlone}

-- ---- placed

-- each value is asked about on the call that the answer before handed back, by any function that performs this, and placed as it was answered
pub data AllPlaced : State → List Value → State → Type 0 where
  none : (st : State) → AllPlaced st [] st
  next : (st to : State) (v : Value) (vs : List Value) (op : Operation) (a : Answer) (after : List ℕ)
      → Asks (Scalar v.scalar) op → Performed st.call op a after → AllPlaced (placed_by a st v) vs to → AllPlaced st (v ∷ vs) to

-- ---- read

-- a function that is lent these two areas reads a scalar so
pub data IsRead (save overflow : List ℕ) (at : Offsets) (s : scalars.Scalar) : Shown → Type 0 where
  read : (κs : Lfts 1) (sv ov : Bor (List ℕ)) (r : Result Reading Refusal) (e : AtExit on_read.ended κs) → sv.now ≡ save → ov.now ≡ overflow
      → Reads κs (sv, (ov, (at, (s, tt)))) r e → IsRead save overflow at s (shown r at)
  find : (κs : Lfts 1) (sv ov : Bor (List ℕ)) (r : Result places.Located Refusal) → sv.now ≡ save → ov.now ≡ overflow
      → MetAlone (list_find.Post κs) (sv, (ov, (at, (s, tt)))) r → IsRead save overflow at s (shown_at save overflow (told r at))
  barkpaddle_read_scalar : (κs : Lfts 1) (sv ov : Bor (List ℕ)) (r : Part) → sv.now ≡ save → ov.now ≡ overflow
      → MetAlone (entry_read_scalar.Post κs) (sv, (ov, (at.integer, (at.float, (at.overflow, (s.kind, (s.size, (s.align, tt)))))))) r
      → IsRead save overflow at s (shown_by save overflow r)

-- one scalar after the other, each from the offsets that the read before handed back
pub data AllRead (save overflow : List ℕ) : Offsets → List Value → List Shown → Type 0 where
  none : (at : Offsets) → AllRead save overflow at [] []
  next : (at : Offsets) (v : Value) (vs : List Value) (r : Shown) (rest : List Shown)
      → IsRead save overflow at v.scalar r → AllRead save overflow r.next vs rest → AllRead save overflow at (v ∷ vs) (r ∷ rest)
