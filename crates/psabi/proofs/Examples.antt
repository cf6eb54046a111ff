-- Shapes of the domain for every way that an aggregate can travel, with the answers of row 0 and of the psABI: all is computed.
use Prim.Native.Nat.{ℕ}
use mathlib.Core.Path.{◌≡◌, refl, ap}
use mathlib.Core.Bool.{Bool, true, false}
use mathlib.Core.List.{List, [], ◌∷◌, map}
use mathlib.Core.Option.{Option}
use mathlib.Core.Option.Option.{none, some}
use lib.ListN.{get_or, replicate}
use Rattle.shape.specs.declared.Arg.TheVariants.{Aggregate}
use Rattle.shape.specs.declared.Piece.{Piece}
use Rattle.shape.specs.declared.Shape.{Shape}
use Rattle.shape.specs.Lists.{every, any}
use Rattle.shape.specs.Questions.{all_of, is_all_of}
use Rattle.shape.specs.Words.{piece}
use Rattle.shape.proofs.Lists.{same_at}
use Rattle.slots.specs.Search.{floats_in}
use Rattle.find.specs.Find.{found_if, floats_at, x87_stack}
use Rattle.eightbytes.specs.Class as ours
use Rattle.eightbytes.specs.Eightbytes.{cover, mark, classes_after, spoiled, mend, settled, classified, slots_from, slots_found, eightbytes}
use Rattle.eightbytes.specs.Reach.{fits}
use Rattle.abis.specs.Abis.{described, descriptions}
use Rattle.find.specs.Matches.{matches}
use Rattle.classify.specs.Classify as rust
use Rattle.classify.specs.Classify.{counts, argument, returns}
use Rattle.psabi.specs.Psabi as psabi
use Rattle.psabi.specs.Psabi.{rdi, rsi, rdx, rcx, r8, r9, rax, xmm0, xmm1, xmm2, xmm3, xmm4, xmm5, xmm6, xmm7, st0, place, Travels, in_registers, on_stack, by_address, psabi_argument, psabi_result}
use Rattle.psabi.specs.Domain.{how_many, at_each, clauses, Domain}
use Rattle.psabi.specs.Reading.{last_of, standing, places_of, read_argument, read_result}

-- ---- a shape, the counts left, and the answer

pub record Case : Type 0 where
  pub integer : ℕ
  pub float : ℕ
  pub size : ℕ
  pub pieces : List Piece
  pub travels : Travels

abbrev pub with_left : ℕ → ℕ → ℕ → List Piece → Travels → Case
with_left i f size ps t = record { integer = i; float = f; size = size; pieces = ps; travels = t }

-- on a fresh call
abbrev pub fresh : ℕ → List Piece → Travels → Case
fresh size ps t = with_left 6 8 size ps t

abbrev pub shape_of : ℕ → Shape
shape_of size = record { size = size; align = 16; complex = false; floating = false }

-- what row 0 answers with so many registers left, in the psABI's words
abbrev pub row_argument : ℕ → ℕ → ℕ → List Piece → Option Travels
row_argument i f size ps = read_argument (counts i f) (argument (described 0) (counts i f) (Aggregate (shape_of size)) ps)

abbrev pub row_result : ℕ → ℕ → ℕ → List Piece → Option Travels
row_result i f size ps = read_result (counts i f) (returns (described 0) (counts i f) (Aggregate (shape_of size)) ps)

abbrev pub int : ℕ → ℕ → Piece
int size offset = piece 0 size size offset

abbrev pub single : ℕ → Piece
single offset = piece 1 4 4 offset

abbrev pub double : ℕ → Piece
double offset = piece 2 8 8 offset

abbrev pub x87 : ℕ → Piece
x87 offset = piece 3 16 16 offset

abbrev pub quad : ℕ → Piece
quad offset = piece 4 16 16 offset

-- ---- arguments

abbrev integer_pair : Case
integer_pair = fresh 16 (int 8 0 ∷ int 8 8 ∷ []) (in_registers (place 0 rdi 0 ∷ place 8 rsi 0 ∷ []) (standing 4 8))

abbrev more_arguments : List Case
more_arguments =
    -- an __int128; an integer and a double; a double and an integer
    fresh 16 (int 16 0 ∷ []) (in_registers (place 0 rdi 0 ∷ place 8 rsi 0 ∷ []) (standing 4 8))
    ∷ fresh 16 (int 8 0 ∷ double 8 ∷ []) (in_registers (place 0 rdi 0 ∷ place 8 xmm0 0 ∷ []) (standing 5 7))
    ∷ fresh 16 (double 0 ∷ int 1 8 ∷ []) (in_registers (place 0 xmm0 0 ∷ place 8 rdi 0 ∷ []) (standing 5 7))
    -- two doubles; three floats in two eightbytes; a __float128 in one register
    ∷ fresh 16 (double 0 ∷ double 8 ∷ []) (in_registers (place 0 xmm0 0 ∷ place 8 xmm1 0 ∷ []) (standing 6 6))
    ∷ fresh 12 (single 0 ∷ single 4 ∷ single 8 ∷ []) (in_registers (place 0 xmm0 0 ∷ place 8 xmm1 0 ∷ []) (standing 6 6))
    ∷ fresh 16 (quad 0 ∷ []) (in_registers (place 0 xmm0 0 ∷ place 8 xmm0 1 ∷ []) (standing 6 7))
    -- unions: merge (d), merge (f), and a high half of a __float128 that clean-up (d) leaves on its own
    ∷ fresh 4 (int 4 0 ∷ single 0 ∷ []) (in_registers (place 0 rdi 0 ∷ []) (standing 5 8))
    ∷ fresh 16 (quad 0 ∷ double 8 ∷ []) (in_registers (place 0 xmm0 0 ∷ place 8 xmm1 0 ∷ []) (standing 6 6))
    ∷ fresh 16 (quad 0 ∷ int 8 0 ∷ []) (in_registers (place 0 rdi 0 ∷ place 8 xmm0 0 ∷ []) (standing 5 7))
    -- in memory: three eightbytes; a __float128 and a double, whose third eightbyte is no SSEUP; an unaligned field; a long double
    ∷ fresh 24 (int 8 0 ∷ int 8 8 ∷ int 8 16 ∷ []) (on_stack (standing 6 8))
    ∷ fresh 24 (quad 0 ∷ double 16 ∷ []) (on_stack (standing 6 8))
    ∷ fresh 12 (int 8 4 ∷ []) (on_stack (standing 6 8))
    ∷ fresh 16 (x87 0 ∷ []) (on_stack (standing 6 8))
    -- in memory since a register is missing: those that it had are free again
    ∷ with_left 1 8 16 (int 8 0 ∷ int 8 8 ∷ []) (on_stack (standing 1 8))
    ∷ with_left 6 0 16 (int 8 0 ∷ double 8 ∷ []) (on_stack (standing 6 0))
    ∷ with_left 6 1 16 (double 0 ∷ double 8 ∷ []) (on_stack (standing 6 1))
    -- the registers in their order
    ∷ with_left 4 6 16 (int 1 0 ∷ single 8 ∷ []) (in_registers (place 0 rdx 0 ∷ place 8 xmm2 0 ∷ []) (standing 3 5))
    ∷ with_left 3 5 16 (int 2 0 ∷ single 8 ∷ []) (in_registers (place 0 rcx 0 ∷ place 8 xmm3 0 ∷ []) (standing 2 4))
    ∷ with_left 2 4 16 (int 4 0 ∷ single 8 ∷ []) (in_registers (place 0 r8 0 ∷ place 8 xmm4 0 ∷ []) (standing 1 3))
    ∷ with_left 1 3 16 (int 8 0 ∷ single 8 ∷ []) (in_registers (place 0 r9 0 ∷ place 8 xmm5 0 ∷ []) (standing 0 2))
    ∷ with_left 0 2 16 (double 0 ∷ double 8 ∷ []) (in_registers (place 0 xmm6 0 ∷ place 8 xmm7 0 ∷ []) (standing 0 0))
    ∷ []

abbrev arguments : List Case
arguments = integer_pair ∷ more_arguments

-- ---- results

abbrev integer_result : Case
integer_result = fresh 16 (int 8 0 ∷ int 8 8 ∷ []) (in_registers (place 0 rax 0 ∷ place 8 rdx 0 ∷ []) (standing 6 8))

abbrev more_results : List Case
more_results =
    -- in rax and rdx, xmm0 and xmm1
    fresh 16 (int 16 0 ∷ []) (in_registers (place 0 rax 0 ∷ place 8 rdx 0 ∷ []) (standing 6 8))
    ∷ fresh 16 (int 8 0 ∷ double 8 ∷ []) (in_registers (place 0 rax 0 ∷ place 8 xmm0 0 ∷ []) (standing 6 8))
    ∷ fresh 12 (single 0 ∷ single 4 ∷ single 8 ∷ []) (in_registers (place 0 xmm0 0 ∷ place 8 xmm1 0 ∷ []) (standing 6 8))
    ∷ fresh 16 (quad 0 ∷ []) (in_registers (place 0 xmm0 0 ∷ place 8 xmm0 1 ∷ []) (standing 6 8))
    -- a long double
    ∷ fresh 16 (x87 0 ∷ []) (in_registers (place 0 st0 0 ∷ place 8 st0 1 ∷ []) (standing 6 8))
    -- in memory: the address in rdi on a fresh call, else in the next register, or on the stack
    ∷ fresh 24 (int 8 0 ∷ int 8 8 ∷ int 8 16 ∷ []) (by_address (some rdi) (standing 5 8))
    ∷ fresh 24 (x87 0 ∷ int 8 16 ∷ []) (by_address (some rdi) (standing 5 8))
    ∷ fresh 12 (int 8 4 ∷ []) (by_address (some rdi) (standing 5 8))
    ∷ with_left 3 8 24 (int 8 0 ∷ int 8 8 ∷ int 8 16 ∷ []) (by_address (some rcx) (standing 2 8))
    ∷ with_left 0 8 24 (int 8 0 ∷ int 8 8 ∷ int 8 16 ∷ []) (by_address none (standing 0 8))
    ∷ []

abbrev results : List Case
results = integer_result ∷ more_results

-- ---- what is computed

arguments_row : map (λ (c : Case). row_argument c.integer c.float c.size c.pieces) arguments ≡ map (λ (c : Case). some c.travels) arguments
unfolding argument rust.apply matches rust.travel rust.slots_in_registers rust.short_of described descriptions eightbytes classified classes_after mark cover fits spoiled settled mend slots_from slots_found ours.merge ours.same ours.code found_if floats_in last_of places_of
arguments_row = refl

arguments_psabi : map (λ (c : Case). psabi_argument (standing c.integer c.float) c.size c.pieces) arguments ≡ map (λ (c : Case). c.travels) arguments
unfolding psabi_argument psabi.classified psabi.any_unaligned psabi.classes_from psabi.merged_in psabi.merge psabi.low_of psabi.high_of psabi.cleaned psabi.any_memory psabi.lone_x87_up psabi.is_one_vector psabi.all_up psabi.converted psabi.passing last_of
arguments_psabi = refl

results_row : map (λ (c : Case). row_result c.integer c.float c.size c.pieces) results ≡ map (λ (c : Case). some c.travels) results
unfolding returns rust.apply matches rust.travel rust.slots_in_registers described descriptions x87_stack is_all_of all_of floats_at eightbytes classified classes_after mark cover fits spoiled settled mend slots_from slots_found ours.merge ours.same ours.code found_if last_of places_of
results_row = refl

results_psabi : map (λ (c : Case). psabi_result (standing c.integer c.float) c.size c.pieces) results ≡ map (λ (c : Case). c.travels) results
unfolding psabi_result psabi.classified psabi.any_unaligned psabi.classes_from psabi.merged_in psabi.merge psabi.low_of psabi.high_of psabi.cleaned psabi.any_memory psabi.lone_x87_up psabi.is_one_vector psabi.all_up psabi.converted psabi.returning last_of
results_psabi = refl

-- ---- all of them are of the domain

abbrev pub every_clause : List Bool
every_clause = replicate 9 true

pub of_domain : (shape : Shape) (ps : List Piece) → clauses shape ps ≡ every_clause → Domain shape ps
of_domain shape ps e =
    record {
      positive = ap (λ l. get_or l 0 true) e;
      plain = ap (λ l. get_or l 1 true) e;
      inside = ap (λ l. get_or l 2 true) e;
      natural = ap (λ l. get_or l 3 true) e;
      sized = ap (λ l. get_or l 4 true) e;
      touched = ap (λ l. get_or l 5 true) e;
      apart = ap (λ l. get_or l 6 true) e;
      lone = ap (λ l. get_or l 7 true) e;
      aligned = ap (λ l. get_or l 8 true) e;
    }

abbrev clauses_of : Case → List Bool
clauses_of c = clauses (shape_of c.size) c.pieces

arguments_in : map clauses_of arguments ≡ map (λ _. every_clause) arguments
unfolding every any how_many at_each
arguments_in = refl

results_in : map clauses_of results ≡ map (λ _. every_clause) results
unfolding every any how_many at_each
results_in = refl

abbrev InDomain : Case → Type 0
InDomain c = Domain (shape_of c.size) c.pieces

pub argument_in_domain : (n : ℕ) → InDomain (get_or arguments n integer_pair)
argument_in_domain n = of_domain _ _ (same_at clauses_of (λ _. every_clause) integer_pair more_arguments arguments_in n)

pub result_in_domain : (n : ℕ) → InDomain (get_or results n integer_result)
result_in_domain n = of_domain _ _ (same_at clauses_of (λ _. every_clause) integer_result more_results results_in n)
