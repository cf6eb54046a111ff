-- The caller's side of a variable argument list on description 0 (REFERENCE 15.4): where a caller that asks the classifier puts each value, and
-- what the prologue of the function that is called stores. Nothing here is the reader's: that it finds what was put there is a theorem.
use Rattle.std.specs.Prelude.{ℕ, zero, suc, ◌+◌, ◌≤◌, ◌≡◌, cond, List, [], ◌∷◌, ◌++◌, ltb, length, take, drop, set, get_or}
use Rattle.shape.specs.declared.Arg.TheVariants.{Scalar}
use Rattle.shape.specs.declared.Scalar as scalars
use Rattle.shape.specs.Words.{put_at}
use Rattle.abis.specs.Abis.{described}
use Rattle.stack_place.specs.Stacked.{most_stack}
use Rattle.classify.specs.declared.Call.{Call}
use Rattle.classify.specs.declared.Answer.{Answer}
use Rattle.classify.specs.Answers.{variadic_argument_answer}
use Rattle.ledger.specs.Ledger.{Bank, integers, floats, is_refused, run_of, given}

-- ---- the machine

-- the bytes that a register holds
abbrev pub Register : Type 0
Register = List ℕ

-- the registers of arguments, and the argument area, bytes from an address on that is a multiple of 16
pub record Machine : Type 0 where
  pub integers : List Register
  pub floats : List Register
  pub area : List ℕ

-- so many registers of so many bytes
pub data Registers (bytes : ℕ) : ℕ → List Register → Type 0 where
  no_more : Registers bytes zero []
  and_then : {count : ℕ} {register : Register} {registers : List Register} → length register ≡ bytes → Registers bytes count registers
      → Registers bytes (suc count) (register ∷ registers)

-- six integer registers of 8 bytes and eight float registers of 16, whatever they hold, and an area that isn't longer than a call's arguments get
pub record Whole (m : Machine) : Type 0 where
  pub six : Registers 8 6 m.integers
  pub eight : Registers 16 8 m.floats
  pub within : length m.area ≤ most_stack

-- ---- what is placed

-- a scalar and its bytes
pub record Value : Type 0 where
  pub scalar : scalars.Scalar
  pub bytes : List ℕ

-- between two values: the machine, and the call, which has where the stack goes on
pub record State : Type 0 where
  pub machine : Machine
  pub call : Call

-- ---- registers

-- bytes go to the front of a register, and the bytes behind them stay
unfoldable pub to_front : List Register → ℕ → List ℕ → List Register
to_front registers r bytes = set registers r (put_at (get_or registers r []) 0 bytes)

-- bytes 8k to 8k + 7 of a value go to the front of the k-th of so many registers, from r on
unfoldable pub spread : ℕ → ℕ → List ℕ → List Register → List Register
spread zero r bytes registers = registers
spread (suc n) r bytes registers = spread n (suc r) (drop 8 bytes) (to_front registers r (take 8 bytes))

-- the first register that an answer gave: those of its run that are passed over come before it (REFERENCE 10)
abbrev pub first_given : Bank → Call → Answer → ℕ
first_given b c a = (run_of b (described 0).banks c a).first + (run_of b (described 0).banks c a).passes

-- ---- a value is placed, by the answer that the classifier gave

abbrev pub placed_in_integers : Answer → State → Value → State
placed_in_integers a st v =
    record {
      machine = record {
        integers = spread (given integers a) (first_given integers st.call a) v.bytes st.machine.integers;
        floats = st.machine.floats;
        area = st.machine.area;
      };
      call = a.next;
    }

abbrev pub placed_in_floats : Answer → State → Value → State
placed_in_floats a st v =
    record {
      machine = record {
        integers = st.machine.integers;
        floats = to_front st.machine.floats (first_given floats st.call a) v.bytes;
        area = st.machine.area;
      };
      call = a.next;
    }

abbrev pub placed_on_stack : Answer → State → Value → State
placed_on_stack a st v =
    record {
      machine = record {
        integers = st.machine.integers;
        floats = st.machine.floats;
        area = put_at st.machine.area a.outcome.stacked.at v.bytes;
      };
      call = a.next;
    }

-- in the integer registers that it was given, in the float register, or, given nothing in either bank, on the stack, where the answer says; what is
-- refused isn't placed
unfoldable pub placed_by : Answer → State → Value → State
placed_by a st v =
    cond (is_refused a) st
    (cond (ltb 0 (given integers a)) (placed_in_integers a st v) (cond (ltb 0 (given floats a)) (placed_in_floats a st v) (placed_on_stack a st v)))

-- what the classifier answers about an argument after the dots
abbrev pub behind_dots : Call → scalars.Scalar → Answer
behind_dots c s = variadic_argument_answer c (Scalar s) [] []

abbrev pub place : State → Value → State
place st v = placed_by (behind_dots st.call v.scalar) st v

unfoldable pub place_all : State → List Value → State
place_all st [] = st
place_all st (v ∷ vs) = place_all (place st v) vs

-- ---- the prologue: one register behind the other, so integer register k at 8k of the save area, and float register k at 48 + 16k

unfoldable pub stored : List Register → List ℕ
stored [] = []
stored (register ∷ registers) = register ++ stored registers

abbrev pub saved : Machine → List ℕ
saved m = stored m.integers ++ stored m.floats
