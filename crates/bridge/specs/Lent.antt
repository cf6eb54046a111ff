-- What a bridge asks, as numbers, and what each form over its lent call leaves (REFERENCE 14).
use Rattle.std.specs.Prelude.{ℕ, ◌≡◌, List, cond, eqb}
use Rattle.std.specs.Borrow.{MutBor}
use Rattle.std.specs.Fn.{Once}
use Rattle.shape.specs.Numbers.{form_void, form_scalar, form_aggregate}
use Rattle.shape.specs.declared.Arg.{Arg}
use Rattle.classify.specs.declared.Call.{Call}
use Rattle.classify.specs.declared.Outcome.{Outcome}
use Rattle.classify.specs.declared.Answer.{Answer}
use Rattle.classify.specs.Answers.{returns_answer, returns_written, argument_answer, argument_written, variadic_argument_answer, variadic_argument_written}
use Rattle.export_numbers.specs.Numbers as numbers
use Rattle.bridge.specs.declared.What.{What}

-- a kind that no scalar has: the first number above the kinds
abbrev pub no_kind : ℕ
no_kind = 5

-- the argument that a question stands for; a form that isn't known stands for a scalar of no kind
unfoldable pub arg_of : What → Arg
arg_of w =
    cond (eqb w.form form_void) numbers.void_arg
    (cond (eqb w.form form_scalar) (numbers.scalar_from w.kind w.size w.align)
    (cond (eqb w.form form_aggregate) (numbers.aggregate_from w.size w.align w.complex w.floating)
    (numbers.scalar_from no_kind 0 0)))

-- ---- what an operation over a lent call leaves: its outcome, the call behind the reference, and the words of the buffer

pub record Lends (a : Answer) (words : List ℕ) (r : Outcome) (after : Call) (out : List ℕ) : Type 0 where
  pub outcome : r ≡ a.outcome
  pub call : after ≡ a.next
  pub writes : out ≡ words

-- an operation that is handed a call and is lent the words of a buffer may answer `a`, and leave the words `after`
pub record Performs {F : Type 0} (g : Once F (Call × (MutBor (List ℕ) × Unit {0})) (Answer × (MutBor (List ℕ) × Unit {0}))) (f : F) (c : Call) (out : List ℕ) (a : Answer) (after : List ℕ) : Type 0 where
  pub lends : MutBor (List ℕ)
  pub shows : lends.now ≡ out
  pub left : MutBor (List ℕ)
  pub met : g.post f (c, (lends, tt)) (a, (left, tt))
  pub leaves : left.now ≡ after

-- of a call, a question, the words of its pieces and the buffer's words
abbrev pub LentReturns : Call → What → List ℕ → List ℕ → Outcome → Call → List ℕ → Type 0
LentReturns c what words out = Lends (returns_answer c (arg_of what) words out) (returns_written c (arg_of what) words out)

abbrev pub LentPasses : Call → What → List ℕ → List ℕ → Outcome → Call → List ℕ → Type 0
LentPasses c what words out = Lends (argument_answer c (arg_of what) words out) (argument_written c (arg_of what) words out)

abbrev pub LentPassesVariadic : Call → What → List ℕ → List ℕ → Outcome → Call → List ℕ → Type 0
LentPassesVariadic c what words out = Lends (variadic_argument_answer c (arg_of what) words out) (variadic_argument_written c (arg_of what) words out)
