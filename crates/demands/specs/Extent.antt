-- What BAD_EXTENT says (REFERENCE 3), from the request that an aggregate with a piece past its end be refused: of an operation on an aggregate, by the
-- refusal that it answers, whatever the description and whatever room the buffer has.
use Rattle.std.specs.Prelude.{ℕ, ◌≡◌, false, List}
use Rattle.shape.specs.declared.Shape.{Shape}
use Rattle.shape.specs.Lists.{any}
use Rattle.shape.specs.Numbers.{accepted, bad_extent}
use Rattle.shape.specs.Words.{pieces_of}
use Rattle.checks.specs.Check.{is_past, EndsPast}
use Rattle.classify.specs.declared.Call.{Call}
use Rattle.classify.specs.Answers.{call_refusal}

pub record Extent (c : Call) (shape : Shape) (words : List ℕ) (refusal : ℕ) : Type 0 where
  -- it is given where the call, the list, the aggregate's size and alignment and every piece by itself pass, and a piece ends past the size
  pub always : call_refusal c ≡ accepted → EndsPast shape words → refusal ≡ bad_extent
  -- and only there
  pub only : refusal ≡ bad_extent → (call_refusal c ≡ accepted) × EndsPast shape words
  -- so no piece of what is accepted ends past the size
  pub inside : refusal ≡ accepted → any (is_past shape.size) (pieces_of words) ≡ false
