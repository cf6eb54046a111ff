-- `word_at` joins the bytes of a word where they are all there.
use mathlib.Core.Path.{◌∙◌}
use native.Mathlib.Omega.{arith}
use Rattle.std.proofs.lemmas.Slice.{between_to_end}
use Rattle.words.proofs.Joining.{word_there, no_word}
use Rattle.words.proofs.word_at.Goals as goal

pub returns-in_default : goal.returns-in_default
returns-in_default c = no_word _ _ (grind arith)

pub returns-in_default-first_chunk : goal.returns-in_default-first_chunk
returns-in_default-first_chunk c = no_word _ _ (grind arith)

pub returns : goal.returns
returns c =
    let behind = c.in-Some.ensures.lookup.0.2 ∙ between_to_end c.args.bytes.now c.args.at _ (omega arith) in
    c.from_le_bytes.ensures ∙ word_there _ _ _ (rw behind at c.in-Some-first_chunk.ensures.cases.same) (grind arith)
