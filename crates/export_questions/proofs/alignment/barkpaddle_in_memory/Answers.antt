-- `barkpaddle_in_memory` hands on what `in_memory` answers.
use mathlib.Core.Path.{◌≡◌}
use Rattle.classify.specs.Answers.{in_memory_answer, memory_told}
use Rattle.export_numbers.specs.Numbers.{call_from, shape_from}
use Rattle.export_questions.proofs.Aligned.{aligned}
use Rattle.export_questions.proofs.alignment.barkpaddle_in_memory.Goals as goal

pub returns : goal.returns
returns c =
    let a = c.args in
    let h : memory_told c.in_memory.result ≡ in_memory_answer (call_from a.abi a.integer a.float a.integers_only a.stack) (shape_from a.size a.align a.complex a.floating) a.words.now =
    rw (← c.call_from-call.ensures, ← c.shape_from.ensures) c.in_memory.ensures in
    aligned _ _ _ h c.from.ensures
