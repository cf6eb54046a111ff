use native.Mathlib.Omega.{arith}
use Rattle.std.proofs.lemmas.List.{set-get_or}
use Rattle.words.proofs.Unpacking.{unpack_behind, unpack_within, unpack_next, unpack_last, unpack_full}
use Rattle.words.proofs.unpack.Goals as goal

pub returns-in_default : goal.returns-in_default
returns-in_default c =
    let l = c.loop-word.invariant in
    rw set-get_or (unpack_last _ _ _ _ _ l.0 l.2 l.1 (omega arith) (grind arith))

pub loop-word-preserved : goal.loop-word-preserved
loop-word-preserved c =
    let l = c.loop-word.invariant in
    let s = c.in-Some.ensures.cases in (
      unpack_behind _ _ _ _ _ l.0 l.2 l.1 _ s.1,
      unpack_within _ _ _ _ _ l.0 l.2 l.1 _ s.2,
      rw c.from_le_bytes.ensures (unpack_next _ _ _ _ _ l.0 l.2 l.1 (omega arith) (omega arith) _ s.2 _ s.0),
    )

pub returns : goal.returns
returns c = let l = c.loop-word.invariant in unpack_full _ _ _ _ _ l.0 l.2 l.1 (omega arith) (omega arith) (omega arith)
