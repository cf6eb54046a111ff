-- `unpack` leaves the words of the bytes. The invariant: those passed are unpacked, and those to come are as they were.
use Prim.Native.Nat.{◌≤◌, ◌*◌}
use mathlib.Core.Path.{◌≡◌}
use lib.ListN.{length, drop}
use lib.Seq.{paste}
use Rattle.words.specs.Packed.{word_size}
use Rattle.words.proofs.Unpacking.{come}
use Rattle.words.proofs.unpack.Given as goal

abbrev pub invariant-loop-word : goal.invariant-loop-word
invariant-loop-word l = (l.rest ≡ drop (l.word-index * word_size) l.bytes) × (l.word-index * word_size ≤ length l.bytes) × (l.words ≡ paste l.initial.words 0 (come l.bytes l.initial.words) l.word-index)
