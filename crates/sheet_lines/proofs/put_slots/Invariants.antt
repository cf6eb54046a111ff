-- `put_slots` puts the words of slots one by one: what is left from here on completes the text.
use Rattle.std.proofs.Common.{◌≡◌, ◌≤◌, ◌+◌, ◌*◌, length, drop}
use Rattle.text.specs.Numbers.{most_part}
use Rattle.sheet_lines.specs.Printing.{slots_text}
use Rattle.sheet_lines.proofs.PrintingLaws.{Goes}
use Rattle.sheet_lines.proofs.put_slots.Given as goal

abbrev pub invariant-loop-i : goal.invariant-loop-i
invariant-loop-i l = (length l.out ≡ length l.initial.out) × (l.to ≤ l.at + l.i * most_part) × Goes l.initial.out l.at (slots_text 0 l.slots) l.out l.to (slots_text l.i (drop l.i l.slots))
