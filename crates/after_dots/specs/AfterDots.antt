-- An argument after the dots (REFERENCE 9.5): what it finds left, and what it spends then. What a kind of dots comes to is describe/specs/Dots.antt;
-- for a fixed argument that is `as_fixed`, by which every definition here leaves all as it is.
use Rattle.std.specs.Prelude.{ℕ, ◌+◌, ◌*◌, ◌-◌, Bool, true, false, ◌&&◌, cond, eqb, leb}
use Rattle.describe.specs.declared.Banks.{Banks}
use Rattle.describe.specs.declared.Dots.{Dots}
use Rattle.spend.specs.declared.Decision.{Decision}
use Rattle.spend.specs.declared.Left.{Left}
use Rattle.spend.specs.declared.Spent.{Spent}
use Rattle.spend.specs.declared.Way.{Way}
use Rattle.spend.specs.declared.Way.TheVariants.{Ignore, Direct, Pieces, Reference, Memory}
use Rattle.spend.specs.Ways.{with_mark, spends, nothing}
use Rattle.spend.specs.Spending.{takes}
use Rattle.spend_scalar.specs.Spending.{skip_of}

-- ---- an even start

-- aligned to two words, and no larger: an alignment of more has no even start, since the run of words that the callee stores isn't aligned to more
abbrev pub is_pair : ℕ → ℕ → ℕ → Bool
is_pair w size align = eqb align (2 * w) && leb size (2 * w)

-- with an odd number of integer registers used, 1 is passed over if one is left, before anything else is decided
unfoldable pub skipped_for : Dots → Banks → Left → ℕ → ℕ → ℕ
skipped_for dots B left size align =
    skip_of (dots.starts_even && is_pair B.integer_width size align) (B.integer - left.integer) left.integer

-- ---- what it finds left: its banks may be emptied, or the mark set for it alone. With emptied banks every rule that wants registers falls short, so
-- that "always in memory" needs no rules of its own

abbrev pub behind_start : Dots → ℕ → Left → Left
behind_start dots skipped left =
    cond dots.starts_even (record { integer = left.integer - skipped; float = left.float; integers_only = left.integers_only }) left

abbrev pub left_for : Dots → ℕ → Left → Left
left_for dots skipped left =
    cond dots.emptied (record { integer = 0; float = 0; integers_only = left.integers_only })
    (cond dots.integers_only (with_mark (behind_start dots skipped left)) (behind_start dots skipped left))

-- ---- what it spends, by the decision that was made of that

abbrev pub is_ignored : Way → Bool
is_ignored Ignore = true
is_ignored Direct = false
is_ignored Pieces = false
is_ignored Reference = false
is_ignored Memory = false

-- behind an even start: what was passed over for it is passed over of I, too, unless the way is Ignore, which leaves every count alone
abbrev pub spent_behind : ℕ → ℕ → Decision → Spent
spent_behind I skipped d =
    cond (is_ignored d.way) nothing
    (spends (takes (skipped + d.spent.integers_passed) I) d.spent.integers_given d.spent.floats_passed d.spent.floats_given)

-- one that finds its banks emptied spends nothing: the call's own registers were never meant for it
abbrev pub spent_for : Dots → ℕ → ℕ → Decision → Spent
spent_for dots I skipped d = cond dots.emptied nothing (cond dots.starts_even (spent_behind I skipped d) d.spent)

-- the same decision, spending that
unfoldable pub settled_for : Dots → ℕ → ℕ → Decision → Decision
settled_for dots I skipped d = record { way = d.way; source = d.source; count = d.count; spent = spent_for dots I skipped d }
