-- `append_up_to_dot` appends the bytes before the dot.
use Rattle.text.proofs.Dots.{nothing_there, end_behind, end_within, part_end, part_appended}
use Rattle.text.proofs.append_up_to_dot.Goals as goal

pub returns-then-start-texts : goal.returns-then-start-texts
returns-then-start-texts c = nothing_there _ _ _ _ c.if-start-texts.true

pub slice_bounds-append-count : goal.slice_bounds-append-count
slice_bounds-append-count c = search (end_behind)

pub slice_bounds-append-start : goal.slice_bounds-append-start
slice_bounds-append-start c = search (end_behind)

pub slice_bounds-append-end : goal.slice_bounds-append-end
slice_bounds-append-end c = search (end_within)

pub returns : goal.returns
returns c = (search (part_end), search (part_appended))
