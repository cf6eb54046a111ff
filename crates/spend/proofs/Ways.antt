-- A way's number tells the ways apart.
use mathlib.Core.Path.{◌≡◌, refl, ap, ◌∙◌, sym}
use Rattle.spend.specs.declared.Way.{Way}
use Rattle.spend.specs.declared.Way.TheVariants.{Ignore, Direct, Pieces, Reference, Memory}
use Rattle.spend.specs.Ways.{way_number, way_from}

pub back : (w : Way) → way_from (way_number w) ≡ w
back Ignore = refl
back Direct = refl
back Pieces = refl
back Reference = refl
back Memory = refl

pub ways_apart : (v w : Way) → way_number v ≡ way_number w → v ≡ w
ways_apart v w e = sym (back v) ∙ ap way_from e ∙ back w
