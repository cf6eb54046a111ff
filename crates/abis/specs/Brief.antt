-- What classification reads of a description: its terms, and its lists of rules as two numbers each.
use Rattle.std.specs.Prelude.{ℕ, List}
use Rattle.describe.specs.Description.{Description, terms_of}
use Rattle.rows.specs.Row.{terms_from, packed, list_of}
use Rattle.abis.specs.declared.Brief.{Brief}

abbrev pub brief_of : Description → Brief
brief_of D = record { terms = terms_of D; returns = packed D.returns; arguments = packed D.arguments }

-- from a row
unfoldable pub brief_from : List ℕ → Brief
brief_from row = record { terms = terms_from row; returns = list_of row 8; arguments = list_of row 20 }
