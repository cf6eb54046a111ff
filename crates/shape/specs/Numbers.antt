-- The numbers of docs/REFERENCE.md, 1 to 3, by their names: kinds, forms, refusals, and the largest values that are accepted.
use Rattle.std.specs.Prelude.{ℕ, Bool, true, false}

-- kinds: an integer, or a float in one of four formats
abbrev pub integer : ℕ
integer = 0

abbrev pub single : ℕ
single = 1

abbrev pub double : ℕ
double = 2

abbrev pub x87_extended : ℕ
x87_extended = 3

abbrev pub quad : ℕ
quad = 4

-- forms of what a call is asked about
abbrev pub form_void : ℕ
form_void = 0

abbrev pub form_scalar : ℕ
form_scalar = 1

abbrev pub form_aggregate : ℕ
form_aggregate = 2

-- refusals; 0 is none
abbrev pub accepted : ℕ
accepted = 0

abbrev pub bad_abi : ℕ
bad_abi = 1

abbrev pub bad_call : ℕ
bad_call = 2

abbrev pub bad_list : ℕ
bad_list = 3

abbrev pub bad_kind : ℕ
bad_kind = 4

abbrev pub bad_size : ℕ
bad_size = 5

abbrev pub bad_align : ℕ
bad_align = 6

abbrev pub no_room : ℕ
no_room = 7

abbrev pub bad_area : ℕ
bad_area = 8

abbrev pub bad_extent : ℕ
bad_extent = 9

abbrev pub bad_type : ℕ
bad_type = 10

abbrev pub too_deep : ℕ
too_deep = 11

-- the largest size of a scalar or a piece
abbrev pub most_size : ℕ
most_size = 64

-- the largest offset, and the largest size of a shape
abbrev pub most_offset : ℕ
most_offset = 16777216

abbrev pub most_align : ℕ
most_align = 4096

abbrev pub most_pieces : ℕ
most_pieces = 1024

-- the largest number of 64 bits
abbrev pub most_word : ℕ
most_word = 18446744073709551615

-- a yes as 1, a no as 0
abbrev pub one_if : Bool → ℕ
one_if true = 1
one_if false = 0
