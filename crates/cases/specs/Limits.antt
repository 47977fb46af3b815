-- The sizes of the rooms of a run, named once; `src/limits.rt` has the same ones for the code. Then the bytes of the digits 0 and 9
-- and of the letters a and z, the largest numbers of 32, 16 and 8 bits, the largest hop of an entry, and the
-- largest step of rising values.
use Rattle.std.specs.Prelude.{ℕ}

-- the bytes of a run's text: a mebibyte, more than the cases of any run have
abbrev pub TEXT : ℕ
TEXT = 1048576

-- the places of a table's lists: a table has at most 65,536 entries, and the cases go past that
abbrev pub PLACES : ℕ
PLACES = 65600

-- the words of scratch: fewer than a table of 65,536 entries needs for a trie, enough for the tree bitmap of some
abbrev pub SCRATCH : ℕ
SCRATCH = 600000

-- the places of an element list: more than the rows of the largest build
abbrev pub ROWS : ℕ
ROWS = 20000

-- the places of a list of supernode rows: fewer than a table of 65,536 entries can need
abbrev pub SUPERNODES : ℕ
SUPERNODES = 8740

-- the places of a hop list: one more than a table has entries
abbrev pub hop_row_count : ℕ
hop_row_count = 65537

-- the numbers of a list of tries: more than the rules of any build call for
abbrev pub LIST : ℕ
LIST = 8740

abbrev pub first_digit : ℕ
first_digit = 48

abbrev pub last_digit : ℕ
last_digit = 57

abbrev pub first_letter : ℕ
first_letter = 97

abbrev pub last_letter : ℕ
last_letter = 122

-- a number below this takes a further digit and still fits 64 bits
abbrev pub one_more : ℕ
one_more = 1000000000000000000

abbrev pub most_32 : ℕ
most_32 = 4294967295

abbrev pub most_16 : ℕ
most_16 = 65535

abbrev pub most_8 : ℕ
most_8 = 255

abbrev pub last_hop : ℕ
last_hop = 65535

-- the largest step of rising values: the second is then past 32 bits
abbrev pub step_cap : ℕ
step_cap = 4294967296
