-- The numbers of the tablet's text, named once (01, "The tablet program"); `src/limits.rt` has the code's.
use Rattle.std.specs.Prelude.{ℕ, ◌+◌, ◌*◌, length}
use Rattle.reading.specs.Keys.{width_key, fixed_key, levels_key, links_key, entries_key, bits_key, hop_key, address_key}

-- the most entries, and the most queries
abbrev pub COUNT : ℕ
COUNT = 64

-- the most digits of a number, and the largest number of so many digits
abbrev pub number_digits : ℕ
number_digits = 5

abbrev pub NUMBER : ℕ
NUMBER = 99999

-- the largest hop, and the largest number of links, that the text takes: the largest number of 16 bits
abbrev pub SHORT : ℕ
SHORT = 65535

-- the most binary digits of an entry's bits, and of an address
abbrev pub BITS : ℕ
BITS = 32

-- a number of so many decimal digits is below 2 ^ 64
abbrev pub safe_digits : ℕ
safe_digits = 19

-- the bytes of the line feed that ends every line, and of the digit 0
abbrev pub LF : ℕ
LF = 10

abbrev pub zero_digit : ℕ
zero_digit = 48

-- no key has more bytes
abbrev pub KEY : ℕ
KEY = 16

-- no good text has more lines: 6, two for an entry, one for a query
abbrev pub LINES : ℕ
LINES = 6 + COUNT * 3

-- the most bytes of each line: its key, its digits and LF. First the lines of the width, the kind (`kind=vst` is as long as
-- `kind=fst`), the levels, the links, and a count (`queries=` is as long as `entries=`)
abbrev pub width_bytes : ℕ
width_bytes = length width_key + number_digits + 1

abbrev pub kind_bytes : ℕ
kind_bytes = length fixed_key + 1

abbrev pub levels_bytes : ℕ
levels_bytes = length levels_key + number_digits + 1

abbrev pub links_bytes : ℕ
links_bytes = length links_key + number_digits + 1

abbrev pub count_bytes : ℕ
count_bytes = length entries_key + number_digits + 1

-- an entry's two lines, and a query's
abbrev pub bits_bytes : ℕ
bits_bytes = length bits_key + BITS + 1

abbrev pub hop_bytes : ℕ
hop_bytes = length hop_key + number_digits + 1

abbrev pub entry_line_bytes : ℕ
entry_line_bytes = bits_bytes + hop_bytes

abbrev pub query_line_bytes : ℕ
query_line_bytes = length address_key + BITS + 1

-- the first five lines
abbrev pub opening_bytes : ℕ
opening_bytes = width_bytes + kind_bytes + levels_bytes + links_bytes + count_bytes

-- no good text has more bytes. It is a bound: a count has at most two digits, so the longest good text has 5,764 bytes
abbrev pub LONGEST : ℕ
LONGEST = opening_bytes + count_bytes + COUNT * (entry_line_bytes + query_line_bytes)

-- no number of 64 bits has more decimal digits: how numbers are written goes by it, and in code the report alone needs it
abbrev pub decimal_digits : ℕ
decimal_digits = 20
