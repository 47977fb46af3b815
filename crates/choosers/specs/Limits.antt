-- The limits of the choosers (01, "The table"), under the names that the code gives them; WORD and GROWS are the language's own. Those of
-- a lookup, which hold here too, are `walk`'s.
use Rattle.std.specs.Prelude.{ℕ, ◌^◌}
use Rattle.table.specs.Limits.{entry_limit}

-- the most entries of a table
abbrev pub ENTRIES : ℕ
ENTRIES = entry_limit

-- a stride is held in a byte: it is below this
abbrev pub BYTE : ℕ
BYTE = 256

-- the bits of a word: no entry has more
abbrev pub WORD : ℕ
WORD = 64

-- a count below this can grow in a word: no list has as many places
abbrev pub GROWS : ℕ
GROWS = 2 ^ 60

-- costs are held here: above what any choice for an address of the widest width costs, so it never bites
abbrev pub cost_cap : ℕ
cost_cap = 8589934592
