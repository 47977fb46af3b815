-- The mark of an entry in the trie that rows are made of: its hop and its length in one number, from which a row takes both (02, [5]: "the
-- length of the entry whose hop the row has"). 0 is no mark: no entry has hop 0.
use Rattle.std.specs.Prelude.{ℕ, ◌+◌, ◌*◌, ◌/◌, ◌%◌, List}
use Rattle.table.specs.Table.{at}

-- every length is below this
abbrev pub LENGTHS : ℕ
LENGTHS = 256

abbrev pub entry_mark : (hop len : ℕ) → ℕ
entry_mark hop len = hop * LENGTHS + len

-- the marks of a table's entries
abbrev pub entry_marks : (ls hs : List ℕ) → ℕ → ℕ
entry_marks ls hs i = entry_mark (at hs i) (at ls i)

-- the hop and the length in a mark
abbrev pub hop_in : (mark : ℕ) → ℕ
hop_in mark = mark / LENGTHS

abbrev pub length_in : (mark : ℕ) → ℕ
length_in mark = mark % LENGTHS
