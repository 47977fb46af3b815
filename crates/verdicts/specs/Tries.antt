-- The list of tries (02, [6]): "one row for each source trie, with its floor, root stride, place and E", and the number of the trie that is
-- visited after it. Trie g stands in row g of the list and is called by the number g + 1; 0 calls none.
use Rattle.std.specs.Prelude.{ℕ, ◌+◌, ◌*◌, ◌%◌, List, [], ◌∷◌, map, drop}
use Rattle.table.specs.Table.{at}
use Rattle.table.specs.Lists.{padded}
use Rattle.walk.specs.Limits.{LEVELS, HOPS}
use Rattle.walk.specs.Rows.{Lists, lists}
use Rattle.walk.specs.declared.record.Record.{Record}
use Rattle.verdicts.specs.Limits.{trie_row_cells}
pub use Rattle.verdicts.specs.declared.tries.TrieRow.{TrieRow}

-- row g, whatever stands there: of the floor the last 16 bits count, as a hop has no more
abbrev pub trie_row : List ℕ → ℕ → TrieRow
trie_row list g =
    record {
      floor = at list (g * trie_row_cells) % HOPS;
      root = at list (g * trie_row_cells + 1);
      place = at list (g * trie_row_cells + 2);
      elements = at list (g * trie_row_cells + 3);
      next = at list (g * trie_row_cells + 4);
    }

-- the record of a source trie, by which it is looked up: width and level limit are those of all tries, and of its strides a lookup
-- reads the root's only
abbrev pub source_record : (W k : ℕ) → TrieRow → Record
source_record W k t = record { width = W; levels = k; elements = t.elements; floor = t.floor; strides = padded LEVELS (t.root ∷ []) }

-- the element lists from row p on: links within a trie count from its place
abbrev pub from_place : ℕ → Lists → Lists
from_place p ls = lists (drop p ls.hop) (drop p ls.len) (drop p ls.link) (drop p ls.stride)

-- rows of a trie at place p, numbered as in the lists
abbrev pub at_place : ℕ → List ℕ → List ℕ
at_place p rs = map (λ (r : ℕ). p + r) rs
