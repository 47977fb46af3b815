-- A record and lists as one accepted build leaves them together: of a trie t and its strides (LaidTrie), and of a table (Laid).
-- The demands rest on these; what a call of `build` has to show is that its record and its lists are so.
use Rattle.std.specs.Prelude.{ℕ, ◌≤◌, ◌≡◌, List, length}
use Rattle.table.specs.Table.{at, Table}
use Rattle.strides.specs.Trie.{Trie}
use Rattle.strides.specs.Entries.{trie_of, floor_of}
use Rattle.strides.specs.Strides.{Good}
use Rattle.walk.specs.declared.record.Record.{Record}
use Rattle.walk.specs.Limits.{LEVELS, Within}
use Rattle.walk.specs.Rows.{Lists, shortest, root}
use Rattle.layout.specs.Marks.{entry_marks}
use Rattle.layout.specs.Blocks.{Strides, stride_of, rows_of, row_count, Hold}

-- the record names the rows of t, and rows 0 to E - 1 are they; the widest address allowed is `most`
pub record LaidTrie (most : ℕ) (σ : Strides) (t : Trie) (rec : Record) (ls : Lists) : Type 0 where
  pub width : Within rec.width most
  pub levels : Within rec.levels LEVELS
  pub good : Good σ t rec.width 0 rec.levels
  pub elements : rec.elements ≡ row_count σ rec.levels t
  pub first : root rec ≡ stride_of σ rec.levels t
  pub room : rec.elements ≤ shortest ls
  pub rows : Hold ls 0 (rows_of σ rec.levels t)

-- the 1-bit trie of a table, marked by hop and length, and its floor, a hop
abbrev pub table_trie : (W : ℕ) (vs ls hs : List ℕ) → Trie
table_trie W vs ls hs = trie_of W (at vs) (at ls) (entry_marks ls hs) (length vs)

abbrev pub table_floor : (W : ℕ) (vs ls hs : List ℕ) → ℕ
table_floor W vs ls hs = floor_of W (at vs) (at ls) (at hs) (length vs)

-- the table has width W and passed the tests; the strides are any that can be built with k levels
pub record Laid (most W : ℕ) (vs ls hs : List ℕ) (σ : Strides) (k : ℕ) (rec : Record) (rows : Lists) : Type 0 where
  pub table : Table W vs ls hs
  pub width : rec.width ≡ W
  pub levels : rec.levels ≡ k
  pub floor : rec.floor ≡ table_floor W vs ls hs
  pub built : LaidTrie most σ (table_trie W vs ls hs) rec rows
