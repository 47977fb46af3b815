-- A record and lists as one accepted bitmap build leaves them together: of a binary trie t (LaidBinary), and of a table (LaidBitmap).
-- The demands rest on these; what a call of `build_bitmap` has to show is that its record and its lists are so.
use Rattle.std.specs.Prelude.{ℕ, ◌≤◌, ◌≡◌, List, length}
use Rattle.table.specs.Table.{Table}
use Rattle.walk.specs.Limits.{Within}
use Rattle.pieces.specs.BinaryTrie.{BinaryTrie, table_binary}
use Rattle.pieces.specs.Rows.{supernodes_of, bitmap_rows, bitmap_hops}
use Rattle.visits.specs.declared.record.Bitmap.{Bitmap}
use Rattle.visits.specs.Rows.{RowLists, row_room, HoldRows, HoldHops}

-- the record counts the supernodes and the hops of t, and they lie from number 0 on; the widest address allowed is `most`
pub record LaidBinary (most : ℕ) (t : BinaryTrie) (rec : Bitmap) (rows : RowLists) (hops : List ℕ) : Type 0 where
  pub width : Within rec.width most
  pub supernodes : rec.supernodes ≡ length (supernodes_of rec.width t)
  pub hop_count : rec.hops ≡ length (bitmap_hops rec.width t)
  pub room : rec.supernodes ≤ row_room rows
  pub hop_room : rec.hops ≤ length hops
  pub row : HoldRows rows 0 (bitmap_rows rec.width t)
  pub hop : HoldHops hops 0 (bitmap_hops rec.width t)

-- the table has width W and passed the tests
pub record LaidBitmap (most W : ℕ) (vs ls hs : List ℕ) (rec : Bitmap) (rows : RowLists) (hops : List ℕ) : Type 0 where
  pub table : Table W vs ls hs
  pub width : rec.width ≡ W
  pub built : LaidBinary most (table_binary W vs ls hs) rec rows hops
