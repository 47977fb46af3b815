-- What the functions that make a table's rows ask and give: from rows that are all 0, a tree with one row for each node of
-- the table's 1-bit trie, the root at row 0, and 0 after it.
use Rattle.std.specs.Prelude.{◌≡◌, List, ℕ, suc, ◌*◌, ◌≤◌, ◌<◌, length, get_or}
use Rattle.table.specs.Prefix.{start, IsPrefix}
use Rattle.table.specs.Entry.{Rises}
use Rattle.table.specs.Table.{at}
use Rattle.strides.specs.Trie.{size}
use Rattle.strides.specs.Entries.{trie_of}
use Rattle.strides.specs.Insertion.{met}
use Rattle.walk.specs.Limits.{WIDTH}
use Rattle.layout.specs.Marks.{entry_marks}
use Rattle.choosers.specs.LevelCounts.{CanCount, LevelsAdded, CountsOf}
use Rattle.choosers.specs.Scratch.{DEPTH, ROW, MARKS}
use Rattle.choosers.specs.Trees.{Tree, shape, link_of, row_for, col, Stand, Deep, Apart, Under, add_entry, tree_of}

-- a table's prefixes, as far as its trie goes by them: they may repeat
pub record Prefixes (W : ℕ) (vs ls : List ℕ) : Type 0 where
  pub some_width : 0 < W
  pub width : W ≤ WIDTH
  pub lengths : length ls ≡ length vs
  pub prefix : (i : ℕ) → i < length vs → IsPrefix W (at vs i) (at ls i)
  pub rises : (i : ℕ) → suc i < length vs → Rises (at vs i) (at ls i) (at vs (suc i)) (at ls (suc i))

-- t stands in the first rows, the root at row 0; the columns after the depth are 0, and so is what comes after the rows
pub record InRows (rows : List ℕ) (t : Tree) : Type 0 where
  pub stand : Stand rows t
  pub deep : Deep rows t
  pub apart : Apart t
  pub under : Under (size (shape t)) t
  pub rooted : row_for 0 t ≡ 0
  pub bare : (y c : ℕ) → DEPTH < c → c < ROW → col rows y c ≡ 0
  pub blank : (i : ℕ) → size (shape t) * ROW ≤ i → get_or rows i 0 ≡ 0

-- one entry more: the first l bits of v, with the mark h
pub record AddIn (rows : List ℕ) (used W v l h : ℕ) : Type 0 where
  pub tree : Tree
  pub laid : InRows rows tree
  pub count : used ≡ size (shape tree)
  pub room : size (shape (add_entry l used tree (start W l v) h)) * ROW ≤ length rows
  pub short : l ≤ W
  pub width : W ≤ WIDTH

pub record AddOut (used W v l h : ℕ) (t : Tree) (used' : ℕ) (rows' : List ℕ) : Type 0 where
  pub laid : InRows rows' (add_entry l used t (start W l v) h)
  pub count : used' ≡ size (shape (add_entry l used t (start W l v) h))

abbrev pub Added : List ℕ → (used W v l h used' : ℕ) → List ℕ → Type 0
Added rows used W v l h used' rows' = (t : Tree) → InRows rows t → used ≡ size (shape t) → AddOut used W v l h t used' rows'

-- the same entry, with its new nodes counted at their levels
pub record CountIn (rows counts : List ℕ) (used W v l h : ℕ) : Type 0 where
  pub adds : AddIn rows used W v l h
  pub can : CanCount counts

pub record AddCounted (rows counts : List ℕ) (used W v l h used' : ℕ) (rows' counts' : List ℕ) : Type 0 where
  pub added : Added rows used W v l h used' rows'
  pub levels : (t : Tree) → InRows rows t → used ≡ size (shape t) → LevelsAdded counts (met l (start W l v) (shape t)) l counts'

-- the whole table
pub record MakeIn (W : ℕ) (vs ls hs rows counts : List ℕ) : Type 0 where
  pub prefixes : Prefixes W vs ls
  pub hops : length hs ≡ length vs
  pub zeros : (i : ℕ) → get_or rows i 0 ≡ 0
  pub counts_long : length counts ≡ WIDTH
  pub no_counts : (j : ℕ) → at counts j ≡ 0
  pub room : size (trie_of W (at vs) (at ls) (entry_marks ls hs) (length vs)) * ROW ≤ length rows

pub record MakeOut (W : ℕ) (vs ls hs : List ℕ) (root : ℕ) (rows' counts' : List ℕ) : Type 0 where
  pub small : (i : ℕ) → i < length vs → entry_marks ls hs i < MARKS
  pub counted : CountsOf counts' (shape (tree_of W (at vs) (at ls) (entry_marks ls hs) (length vs)))
  pub laid : InRows rows' (tree_of W (at vs) (at ls) (entry_marks ls hs) (length vs))
  pub link : root ≡ link_of (tree_of W (at vs) (at ls) (entry_marks ls hs) (length vs))
