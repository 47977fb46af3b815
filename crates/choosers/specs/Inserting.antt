-- What the functions that lay an entry into the rows ask and give: for some tree, and for every tree that stands there.
use Rattle.std.specs.Prelude.{◌≡◌, List, ℕ, ◌+◌, ◌*◌, ◌≤◌, ◌<◌, length, get_or, set}
use Rattle.choosers.specs.Limits.{WORD}
use Rattle.choosers.specs.Scratch.{DEPTH, ROW}
use Rattle.choosers.specs.Trees.{Tree, fork, col, Stand, Deep, Deepens, HasRow, Apart, Under, insert_r, count_r}

-- the way to the child at a side of row x, which is made at row `used` where there is none
pub record Downed (rows : List ℕ) (x s used y : ℕ) (rows' : List ℕ) : Type 0 where
  pub made : col rows x s ≡ 0 → (y ≡ used) × (rows' ≡ set rows (x * ROW + s) (used + 1))
  pub there : (col rows x s ≡ 0 → ⊥) → (y + 1 ≡ col rows x s) × (rows' ≡ rows)

pub record InsertIn (rows : List ℕ) (x used v n : ℕ) : Type 0 where
  pub p : ℕ
  pub l : Tree
  pub q : ℕ
  pub r : Tree
  pub stand : Stand rows (fork x p l q r)
  pub apart : Apart (fork x p l q r)
  pub under : Under used (fork x p l q r)
  pub room : count_r n used (fork x p l q r) v * ROW ≤ length rows
  pub blank : (i : ℕ) → used * ROW ≤ i → get_or rows i 0 ≡ 0
  pub short : n < WORD

pub record InsertOut (rows : List ℕ) (x used v n h used' : ℕ) (rows' : List ℕ) (t : Tree) : Type 0 where
  pub stands : Stand rows' (insert_r n used t v h)
  pub deep : Deepens n rows t → Deep rows' (insert_r n used t v h)
  pub count : count_r n used t v ≡ used'
  pub keeps : (y : ℕ) → (HasRow y t → ⊥) → y < used → (c : ℕ) → c < ROW → col rows' y c ≡ col rows y c

-- of a row's columns only links, marks and the depth are written
pub record Inserted (rows : List ℕ) (x used v n h used' : ℕ) (rows' : List ℕ) : Type 0 where
  pub columns : (y c : ℕ) → DEPTH < c → c < ROW → col rows' y c ≡ col rows y c
  pub after : (i : ℕ) → used' * ROW ≤ i → get_or rows' i 0 ≡ get_or rows i 0
  pub tree : (p : ℕ) (l : Tree) (q : ℕ) (r : Tree) → Stand rows (fork x p l q r) → Apart (fork x p l q r) → Under used (fork x p l q r)
      → InsertOut rows x used v n h used' rows' (fork x p l q r)
