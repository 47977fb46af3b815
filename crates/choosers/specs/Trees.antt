-- A trie laid in scratch rows: a tree that names the row of each node, so that which rows it has is plain to see. Rows may
-- lie in any order; a fresh build takes them one after the other.
use Rattle.std.specs.Prelude.{◌≡◌, List, ◌⊎◌, ℕ, zero, suc, max, ◌+◌, ◌*◌, ◌<◌, get_or}
use Rattle.table.specs.Prefix.{start}
use Rattle.strides.specs.Trie.{Trie, none, node, bit, depth, size}
use Rattle.choosers.specs.Scratch.{ROW, DEPTH}

-- nothing; or a node: its row, left mark, left tree, right mark, right tree
pub data Tree : Type 0 where
  nil : Tree
  fork : ℕ → ℕ → Tree → ℕ → Tree → Tree

-- the trie, without the rows
unfoldable pub shape : Tree → Trie
shape nil = none
shape (fork x p l q r) = node p (shape l) q (shape r)

abbrev pub link_of : Tree → ℕ
link_of nil = 0
link_of (fork x p l q r) = x + 1

-- ---- rows that hold it

abbrev pub col : List ℕ → ℕ → ℕ → ℕ
col rows x c = get_or rows (x * ROW + c) 0

-- row x has the links a and b and the marks p and q
pub record NodeRow (rows : List ℕ) (x a b p q : ℕ) : Type 0 where
  pub link0 : col rows x 0 ≡ a
  pub link1 : col rows x 1 ≡ b
  pub mark0 : col rows x 2 ≡ p
  pub mark1 : col rows x 3 ≡ q

abbrev pub Stand : List ℕ → Tree → Type 0
Stand rows nil = Unit {0}
Stand rows (fork x p l q r) = NodeRow rows x (link_of l) (link_of r) p q × Stand rows l × Stand rows r

-- each row holds the depth of what stands there
abbrev pub Deep : List ℕ → Tree → Type 0
Deep rows nil = Unit {0}
Deep rows (fork x p l q r) = (col rows x DEPTH ≡ depth (node p (shape l) q (shape r))) × Deep rows l × Deep rows r

-- the same below the root; the root's own depth is right once it is raised to n + 1, for it may just have been made
abbrev pub Deepens : ℕ → List ℕ → Tree → Type 0
Deepens n rows nil = Unit {0}
Deepens n rows (fork x p l q r) =
    (max (col rows x DEPTH) (suc n) ≡ max (depth (node p (shape l) q (shape r))) (suc n)) × Deep rows l × Deep rows r

-- y is a row of the tree
abbrev pub HasRow : ℕ → Tree → Type 0
HasRow y nil = ⊥
HasRow y (fork x p l q r) = (y ≡ x) ⊎ (HasRow y l ⊎ HasRow y r)

-- no row is there twice
abbrev pub Apart : Tree → Type 0
Apart nil = Unit {0}
Apart (fork x p l q r) = (HasRow x l → ⊥) × (HasRow x r → ⊥) × ((y : ℕ) → HasRow y l → HasRow y r → ⊥) × Apart l × Apart r

-- all its rows are below n
abbrev pub Under : ℕ → Tree → Type 0
Under n t = (y : ℕ) → HasRow y t → y < n

-- ---- one entry more

abbrev pub lt : Tree → Tree
lt nil = nil
lt (fork x p l q r) = l

abbrev pub rt : Tree → Tree
rt nil = nil
rt (fork x p l q r) = r

abbrev pub lmark : Tree → ℕ
lmark nil = 0
lmark (fork x p l q r) = p

abbrev pub rmark : Tree → ℕ
rmark nil = 0
rmark (fork x p l q r) = q

-- the tree's row, and the next free one, where the row u is taken for a tree that is nil
abbrev pub row_for : ℕ → Tree → ℕ
row_for u nil = u
row_for u (fork x p l q r) = x

abbrev pub next : ℕ → Tree → ℕ
next u nil = u + 1
next u (fork x p l q r) = u

abbrev pub side : ℕ → Tree → Tree
side zero t = lt t
side (suc s) t = rt t

abbrev pub set_side : ℕ → ℕ → Tree → Tree → Tree
set_side zero x t u = fork x (lmark t) u (rmark t) (rt t)
set_side (suc s) x t u = fork x (lmark t) (lt t) (rmark t) u

abbrev pub set_mark : ℕ → ℕ → Tree → ℕ → Tree
set_mark zero x t h = fork x h (lt t) (rmark t) (rt t)
set_mark (suc s) x t h = fork x (lmark t) (lt t) h (rt t)

-- the entry of the last n + 1 bits of v with the mark h is put in; u is the next free row
unfoldable pub insert_r : ℕ → ℕ → Tree → ℕ → ℕ → Tree
insert_r zero u t v h = set_mark (bit 0 v) (row_for u t) t h
insert_r (suc n) u t v h = set_side (bit (suc n) v) (row_for u t) t (insert_r n (next u t) (side (bit (suc n) v) t) v h)

-- the next free row after that
unfoldable pub count_r : ℕ → ℕ → Tree → ℕ → ℕ
count_r zero u t v = next u t
count_r (suc n) u t v = count_r n (next u t) (side (bit (suc n) v) t) v

-- a length 0 entry makes no node
unfoldable pub add_entry : ℕ → ℕ → Tree → ℕ → ℕ → Tree
add_entry zero u t v h = t
add_entry (suc n) u t v h = insert_r n u t v h

-- ---- a whole table: as many rows are taken as there are nodes

unfoldable pub tree_of : ℕ → (ℕ → ℕ) → (ℕ → ℕ) → (ℕ → ℕ) → ℕ → Tree
tree_of W val len mark zero = nil
tree_of W val len mark (suc n) =
    add_entry (len n) (size (shape (tree_of W val len mark n))) (tree_of W val len mark n) (start W (len n) (val n)) (mark n)
