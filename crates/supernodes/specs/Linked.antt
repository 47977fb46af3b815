-- The binary trie in scratch rows: left link, right link, mark, queue. A link is a row and one, 0 is none.
use Rattle.std.specs.Prelude.{ℕ, zero, suc, ◌+◌, ◌-◌, ◌*◌, ◌≤◌, ◌<◌, ◌≡◌, cond, List, eqb, ltb, length, get_or}
use Rattle.table.specs.Table.{at}
use Rattle.pieces.specs.BinaryTrie.{BinaryTrie, empty, knot, binary_nodes}
use Rattle.supernodes.specs.Limits.{node_row}
use Rattle.supernodes.specs.Spans.{Span, subtree}

abbrev pub row_column : List ℕ → ℕ → ℕ → ℕ
row_column rows x c = get_or rows (x * node_row + c) 0

-- column c of the row that the link k names; 0 of no row
unfoldable pub node_column : List ℕ → ℕ → ℕ → ℕ
node_column rows k c = cond (eqb k 0) 0 (get_or rows ((k - 1) * node_row + c) 0)

-- row x has these, and no other row changed
pub record NodeWritten (rows : List ℕ) (x left right mark : ℕ) (rows' : List ℕ) : Type 0 where
  pub own_left : row_column rows' x 0 ≡ left
  pub own_right : row_column rows' x 1 ≡ right
  pub own_mark : row_column rows' x 2 ≡ mark
  pub before : (i : ℕ) → i < x * node_row → get_or rows' i 0 ≡ get_or rows i 0
  pub after : (i : ℕ) → suc x * node_row ≤ i → get_or rows' i 0 ≡ get_or rows i 0

-- the link of a trie that stands from row x on
abbrev pub link_at : ℕ → BinaryTrie → ℕ
link_at x empty = 0
link_at x (knot m l r) = suc x

-- the trie stands from row x on, in preorder
abbrev pub Packed : List ℕ → ℕ → BinaryTrie → Type 0
Packed rows x empty = Unit {0}
Packed rows x (knot m l r) =
    (row_column rows x 0 ≡ link_at (suc x) l) × (row_column rows x 1 ≡ link_at (suc x + binary_nodes l) r) × (row_column rows x 2 ≡ m)
    × Packed rows (suc x) l × Packed rows (suc x + binary_nodes l) r

pub record GrowIn (rows : List ℕ) (W : ℕ) (vs ls hs : List ℕ) (d q from to used : ℕ) : Type 0 where
  pub span : Span W vs ls d q from to
  pub hops : length hs ≡ length vs
  pub room : (used + binary_nodes (subtree W vs ls (at hs) d q)) * node_row ≤ length rows

abbrev pub GrowAsk : List ℕ → ℕ → List ℕ → List ℕ → List ℕ → ℕ → ℕ → ℕ → ℕ → Type 0
GrowAsk rows W vs ls hs d from to used = (q : ℕ) × GrowIn rows W vs ls hs d q from to used

-- the trie t was written from row `used` to row `next`
pub record Put (rows : List ℕ) (used : ℕ) (t : BinaryTrie) (next : ℕ) (rows' : List ℕ) : Type 0 where
  pub end : next ≡ used + binary_nodes t
  pub packed : Packed rows' used t
  pub before : (i : ℕ) → i < used * node_row → get_or rows' i 0 ≡ get_or rows i 0
  pub after : (i : ℕ) → next * node_row ≤ i → get_or rows' i 0 ≡ get_or rows i 0

abbrev pub Grown : List ℕ → ℕ → List ℕ → List ℕ → List ℕ → ℕ → ℕ → ℕ → ℕ → ℕ → List ℕ → Type 0
Grown rows W vs ls hs d from to used next rows' =
    (q : ℕ) → GrowIn rows W vs ls hs d q from to used → Put rows used (subtree W vs ls (at hs) d q) next rows'

-- ---- read by links
-- every row that a link names is a node; `tree k` is the trie of the link k
pub record Node (tree : ℕ → BinaryTrie) (used : ℕ) (rows : List ℕ) (k : ℕ) : Type 0 where
  pub left : node_column rows k 0 ≤ used
  pub right : node_column rows k 1 ≤ used
  pub is : tree k ≡ knot (node_column rows k 2) (tree (node_column rows k 0)) (tree (node_column rows k 1))

pub record Nodes (tree : ℕ → BinaryTrie) (used : ℕ) (rows : List ℕ) : Type 0 where
  pub none : tree 0 ≡ empty
  pub fits : used * node_row ≤ length rows
  pub each : (k : ℕ) → 0 < k → k ≤ used → Node tree used rows k

-- the trie at row i of one that stands in preorder from row 0 on, and at a link
unfoldable pub sub_at : BinaryTrie → ℕ → BinaryTrie
sub_at empty i = empty
sub_at (knot m l r) zero = knot m l r
sub_at (knot m l r) (suc i) = cond (ltb i (binary_nodes l)) (sub_at l i) (sub_at r (i - binary_nodes l))

unfoldable pub tree_at : BinaryTrie → ℕ → BinaryTrie
tree_at t zero = empty
tree_at t (suc i) = sub_at t i
