-- The queue column: the supernodes in breadth first order.
use Rattle.std.specs.Prelude.{ℕ, zero, suc, ◌+◌, ◌*◌, ◌≤◌, ◌<◌, ◌≡◌, List, [], ◌∷◌, length}
use Rattle.pieces.specs.BinaryTrie.{BinaryTrie, binary_nodes}
use Rattle.pieces.specs.Maps.{if_node, kids}
use Rattle.pieces.specs.Order.{order}
use Rattle.pieces.specs.Depth.{deep, nodes_below}
use Rattle.pieces.specs.Rows.{supernodes_of}
use Rattle.supernodes.specs.Linked.{row_column, Nodes}

-- the tries of n links in the queue column, from place i on
unfoldable pub queued : (ℕ → BinaryTrie) → List ℕ → (i n : ℕ) → List BinaryTrie
queued tree rows i zero = []
queued tree rows i (suc n) = tree (row_column rows i 3) ∷ queued tree rows (suc i) n

-- ---- some nodes join
pub record PushIn (tree : ℕ → BinaryTrie) (used : ℕ) (rows : List ℕ) (k c tail : ℕ) : Type 0 where
  pub nodes : Nodes tree used rows
  pub link : k ≤ used
  pub room : tail + length (nodes_below c (tree k)) ≤ used

abbrev pub PushAsk : List ℕ → ℕ → ℕ → ℕ → Type 0
PushAsk rows k c tail = (tree : ℕ → BinaryTrie) × (used : ℕ) × PushIn tree used rows k c tail

-- the tries of ts stand in the queue from tail on
pub record Joined (tree : ℕ → BinaryTrie) (used : ℕ) (rows : List ℕ) (ts : List BinaryTrie) (tail next : ℕ) (rows' : List ℕ) : Type 0 where
  pub end : next ≡ tail + length ts
  pub nodes : Nodes tree used rows'
  pub queue : queued tree rows' tail (length ts) ≡ ts
  pub links : (i : ℕ) → tail ≤ i → i < next → row_column rows' i 3 ≤ used
  pub kept : (i : ℕ) → i < tail → row_column rows' i 3 ≡ row_column rows i 3

abbrev pub Pushed : List ℕ → ℕ → ℕ → ℕ → ℕ → List ℕ → Type 0
Pushed rows k c tail next rows' = (tree : ℕ → BinaryTrie) (used : ℕ) → PushIn tree used rows k c tail
    → Joined tree used rows (nodes_below c (tree k)) tail next rows'

-- ---- each has its turn
pub record DrainIn (tree : ℕ → BinaryTrie) (used : ℕ) (t : BinaryTrie) (rows : List ℕ) (first : ℕ) : Type 0 where
  pub nodes : Nodes tree used rows
  pub queue : queued tree rows 0 first ≡ if_node t
  pub links : (i : ℕ) → i < first → row_column rows i 3 ≤ used
  pub room : binary_nodes t ≤ used

abbrev pub DrainAsk : List ℕ → ℕ → Type 0
DrainAsk rows first = (tree : ℕ → BinaryTrie) × (used : ℕ) × (t : BinaryTrie) × DrainIn tree used t rows first

-- the queue column holds the tries of ts, r of them
pub record HoldsQueue (tree : ℕ → BinaryTrie) (used : ℕ) (ts : List BinaryTrie) (r : ℕ) (rows : List ℕ) : Type 0 where
  pub nodes : Nodes tree used rows
  pub queue : queued tree rows 0 r ≡ ts
  pub links : (i : ℕ) → i < r → row_column rows i 3 ≤ used
  pub few : r ≤ used

abbrev pub Drained : List ℕ → ℕ → ℕ → List ℕ → Type 0
Drained rows first r rows' = (tree : ℕ → BinaryTrie) (used : ℕ) (t : BinaryTrie) → DrainIn tree used t rows first → (n : ℕ) → deep t ≤ 4 * n
    → HoldsQueue tree used (order kids n (if_node t)) r rows'

-- ---- all supernodes of the trie at the link root
pub record LineIn (tree : ℕ → BinaryTrie) (used : ℕ) (rows : List ℕ) (root : ℕ) : Type 0 where
  pub nodes : Nodes tree used rows
  pub link : root ≤ used
  pub room : binary_nodes (tree root) ≤ used

abbrev pub LineAsk : List ℕ → ℕ → Type 0
LineAsk rows root = (tree : ℕ → BinaryTrie) × (used : ℕ) × LineIn tree used rows root

-- the width W enters here: no trie of a table is deeper than W + 1 levels
abbrev pub Lined : List ℕ → ℕ → ℕ → List ℕ → Type 0
Lined rows root r rows' = (tree : ℕ → BinaryTrie) (used : ℕ) → LineIn tree used rows root → (W : ℕ) → deep (tree root) ≤ suc W
    → HoldsQueue tree used (supernodes_of W (tree root)) r rows'
