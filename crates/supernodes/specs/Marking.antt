-- One supernode's row and hops, first as the links of its places tell them, then as its trie does.
use Rattle.std.specs.Prelude.{ℕ, zero, suc, ◌+◌, ◌*◌, ◌≤◌, ◌<◌, ◌≡◌, Bool, List, [], ◌++◌, ltb, length, get_or, set}
use Rattle.table.specs.Limits.{entry_limit}
use Rattle.pieces.specs.BinaryTrie.{BinaryTrie, mark}
use Rattle.pieces.specs.Maps.{INTERNAL, EXTERNAL, if_mark, kids, marks}
use Rattle.pieces.specs.Rows.{SupernodeRow, if_any, supernode_row}
use Rattle.walk.specs.Limits.{HOPS}
use Rattle.visits.specs.Rows.{RowLists, row_room, HoldHops}
use Rattle.supernodes.specs.Spans.{NODES}
use Rattle.supernodes.specs.Limits.{node_row}
use Rattle.supernodes.specs.Linked.{row_column, node_column, Nodes}
use Rattle.supernodes.specs.Spots.{all_places}

-- no supernode's children begin later: they are numbered in turn, 16 at most to a node
abbrev pub CHILDREN : ℕ
CHILDREN = suc (NODES * EXTERNAL)

-- a first number has 32 bits
abbrev pub NUMBERS : ℕ
NUMBERS = 4294967296

-- ---- by the links p of the places
-- all of them name rows
pub record LinksFit (rows p : List ℕ) : Type 0 where
  pub long : length p ≡ all_places
  pub fits : (j : ℕ) → j < all_places → get_or p j 0 * node_row ≤ length rows

-- the mark at a place; whether one is there; whether a child begins behind a branch
abbrev pub place_mark : List ℕ → List ℕ → ℕ → ℕ
place_mark rows p j = node_column rows (get_or p j 0) 2

abbrev pub marked_place : List ℕ → List ℕ → ℕ → Bool
marked_place rows p j = ltb 0 (place_mark rows p j)

abbrev pub taken_branch : List ℕ → ℕ → Bool
taken_branch p j = ltb 0 (get_or p (INTERNAL + j) 0)

-- the marks of the first n places
unfoldable pub place_marks : List ℕ → List ℕ → ℕ → List ℕ
place_marks rows p zero = []
place_marks rows p (suc n) = place_marks rows p n ++ if_mark (place_mark rows p n)

-- ---- hops are put from number `first` up to but not `next`; all others are kept
pub record HopsPut (hops : List ℕ) (first : ℕ) (ms : List ℕ) (next : ℕ) (hops' : List ℕ) : Type 0 where
  pub end : next ≡ first + length ms
  pub long : length hops' ≡ length hops
  pub wrote : HoldHops hops' first ms
  pub before : (i : ℕ) → i < first → get_or hops' i 0 ≡ get_or hops i 0
  pub after : (i : ℕ) → next ≤ i → get_or hops' i 0 ≡ get_or hops i 0

-- may the hops of all its places be put
pub record HopsIn (rows p hops : List ℕ) (first : ℕ) : Type 0 where
  pub links : LinksFit rows p
  pub small : (j : ℕ) → j < all_places → place_mark rows p j < HOPS
  pub room : first + length (place_marks rows p INTERNAL) ≤ length hops

-- ---- the row is set at number i
abbrev pub row_with : (internal external child hop : ℕ) → SupernodeRow
row_with internal external child hop =
    record { internal = internal; external = external; first_child = if_any external child; first_hop = if_any internal hop }

pub record RowSet (lists : RowLists) (i : ℕ) (row : SupernodeRow) (lists' : RowLists) : Type 0 where
  pub internal : lists'.internal ≡ set lists.internal i row.internal
  pub external : lists'.external ≡ set lists.external i row.external
  pub first_child : lists'.first_child ≡ set lists.first_child i row.first_child
  pub first_hop : lists'.first_hop ≡ set lists.first_hop i row.first_hop

-- ---- the supernode at place i of the queue, whose children begin at number `child` and whose hops at number `hop`
pub record SupernodeIn (tree : ℕ → BinaryTrie) (used : ℕ) (rows : List ℕ) (i child hop : ℕ) (lists : RowLists) (hops : List ℕ) : Type 0 where
  pub nodes : Nodes tree used rows
  pub small : (k : ℕ) → mark (tree k) < HOPS
  pub turn : i < used
  pub link : row_column rows i 3 ≤ used
  pub room : i < row_room lists
  pub hop_room : hop + length (marks (tree (row_column rows i 3))) ≤ length hops
  pub few : child ≤ CHILDREN
  pub few_hops : hop ≤ entry_limit

abbrev pub SupernodeAsk : List ℕ → (i child hop : ℕ) → RowLists → List ℕ → Type 0
SupernodeAsk rows i child hop lists hops = (tree : ℕ → BinaryTrie) × (used : ℕ) × SupernodeIn tree used rows i child hop lists hops

pub record SupernodePut (t : BinaryTrie) (i child hop : ℕ) (lists : RowLists) (hops : List ℕ)
    (child' hop' : ℕ) (lists' : RowLists) (hops' : List ℕ) : Type 0 where
  pub row : RowSet lists i (supernode_row child hop t) lists'
  pub children : child' ≡ child + length (kids t)
  pub put : HopsPut hops hop (marks t) hop' hops'

abbrev pub SupernodeDone : List ℕ → (i child hop : ℕ) → RowLists → List ℕ → (child' hop' : ℕ) → RowLists → List ℕ → Type 0
SupernodeDone rows i child hop lists hops child' hop' lists' hops' = (tree : ℕ → BinaryTrie) (used : ℕ)
    → SupernodeIn tree used rows i child hop lists hops → SupernodePut (tree (row_column rows i 3)) i child hop lists hops child' hop' lists' hops'
