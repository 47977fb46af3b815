-- The rows of supernodes and their hops: "Supernodes lie breadth first, their hops in that order, then level order; first-child and
-- first-hop numbers are 0 where none" (02 [1]). A supernode's children stand together, after the children of all before it; so do
-- its hops.
use Rattle.std.specs.Prelude.{ℕ, suc, ◌+◌, ◌/◌, cond, List, [], ◌∷◌, ◌++◌, eqb, length}
use Rattle.pieces.specs.BinaryTrie.{BinaryTrie}
use Rattle.pieces.specs.Order.{order}
use Rattle.pieces.specs.Maps.{STEP, internal_map, external_map, kids, marks, if_node}

pub record SupernodeRow : Type 0 where
  pub internal : ℕ
  pub external : ℕ
  pub first_child : ℕ
  pub first_hop : ℕ

-- x where the map has a bit, else 0
abbrev pub if_any : (map x : ℕ) → ℕ
if_any map x = cond (eqb map 0) 0 x

abbrev pub supernode_row : (child hop : ℕ) → BinaryTrie → SupernodeRow
supernode_row child hop t = record {
  internal = internal_map t;
  external = external_map t;
  first_child = if_any (external_map t) child;
  first_hop = if_any (internal_map t) hop;
}

-- the rows of supernodes in order, whose children begin at number `child` and whose hops at number `hop`
unfoldable pub supernode_rows : (child hop : ℕ) → List BinaryTrie → List SupernodeRow
supernode_rows child hop [] = []
supernode_rows child hop (t ∷ q) = supernode_row child hop t ∷ supernode_rows (child + length (kids t)) (hop + length (marks t)) q

-- the supernodes of a trie of width W: levels 0, 4, .. up to W; the root is number 0, so its children begin at 1
unfoldable pub supernodes_of : (W : ℕ) → BinaryTrie → List BinaryTrie
supernodes_of W t = order kids (suc (W / STEP)) (if_node t)

unfoldable pub bitmap_rows : (W : ℕ) → BinaryTrie → List SupernodeRow
bitmap_rows W t = supernode_rows 1 0 (supernodes_of W t)

unfoldable pub marks_of_all : List BinaryTrie → List ℕ
marks_of_all [] = []
marks_of_all (t ∷ q) = marks t ++ marks_of_all q

unfoldable pub bitmap_hops : (W : ℕ) → BinaryTrie → List ℕ
bitmap_hops W t = marks_of_all (supernodes_of W t)
