-- A trie by levels: how many it has, the nodes of one of them, how many stand left of a path, and the number of a supernode.
use Rattle.std.specs.Prelude.{ℕ, zero, suc, max, ◌+◌, ◌*◌, List, ◌++◌, length}
use Rattle.strides.specs.Trie.{bit}
use Rattle.pieces.specs.BinaryTrie.{BinaryTrie, empty, knot, side_of}
use Rattle.pieces.specs.Maps.{STEP, if_node, kids}
use Rattle.pieces.specs.Order.{order}

-- levels of nodes
unfoldable pub deep : BinaryTrie → ℕ
deep empty = 0
deep (knot m l r) = suc (max (deep l) (deep r))

-- the nodes c levels below a trie's first, left to right
unfoldable pub nodes_below : (c : ℕ) → BinaryTrie → List BinaryTrie
nodes_below zero t = if_node t
nodes_below (suc c) t = nodes_below c (side_of 0 t) ++ nodes_below c (side_of 1 t)

-- how many nodes of level d stand left of the path of the last d bits of y: nothing of a bit 0, all under the left side of a bit 1
abbrev pub left_side : (i nodes : ℕ) → ℕ
left_side zero nodes = 0
left_side (suc i) nodes = nodes

unfoldable pub nodes_left : (d : ℕ) → BinaryTrie → (y : ℕ) → ℕ
nodes_left zero t y = 0
nodes_left (suc d) t y = left_side (bit d y) (length (nodes_below d (side_of 0 t))) + nodes_left d (side_of (bit d y) t) y

-- the number of the supernode that begins at level 4n on the path of the last 4n bits of y: all supernodes of earlier levels lie before it,
-- and those of its own level that stand left of it
unfoldable pub number_on : (n : ℕ) → BinaryTrie → (y : ℕ) → ℕ
number_on n t y = length (order kids n (if_node t)) + nodes_left (STEP * n) t y
