-- What an inspector reads, in the order of 02 [1]: the binary trie of a table; a supernode's places and maps; supernodes breadth first;
-- their rows and hops; levels of the trie, and the number of the supernode at a node; the cut of an address at a supernode; the
-- eight-prefix table and 02's discarded corner as examples.
pub mod BinaryTrie
pub mod Maps
pub mod Order
pub mod Rows
pub mod Depth
pub mod Cuts
pub mod Eight
pub mod Corner
-- How a sorted table shows its trie: ranges of neighbours.
pub mod Ranges
