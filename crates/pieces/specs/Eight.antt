-- The eight-prefix table of document 01 (width 7) as supernodes, by computation from its lists: 14 nodes of the binary trie, three
-- supernodes with two children of the root, and the hops in their order.
use Rattle.std.specs.Prelude.{◌≡◌, refl, List, [], ◌∷◌, ℕ}
use Rattle.table.specs.Prefix.{start}
use Rattle.table.specs.Eight.{eight_values, eight_lengths, eight_hops}
use Rattle.strides.specs.Entries.{whole_entry, mark_at}
use Rattle.pieces.specs.BinaryTrie.{BinaryTrie, binary_nodes, begins_entry, some_begins, knot_if, binary_below, binary_trie_of, mark, table_binary}
use Rattle.pieces.specs.Maps.{place_level, map_of, is_node, subtrie_along, subtrie_at, internal_map, external_map, if_node, if_mark, kids_to, marks_to}
use Rattle.pieces.specs.Maps.{place_on, on_path, mask_of}
use Rattle.pieces.specs.Order.{kids_of, order}
use Rattle.pieces.specs.Rows.{SupernodeRow, supernode_rows, supernodes_of, bitmap_rows, marks_of_all, bitmap_hops}

abbrev pub eight_binary : BinaryTrie
eight_binary = table_binary 7 eight_values eight_lengths eight_hops

abbrev row : (internal external child hop : ℕ) → SupernodeRow
row i e c h = record { internal = i; external = e; first_child = c; first_hop = h }

abbrev pub eight_rows : List SupernodeRow
eight_rows = row 4166 4352 1 0 ∷ row 4 0 0 4 ∷ row 137 0 0 5 ∷ []

abbrev pub eight_hop_rows : List ℕ
eight_hop_rows = 1 ∷ 2 ∷ 3 ∷ 4 ∷ 5 ∷ 6 ∷ 7 ∷ 8 ∷ []

eight_supernodes : (binary_nodes eight_binary ≡ 14) × (bitmap_rows 7 eight_binary ≡ eight_rows) × (bitmap_hops 7 eight_binary ≡ eight_hop_rows)
unfolding start whole_entry mark_at binary_nodes begins_entry some_begins knot_if binary_below binary_trie_of mark place_level map_of is_node subtrie_along subtrie_at
    internal_map external_map if_node if_mark kids_to marks_to kids_of order supernode_rows supernodes_of bitmap_rows marks_of_all bitmap_hops
eight_supernodes = (refl, refl, refl)

-- Width 8, the entry of length 0 and 11111111: the supernode between the two has no entry, so its first-hop number is 0, though one hop
-- stands before it; the last has no child.
bare_supernode : (bitmap_rows 8 (table_binary 8 (0 ∷ 255 ∷ []) (0 ∷ 8 ∷ []) (7 ∷ 9 ∷ [])) ≡ row 1 32768 1 0 ∷ row 0 32768 2 0 ∷ row 1 0 0 1 ∷ [])
    × (bitmap_hops 8 (table_binary 8 (0 ∷ 255 ∷ []) (0 ∷ 8 ∷ []) (7 ∷ 9 ∷ [])) ≡ 7 ∷ 9 ∷ [])
unfolding start whole_entry mark_at binary_nodes begins_entry some_begins knot_if binary_below binary_trie_of mark place_level map_of is_node subtrie_along subtrie_at
    internal_map external_map if_node if_mark kids_to marks_to kids_of order supernode_rows supernodes_of bitmap_rows marks_of_all bitmap_hops
bare_supernode = (refl, refl)

-- the path 1100: place 0, then 2 (bit 1), 6 (bits 11) and 13 (bits 110)
mask_twelve : mask_of 0b1100 ≡ 0b10000001000101
unfolding mask_of map_of on_path place_on place_level
mask_twelve = refl
