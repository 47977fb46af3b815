-- The discarded corner of 02, [4] (width 4, 10 to hop 1 and 1010 to hop 65,535) as supernodes, by computation from its lists: its hop stands in
-- its place, like any other.
use Rattle.std.specs.Prelude.{◌≡◌, refl, List, [], ◌∷◌, ℕ}
use Rattle.table.specs.Prefix.{start}
use Rattle.table.specs.Corner.{corner_values, corner_lengths, corner_hops}
use Rattle.strides.specs.Entries.{whole_entry, mark_at}
use Rattle.pieces.specs.BinaryTrie.{BinaryTrie, begins_entry, some_begins, knot_if, binary_below, binary_trie_of, mark, table_binary}
use Rattle.pieces.specs.Maps.{place_level, map_of, is_node, subtrie_along, subtrie_at, internal_map, external_map, if_node, if_mark, kids_to, marks_to}
use Rattle.pieces.specs.Order.{kids_of, order}
use Rattle.pieces.specs.Rows.{SupernodeRow, supernode_rows, supernodes_of, bitmap_rows, marks_of_all, bitmap_hops}

abbrev row : (internal external child hop : ℕ) → SupernodeRow
row i e c h = record { internal = i; external = e; first_child = c; first_hop = h }

abbrev corner_binary : BinaryTrie
corner_binary = table_binary 4 corner_values corner_lengths corner_hops

abbrev pub corner_supernodes : List SupernodeRow
corner_supernodes = row 32 1024 1 0 ∷ row 1 0 0 1 ∷ []

corner_supernodes_lem : (bitmap_rows 4 corner_binary ≡ corner_supernodes) × (bitmap_hops 4 corner_binary ≡ 1 ∷ 65535 ∷ [])
unfolding start whole_entry mark_at begins_entry some_begins knot_if binary_below binary_trie_of mark place_level map_of is_node subtrie_along subtrie_at
    internal_map external_map if_node if_mark kids_to marks_to kids_of order supernode_rows supernodes_of bitmap_rows marks_of_all bitmap_hops
corner_supernodes_lem = (refl, refl)
