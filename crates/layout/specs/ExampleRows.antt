-- Rows by computation from their tables. First 01's run (width 3, two levels, 1 to hop 1 and 101 to hop 2; root stride 1, then 2), with
-- the rows on the path of address 101.
use Rattle.std.specs.Prelude.{ℕ, zero, suc, ◌≡◌, refl, List, [], ◌∷◌}
use Rattle.table.specs.Prefix.{start}
use Rattle.table.specs.Eight.{eight_values, eight_lengths, eight_hops}
use Rattle.table.specs.Corner.{corner_values, corner_lengths, corner_hops}
use Rattle.strides.specs.Trie.{Trie, depth, bit, mark_along, sub_along}
use Rattle.strides.specs.Entries.{node_if, trie_below, beyond, proper_start, whole_entry, some_start, mark_at, trie_of}
use Rattle.walk.specs.Rows.{Row}
use Rattle.walk.specs.Rows.{row_of}
use Rattle.layout.specs.Blocks.{Strides, wide, left_of, row_below, list_of, block_rows, level_rows, first_row, levels_rows}
use Rattle.layout.specs.Blocks.{rows_of, row_count, blocks_along, block_row, rows_along}
use Rattle.layout.specs.Laid.{table_trie}

abbrev table : Trie
table = table_trie 3 (0b100 ∷ 0b101 ∷ []) (1 ∷ 3 ∷ []) (1 ∷ 2 ∷ [])

abbrev strides : Strides
strides zero t = 0
strides (suc zero) t = 2
strides (suc (suc r)) t = 1

abbrev row : (hop len link stride : ℕ) → Row
row h n l s = record { hop = h; len = n; link = l; stride = s }

run_rows_lem : (rows_of strides 2 table ≡ row 0 0 0 0 ∷ row 1 1 2 2 ∷ row 0 0 0 0 ∷ row 2 3 0 0 ∷ row 0 0 0 0 ∷ row 0 0 0 0 ∷ [])
    × (row_count strides 2 table ≡ 6) × (rows_along strides 3 2 table 0b101 ≡ 1 ∷ 3 ∷ [])
unfolding start bit mark_along sub_along node_if trie_below beyond proper_start whole_entry some_start mark_at trie_of row_of wide left_of
    row_below list_of block_rows level_rows first_row levels_rows rows_of row_count blocks_along block_row rows_along
run_rows_lem = (refl, refl, refl)

-- The eight-prefix table with the variable strides for two levels: 4 at the root, then as deep as the subtrie is. Its two child
-- blocks lie left to right, at rows 16 and 18 with strides 1 and 3.
abbrev eight_strides : Strides
eight_strides zero t = 0
eight_strides (suc zero) t = depth t
eight_strides (suc (suc r)) t = 4

-- n rows with the hop h, its entry's length l, and no child
abbrev leaves : (n h l : ℕ) → List Row → List Row
leaves zero h l rs = rs
leaves (suc n) h l rs = row h l 0 0 ∷ leaves n h l rs

eight_rows_lem : rows_of eight_strides 2 (table_trie 7 eight_values eight_lengths eight_hops)
    ≡ leaves 8 1 1 (row 2 1 16 1 ∷ leaves 1 2 1 (leaves 2 4 3 (row 6 4 18 3 ∷ leaves 3 3 2
    (leaves 1 0 0 (leaves 1 5 5 (leaves 1 8 7 (leaves 1 7 6 (leaves 6 0 0 []))))))))
unfolding start bit mark_along sub_along node_if trie_below beyond proper_start whole_entry some_start mark_at trie_of depth row_of wide left_of
    row_below list_of block_rows level_rows first_row levels_rows rows_of
eight_rows_lem = refl

-- The discarded corner (02, [4]) with strides 2 and 2: its hop stands in a row like any other.
abbrev corner_strides : Strides
corner_strides r t = 2

corner_rows_lem : rows_of corner_strides 2 (table_trie 4 corner_values corner_lengths corner_hops)
    ≡ leaves 2 0 0 (row 1 2 4 2 ∷ leaves 1 0 0 (leaves 2 0 0 (leaves 1 65535 4 (leaves 1 0 0 []))))
unfolding start bit mark_along sub_along node_if trie_below beyond proper_start whole_entry some_start mark_at trie_of row_of wide left_of
    row_below list_of block_rows level_rows first_row levels_rows rows_of
corner_rows_lem = refl
