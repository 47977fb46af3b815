-- A table that passed the tests up to 6, and its supernodes lined up in scratch.
use Rattle.std.specs.Prelude.{ℕ, ◌*◌, ◌≤◌, List, length}
use Rattle.table.specs.Table.{Table}
use Rattle.pieces.specs.BinaryTrie.{binary_nodes, table_binary}
use Rattle.pieces.specs.Rows.{supernodes_of}
use Rattle.supernodes.specs.Limits.{node_row}
use Rattle.supernodes.specs.Linked.{tree_at}
use Rattle.supernodes.specs.Waiting.{HoldsQueue}

pub record FitTable (W : ℕ) (vs ls hs scratch : List ℕ) : Type 0 where
  pub table : Table W vs ls hs
  pub room : binary_nodes (table_binary W vs ls hs) * node_row ≤ length scratch

abbrev pub TableLined : ℕ → List ℕ → List ℕ → List ℕ → ℕ → List ℕ → Type 0
TableLined W vs ls hs count scratch =
    HoldsQueue (tree_at (table_binary W vs ls hs)) (binary_nodes (table_binary W vs ls hs)) (supernodes_of W (table_binary W vs ls hs)) count scratch
