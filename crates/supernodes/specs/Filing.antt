-- The rows and hops of all supernodes of the queue.
use Rattle.std.specs.Prelude.{ℕ, ◌≤◌, ◌<◌, ◌≡◌, List, length, get_or}
use Rattle.table.specs.Limits.{entry_limit}
use Rattle.pieces.specs.BinaryTrie.{BinaryTrie, mark}
use Rattle.pieces.specs.Rows.{supernode_rows, marks_of_all}
use Rattle.visits.specs.Rows.{RowLists, row_room, supernode_at, HoldRows, HoldHops}
use Rattle.supernodes.specs.Spans.{NODES}
use Rattle.supernodes.specs.Waiting.{HoldsQueue}
use Rattle.walk.specs.Limits.{HOPS}

pub record FileIn (tree : ℕ → BinaryTrie) (used : ℕ) (ts : List BinaryTrie) (rows : List ℕ) (count : ℕ)
    (lists : RowLists) (hops : List ℕ) : Type 0 where
  pub held : HoldsQueue tree used ts count rows
  pub small : (k : ℕ) → mark (tree k) < HOPS
  pub few : used ≤ NODES
  pub room : count ≤ row_room lists
  pub hop_room : length (marks_of_all ts) ≤ length hops
  pub few_hops : length (marks_of_all ts) ≤ entry_limit

abbrev pub FileAsk : List ℕ → ℕ → RowLists → List ℕ → Type 0
FileAsk rows count lists hops = (tree : ℕ → BinaryTrie) × (used : ℕ) × (ts : List BinaryTrie) × FileIn tree used ts rows count lists hops

-- the lists hold the rows and hops of ts from number 0 on; later ones are kept
pub record RowsFiled (ts : List BinaryTrie) (count : ℕ) (lists : RowLists) (hops : List ℕ) (lists' : RowLists) (hops' : List ℕ) : Type 0 where
  pub row : HoldRows lists' 0 (supernode_rows 1 0 ts)
  pub hop : HoldHops hops' 0 (marks_of_all ts)
  pub later : (i : ℕ) → count ≤ i → supernode_at lists' i ≡ supernode_at lists i
  pub later_hop : (i : ℕ) → length (marks_of_all ts) ≤ i → get_or hops' i 0 ≡ get_or hops i 0

abbrev pub Filed : List ℕ → ℕ → RowLists → List ℕ → RowLists → List ℕ → Type 0
Filed rows count lists hops lists' hops' = (tree : ℕ → BinaryTrie) (used : ℕ) (ts : List BinaryTrie)
    → FileIn tree used ts rows count lists hops → RowsFiled ts count lists hops lists' hops'
