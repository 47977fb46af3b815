-- A sorted table read as the binary trie, by ranges of neighbours.
use Rattle.std.specs.Prelude.{ℕ, suc, ◌-◌, ◌*◌, ◌/◌, ◌%◌, ◌^◌, ◌≤◌, ◌<◌, ◌≡◌, List, length}
use Rattle.table.specs.Limits.{width_limit, entry_limit}
use Rattle.table.specs.Prefix.{IsPrefix}
use Rattle.table.specs.Entry.{Below}
use Rattle.table.specs.Table.{at}
use Rattle.strides.specs.Entries.{mark_at}
use Rattle.pieces.specs.BinaryTrie.{BinaryTrie, binary_nodes, some_begins, binary_below}
use Rattle.pieces.specs.Ranges.{Ranged}

-- no trie of a table has more nodes
abbrev pub NODES : ℕ
NODES = entry_limit * suc width_limit

-- mid is the first of from..to with bit n set, else `to`
pub record Parted (vs : List ℕ) (n from to mid : ℕ) : Type 0 where
  pub low : from ≤ mid
  pub high : mid ≤ to
  pub zeros : (i : ℕ) → from ≤ i → i < mid → at vs i / 2 ^ n % 2 ≡ 0
  pub one : mid < to → at vs mid / 2 ^ n % 2 ≡ 1

-- what an accepted table says of its prefixes
pub record Sorted (W : ℕ) (vs ls : List ℕ) : Type 0 where
  pub width : W ≤ width_limit
  pub lengths : length ls ≡ length vs
  pub few : length vs ≤ entry_limit
  pub prefix : (i : ℕ) → i < length vs → IsPrefix W (at vs i) (at ls i)
  pub sorted : (i j : ℕ) → i < j → j < length vs → Below (at vs i) (at ls i) (at vs j) (at ls j)

-- the trie below the bits (d, q)
unfoldable pub subtree : ℕ → List ℕ → List ℕ → (ℕ → ℕ) → ℕ → ℕ → BinaryTrie
subtree W vs ls mark d q =
    binary_below (some_begins W (at vs) (at ls) (length vs)) (mark_at W (at vs) (at ls) mark (length vs)) (suc W - d) d q

-- the entries from..to are those that start with the d bits q
pub record Span (W : ℕ) (vs ls : List ℕ) (d q from to : ℕ) : Type 0 where
  pub table : Sorted W vs ls
  pub deep : d ≤ W
  pub range : Ranged W (at vs) (at ls) (length vs) d q from to

abbrev pub CountAsk : ℕ → List ℕ → List ℕ → ℕ → ℕ → ℕ → Type 0
CountAsk W vs ls d from to = (q : ℕ) × Span W vs ls d q from to

abbrev pub CountedNodes : (W : ℕ) (vs ls : List ℕ) (d from to r : ℕ) → Type 0
CountedNodes W vs ls d from to r = (q : ℕ) → Span W vs ls d q from to → (mark : ℕ → ℕ) → r ≡ binary_nodes (subtree W vs ls mark d q)
