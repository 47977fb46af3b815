-- The nodes of each level (01: nodes(i) counts level i), counted as the rows are made: an entry's new nodes are its longest proper
-- starts, one a level. Once the rows are made, nothing looks at a value again.
use Rattle.std.specs.Prelude.{◌≡◌, List, ℕ, zero, suc, ◌+◌, ◌<◌, length}
use Rattle.table.specs.Table.{at}
use Rattle.strides.specs.Trie.{Trie, nodes_at}
use Rattle.walk.specs.Limits.{WIDTH}
use Rattle.choosers.specs.Limits.{GROWS}

-- 1 where from ≤ j < to
unfoldable pub in_levels : (from to j : ℕ) → ℕ
in_levels from zero j = 0
in_levels zero (suc to) zero = 1
in_levels zero (suc to) (suc j) = in_levels zero to j
in_levels (suc from) (suc to) zero = 0
in_levels (suc from) (suc to) (suc j) = in_levels from to j

-- counts that have a place for each level, and can grow
pub record CanCount (counts : List ℕ) : Type 0 where
  pub long : length counts ≡ WIDTH
  pub small : (j : ℕ) → j < WIDTH → at counts j < GROWS

-- each level from `from` up to but not `to` has one more
pub record LevelsAdded (counts : List ℕ) (from to : ℕ) (counts' : List ℕ) : Type 0 where
  pub long : length counts' ≡ WIDTH
  pub more : (j : ℕ) → j < WIDTH → at counts' j ≡ at counts j + in_levels from to j

-- the counts of the nodes of t, level by level
pub record CountsOf (counts : List ℕ) (t : Trie) : Type 0 where
  pub long : length counts ≡ WIDTH
  pub nodes : (j : ℕ) → j < WIDTH → at counts j ≡ nodes_at j t
