-- The table of fixed strides, from the last level up: place i * LEVELS + r is for the levels from i on, with r + 1 levels
-- left. And what the fixed choice asks of the counts and gives.
use Rattle.std.specs.Prelude.{◌≡◌, List, ℕ, ◌+◌, ◌-◌, ◌*◌, ◌≤◌, ◌<◌, length, get_or}
use Rattle.table.specs.Lists.{padded}
use Rattle.strides.specs.Trie.{Trie, depth, nodes_at}
use Rattle.strides.specs.Cheapest.{fixed}
use Rattle.strides.specs.Recurrence.{fix_by, pick_fixed_by, list_by, least_by, strides_by}
use Rattle.walk.specs.Limits.{WIDTH, LEVELS, Within}
use Rattle.choosers.specs.Limits.{ENTRIES}
use Rattle.choosers.specs.Costs.{held, column, best_cost, best_stride}
use Rattle.choosers.specs.LevelCounts.{CountsOf}

-- places of the table of fixed strides: a row for each level, and one past the last
abbrev pub level_cells : ℕ
level_cells = (WIDTH + 1) * LEVELS

-- the place for level i and r + 1 levels left
abbrev pub cell : List ℕ → ℕ → ℕ → ℕ
cell table i r = column r LEVELS table i

-- from level i on the table is what the recurrence says of a trie of `depth` levels
pub record Filled (nodes : ℕ → ℕ) (levels depth i : ℕ) (costs strides : List ℕ) : Type 0 where
  pub long_costs : length costs ≡ level_cells
  pub long_strides : length strides ≡ level_cells
  pub cost : (j r : ℕ) → i ≤ j → j ≤ depth → r < levels → cell costs j r ≡ fix_by held nodes r j (depth - j)
  pub stride : (j r : ℕ) → i ≤ j → j ≤ depth → r < levels → cell strides j r ≡ pick_fixed_by held nodes r j (depth - j)

-- one level more, for 1 to `levels` levels left; rows below it are kept
pub record RowFilled (levels n d i : ℕ) (costs strides costs' strides' : List ℕ) : Type 0 where
  pub long_costs : length costs' ≡ length costs
  pub long_strides : length strides' ≡ length strides
  pub cost : (r : ℕ) → r < levels → cell costs' i r ≡ best_cost (column ((i + 1) * LEVELS + r - 1) LEVELS costs) n d r
  pub stride : (r : ℕ) → r < levels → cell strides' i r ≡ best_stride (column ((i + 1) * LEVELS + r - 1) LEVELS costs) n d r
  pub costs_below : (x : ℕ) → (i + 1) * LEVELS ≤ x → get_or costs' x 0 ≡ get_or costs x 0
  pub strides_below : (x : ℕ) → (i + 1) * LEVELS ≤ x → get_or strides' x 0 ≡ get_or strides x 0

-- the strides of the table, for some counts of nodes
abbrev pub StridesFilled : (ℕ → ℕ) → ℕ → ℕ → List ℕ → Type 0
StridesFilled nodes levels depth strides =
    (j r : ℕ) → j ≤ depth → r < levels → cell strides j r ≡ pick_fixed_by held nodes r j (depth - j)

abbrev pub SomeNodes : ℕ → ℕ → List ℕ → Type 0
SomeNodes levels depth strides = (nodes : ℕ → ℕ) × StridesFilled nodes levels depth strides

-- `nodes` counts the nodes of t, whose depth is `deep`
pub record FixedIn (nodes : List ℕ) (deep levels : ℕ) (t : Trie) : Type 0 where
  pub counted : CountsOf nodes t
  pub depths : deep ≡ depth t
  pub short : depth t ≤ WIDTH
  pub few : (j : ℕ) → nodes_at j t ≤ ENTRIES
  pub within : Within levels LEVELS

abbrev pub CanChoose : (nodes : List ℕ) (deep levels : ℕ) → Type 0
CanChoose nodes deep levels = (t : Trie) × FixedIn nodes deep levels t

-- the cheapest fixed choice for every trie of such counts
abbrev pub FixedOut : (nodes : List ℕ) (deep levels cost : ℕ) (strides : List ℕ) → Type 0
FixedOut nodes deep levels cost strides =
    (t : Trie) → FixedIn nodes deep levels t → (cost ≡ least_by held fixed levels t) × (strides ≡ padded LEVELS (strides_by held fixed levels t))

-- p places of the list are read, and the levels from i on are left
pub record ListRead (nodes : ℕ → ℕ) (levels depth i p : ℕ) (list : List ℕ) : Type 0 where
  pub done : (x : ℕ) → x < p → get_or list x 0 ≡ get_or (list_by held nodes (levels - 1) 0 depth) x 0
  pub blank : (x : ℕ) → p ≤ x → get_or list x 0 ≡ 0
  pub rest : p < levels → (x : ℕ) → get_or (list_by held nodes (levels - 1) 0 depth) (p + x) 0 ≡ get_or (list_by held nodes (levels - 1 - p) i (depth - i)) x 0
  pub end : p ≡ levels → (x : ℕ) → get_or (list_by held nodes (levels - 1) 0 depth) (p + x) 0 ≡ 0
