-- The tables of all tries as the build holds them: the destinations in lists of their own, with the numbers of their source tries, and the
-- sources of destination g in the parts of the rules' lists from place `first g` to before `first (g + 1)`. They are the tables that 02 speaks
-- of (`trie_table`, fields).
use Rattle.std.specs.Prelude.{List, ℕ, zero, suc, ◌+◌, ◌*◌, ◌≤◌, ◌<◌, length}
use Rattle.table.specs.Table.{at, Table}
use Rattle.strides.specs.Trie.{Trie, size}
use Rattle.strides.specs.Cheapest.{Kind}
use Rattle.strides.specs.Recurrence.{plain, least_by}
use Rattle.walk.specs.Limits.{LEVELS, Within}
use Rattle.layout.specs.Laid.{table_trie}
use Rattle.choosers.specs.Scratch.{ROW}
use Rattle.fields.specs.Limits.{rule_limit}
use Rattle.fields.specs.Runs.{part, EntryLists, entry_lists, sum_first}

pub record SplitRules : Type 0 where
  pub first : List ℕ
  pub vals : List ℕ
  pub lens : List ℕ
  pub nums : List ℕ
  pub svals : List ℕ
  pub slens : List ℕ
  pub actions : List ℕ

abbrev pub split_rules : (first vals lens nums svals slens actions : List ℕ) → SplitRules
split_rules first vals lens nums svals slens actions =
    record { first = first; vals = vals; lens = lens; nums = nums; svals = svals; slens = slens; actions = actions }

-- table number 0 is the destinations', suc g that of the sources of destination g
abbrev pub split_table : SplitRules → ℕ → EntryLists
split_table s zero = entry_lists s.vals s.lens s.nums
split_table s (suc g) =
    let i = at s.first g in
    let j = at s.first (g + 1) in
    entry_lists (part i j s.svals) (part i j s.slens) (part i j s.actions)

abbrev pub split_trie : ℕ → SplitRules → ℕ → Trie
split_trie W s g = table_trie W (split_table s g).vals (split_table s g).lens (split_table s g).hops

-- a table and a level limit that passed their tests
pub record CanPlan (W k : ℕ) (vs ls hs : List ℕ) : Type 0 where
  pub table : Table W vs ls hs
  pub levels : Within k LEVELS

-- so did all of them
pub record CanSplit (W k : ℕ) (s : SplitRules) : Type 0 where
  pub few : length s.vals ≤ rule_limit
  pub firsts : length s.vals < length s.first
  pub rising : (g : ℕ) → g < length s.vals → at s.first g ≤ at s.first (g + 1)
  pub svalues : (g : ℕ) → g ≤ length s.vals → at s.first g ≤ length s.svals
  pub slengths : (g : ℕ) → g ≤ length s.vals → at s.first g ≤ length s.slens
  pub acts : (g : ℕ) → g ≤ length s.vals → at s.first g ≤ length s.actions
  pub plans : (g : ℕ) → g ≤ length s.vals → CanPlan W k (split_table s g).vals (split_table s g).lens (split_table s g).hops

-- scratch has a row for each node of each trie
abbrev pub Roomy : ℕ → SplitRules → (words : ℕ) → Type 0
Roomy W s words = (g : ℕ) → g ≤ length s.vals → size (split_trie W s g) * ROW ≤ words

-- over all tries
abbrev pub split_nodes : ℕ → SplitRules → ℕ
split_nodes W s = sum_first (λ g. size (split_trie W s g)) (suc (length s.vals))

abbrev pub split_costs : (kind : Kind) (W k : ℕ) → SplitRules → ℕ
split_costs kind W k s = sum_first (λ g. least_by plain kind k (split_trie W s g)) (suc (length s.vals))
