-- What the functions that lay tries one after the other ask and give: one trie at a place, a source trie with its row in the list, all of them.
-- Rows before and after those written, and numbers of the list before and after a row, are kept.
use Rattle.std.specs.Prelude.{◌≡◌, List, ℕ, suc, ◌+◌, ◌*◌, ◌≤◌, ◌<◌, length}
use Rattle.table.specs.Table.{at}
use Rattle.table.specs.Lists.{padded}
use Rattle.table.specs.Longest.{matches}
use Rattle.strides.specs.Trie.{size}
use Rattle.strides.specs.Cheapest.{Kind}
use Rattle.strides.specs.Recurrence.{plain, least_by, strides_by}
use Rattle.strides.specs.Strides.{chosen_by}
use Rattle.walk.specs.Limits.{WIDTH, LEVELS, HOPS}
use Rattle.walk.specs.Rows.{Lists, shortest, row_at, root}
use Rattle.walk.specs.declared.record.Record.{Record}
use Rattle.layout.specs.Laid.{table_trie, Laid}
use Rattle.tries.specs.Limits.{ELEMENTS}
use Rattle.choosers.specs.Scratch.{ROW}
use Rattle.fields.specs.Runs.{sum_first, last_before}
use Rattle.verdicts.specs.Limits.{trie_row_cells}
use Rattle.verdicts.specs.declared.tries.TrieRow.{TrieRow}
use Rattle.verdicts.specs.Tries.{trie_row, source_record, from_place}
use Rattle.rules.specs.Build.{SameRoom}
use Rattle.rules.specs.Splitting.{SplitRules, split_table, split_trie, CanPlan, CanSplit, Roomy}

-- ---- one trie at a place: scratch and the lists have room for it
pub record CanLayAt (kind : Kind) (W k : ℕ) (vs ls hs : List ℕ) (words place : ℕ) (rows : Lists) : Type 0 where
  pub plan : CanPlan W k vs ls hs
  pub roomy : size (table_trie W vs ls hs) * ROW ≤ words
  pub fits : place + least_by plain kind k (table_trie W vs ls hs) ≤ shortest rows
  pub few : least_by plain kind k (table_trie W vs ls hs) ≤ ELEMENTS

pub record LaysAt (kind : Kind) (W k : ℕ) (vs ls hs : List ℕ) (place : ℕ) (rows : Lists) (rec : Record) (rows' : Lists) : Type 0 where
  pub laid : Laid WIDTH W vs ls hs (chosen_by plain kind k (table_trie W vs ls hs)) k rec (from_place place rows')
  pub named : rec.strides ≡ padded LEVELS (strides_by plain kind k (table_trie W vs ls hs))
  pub count : rec.elements ≡ least_by plain kind k (table_trie W vs ls hs)
  pub before : (i : ℕ) → i < place → row_at rows' i ≡ row_at rows i
  pub after : (i : ℕ) → place + rec.elements ≤ i → row_at rows' i ≡ row_at rows i
  pub room : SameRoom rows rows'

-- ---- row g of the list of tries is written
pub record PutsRow (list : List ℕ) (g : ℕ) (row : TrieRow) (list' : List ℕ) : Type 0 where
  pub put : trie_row list' g ≡ row
  pub floor : at list' (g * trie_row_cells) < HOPS
  pub before : (i : ℕ) → i < g * trie_row_cells → at list' i ≡ at list i
  pub after : (i : ℕ) → g * trie_row_cells + trie_row_cells ≤ i → at list' i ≡ at list i

-- ---- a source trie at a place, and its row in the list; it is the table `vs ls hs`, and `next` is visited after it
pub record LaysSource (kind : Kind) (W k : ℕ) (vs ls hs : List ℕ) (place next : ℕ) (rows : Lists) (list : List ℕ) (g count : ℕ) (rows' : Lists) (list' : List ℕ)
    : Type 0 where
  pub rec : Record
  pub lays : LaysAt kind W k vs ls hs place rows rec rows'
  pub puts : PutsRow list g (record { floor = rec.floor; root = root rec; place = place; elements = rec.elements; next = next }) list'
  pub counted : count ≡ rec.elements

-- the number that the last destination before g that begins it has, 0 where none does
abbrev pub next_of : (W : ℕ) (vals lens : List ℕ) → ℕ → ℕ
next_of W vals lens g = last_before (matches W (at vals) (at lens) (at vals g)) g

-- ---- all source tries, from row `start` on

module _ (kind : Kind) (W k : ℕ) (s : SplitRules) where
  -- the least cost of source trie g, and the row where it begins
  abbrev pub source_cost : ℕ → ℕ
  source_cost g = least_by plain kind k (split_trie W s (suc g))

  abbrev pub place_of : (start g : ℕ) → ℕ
  place_of start g = start + sum_first source_cost g

  -- source trie g stands in the rows and in the list
  pub record SourceStands (start : ℕ) (rows : Lists) (list : List ℕ) (g : ℕ) : Type 0 where
    pub laid : let t = split_table s (suc g) in
        Laid WIDTH W t.vals t.lens t.hops (chosen_by plain kind k (split_trie W s (suc g))) k (source_record W k (trie_row list g))
        (from_place (trie_row list g).place rows)
    pub placed : (trie_row list g).place ≡ place_of start g
    pub count : (trie_row list g).elements ≡ source_cost g
    pub floor : at list (g * trie_row_cells) < HOPS
    pub next : (trie_row list g).next ≡ next_of W s.vals s.lens g

  -- there is room for them
  pub record CanLaySources (start words : ℕ) (rows : Lists) (list : List ℕ) : Type 0 where
    pub split : CanSplit W k s
    pub roomy : Roomy W s words
    pub fits : place_of start (length s.vals) ≤ shortest rows
    pub few : place_of start (length s.vals) ≤ ELEMENTS
    pub long : length s.vals * trie_row_cells ≤ length list

  -- the first g are laid, and the next one begins at `place`
  pub record LaidTo (start : ℕ) (rows₀ : Lists) (list₀ : List ℕ) (g place : ℕ) (rows : Lists) (list : List ℕ) : Type 0 where
    pub inside : g ≤ length s.vals
    pub reached : place ≡ place_of start g
    pub stands : (j : ℕ) → j < g → SourceStands start rows list j
    pub before : (i : ℕ) → i < start → row_at rows i ≡ row_at rows₀ i
    pub after : (i : ℕ) → place ≤ i → row_at rows i ≡ row_at rows₀ i
    pub rest : (i : ℕ) → g * trie_row_cells ≤ i → at list i ≡ at list₀ i
    pub room : SameRoom rows₀ rows
    pub long : length list ≡ length list₀
