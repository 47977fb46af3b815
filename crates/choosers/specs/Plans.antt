-- The plan of a choice: what a chooser answers, and the trie in the scratch rows, each block's stride with it, for a builder to read; or
-- the refusal, and nothing changed. In which rows the nodes lie is left open: a reader follows links from the root's.
use Rattle.std.specs.Prelude.{◌≡◌, List, [], ℕ, ◌*◌, ◌≤◌, length, replicate, take, Ok}
use Rattle.table.specs.Lists.{padded}
use Rattle.table.specs.Refusals.{Outcome}
use Rattle.table.specs.Table.{Table}
use Rattle.strides.specs.Trie.{Trie, size}
use Rattle.strides.specs.Cheapest.{Kind}
use Rattle.strides.specs.Recurrence.{plain, least_by, strides_by}
use Rattle.strides.specs.Strides.{Follows}
use Rattle.walk.specs.Limits.{LEVELS, Within}
use Rattle.layout.specs.Laid.{table_trie}
use Rattle.choosers.specs.Chooser.{if_accepted, ChosenIs, Chooses}
use Rattle.choosers.specs.Scratch.{ROW, Stands}

-- from the link `root` on the rows hold the table's trie, and with it, as they and the plan are read, the strides of a choice that
-- follows the tie rule. The plan has a place for each level
pub record HoldsPlan (kind : Kind) (W k : ℕ) (vs ls hs plan : List ℕ) (root : ℕ) (rows : List ℕ) : Type 0 where
  pub long : length plan ≡ LEVELS
  pub σ : ℕ → Trie → ℕ
  pub follows : Follows kind k (table_trie W vs ls hs) σ
  pub stands : Stands σ rows (take k plan) root (table_trie W vs ls hs)

-- ---- past the tests: what the planning of a choice asks of the table, and what it leaves

pub record PlanIn (W k : ℕ) (vs ls hs scratch : List ℕ) : Type 0 where
  pub table : Table W vs ls hs
  pub levels : Within k LEVELS
  pub room : size (table_trie W vs ls hs) * ROW ≤ length scratch

pub record Planned (kind : Kind) (W k : ℕ) (vs ls hs : List ℕ) (cost : ℕ) (strides plan : List ℕ) (root : ℕ) (rows : List ℕ) : Type 0 where
  pub least : cost ≡ least_by plain kind k (table_trie W vs ls hs)
  pub named : strides ≡ padded LEVELS (strides_by plain kind k (table_trie W vs ls hs))
  pub holds : HoldsPlan kind W k vs ls hs plan root rows

-- ---- the answer: outcome, cost and strides are a chooser's, who leaves scratch all zero where it accepts

-- what a chooser would leave of scratch
abbrev pub cleared : Outcome → List ℕ → List ℕ
cleared out scratch = if_accepted out (replicate (length scratch) 0) scratch

-- refused: no plan, no root, and scratch as it was
pub record NoPlan (plan : List ℕ) (root : ℕ) (scratch scratch' : List ℕ) : Type 0 where
  pub no_plan : plan ≡ padded LEVELS []
  pub no_root : root ≡ 0
  pub kept : scratch' ≡ scratch

-- by the exact answer of a chooser
pub record PlanIs (kind : Kind) (W k links : ℕ) (vs ls hs scratch : List ℕ) (out : Outcome) (cost : ℕ) (strides plan : List ℕ) (root : ℕ) (scratch' : List ℕ)
    : Type 0 where
  pub chosen : ChosenIs kind W k links vs ls hs scratch out cost strides (cleared out scratch)
  pub holds : out ≡ Ok tt → HoldsPlan kind W k vs ls hs plan root scratch'
  pub refused : (out ≡ Ok tt → ⊥) → NoPlan plan root scratch scratch'

-- and by what it means
pub record Plans (kind : Kind) (W k links : ℕ) (vs ls hs scratch : List ℕ) (out : Outcome) (cost : ℕ) (strides plan : List ℕ) (root : ℕ) (scratch' : List ℕ)
    : Type 0 where
  pub chooses : Chooses kind W k links vs ls hs scratch out cost strides (cleared out scratch)
  pub holds : out ≡ Ok tt → HoldsPlan kind W k vs ls hs plan root scratch'
  pub refused : (out ≡ Ok tt → ⊥) → NoPlan plan root scratch scratch'
