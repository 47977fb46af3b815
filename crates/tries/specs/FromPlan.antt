-- Past test 6, with a plan in scratch: test 7, then the rows. A plan was made for some table, and what is written are the rows of every
-- table that it was made for, so that nobody has to show that two of them are one.
use Rattle.std.specs.Prelude.{◌≡◌, List, [], ◌∷◌, ℕ}
use Rattle.table.specs.Refusals.{Outcome, outcome}
use Rattle.table.specs.Table.{Table}
use Rattle.strides.specs.Cheapest.{Kind}
use Rattle.strides.specs.Recurrence.{plain, least_by}
use Rattle.walk.specs.declared.record.Record.{Record}
use Rattle.walk.specs.Limits.{LEVELS, Within}
use Rattle.walk.specs.Rows.{Lists, shortest}
use Rattle.layout.specs.Laid.{table_trie}
use Rattle.choosers.specs.Plans.{Planned}
use Rattle.tries.specs.Build.{room_test, RowsAre}

-- the plan was made for this table
pub record PlanFor (kind : Kind) (W k : ℕ) (vs ls hs : List ℕ) (cost : ℕ) (strides plan : List ℕ) (root : ℕ) (scratch : List ℕ) : Type 0 where
  pub table : Table W vs ls hs
  pub levels : Within k LEVELS
  pub planned : Planned kind W k vs ls hs cost strides plan root scratch

abbrev pub CanBuild : (W k : ℕ) (ls hs : List ℕ) (cost : ℕ) (strides plan : List ℕ) (root : ℕ) (scratch : List ℕ) → Type 0
CanBuild W k ls hs cost strides plan root scratch = (kind : Kind) × (vs : List ℕ) × PlanFor kind W k vs ls hs cost strides plan root scratch

-- test 7 with the least cost that the recurrences find, then the rows
pub record RowsBuilt (kind : Kind) (W k : ℕ) (vs ls hs : List ℕ) (rows : Lists) (out : Outcome) (rec : Record) (rows' : Lists) : Type 0 where
  pub tests : out ≡ outcome (room_test (least_by plain kind k (table_trie W vs ls hs)) (shortest rows) ∷ [])
  pub written : RowsAre kind W k vs ls hs rows out rec rows'

abbrev pub RowsDone : (W k : ℕ) (ls hs : List ℕ) (cost : ℕ) (strides plan : List ℕ) (root : ℕ) (scratch : List ℕ) (rows : Lists) (out : Outcome) (rec : Record)
    (rows' : Lists) → Type 0
RowsDone W k ls hs cost strides plan root scratch rows out rec rows' =
    (kind : Kind) (vs : List ℕ) → PlanFor kind W k vs ls hs cost strides plan root scratch → RowsBuilt kind W k vs ls hs rows out rec rows'
