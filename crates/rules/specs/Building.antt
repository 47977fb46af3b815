-- Past the tests of the rules: what the functions of the build ask and give, over the tables as they hold them.
use Rattle.std.specs.Prelude.{Ok, ◌≡◌, List, [], ◌∷◌, ℕ, ◌*◌, ◌≤◌, ◌<◌, length, replicate}
use Rattle.table.specs.Refusals.{Outcome, outcome}
use Rattle.table.specs.Table.{at}
use Rattle.table.specs.Lists.{padded}
use Rattle.strides.specs.Cheapest.{Kind}
use Rattle.strides.specs.Recurrence.{plain, strides_by}
use Rattle.strides.specs.Strides.{chosen_by}
use Rattle.walk.specs.Limits.{WIDTH, LEVELS}
use Rattle.walk.specs.Rows.{Lists, shortest}
use Rattle.layout.specs.Laid.{Laid}
use Rattle.choosers.specs.Chooser.{if_accepted}
use Rattle.tries.specs.Build.{room_test}
use Rattle.tries.specs.Limits.{ELEMENTS}
use Rattle.verdicts.specs.Limits.{trie_row_cells}
use Rattle.verdicts.specs.declared.record.RuleRecord.{RuleRecord}
use Rattle.rules.specs.Build.{all_nodes_test, trie_list_test, RulesKept}
use Rattle.rules.specs.Splitting.{SplitRules, split_trie, split_nodes, split_costs, CanSplit, Roomy}
use Rattle.rules.specs.Laying.{place_of, SourceStands}

-- the destination trie, and the source tries behind it
pub record SplitLaid (kind : Kind) (W k : ℕ) (s : SplitRules) (list : List ℕ) (rec : RuleRecord) (rows' : Lists) (list' : List ℕ) : Type 0 where
  pub dest : Laid WIDTH W s.vals s.lens s.nums (chosen_by plain kind k (split_trie W s 0)) k rec.dest rows'
  pub named : rec.dest.strides ≡ padded LEVELS (strides_by plain kind k (split_trie W s 0))
  pub sources : (g : ℕ) → g < length s.vals → SourceStands kind W k s rec.dest.elements rows' list' g
  pub all : rec.elements ≡ place_of kind W k s rec.dest.elements (length s.vals)
  pub rest : (i : ℕ) → length s.vals * trie_row_cells ≤ i → at list' i ≡ at list i
  pub long : length s.vals * trie_row_cells ≤ length list'

pub record SplitWritten (kind : Kind) (W k : ℕ) (s : SplitRules) (rows : Lists) (list : List ℕ) (out : Outcome) (rec : RuleRecord) (rows' : Lists)
    (list' : List ℕ) : Type 0 where
  pub laid : out ≡ Ok tt → SplitLaid kind W k s list rec rows' list'
  pub keeps : RulesKept rows list out rec rows' list'

-- the tests have passed
pub record CanLayAll (kind : Kind) (W k : ℕ) (s : SplitRules) (words : ℕ) (rows : Lists) (list : List ℕ) : Type 0 where
  pub split : CanSplit W k s
  pub roomy : Roomy W s words
  pub fits : split_costs kind W k s ≤ shortest rows
  pub few : split_costs kind W k s ≤ ELEMENTS
  pub long : length s.vals * trie_row_cells ≤ length list

-- past test 6: 7 for elements, then for the list
pub record TriesBuilt (kind : Kind) (W k : ℕ) (s : SplitRules) (rows : Lists) (list : List ℕ) (out : Outcome) (rec : RuleRecord) (rows' : Lists)
    (list' : List ℕ)
    : Type 0 where
  pub tests : out ≡ outcome (room_test (split_costs kind W k s) (shortest rows) ∷ trie_list_test (length list) (length s.vals) ∷ [])
  pub written : SplitWritten kind W k s rows list out rec rows' list'

-- past test 5: 6 too, after which scratch is zeroed
pub record SplitBuilt (kind : Kind) (W k : ℕ) (s : SplitRules) (scratch : List ℕ) (rows : Lists) (list : List ℕ) (out : Outcome) (rec : RuleRecord)
    (scratch' : List ℕ) (rows' : Lists) (list' : List ℕ) : Type 0 where
  pub tests : out ≡ outcome
      (all_nodes_test (length scratch) (split_nodes W s) ∷ room_test (split_costs kind W k s) (shortest rows) ∷ trie_list_test (length list) (length s.vals) ∷ [])
  pub after : scratch' ≡ if_accepted (outcome (all_nodes_test (length scratch) (split_nodes W s) ∷ [])) (replicate (length scratch) 0) scratch
  pub written : SplitWritten kind W k s rows list out rec rows' list'
