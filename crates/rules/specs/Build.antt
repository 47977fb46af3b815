-- The build of rules (02, [6]): tests 1 to 7, "with rules for entries", 6 and 7 over all tries; what it hands back, and what each lent list
-- then holds. Each trie lies at its place as an ordinary build of its table leaves it (layout's `Laid`).
use Rattle.std.specs.Prelude.{Result, Ok, Err, ◌≡◌, List, [], ◌∷◌, ◌++◌, ℕ, suc, ◌+◌, ◌*◌, ◌/◌, ◌≤◌, ◌<◌, ltb, length, replicate}
use Rattle.table.specs.declared.refusal.Refusal.{Refusal}
use Rattle.table.specs.declared.refusal.Refusal.TheVariants.{Scratch, Room}
use Rattle.table.specs.Refusals.{Outcome, Test, test, outcome, Gives}
use Rattle.table.specs.Table.{at, width_test}
use Rattle.table.specs.Lists.{padded}
use Rattle.table.specs.Longest.{Wins}
use Rattle.strides.specs.Trie.{Trie, size}
use Rattle.strides.specs.Cheapest.{Kind, Cheapest, Named}
use Rattle.strides.specs.Recurrence.{plain, least_by, strides_by}
use Rattle.strides.specs.Strides.{chosen_by, Follows}
use Rattle.walk.specs.Limits.{WIDTH, LEVELS, HOPS}
use Rattle.walk.specs.Rows.{Lists, shortest, row_at}
use Rattle.layout.specs.Blocks.{Strides}
use Rattle.layout.specs.Laid.{table_trie, Laid}
use Rattle.choosers.specs.Chooser.{levels_test, if_accepted}
use Rattle.choosers.specs.Scratch.{ROW}
use Rattle.tries.specs.Build.{room_test, NoRecord}
use Rattle.fields.specs.Rules.{Rules, rule_count, rule_list_tests}
use Rattle.fields.specs.Runs.{Runs, trie_table, sum_first, starts_shorter}
use Rattle.verdicts.specs.Limits.{trie_row_cells}
use Rattle.verdicts.specs.Tries.{trie_row, source_record, from_place}
use Rattle.verdicts.specs.declared.record.RuleRecord.{RuleRecord}

-- the m destinations of the rules, and where the rules of each begin
abbrev pub RunsOf : (rs : Rules) (m : ℕ) (from : ℕ → ℕ) → Type 0
RunsOf rs m from = Runs (at rs.dvals) (at rs.dlens) (rule_count rs) m from

-- the 1-bit trie of number g: 0 is the destinations', suc g that of the sources of destination g
abbrev pub rule_trie : (W : ℕ) (rs : Rules) (m : ℕ) (from : ℕ → ℕ) → ℕ → Trie
rule_trie W rs m from g = table_trie W (trie_table rs m from g).vals (trie_table rs m from g).lens (trie_table rs m from g).hops

-- ---- the tests, in order

-- 6: scratch of so many numbers has fewer whole rows than all tries have 1-bit nodes; the detail is the rows needed
abbrev pub all_nodes_test : (words nodes : ℕ) → Test
all_nodes_test words nodes = test (Scratch nodes) (ltb (words / ROW) nodes)

-- 7, after elements: a list of so many numbers has fewer whole rows than there are source tries; the detail is the rows needed
abbrev pub trie_list_test : (numbers m : ℕ) → Test
trie_list_test numbers m = test (Room m) (ltb (numbers / trie_row_cells) m)

-- 1, 2, 3, then 4 and 5 rule by rule, 6; 4 by the number of links that the caller states (02, [7])
unfoldable pub rule_scratch_tests : (W k links : ℕ) (rs : Rules) (words m : ℕ) (from : ℕ → ℕ) → List Test
rule_scratch_tests W k links rs words m from =
    width_test W ∷ levels_test k ∷ (rule_list_tests W links rs ++ (all_nodes_test words (sum_first (λ g. size (rule_trie W rs m from g)) (suc m)) ∷ []))

-- and 7 for elements, then for the list; `least` is the least cost of each trie
unfoldable pub rule_build_tests : (W k links : ℕ) (rs : Rules) (words room numbers m : ℕ) (from least : ℕ → ℕ) → List Test
rule_build_tests W k links rs words room numbers m from least =
    rule_scratch_tests W k links rs words m from ++ (room_test (sum_first least (suc m)) room ∷ trie_list_test numbers m ∷ [])

-- ---- the answer

-- all tries, one after the other and without gaps: the destinations' at row 0, then those of the sources by rising destination, each as
-- an ordinary build of its table leaves it, with the strides σ; and their rows in the list, with the next trie to visit after each
pub record TriesLaid (W k : ℕ) (rs : Rules) (m : ℕ) (from : ℕ → ℕ) (σ : ℕ → Strides) (rec : RuleRecord) (rows : Lists) (list : List ℕ) : Type 0 where
  pub dest : let t = trie_table rs m from 0 in Laid WIDTH W t.vals t.lens t.hops (σ 0) k rec.dest rows
  pub source : (g : ℕ) → g < m → let t = trie_table rs m from (suc g) in
      Laid WIDTH W t.vals t.lens t.hops (σ (suc g)) k (source_record W k (trie_row list g)) (from_place (trie_row list g).place rows)
  pub place : (g : ℕ) → g < m → (trie_row list g).place ≡ rec.dest.elements + sum_first (λ j. (trie_row list j).elements) g
  pub all : rec.elements ≡ rec.dest.elements + sum_first (λ j. (trie_row list j).elements) m
  pub floor : (g : ℕ) → g < m → at list (g * trie_row_cells) < HOPS
  pub next : (g : ℕ) → g < m → let t = trie_table rs m from 0 in
      Wins (starts_shorter W (at t.vals) (at t.lens) g) (at t.lens) m (trie_row list g).next
  pub listed : m * trie_row_cells ≤ length list

-- a refused build's record: all zeros
pub record NoRuleRecord (rec : RuleRecord) : Type 0 where
  pub dest : NoRecord rec.dest
  pub elements : rec.elements ≡ 0

-- the record in an answer, all zeros where it is a refusal
abbrev pub rule_record_of : Result RuleRecord Refusal → RuleRecord
rule_record_of (Ok r) = r
rule_record_of (Err e) = record { dest = record { width = 0; levels = 0; elements = 0; floor = 0; strides = padded LEVELS [] }; elements = 0 }

-- the four element lists keep their lengths
pub record SameRoom (rows rows' : Lists) : Type 0 where
  pub hops : length rows'.hop ≡ length rows.hop
  pub lens : length rows'.len ≡ length rows.len
  pub links : length rows'.link ≡ length rows.link
  pub strides : length rows'.stride ≡ length rows.stride

-- what element lists and the list of tries then hold besides: refused, what they held; accepted, later rows are kept (of the list, `rest`)
pub record RulesKept (rows : Lists) (list : List ℕ) (out : Outcome) (rec : RuleRecord) (rows' : Lists) (list' : List ℕ) : Type 0 where
  pub room : SameRoom rows rows'
  pub long : length list' ≡ length list
  pub later : out ≡ Ok tt → (i : ℕ) → rec.elements ≤ i → row_at rows' i ≡ row_at rows i
  pub refused : (out ≡ Ok tt → ⊥) → NoRuleRecord rec × (rows' ≡ rows) × (list' ≡ list)

-- the exact answer: all tests, then the tries of the strides that the recurrences find; scratch is zeroed past test 6
pub record RulesAre (kind : Kind) (W k links : ℕ) (rs : Rules) (scratch : List ℕ) (rows : Lists) (list : List ℕ) (out : Outcome) (rec : RuleRecord)
    (scratch' : List ℕ) (rows' : Lists) (list' : List ℕ) : Type 0 where
  pub m : ℕ
  pub from : ℕ → ℕ
  pub runs : RunsOf rs m from
  pub tests : out ≡ outcome
      (rule_build_tests W k links rs (length scratch) (shortest rows) (length list) m from (λ g. least_by plain kind k (rule_trie W rs m from g)))
  pub after : scratch' ≡ if_accepted (outcome (rule_scratch_tests W k links rs (length scratch) m from)) (replicate (length scratch) 0) scratch
  pub laid : out ≡ Ok tt → TriesLaid W k rs m from (λ g. chosen_by plain kind k (rule_trie W rs m from g)) rec rows' list'
  pub named : out ≡ Ok tt → rec.dest.strides ≡ padded LEVELS (strides_by plain kind k (rule_trie W rs m from 0))
  pub rest : out ≡ Ok tt → (i : ℕ) → m * trie_row_cells ≤ i → at list' i ≡ at list i
  pub keeps : RulesKept rows list out rec rows' list'

-- accepted: the tries of choices that the tie rule names, the destination's strides in the record, and later numbers of the list kept
pub record RulesLaid (kind : Kind) (W k : ℕ) (rs : Rules) (list : List ℕ) (rec : RuleRecord) (rows' : Lists) (list' : List ℕ) : Type 0 where
  pub m : ℕ
  pub from : ℕ → ℕ
  pub runs : RunsOf rs m from
  pub σ : ℕ → Strides
  pub follows : (g : ℕ) → g ≤ m → Follows kind k (rule_trie W rs m from g) (σ g)
  pub tries : TriesLaid W k rs m from σ rec rows' list'
  pub named : (ss : List ℕ) × Named kind k (rule_trie W rs m from 0) ss × (rec.dest.strides ≡ padded LEVELS ss)
  pub rest : (i : ℕ) → m * trie_row_cells ≤ i → at list' i ≡ at list i

-- what it means: the first test that fails, where 7 tests the sum of the least costs of all choices of the kind with at most k levels, a
-- trie each; accepted, the tries; scratch unchanged by 1 to 6, else all zero
pub record RuleBuilds (kind : Kind) (W k links : ℕ) (rs : Rules) (scratch : List ℕ) (rows : Lists) (list : List ℕ) (out : Outcome) (rec : RuleRecord)
    (scratch' : List ℕ) (rows' : Lists) (list' : List ℕ) : Type 0 where
  pub tested : (m : ℕ) (from least : ℕ → ℕ) → RunsOf rs m from → ((g : ℕ) → g ≤ m → 1 ≤ k → Cheapest kind k (rule_trie W rs m from g) (least g))
      → Gives (rule_build_tests W k links rs (length scratch) (shortest rows) (length list) m from least) out
  pub laid : out ≡ Ok tt → RulesLaid kind W k rs list rec rows' list'
  pub zeroed : (m : ℕ) (from : ℕ → ℕ) → RunsOf rs m from → Gives (rule_scratch_tests W k links rs (length scratch) m from) (Ok tt)
      → scratch' ≡ replicate (length scratch) 0
  pub untouched : (m : ℕ) (from : ℕ → ℕ) → RunsOf rs m from → (Gives (rule_scratch_tests W k links rs (length scratch) m from) (Ok tt) → ⊥) → scratch' ≡ scratch
  pub keeps : RulesKept rows list out rec rows' list'
