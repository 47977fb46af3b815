-- The stride choosers (01, "Stride choices" and "Refusals"): tests 1 to 6; accepted, the least cost and the record's strides,
-- and all scratch zero; refused, cost 0, zero strides and nothing changed.
use Rattle.std.specs.Prelude.{◌≡◌, List, [], ◌∷◌, ◌++◌, ℕ, ◌/◌, ltb, length, replicate, Ok, Err}
use Rattle.table.specs.Entry.{hop_refused}
use Rattle.table.specs.Refusals.{Outcome, Test, test, outcome, Gives}
use Rattle.table.specs.Table.{width_test, list_tests}
use Rattle.table.specs.declared.refusal.Refusal.TheVariants.{Levels, Scratch}
use Rattle.strides.specs.Trie.{size}
use Rattle.strides.specs.Cheapest.{Kind, Cheapest, Named}
use Rattle.strides.specs.Recurrence.{plain, least_by, strides_by}
use Rattle.walk.specs.Limits.{LEVELS}
use Rattle.table.specs.Limits.{outside}
use Rattle.table.specs.Lists.{padded}
use Rattle.choosers.specs.Scratch.{ROW}
use Rattle.layout.specs.Laid.{table_trie}

-- ---- the tests, in order

-- 2: k is 0 or above the most levels
abbrev pub levels_test : ℕ → Test
levels_test k = test Levels (outside k LEVELS)

-- 6: scratch of so many numbers has fewer whole rows than 1-bit nodes; the detail is the rows needed
abbrev pub scratch_test : ℕ → List ℕ → List ℕ → List ℕ → ℕ → Test
scratch_test W vs ls hs words = test (Scratch (size (table_trie W vs ls hs))) (ltb (words / ROW) (size (table_trie W vs ls hs)))

-- 1, 2, 3, 4, 5, 6; 4 by the number of links that the caller states (02, [7])
unfoldable pub choose_tests : (W k links : ℕ) → List ℕ → List ℕ → List ℕ → ℕ → List Test
choose_tests W k links vs ls hs words = width_test W ∷ levels_test k ∷ (list_tests (hop_refused links) W vs ls hs ++ (scratch_test W vs ls hs words ∷ []))

-- ---- the answer

-- x where the outcome accepts, else y
unfoldable pub if_accepted : {A : Type 0} → Outcome → A → A → A
if_accepted (Ok _) x y = x
if_accepted (Err r) x y = y

-- the exact answer, and what scratch then holds
pub record ChosenIs (kind : Kind) (W k links : ℕ) (vs ls hs scratch : List ℕ) (out : Outcome) (cost : ℕ) (strides scratch' : List ℕ) : Type 0 where
  pub tests : out ≡ outcome (choose_tests W k links vs ls hs (length scratch))
  pub costs : cost ≡ if_accepted out (least_by plain kind k (table_trie W vs ls hs)) 0
  pub named : strides ≡ padded LEVELS (if_accepted out (strides_by plain kind k (table_trie W vs ls hs)) [])
  pub after : scratch' ≡ if_accepted out (replicate (length scratch) 0) scratch

-- what it means: the first test that fails; or the least cost of all choices of the kind with at most k levels, the strides
-- that the tie rule names, and scratch all zero
pub record Chooses (kind : Kind) (W k links : ℕ) (vs ls hs scratch : List ℕ) (out : Outcome) (cost : ℕ) (strides scratch' : List ℕ) : Type 0 where
  pub tested : Gives (choose_tests W k links vs ls hs (length scratch)) out
  pub cheapest : out ≡ Ok tt → Cheapest kind k (table_trie W vs ls hs) cost
  pub named : out ≡ Ok tt → (ss : List ℕ) × Named kind k (table_trie W vs ls hs) ss × (strides ≡ padded LEVELS ss)
  pub zeroed : out ≡ Ok tt → scratch' ≡ replicate (length scratch) 0
  pub refused : (out ≡ Ok tt → ⊥) → (cost ≡ 0) × (strides ≡ padded LEVELS []) × (scratch' ≡ scratch)
