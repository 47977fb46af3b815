-- The tests of a build of rules: what it takes to pass those before test 7, and how 7 follows them.
use mathlib.Core.Path.{◌≡◌, ap, ◌∙◌}
use mathlib.Core.Bool.{false}
use mathlib.Core.List.{List, [], ◌∷◌, ◌++◌}
use Prim.Native.Nat.{ℕ, suc, ◌≤◌}
use native.Mathlib.Omega.{arith}
use Rattle.std.specs.Prelude.{Ok, Err}
use Rattle.table.specs.declared.refusal.Refusal.{Refusal}
use Rattle.table.specs.Refusals.{Outcome, Test, outcome, Numbered, and_then}
use Rattle.table.specs.Table.{width_test, Linked}
use Rattle.table.proofs.Refusals.{outcome_passes, outcome_append, accepted_passes, accepted_parts}
use Rattle.table.proofs.Table.{width_passes}
use Rattle.table.proofs.Numbered.{numbered_append}
use Rattle.strides.specs.Trie.{size}
use Rattle.walk.specs.Limits.{LEVELS, Within}
use Rattle.choosers.specs.Chooser.{levels_test}
use Rattle.choosers.proofs.ChooseTests.{within_levels}
use Rattle.tries.specs.Build.{room_test}
use Rattle.fields.specs.Rules.{Rules, rule_list_tests, rule_tests, GoodRules}
use Rattle.fields.specs.Runs.{sum_first}
use Rattle.fields.proofs.Rules.{rules_good, rules_linked, good_rules, numbered_rules}
use Rattle.rules.specs.Build.{rule_trie, all_nodes_test, trie_list_test, rule_scratch_tests, rule_build_tests}

module _ (W k links : ℕ) (rs : Rules) (words m : ℕ) (from : ℕ → ℕ) where
  abbrev last_test : List Test
  last_test = all_nodes_test words (sum_first (λ g. size (rule_trie W rs m from g)) (suc m)) ∷ []

  -- what acceptance says
  past_width : outcome (rule_scratch_tests W k links rs words m from) ≡ Ok tt
      → ((width_test W).fails ≡ false) × ((levels_test k).fails ≡ false) × (outcome (rule_list_tests W links rs) ≡ Ok tt)
  unfolding rule_scratch_tests
  past_width e =
      let p = accepted_passes (width_test W) (levels_test k ∷ (rule_list_tests W links rs ++ last_test)) e in
      let q = accepted_passes (levels_test k) (rule_list_tests W links rs ++ last_test) p.1 in
      (p.0, q.0, (accepted_parts (rule_list_tests W links rs) last_test q.1).0)

  pub scratch_tests_levels : outcome (rule_scratch_tests W k links rs words m from) ≡ Ok tt → Within k LEVELS
  scratch_tests_levels e = within_levels k LEVELS (past_width e).1

  past_rules : outcome (rule_scratch_tests W k links rs words m from) ≡ Ok tt → outcome (rule_tests W links rs) ≡ Ok tt
  unfolding rule_tests
  past_rules e = let p = past_width e in outcome_passes (width_test W) (rule_list_tests W links rs) p.0 ∙ p.2

  pub scratch_tests_good : outcome (rule_scratch_tests W k links rs words m from) ≡ Ok tt → GoodRules W rs
  scratch_tests_good e = rules_good W links rs (past_rules e)

  pub scratch_tests_linked : outcome (rule_scratch_tests W k links rs words m from) ≡ Ok tt → Linked links rs.actions
  scratch_tests_linked e = rules_linked W links rs (past_rules e)

  -- for good rules whose actions the gateway has, and an allowed level count, test 6 alone is left
  pub scratch_test_left : GoodRules W rs → Linked links rs.actions → Within k LEVELS → outcome (rule_scratch_tests W k links rs words m from) ≡ outcome last_test
  unfolding rule_scratch_tests rule_tests and_then
  scratch_test_left g p h =
      let t = accepted_passes (width_test W) (rule_list_tests W links rs) (good_rules W links rs g p) in
      outcome_passes (width_test W) (levels_test k ∷ (rule_list_tests W links rs ++ last_test)) t.0
      ∙ outcome_passes (levels_test k) (rule_list_tests W links rs ++ last_test) (width_passes LEVELS k (λ (e : k ≡ 0). omega (arith, h.0)) h.1)
      ∙ outcome_append (rule_list_tests W links rs) last_test ∙ ap (λ (o : Outcome). and_then o (outcome last_test)) t.1

  pub numbered_rule_scratch : (most : ℕ) → 6 ≤ most → Numbered most (rule_scratch_tests W k links rs words m from)
  unfolding rule_scratch_tests rule_tests
  numbered_rule_scratch most h =
      let n = numbered_rules W links rs most (omega arith) in
      (n.0, ((omega arith, omega arith), numbered_append most (rule_list_tests W links rs) last_test n.1 ((omega arith, omega arith), tt)))

  -- 7 comes after them
  module _ (room numbers : ℕ) (least : ℕ → ℕ) where
    abbrev room_tests : List Test
    room_tests = room_test (sum_first least (suc m)) room ∷ trie_list_test numbers m ∷ []

    two_parts : outcome (rule_build_tests W k links rs words room numbers m from least) ≡ and_then (outcome (rule_scratch_tests W k links rs words m from)) (outcome room_tests)
    unfolding rule_build_tests
    two_parts = outcome_append (rule_scratch_tests W k links rs words m from) room_tests

    pub rule_tests_early : {r : Refusal} → outcome (rule_scratch_tests W k links rs words m from) ≡ Err r
        → outcome (rule_build_tests W k links rs words room numbers m from least) ≡ Err r
    unfolding and_then
    rule_tests_early e = two_parts ∙ ap (λ (o : Outcome). and_then o (outcome room_tests)) e

    pub rule_tests_late : outcome (rule_scratch_tests W k links rs words m from) ≡ Ok tt
        → outcome (rule_build_tests W k links rs words room numbers m from least) ≡ outcome room_tests
    unfolding and_then
    rule_tests_late e = two_parts ∙ ap (λ (o : Outcome). and_then o (outcome room_tests)) e

    pub rule_tests_scratch : outcome (rule_build_tests W k links rs words room numbers m from least) ≡ Ok tt
        → outcome (rule_scratch_tests W k links rs words m from) ≡ Ok tt
    unfolding rule_build_tests
    rule_tests_scratch e = (accepted_parts (rule_scratch_tests W k links rs words m from) room_tests e).0

    pub numbered_rule_build : Numbered 7 (rule_build_tests W k links rs words room numbers m from least)
    unfolding rule_build_tests
    numbered_rule_build =
        numbered_append 7 (rule_scratch_tests W k links rs words m from) room_tests (numbered_rule_scratch 7 (omega arith))
        ((omega arith, omega arith), ((omega arith, omega arith), tt))
