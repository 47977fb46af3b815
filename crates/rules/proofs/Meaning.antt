-- The runs of rules are one, and so are the tries and the tests that speak of them; and the exact promise of the build gives its meaning.
use mathlib.Core.Path.{◌≡◌, refl, sym, ap, subst, ◌∙◌}
use mathlib.Core.List.{List}
use Prim.Native.Nat.{ℕ, suc, ◌≤◌}
use native.Mathlib.Nat.{le_of_suc-le-suc}
use native.Mathlib.Omega.{arith}
use lib.ListN.{length, replicate}
use Rattle.std.specs.Prelude.{Ok, Err}
use Rattle.table.specs.Refusals.{Outcome, Test, outcome, Gives}
use Rattle.table.proofs.Refusals.{outcome_gives, gives_outcome}
use Rattle.strides.specs.Trie.{Trie, size}
use Rattle.strides.specs.Cheapest.{Kind, Cheapest}
use Rattle.strides.specs.Recurrence.{plain, least_by, strides_by}
use Rattle.strides.specs.Strides.{chosen_by}
use Rattle.strides.proofs.Cheapest.{least_cheapest, cheapest_unique, chosen_follows, strides_named}
use Rattle.walk.specs.Rows.{Lists, shortest}
use Rattle.layout.specs.Laid.{table_trie}
use Rattle.choosers.specs.Chooser.{if_accepted}
use Rattle.fields.specs.Rules.{Rules}
use Rattle.fields.specs.Runs.{EntryLists}
use Rattle.fields.proofs.Runs.{runs_unique}
use Rattle.fields.proofs.Tables.{tables_same}
use Rattle.verdicts.specs.declared.record.RuleRecord.{RuleRecord}
use Rattle.rules.specs.Build.{RunsOf, rule_trie, rule_scratch_tests, rule_build_tests, RulesAre, RuleBuilds}
use Rattle.rules.proofs.Sums.{sum_same}
use Rattle.rules.proofs.RuleTests.{scratch_tests_levels, rule_tests_early}

-- ---- runs that begin at the same places

module _ (W : ℕ) (rs : Rules) (m : ℕ) (from from' : ℕ → ℕ) (same : (g : ℕ) → g ≤ m → from g ≡ from' g) where
  pub rule_trie_same : (g : ℕ) → g ≤ m → rule_trie W rs m from g ≡ rule_trie W rs m from' g
  rule_trie_same g h = ap (λ (t : EntryLists). table_trie W t.vals t.lens t.hops) (tables_same rs m from from' same g h)

  scratch_tests_same : (k links words : ℕ) → rule_scratch_tests W k links rs words m from ≡ rule_scratch_tests W k links rs words m from'
  unfolding rule_scratch_tests
  scratch_tests_same k links words =
      rw (sum_same (λ g. size (rule_trie W rs m from g)) (λ g. size (rule_trie W rs m from' g)) (suc m) (λ g h. ap size (rule_trie_same g (le_of_suc-le-suc h))))

  build_tests_same : (k links words room numbers : ℕ) (least least' : ℕ → ℕ) → ((g : ℕ) → g ≤ m → least g ≡ least' g)
      → rule_build_tests W k links rs words room numbers m from least ≡ rule_build_tests W k links rs words room numbers m from' least'
  unfolding rule_build_tests
  build_tests_same k links words room numbers least least' e =
      rw (scratch_tests_same k links words, sum_same least least' (suc m) (λ g h. e g (le_of_suc-le-suc h)))

-- any two runs do
module _ (W : ℕ) (rs : Rules) {m : ℕ} {from : ℕ → ℕ} (r : RunsOf rs m from) where
  pub scratch_tests_one : {m' : ℕ} {from' : ℕ → ℕ} → RunsOf rs m' from' → (k links words : ℕ) → rule_scratch_tests W k links rs words m from ≡ rule_scratch_tests W k links rs words m' from'
  scratch_tests_one {m'} {from'} r' k links words =
      let u = runs_unique r r' in
      scratch_tests_same W rs m from from' u.1 k links words ∙ ap (λ (x : ℕ). rule_scratch_tests W k links rs words x from') u.0

  -- the tests take no other numbers than the least costs of all choices
  pub rule_tests_least : {m' : ℕ} {from' : ℕ → ℕ} → RunsOf rs m' from' → (kind : Kind) (k links words room numbers : ℕ) (least : ℕ → ℕ)
      → ((g : ℕ) → g ≤ m' → 1 ≤ k → Cheapest kind k (rule_trie W rs m' from' g) (least g))
      → outcome (rule_build_tests W k links rs words room numbers m from (λ g. least_by plain kind k (rule_trie W rs m from g)))
      ≡ outcome (rule_build_tests W k links rs words room numbers m' from' least)
  rule_tests_least {m'} {from'} r' kind k links words room numbers least c = go (outcome (rule_scratch_tests W k links rs words m from)) refl
    where
      u : (m ≡ m') × ((g : ℕ) → g ≤ m → from g ≡ from' g)
      u = runs_unique r r'

      own : ℕ → ℕ
      own g = least_by plain kind k (rule_trie W rs m from g)

      least_same : 1 ≤ k → (g : ℕ) → g ≤ m → own g ≡ least g
      least_same some g h =
          let c' = subst (λ (x : ℕ). (y : ℕ) → y ≤ x → 1 ≤ k → Cheapest kind k (rule_trie W rs x from' y) (least y)) (sym u.0) c g h some in
          cheapest_unique kind k (rule_trie W rs m from g) (least_cheapest kind k (rule_trie W rs m from g) some)
          (subst (λ (t : Trie). Cheapest kind k t (least g)) (sym (rule_trie_same W rs m from from' u.1 g h)) c')

      go : (o : Outcome) → outcome (rule_scratch_tests W k links rs words m from) ≡ o
          → outcome (rule_build_tests W k links rs words room numbers m from own) ≡ outcome (rule_build_tests W k links rs words room numbers m' from' least)
      go (Ok tt) e =
          let some = (scratch_tests_levels W k links rs words m from e).0 in
          ap outcome (build_tests_same W rs m from from' u.1 k links words room numbers own least (least_same some)
          ∙ ap (λ (x : ℕ). rule_build_tests W k links rs words room numbers x from' least) u.0)
      go (Err r) e =
          rule_tests_early W k links rs words m from room numbers own e
          ∙ sym (rule_tests_early W k links rs words m' from' room numbers least (ap outcome (sym (scratch_tests_one r' k links words)) ∙ e))

-- ---- the meaning

module _ {kind : Kind} {W k links : ℕ} {rs : Rules} {scratch : List ℕ} {rows : Lists} {list : List ℕ} {out : Outcome} {rec : RuleRecord} {scratch' : List ℕ} {rows' : Lists}
    {list' : List ℕ} (b : RulesAre kind W k links rs scratch rows list out rec scratch' rows' list') where
  abbrev trie : ℕ → Trie
  trie = rule_trie W rs b.m b.from

  abbrev tests : List Test
  tests = rule_scratch_tests W k links rs (length scratch) b.m b.from

  some_levels : out ≡ Ok tt → 1 ≤ k
  some_levels e = let d = (b.laid e).dest in omega (arith, d.levels, d.built.levels.0)

  one_tests : {m : ℕ} {from : ℕ → ℕ} → RunsOf rs m from → rule_scratch_tests W k links rs (length scratch) m from ≡ tests
  one_tests r = scratch_tests_one W rs r b.runs k links (length scratch)

  pub rules_mean : RuleBuilds kind W k links rs scratch rows list out rec scratch' rows' list'
  unfolding if_accepted
  rules_mean = record {
    tested = λ m from least r c.
        let ts = rule_build_tests W k links rs (length scratch) (shortest rows) (length list) m from least in
        subst (Gives ts) (sym (b.tests ∙ rule_tests_least W rs b.runs r kind k links (length scratch) (shortest rows) (length list) least c)) (outcome_gives ts);
    laid = λ e. record {
      m = b.m;
      from = b.from;
      runs = b.runs;
      σ = λ g. chosen_by plain kind k (trie g);
      follows = λ g h. chosen_follows kind k (trie g) (some_levels e);
      tries = b.laid e;
      named = (strides_by plain kind k (trie 0), strides_named kind k (trie 0) (some_levels e), b.named e);
      rest = b.rest e;
    };
    zeroed = λ m from r a. b.after ∙ rw (sym (gives_outcome tests (Ok tt) (subst (λ (ts : List Test). Gives ts (Ok tt)) (one_tests r) a)));
    untouched = λ m from r ne. b.after ∙ kept (outcome tests) refl (λ a. ne (subst (λ (ts : List Test). Gives ts (Ok tt)) (sym (one_tests r)) a));
    keeps = b.keeps;
  }
    where
      kept : (o : Outcome) → outcome tests ≡ o → (Gives tests (Ok tt) → ⊥) → if_accepted o (replicate (length scratch) 0) scratch ≡ scratch
      kept (Ok tt) e ne = absurd (ne (subst (Gives tests) e (outcome_gives tests)))
      kept (Err r) e ne = refl
