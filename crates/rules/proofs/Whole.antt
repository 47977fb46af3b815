-- From the rules to the tables that the build holds, and back: what it promises of those is what it promises of the rules.
use mathlib.Core.Path.{◌≡◌, refl, sym, ap, subst, ◌∙◌}
use mathlib.Core.Bool.{true, false}
use mathlib.Core.List.{List, [], ◌∷◌, ◌++◌}
use Prim.Native.Nat.{ℕ, zero, suc, ◌+◌, ◌-◌, ◌≤◌, ◌<◌}
use native.Mathlib.Numerals.{add-one}
use native.Mathlib.Omega.{arith}
use lib.ListN.{length, replicate, take}
use Rattle.std.specs.Prelude.{Ok, Err}
use Rattle.table.specs.Limits.{outside}
use Rattle.table.specs.declared.refusal.Refusal.{Refusal}
use Rattle.table.specs.declared.refusal.Refusal.TheVariants.{Width, Levels}
use Rattle.table.specs.Refusals.{Outcome, Test, outcome, and_then}
use Rattle.table.specs.Table.{at, width_test, Linked}
use Rattle.table.specs.Longest.{Wins}
use Rattle.table.proofs.Refusals.{outcome_fails, outcome_passes, outcome_append, refused_not_accepted}
use Rattle.strides.specs.Trie.{Trie, size}
use Rattle.strides.specs.Cheapest.{Kind}
use Rattle.strides.specs.Recurrence.{plain, least_by}
use Rattle.strides.specs.Strides.{chosen_by}
use Rattle.walk.specs.Limits.{WIDTH, LEVELS, Within}
use Rattle.walk.specs.Rows.{Lists, shortest}
use Rattle.layout.specs.Laid.{table_trie}
use Rattle.choosers.proofs.ChooseTests.{within_levels}
use Rattle.choosers.specs.Chooser.{levels_test, if_accepted}
use Rattle.tries.specs.Build.{room_test}
use Rattle.fields.specs.Rules.{Rules, rule_count, rule_list_tests, rule_tests, check_rules_of, GoodRules}
use Rattle.fields.specs.Runs.{EntryLists, trie_table, sum_first, starts_shorter}
use Rattle.fields.proofs.Runs.{run_count, run_from, runs_exist, from_mono, from_within, runs_few}
use Rattle.fields.specs.Limits.{rule_limit}
use Rattle.fields.proofs.Rules.{rules_good, rules_linked, good_rules}
use Rattle.fields.proofs.Tables.{dest_lengths, dest_table, source_table}
use Rattle.verdicts.specs.Tries.{trie_row}
use Rattle.verdicts.specs.declared.record.RuleRecord.{RuleRecord}
use Rattle.rules.specs.Build.{rule_record_of, RunsOf, rule_trie, all_nodes_test, trie_list_test, rule_scratch_tests, rule_build_tests, TriesLaid, RulesAre}
use Rattle.rules.proofs.Steps.{no_record}
use Rattle.rules.specs.Gathering.{Gathered}
use Rattle.rules.specs.Splitting.{SplitRules, split_rules, split_table, split_trie, split_nodes, split_costs, CanPlan, CanSplit}
use Rattle.rules.specs.Laying.{source_cost, SourceStands}
use Rattle.rules.specs.Building.{SplitLaid, SplitBuilt}
use Rattle.rules.proofs.Gathering.{gathered_values, gathered_lengths, gathered_numbers}
use Rattle.rules.proofs.Links.{links_win}
use Rattle.rules.proofs.Planning.{within_inside}
use Rattle.rules.proofs.RuleTests.{rule_tests_early}
use Rattle.rules.proofs.Sums.{sum_same}

-- past tests 1 and 2 those of the rules decide, and then test 6
module _ (W k links : ℕ) (rs : Rules) (words m : ℕ) (from : ℕ → ℕ) (w : outside W WIDTH ≡ false) (l : outside k LEVELS ≡ false) where
  abbrev last_test : List Test
  last_test = all_nodes_test words (sum_first (λ g. size (rule_trie W rs m from g)) (suc m)) ∷ []

  past_levels : outcome (rule_scratch_tests W k links rs words m from) ≡ and_then (outcome (rule_tests W links rs)) (outcome last_test)
  unfolding rule_scratch_tests rule_tests
  past_levels =
      outcome_passes (width_test W) (levels_test k ∷ (rule_list_tests W links rs ++ last_test)) w ∙ outcome_passes (levels_test k) (rule_list_tests W links rs ++ last_test) l
      ∙ outcome_append (rule_list_tests W links rs) last_test ∙ ap (λ (o : Outcome). and_then o (outcome last_test)) (sym (outcome_passes (width_test W) (rule_list_tests W links rs) w))

-- ---- refused before the destinations are gathered

module _ (kind : Kind) (W k links : ℕ) (rs : Rules) (scratch : List ℕ) (rows : Lists) (list : List ℕ) where
  abbrev RefusedBy : Refusal → Type 0
  RefusedBy e = RulesAre kind W k links rs scratch rows list (Err e) (rule_record_of (Err e)) scratch rows list

  gathered_none : (e : Refusal) → ((m : ℕ) (from : ℕ → ℕ) → outcome (rule_scratch_tests W k links rs (length scratch) m from) ≡ Err e) → RefusedBy e
  unfolding if_accepted
  gathered_none e f =
      let M = run_count (at rs.dvals) (at rs.dlens) (rule_count rs) in
      let F = run_from (at rs.dvals) (at rs.dlens) (rule_count rs) in
      record {
        m = M;
        from = F;
        runs = runs_exist (at rs.dvals) (at rs.dlens) (rule_count rs);
        tests = sym (rule_tests_early W k links rs (length scratch) M F (shortest rows) (length list) (λ g. least_by plain kind k (rule_trie W rs M F g)) (f M F));
        after = rw (f M F) refl;
        laid = λ a. absurd (refused_not_accepted a);
        named = λ a. absurd (refused_not_accepted a);
        rest = λ a. absurd (refused_not_accepted a);
        keeps = record {
          room = record { hops = refl; lens = refl; links = refl; strides = refl };
          long = refl;
          later = λ a. absurd (refused_not_accepted a);
          refused = λ ne. (no_record e, refl, refl);
        };
      }

  pub width_refused : outside W WIDTH ≡ true → RefusedBy Width
  unfolding rule_scratch_tests
  width_refused f = gathered_none Width (λ m from. outcome_fails (width_test W) _ f)

  pub levels_refused : outside W WIDTH ≡ false → outside k LEVELS ≡ true → RefusedBy Levels
  unfolding rule_scratch_tests
  levels_refused w f = gathered_none Levels (λ m from. outcome_passes (width_test W) _ w ∙ outcome_fails (levels_test k) _ f)

  pub rules_refused : outside W WIDTH ≡ false → outside k LEVELS ≡ false → (e : Refusal) → check_rules_of W links rs ≡ Err e → RefusedBy e
  unfolding check_rules_of and_then
  rules_refused w l e f =
      gathered_none e (λ m from. past_levels W k links rs (length scratch) m from w l ∙ ap (λ (o : Outcome). and_then o (outcome (last_test W k links rs (length scratch) m from w l))) f)

-- ---- the tables that were gathered

module _ (W k : ℕ) (rs : Rules) (good : GoodRules W rs) (levels : Within k LEVELS) (m : ℕ) (first : List ℕ) (runs : RunsOf rs m (at first))
    (enough : m < length first) where
  abbrev tab : ℕ → EntryLists
  tab = trie_table rs m (at first)

  -- as the build holds them
  abbrev pub held_rules : SplitRules
  held_rules = split_rules first (tab 0).vals (tab 0).lens (tab 0).hops rs.svals rs.slens rs.actions

  held_table : (g : ℕ) → split_table held_rules g ≡ tab g
  unfolding trie_table
  held_table zero = refl
  held_table (suc g) = rw (add-one g) refl

  many : length (tab 0).vals ≡ m
  many = (dest_lengths rs m (at first)).0

  held_plan : (g : ℕ) → g ≤ m → CanPlan W k (split_table held_rules g).vals (split_table held_rules g).lens (split_table held_rules g).hops
  unfolding trie_table
  held_plan zero h = record { table = dest_table W rs good runs; levels = levels }
  held_plan (suc g) h = rw (add-one g) (record { table = source_table W rs good runs g h; levels = levels })

  inside_rules : (g : ℕ) → g ≤ length (tab 0).vals → at first g ≤ rule_count rs
  inside_rules g h = from_within runs g (omega (arith, many))

  pub held_can : CanSplit W k held_rules
  held_can = record {
    few = omega (arith, many, runs_few runs, good.few);
    firsts = omega (arith, many, enough);
    rising = λ g h. from_mono runs g (g + 1) (omega arith) (omega (arith, many));
    svalues = λ g h. omega (arith, inside_rules g h, good.lengths.svalues);
    slengths = λ g h. omega (arith, inside_rules g h, good.lengths.slengths);
    acts = λ g h. omega (arith, inside_rules g h, good.lengths.acts);
    plans = λ g h. held_plan g (omega (arith, many));
  }

  -- the sums over all tries
  held_sum : (f : Trie → ℕ) → sum_first (λ g. f (split_trie W held_rules g)) (suc (length (tab 0).vals)) ≡ sum_first (λ g. f (rule_trie W rs m (at first) g)) (suc m)
  held_sum f =
      ap (λ (n : ℕ). sum_first (λ g. f (split_trie W held_rules g)) (suc n)) many
      ∙ sum_same (λ g. f (split_trie W held_rules g)) (λ g. f (rule_trie W rs m (at first) g)) (suc m)
      (λ g h. ap (λ (t : EntryLists). f (table_trie W t.vals t.lens t.hops)) (held_table g))

  -- ---- what the build promises of them

  module _ {kind : Kind} {list : List ℕ} {rec : RuleRecord} {rows' : Lists} {list' : List ℕ} (l : SplitLaid kind W k held_rules list rec rows' list') where
    stands : (g : ℕ) → g < m → SourceStands kind W k held_rules rec.dest.elements rows' list' g
    stands g h = l.sources g (omega (arith, many))

    -- the place of each is the sum of the E of those before it
    counted : (g : ℕ) → g ≤ m → sum_first (source_cost kind W k held_rules) g ≡ sum_first (λ j. (trie_row list' j).elements) g
    counted g h = sum_same (source_cost kind W k held_rules) (λ j. (trie_row list' j).elements) g (λ j b. sym (stands j (omega arith)).count)

    next_is : (g : ℕ) → g < m → Wins (starts_shorter W (at (tab 0).vals) (at (tab 0).lens) g) (at (tab 0).lens) m (trie_row list' g).next
    next_is g h =
        subst (λ (n : ℕ). Wins (starts_shorter W (at (tab 0).vals) (at (tab 0).lens) g) (at (tab 0).lens) n (trie_row list' g).next) many
        (links_win W rs good runs g h (stands g h).next)

    tries_laid : TriesLaid W k rs m (at first) (λ g. chosen_by plain kind k (rule_trie W rs m (at first) g)) rec rows' list'
    unfolding trie_table
    tries_laid = record {
      dest = l.dest;
      source = λ g h. rw (add-one g) at (stands g h).laid;
      place = λ g h. (stands g h).placed ∙ ap (λ (n : ℕ). rec.dest.elements + n) (counted g (omega arith));
      all = l.all ∙ ap (λ (n : ℕ). rec.dest.elements + sum_first (source_cost kind W k held_rules) n) many
          ∙ ap (λ (n : ℕ). rec.dest.elements + n) (counted m (omega arith));
      floor = λ g h. (stands g h).floor;
      next = next_is;
      listed = omega (arith, l.long, many);
    }

  module _ (links : ℕ) (linked : Linked links rs.actions) {kind : Kind} {scratch : List ℕ} {rows : Lists} {list : List ℕ} {out : Outcome} {rec : RuleRecord}
      {scratch' : List ℕ} {rows' : Lists} {list' : List ℕ} (b : SplitBuilt kind W k held_rules scratch rows list out rec scratch' rows' list') where
    abbrev cost : ℕ → ℕ
    cost g = least_by plain kind k (rule_trie W rs m (at first) g)

    abbrev nodes : ℕ
    nodes = sum_first (λ g. size (rule_trie W rs m (at first) g)) (suc m)

    width_in : outside W WIDTH ≡ false
    width_in = within_inside (good.some_width, good.width)

    -- tests 1 to 5 pass
    last_left : outcome (rule_scratch_tests W k links rs (length scratch) m (at first)) ≡ outcome (all_nodes_test (length scratch) nodes ∷ [])
    unfolding and_then
    last_left =
        past_levels W k links rs (length scratch) m (at first) width_in (within_inside levels)
        ∙ ap (λ (o : Outcome). and_then o (outcome (all_nodes_test (length scratch) nodes ∷ []))) (good_rules W links rs good linked)

    sevens : List Test
    sevens = room_test (sum_first cost (suc m)) (shortest rows) ∷ trie_list_test (length list) m ∷ []

    all_left : outcome (rule_build_tests W k links rs (length scratch) (shortest rows) (length list) m (at first) cost) ≡ outcome (all_nodes_test (length scratch) nodes ∷ sevens)
    unfolding rule_build_tests sevens
    all_left =
        outcome_append (rule_scratch_tests W k links rs (length scratch) m (at first)) sevens ∙ ap (λ (o : Outcome). and_then o (outcome sevens)) last_left
        ∙ sym (outcome_append (all_nodes_test (length scratch) nodes ∷ []) sevens)

    same_tests : outcome (all_nodes_test (length scratch) (split_nodes W held_rules) ∷ room_test (split_costs kind W k held_rules) (shortest rows) ∷ trie_list_test (length list) (length (tab 0).vals) ∷ [])
        ≡ outcome (all_nodes_test (length scratch) nodes ∷ sevens)
    unfolding sevens
    same_tests =
        ap (λ (n : ℕ). outcome (all_nodes_test (length scratch) n ∷ room_test (split_costs kind W k held_rules) (shortest rows) ∷ trie_list_test (length list) (length (tab 0).vals) ∷ [])) (held_sum size)
        ∙ ap (λ (n : ℕ). outcome (all_nodes_test (length scratch) nodes ∷ room_test n (shortest rows) ∷ trie_list_test (length list) (length (tab 0).vals) ∷ [])) (held_sum (least_by plain kind k))
        ∙ ap (λ (n : ℕ). outcome (all_nodes_test (length scratch) nodes ∷ room_test (sum_first cost (suc m)) (shortest rows) ∷ trie_list_test (length list) n ∷ [])) many

    pub whole_built : RulesAre kind W k links rs scratch rows list out rec scratch' rows' list'
    whole_built = record {
      m = m;
      from = at first;
      runs = runs;
      tests = b.tests ∙ same_tests ∙ sym all_left;
      after = b.after ∙ ap (λ (o : Outcome). if_accepted o (replicate (length scratch) 0) scratch)
          (ap (λ (n : ℕ). outcome (all_nodes_test (length scratch) n ∷ [])) (held_sum size) ∙ sym last_left);
      laid = λ a. tries_laid (b.written.laid a);
      named = λ a. (b.written.laid a).named;
      rest = λ a i h. (b.written.laid a).rest i (omega (arith, many));
      keeps = b.written.keeps;
    }

  -- the lists that were gathered, as far as they are lent on
  pub held_lists : {vals lens nums : List ℕ} → Gathered rs.dvals rs.dlens (rule_count rs) m first vals lens nums
      → split_rules first (take (m - 0) vals) (take (m - 0) lens) (take (m - 0) nums) rs.svals rs.slens rs.actions ≡ held_rules
  held_lists {vals} {lens} {nums} r =
      let z : m - 0 ≡ m = omega arith in
      ap (λ (n : ℕ). split_rules first (take n vals) (take n lens) (take n nums) rs.svals rs.slens rs.actions) z
      ∙ ap (λ (xs : List ℕ). split_rules first xs (take m lens) (take m nums) rs.svals rs.slens rs.actions) (gathered_values rs r)
      ∙ ap (λ (xs : List ℕ). split_rules first (tab 0).vals xs (take m nums) rs.svals rs.slens rs.actions) (gathered_lengths rs r)
      ∙ ap (λ (xs : List ℕ). split_rules first (tab 0).vals (tab 0).lens xs rs.svals rs.slens rs.actions) (gathered_numbers rs r)

-- ---- past the check of the rules, with the destinations gathered

module _ (W links : ℕ) (rs : Rules) (checked : check_rules_of W links rs ≡ Ok tt) where
  pub checked_good : GoodRules W rs
  unfolding check_rules_of
  checked_good = rules_good W links rs checked

  checked_linked : Linked links rs.actions
  unfolding check_rules_of
  checked_linked = rules_linked W links rs checked

  module _ (k : ℕ) (levels : outside k LEVELS ≡ false) {m : ℕ} {first vals lens nums : List ℕ} (r : Gathered rs.dvals rs.dlens (rule_count rs) m first vals lens nums)
      (long : length first ≡ rule_limit + 1) where
    levels_in : Within k LEVELS
    levels_in = within_levels k LEVELS levels

    enough_first : m < length first
    enough_first = omega (arith, r.few, checked_good.few, long)

    abbrev lent_on : SplitRules
    lent_on = split_rules first (take (m - 0) vals) (take (m - 0) lens) (take (m - 0) nums) rs.svals rs.slens rs.actions

    lent_is : lent_on ≡ held_rules W k rs checked_good levels_in m first r.runs enough_first
    lent_is = held_lists W k rs checked_good levels_in m first r.runs enough_first r

    pub gathered_can : CanSplit W k lent_on
    gathered_can = rw lent_is (held_can W k rs checked_good levels_in m first r.runs enough_first)

    pub gathered_built : {kind : Kind} {scratch scratch' : List ℕ} {rows rows' : Lists} {list list' : List ℕ} {out : Outcome} {rec : RuleRecord}
        → SplitBuilt kind W k lent_on scratch rows list out rec scratch' rows' list' → RulesAre kind W k links rs scratch rows list out rec scratch' rows' list'
    gathered_built b = whole_built W k rs checked_good levels_in m first r.runs enough_first links checked_linked (rw lent_is at b)
