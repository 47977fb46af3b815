-- The demands over a build of rules and a classification over what it left (02, [6]), sentence by sentence, as theorems over what the two
-- calls promise: their meaning (`RuleBuilds`, `Classified`), not how it is found.
use mathlib.Core.Path.{◌≡◌, refl, sym, ap, subst, ◌∙◌}
use mathlib.Core.Bool.{true, false, ◌||◌}
use mathlib.Core.List.{List, [], ◌∷◌, Memᴰ}
use mathlib.Core.Logic.Iff
use mathlib.Core.Logic.{◌⊎◌, inl, inr, ◌↔◌}
use Prim.Native.Nat.{ℕ, suc, ◌*◌, ◌/◌, ◌^◌, ◌≤◌, ◌<◌}
use native.Mathlib.Decide.{dec_le}
use native.Mathlib.Omega.{arith}
use lib.Dec.{ltb}
use lib.ListN.{length, replicate}
use borrow.Author.Tests.{lt-ltb, le-ltb}
use Rattle.std.specs.Prelude.{Ok, Err}
use Rattle.table.specs.Entry.{unlinked}
use Rattle.table.specs.Table.{at, Linked}
use Rattle.table.specs.declared.refusal.Refusal.{Refusal}
use Rattle.table.specs.declared.refusal.Refusal.TheVariants.{Scratch, Room}
use Rattle.table.specs.Refusals.{refusal_number, outcome_number, Outcome, Test, outcome, Gives}
use Rattle.table.proofs.Refusals.{outcome_gives, outcome_fails, outcome_passes, gives_outcome, gives_unique, given_exactly, refused_not_accepted}
use Rattle.table.proofs.Numbered.{refused_number}
use Rattle.strides.specs.Cheapest.{Kind, Cheapest}
use Rattle.strides.specs.Recurrence.{plain, least_by}
use Rattle.strides.proofs.Cheapest.{least_cheapest}
use Rattle.strides.proofs.Follows.{follows_cheapest}
use Rattle.strides.specs.Trie.{size}
use Rattle.walk.specs.Limits.{WIDTH, LEVELS, Within}
use Rattle.walk.specs.Rows.{Lists, shortest, row_at}
use Rattle.choosers.specs.Scratch.{ROW}
use Rattle.tries.specs.Limits.{ELEMENTS}
use Rattle.tries.specs.Build.{room_test}
use Rattle.layout.proofs.Laid.{elements_cost}
use Rattle.fields.specs.Rules.{Rules, rule_count, GoodRules}
use Rattle.fields.specs.Winning.{NoRuleMatches}
use Rattle.fields.specs.Runs.{trie_table, sum_first, Falls}
use Rattle.fields.proofs.Runs.{run_count, run_from, runs_exist}
use Rattle.verdicts.specs.Limits.{trie_row_cells}
use Rattle.verdicts.specs.Tries.{trie_row}
use Rattle.verdicts.specs.Verdicts.{verdict_number, action_of, verdict_reads}
use Rattle.verdicts.specs.Meaning.{TriesWay, Classified, SameTries, SameRows}
use Rattle.verdicts.specs.declared.record.RuleRecord.{RuleRecord}
use Rattle.verdicts.specs.Cases.{Verdict, Discard, NoRule}
use Rattle.verdicts.proofs.Answers.{verdict_number_lem, verdict_action}
use Rattle.verdicts.proofs.Unique.{tries_way_unique}
use Rattle.verdicts.proofs.Alone.{verdict_path, verdict_few, verdict_alone}
use Rattle.rules.specs.Build.{RunsOf, rule_trie, all_nodes_test, trie_list_test, rule_scratch_tests, rule_build_tests, NoRuleRecord, RuleBuilds}
use Rattle.rules.specs.Deciding.{ActionIs, TopDiscards, Calls, rows_on_way}
use Rattle.verdicts.proofs.Answers.{none_by_action, discard_by_action}
use Rattle.rules.proofs.Actions.{action_unique, action_none, action_discards, action_linked}
use Rattle.rules.proofs.RuleTests.{scratch_tests_good, scratch_tests_linked, scratch_test_left, numbered_rule_scratch, rule_tests_early, rule_tests_late, rule_tests_scratch}
use Rattle.rules.proofs.Deciding.{tries_visited, action_found, laid_way, verdict_found, laid_decides, tries_called, tries_fall}

module _ {kind : Kind} {W k links : ℕ} {rs : Rules} {scratch : List ℕ} {rows : Lists} {list : List ℕ} {out : Outcome} {rec : RuleRecord} {s : List ℕ} {rows' : Lists}
    {list' : List ℕ} (b : RuleBuilds kind W k links rs scratch rows list out rec s rows' list') where
  -- ==== refusals: the first test that fails, "with rules for entries"; "6 and 7 count over all tries"

  pub rules_first : (m : ℕ) (from least : ℕ → ℕ) → RunsOf rs m from → ((g : ℕ) → g ≤ m → 1 ≤ k → Cheapest kind k (rule_trie W rs m from g) (least g))
      → (o : Outcome) → (out ≡ o) ↔ Gives (rule_build_tests W k links rs (length scratch) (shortest rows) (length list) m from least) o
  rules_first m from least r c =
      given_exactly (rule_build_tests W k links rs (length scratch) (shortest rows) (length list) m from least) (b.tested m from least r c)

  -- with the least costs that the recurrences find
  tests_out : {m : ℕ} {from : ℕ → ℕ} → RunsOf rs m from
      → out ≡ outcome (rule_build_tests W k links rs (length scratch) (shortest rows) (length list) m from (λ g. least_by plain kind k (rule_trie W rs m from g)))
  tests_out {m} {from} r =
      gives_outcome _ out (b.tested m from (λ g. least_by plain kind k (rule_trie W rs m from g)) r (λ g h. least_cheapest kind k (rule_trie W rs m from g)))

  -- for good rules whose actions the gateway has, and an allowed level count: 6 where the scratch lent has fewer rows than all tries together have 1-bit nodes, with
  -- their number for detail; else the tests up to 6 are passed
  module _ (good : GoodRules W rs) (linked : Linked links rs.actions) (allowed : Within k LEVELS) {m : ℕ} {from : ℕ → ℕ} (r : RunsOf rs m from) where
    abbrev nodes : ℕ
    nodes = sum_first (λ g. size (rule_trie W rs m from g)) (suc m)

    left : outcome (rule_scratch_tests W k links rs (length scratch) m from) ≡ outcome (all_nodes_test (length scratch) nodes ∷ [])
    left = scratch_test_left W k links rs (length scratch) m from good linked allowed

    pub rules_scratch : length scratch / ROW < nodes → out ≡ Err (Scratch nodes)
    rules_scratch h =
        tests_out r ∙ rule_tests_early W k links rs (length scratch) m from _ _ _
        (left ∙ outcome_fails (all_nodes_test (length scratch) nodes) [] (lt-ltb (length scratch / ROW) nodes h))

    pub rules_scratch_enough : nodes ≤ length scratch / ROW → Gives (rule_scratch_tests W k links rs (length scratch) m from) (Ok tt)
    unfolding outcome
    rules_scratch_enough h =
        subst (Gives (rule_scratch_tests W k links rs (length scratch) m from))
        (left ∙ outcome_passes (all_nodes_test (length scratch) nodes) [] (le-ltb (length scratch / ROW) nodes h))
        (outcome_gives (rule_scratch_tests W k links rs (length scratch) m from))

  -- refusals 1 to 6 change no list
  pub rules_early : {m : ℕ} {from : ℕ → ℕ} → RunsOf rs m from → {x : Refusal} → Gives (rule_scratch_tests W k links rs (length scratch) m from) (Err x)
      → (out ≡ Err x) × NoRuleRecord rec × (s ≡ scratch) × (rows' ≡ rows) × (list' ≡ list)
  rules_early {m} {from} r {x} g =
      let tests = rule_scratch_tests W k links rs (length scratch) m from in
      let e : out ≡ Err x = tests_out r ∙ rule_tests_early W k links rs (length scratch) m from _ _ _ (sym (gives_outcome tests (Err x) g)) in
      let kept = b.keeps.refused (λ a. refused_not_accepted (sym e ∙ a)) in
      (e, kept.0, b.untouched m from r (λ a. refused_not_accepted (gives_unique tests (Err x) (Ok tt) g a)), kept.1, kept.2)

  -- past them, scratch is all zero
  past_scratch : {m : ℕ} {from : ℕ → ℕ} → RunsOf rs m from → ((x : Refusal) → out ≡ Err x → 6 < refusal_number x) → s ≡ replicate (length scratch) 0
  past_scratch {m} {from} r late = b.zeroed m from r (go (outcome tests) refl)
    where
      tests : List Test
      tests = rule_scratch_tests W k links rs (length scratch) m from

      go : (o : Outcome) → outcome tests ≡ o → Gives tests (Ok tt)
      go (Ok tt) p = subst (Gives tests) p (outcome_gives tests)
      go (Err x) p =
          let g = subst (Gives tests) p (outcome_gives tests) in
          absurd (omega (arith, refused_number 6 tests x (numbered_rule_scratch W k links rs (length scratch) m from 6 (omega arith)) g, late x (rules_early r g).0))

  own_runs : RunsOf rs (run_count (at rs.dvals) (at rs.dlens) (rule_count rs)) (run_from (at rs.dvals) (at rs.dlens) (rule_count rs))
  own_runs = runs_exist (at rs.dvals) (at rs.dlens) (rule_count rs)

  -- refusal 7, for elements or for the list of tries, zeroes all scratch and changes nothing else
  pub rules_room : {d : ℕ} → out ≡ Err (Room d) → NoRuleRecord rec × (s ≡ replicate (length scratch) 0) × (rows' ≡ rows) × (list' ≡ list)
  rules_room {d} e =
      let kept = b.keeps.refused (λ a. refused_not_accepted (sym e ∙ a)) in
      (kept.0, past_scratch own_runs (λ x f. omega (arith, ap outcome_number (sym e ∙ f))), kept.1, kept.2)

  -- past test 6: 7 where the least costs of all tries together exceed the room lent or the most elements; else 7, "after elements, detail
  -- the rows needed", where the list has fewer rows than there are source tries; else the build is accepted
  module _ (m : ℕ) (from least : ℕ → ℕ) (r : RunsOf rs m from) (c : (g : ℕ) → g ≤ m → 1 ≤ k → Cheapest kind k (rule_trie W rs m from g) (least g))
      (p : Gives (rule_scratch_tests W k links rs (length scratch) m from) (Ok tt)) where
    abbrev total : ℕ
    total = sum_first least (suc m)

    past : out ≡ outcome (room_test total (shortest rows) ∷ trie_list_test (length list) m ∷ [])
    past =
        gives_outcome _ out (b.tested m from least r c)
        ∙ rule_tests_late W k links rs (length scratch) m from (shortest rows) (length list) least (sym (gives_outcome _ (Ok tt) p))

    pub rules_elements : (shortest rows < total) ⊎ (ELEMENTS < total) → out ≡ Err (Room total)
    rules_elements o = past ∙ outcome_fails (room_test total (shortest rows)) (trie_list_test (length list) m ∷ []) (over o)
      where
        over : (shortest rows < total) ⊎ (ELEMENTS < total) → (ltb (shortest rows) total || ltb ELEMENTS total) ≡ true
        over (inl h) = rw (lt-ltb (shortest rows) total h) refl
        over (inr h) = elim (dec_le total (shortest rows)) [
          | yes q ↦ rw (le-ltb (shortest rows) total q, lt-ltb ELEMENTS total h) refl
          | no q ↦ rw (lt-ltb (shortest rows) total (omega arith)) refl
        ]

    within : total ≤ shortest rows → total ≤ ELEMENTS → out ≡ outcome (trie_list_test (length list) m ∷ [])
    within h q =
        past ∙ outcome_passes (room_test total (shortest rows)) (trie_list_test (length list) m ∷ []) (rw (le-ltb (shortest rows) total h, le-ltb ELEMENTS total q) refl)

    pub rules_list : total ≤ shortest rows → total ≤ ELEMENTS → length list / trie_row_cells < m → out ≡ Err (Room m)
    rules_list h q l = within h q ∙ outcome_fails (trie_list_test (length list) m) [] (lt-ltb (length list / trie_row_cells) m l)

    pub rules_fit : total ≤ shortest rows → total ≤ ELEMENTS → m ≤ length list / trie_row_cells → out ≡ Ok tt
    unfolding outcome
    rules_fit h q l = within h q ∙ outcome_passes (trie_list_test (length list) m) [] (le-ltb (length list / trie_row_cells) m l)

  module _ (e : out ≡ Ok tt) where
    -- an accepted build zeroes all scratch, writes rows 0 to E - 1 and the rows of its tries in the list, and keeps what comes after them
    pub rules_accepted : (s ≡ replicate (length scratch) 0) × ((i : ℕ) → rec.elements ≤ i → row_at rows' i ≡ row_at rows i)
        × ((i : ℕ) → (b.laid e).m * trie_row_cells ≤ i → at list' i ≡ at list i)
    rules_accepted = (past_scratch own_runs (λ x f. absurd (refused_not_accepted (sym f ∙ e))), b.keeps.later e, (b.laid e).rest)

    up_to_scratch_lem :
        let m = run_count (at rs.dvals) (at rs.dlens) (rule_count rs) in
        let from = run_from (at rs.dvals) (at rs.dlens) (rule_count rs) in
        outcome (rule_scratch_tests W k links rs (length scratch) m from) ≡ Ok tt
    up_to_scratch_lem = rule_tests_scratch W k links rs (length scratch) _ _ (shortest rows) (length list) _ (sym (tests_out own_runs) ∙ e)

    pub rules_are_good : GoodRules W rs
    rules_are_good = scratch_tests_good W k links rs (length scratch) _ _ up_to_scratch_lem

    -- the gateway has the action of every rule that is accepted (02, [7])
    pub rules_have_links : Linked links rs.actions
    rules_have_links = scratch_tests_linked W k links rs (length scratch) _ _ up_to_scratch_lem

    -- ==== "least cost is asked only of each single trie"

    some_levels : 1 ≤ k
    some_levels = let d = (b.laid e).tries.dest in omega (arith, d.levels, d.built.levels.0)

    pub rules_cheapest : Cheapest kind k (rule_trie W rs (b.laid e).m (b.laid e).from 0) rec.dest.elements
        × ((g : ℕ) → g < (b.laid e).m → Cheapest kind k (rule_trie W rs (b.laid e).m (b.laid e).from (suc g)) (trie_row list' g).elements)
    rules_cheapest =
        let l = b.laid e in
        let trie = rule_trie W rs l.m l.from in (
          subst (Cheapest kind k (trie 0)) (sym (elements_cost l.tries.dest)) (follows_cheapest kind k (trie 0) (l.σ 0) some_levels (l.follows 0 (omega arith))),
          λ g h. subst (Cheapest kind k (trie (suc g))) (sym (elements_cost (l.tries.source g h)))
              (follows_cheapest kind k (trie (suc g)) (l.σ (suc g)) some_levels (l.follows (suc g) h)),
        )

    module _ (da sa : ℕ) (hd : da < 2 ^ W) (hs : sa < 2 ^ W) {v : Verdict} (c : Classified rec rows' list' da sa WIDTH v) where
      abbrev along : List ℕ → List ℕ
      along = rows_on_way W k rs (b.laid e).m (b.laid e).from (b.laid e).σ list' da sa

      -- ==== demand 2: the action of the rule that wins

      pub rules_decide : (verdict_number v ≡ 0) × ActionIs W rs da sa (action_of v)
      rules_decide =
          let l = b.laid e in
          let f = verdict_found l.tries rules_are_good da sa hd hs c in
          (ap verdict_number f ∙ verdict_number_lem _ _, subst (ActionIs W rs da sa) (sym (ap action_of f ∙ verdict_action _ _)) (laid_decides l.tries rules_are_good da sa hd hs l.runs))

      -- no rule exactly where no rule matches
      pub rules_none : (v ≡ NoRule (verdict_reads v)) ↔ NoRuleMatches W rs da sa
      rules_none = Iff.trans (none_by_action v rules_decide.0 c.case) (action_none rules_are_good rules_decide.1)

      -- and a discard exactly where the rule that wins discards ("actions follow the hop rules of [4]")
      pub rules_discard : (v ≡ Discard (verdict_reads v)) ↔ TopDiscards W rs da sa
      rules_discard = Iff.trans (discard_by_action v c.case) (action_discards rules_are_good rules_decide.1)

      -- and an action that is answered is a link that the gateway has, or a discard's, or none (02, [7])
      pub rules_link : unlinked links (action_of v) ≡ false
      rules_link = action_linked rules_are_good links rules_have_links rules_decide.1

      -- ==== the tries visited, and demand 3's last sentence over the paths in all of them

      module _ {ts on : List ℕ} {a : ℕ} (w : TriesWay rec rows' list' da sa ts on a) where
        is_way : (ts ≡ tries_visited (b.laid e).tries rules_are_good da sa hd hs) × (on ≡ along (tries_visited (b.laid e).tries rules_are_good da sa hd hs))
            × (a ≡ action_found (b.laid e).tries rules_are_good da sa hd hs)
        is_way = tries_way_unique w (laid_way (b.laid e).tries rules_are_good da sa hd hs)

        -- "source tries are visited from the longest matching destination down until one matches": those of the destinations that begin the
        -- address, where no rule that matches has a longer one; each shorter than the one before
        pub rules_visited : (g : ℕ) → Memᴰ g ts ↔ Calls W rs (b.laid e).m (b.laid e).from da sa g
        rules_visited g = rw is_way.0 (tries_called (b.laid e).tries rules_are_good da sa hd hs (b.laid e).runs g)

        pub rules_fall : Falls (at (trie_table rs (b.laid e).m (b.laid e).from 0).lens) (suc W) ts
        rules_fall = rw is_way.0 (tries_fall (b.laid e).tries rules_are_good da sa hd hs)

        -- the rows on the way are exactly those of the blocks of the 1-bit nodes that begin the addresses and at which the chosen strides
        -- begin a block, in the destination trie and then in each source trie visited
        pub rules_path : on ≡ along ts
        rules_path = rw is_way.0 is_way.1

        -- r reads are r such rows
        pub rules_reads : verdict_reads v ≡ length (along ts)
        rules_reads = (verdict_path c rules_decide.0 w).1 ∙ ap length rules_path

        -- and the verdict depends on the record, on those rows and on those tries' rows in their list alone
        pub rules_alone : (other : Lists) (otherList : List ℕ) → rec.elements ≤ shortest other → SameTries ts list' otherList → SameRows (along ts) rows' other
            → {v' : Verdict} → Classified rec other otherList da sa WIDTH v' → v ≡ v'
        rules_alone other otherList fits tries same = verdict_alone c rules_decide.0 w other otherList fits tries (rw rules_path same)

      -- and there is such a way
      pub rules_way : (ts : List ℕ) × TriesWay rec rows' list' da sa ts (along ts) (action_of v)
      rules_way =
          let t = c.told rules_decide.0 in (t.0, subst (λ (on : List ℕ). TriesWay rec rows' list' da sa t.0 on (action_of v)) (rules_path t.2) t.2)

      -- "at most 34 times k"
      pub rules_few : verdict_reads v ≤ 34 * k
      rules_few = rw (← (b.laid e).tries.dest.levels) (verdict_few c)

-- one list of rules decides one action, however it is built: any kinds, any k, any numbers of links, any room
pub one_rules : {kind kind' : Kind} {W k k' links links' : ℕ} {rs : Rules} {scratch scratch' : List ℕ} {rows rows' : Lists} {list list' : List ℕ} {out out' : Outcome} {rec rec' : RuleRecord}
    {s s' : List ℕ} {rows1 rows2 : Lists} {list1 list2 : List ℕ} → RuleBuilds kind W k links rs scratch rows list out rec s rows1 list1
    → RuleBuilds kind' W k' links' rs scratch' rows' list' out' rec' s' rows2 list2 → out ≡ Ok tt → out' ≡ Ok tt → (da sa : ℕ) → da < 2 ^ W → sa < 2 ^ W
    → {v v' : Verdict} → Classified rec rows1 list1 da sa WIDTH v → Classified rec' rows2 list2 da sa WIDTH v' → action_of v ≡ action_of v'
one_rules b b' e e' da sa hd hs c c' =
    action_unique (rules_are_good b e) (rules_decide b e da sa hd hs c).1 (rules_decide b' e' da sa hd hs c').1
