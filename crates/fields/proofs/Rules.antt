-- The check's tests pass exactly for good rules; test 4 of a rule, as tables of one entry tell it; test 5, by four comparisons.
use mathlib.Core.Path.{◌≡◌, refl, sym, subst, ◌∙◌}
use mathlib.Core.Bool
use mathlib.Core.Bool.{Bool, true, false, not, cond, ◌&&◌, ◌||◌}
use mathlib.Core.Logic.{◌⊎◌, inl, inr, ◌↔◌}
use Prim.Native.Nat.{ℕ, zero, suc, ◌-◌, ◌≤◌, ◌<◌, zero-le}
use native.Mathlib.Omega.{arith}
use lib.ListN.{length}
use lib.Dec.{ltb, eqb}
use borrow.Author.Tests.{ltb-false, eqb-true, not-false, lt-ltb, le-ltb, eq-eqb}
use Rattle.table.specs.Limits.{width_limit, outside}
use Rattle.table.specs.Prefix.{prefix_bad}
use Rattle.table.specs.Entry.{unlinked, below}
use Rattle.table.specs.Refusals.{Outcome, test, outcome, Gives, Numbered}
use Rattle.table.specs.Table.{at, width_test, Linked}
use Rattle.table.specs.declared.refusal.Refusal.TheVariants.{Width, Shape}
use Rattle.std.specs.Prelude.{Ok, Err}
use Rattle.table.proofs.Bools.{or_false, or_true, and_true, and_false}
use Rattle.table.proofs.Refusals.{outcome_passes, outcome_gives, gives_unique, accepted_passes}
use Rattle.table.proofs.Prefix.{prefix_is, prefix_of, below_is, below_of}
use Rattle.table.proofs.Table.{width_is, width_passes, each_are, each_pass, hop_positive, hop_linked, hop_good}
use Rattle.table.proofs.Numbered.{numbered_each}
use Rattle.fields.specs.Limits.{rule_limit}
use Rattle.fields.specs.Rules.{Rules, rule_count, rules_shape_bad, SameLengths, rule_bad, rule_below, RuleBelow, rule_order_bad, Rule, GoodRules}
use Rattle.fields.specs.Rules.{each_rule_tests, rule_list_tests, rule_tests, check_rules_of}

-- ---- test 3

pub lengths_are : (rs : Rules) → rules_shape_bad rs ≡ false → SameLengths rs × (rule_count rs ≤ rule_limit)
unfolding rules_shape_bad
lengths_are rs e =
    let n = rule_count rs in
    let a = not (eqb (length rs.dlens) n) in
    let b = not (eqb (length rs.svals) n) in
    let c = not (eqb (length rs.slens) n) in
    let d = not (eqb (length rs.actions) n) in
    let s = or_false (a || b || c || d) (ltb rule_limit n) e in
    let t = or_false (a || b || c) d s.0 in
    let u = or_false (a || b) c t.0 in
    let v = or_false a b u.0 in (
      record {
        dlengths = eqb-true _ _ (not-false _ v.0);
        svalues = eqb-true _ _ (not-false _ v.1);
        slengths = eqb-true _ _ (not-false _ u.1);
        acts = eqb-true _ _ (not-false _ t.1);
      },
      ltb-false _ _ s.1,
    )

lengths_pass : (rs : Rules) → SameLengths rs → rule_count rs ≤ rule_limit → rules_shape_bad rs ≡ false
unfolding rules_shape_bad
lengths_pass rs s h = simp (eq-eqb _ _ s.dlengths, eq-eqb _ _ s.svalues, eq-eqb _ _ s.slengths, eq-eqb _ _ s.acts, le-ltb _ _ h)

-- ---- test 4

-- ---- test 5

pub rule_below_is : (rs : Rules) (i j : ℕ) → rule_below rs i j ≡ true → RuleBelow rs i j
unfolding rule_below
rule_below_is rs i j e = go (or_true _ _ e)
  where
    go : (below (at rs.dvals i) (at rs.dlens i) (at rs.dvals j) (at rs.dlens j) ≡ true)
        ⊎ ((eqb (at rs.dvals i) (at rs.dvals j) && (eqb (at rs.dlens i) (at rs.dlens j)
        && below (at rs.svals i) (at rs.slens i) (at rs.svals j) (at rs.slens j))) ≡ true) → RuleBelow rs i j
    go (inl h) = inl (below_is _ _ _ _ h)
    go (inr h) =
        let p = and_true (eqb (at rs.dvals i) (at rs.dvals j)) _ h in
        let q = and_true (eqb (at rs.dlens i) (at rs.dlens j)) _ p.1 in
        inr (eqb-true _ _ p.0, eqb-true _ _ q.0, below_is _ _ _ _ q.1)

pub rule_below_of : (rs : Rules) (i j : ℕ) → RuleBelow rs i j → rule_below rs i j ≡ true
unfolding rule_below
rule_below_of rs i j (inl h) = rw (below_of _ _ _ _ h)
rule_below_of rs i j (inr h) = rw (eq-eqb _ _ h.0, eq-eqb _ _ h.1, below_of _ _ _ _ h.2)
    (Bool.or-true (below (at rs.dvals i) (at rs.dlens i) (at rs.dvals j) (at rs.dlens j)))

-- ---- the whole check

module _ (W links : ℕ) (rs : Rules) where
  rule_is : (i : ℕ) → (rule_bad W links rs i ≡ false) × (rule_order_bad rs i ≡ false) → Rule W rs i
  unfolding rule_bad rule_order_bad
  rule_is i e =
      let p = or_false (prefix_bad W (at rs.dvals i) (at rs.dlens i)) _ e.0 in
      let q = or_false (prefix_bad W (at rs.svals i) (at rs.slens i)) _ p.1 in
      record {
        dest = prefix_is _ _ _ p.0;
        source = prefix_is _ _ _ q.0;
        some_action = hop_positive links _ q.1;
        above = λ z. rule_below_is rs (i - 1) i (not-false _ (and_false (ltb 0 i) _ (lt-ltb _ _ z) e.1));
      }

  action_linked : (i : ℕ) → rule_bad W links rs i ≡ false → unlinked links (at rs.actions i) ≡ false
  unfolding rule_bad
  action_linked i e =
      let p = or_false (prefix_bad W (at rs.dvals i) (at rs.dlens i)) _ e in
      hop_linked links _ (or_false (prefix_bad W (at rs.svals i) (at rs.slens i)) _ p.1).1

  rule_passes : (i : ℕ) → Rule W rs i → unlinked links (at rs.actions i) ≡ false → (rule_bad W links rs i ≡ false) × (rule_order_bad rs i ≡ false)
  unfolding rule_bad rule_order_bad
  rule_passes i r l = (simp (prefix_of _ _ _ r.dest, prefix_of _ _ _ r.source, hop_good links _ r.some_action l), in_order i r.above)
    where
      in_order : (i : ℕ) → (0 < i → RuleBelow rs (i - 1) i) → ltb 0 i && not (rule_below rs (i - 1) i) ≡ false
      in_order zero h = refl
      in_order (suc i) h = simp (rule_below_of rs (suc i - 1) (suc i) (h (omega arith)), lt-ltb 0 (suc i) (omega arith))

  -- what is accepted are good rules, and the gateway has their actions
  module _ (e : outcome (rule_tests W links rs) ≡ Ok tt) where
    rules_parts : (outside W width_limit ≡ false) × (rules_shape_bad rs ≡ false)
        × ((i : ℕ) → i < rule_count rs → (rule_bad W links rs i ≡ false) × (rule_order_bad rs i ≡ false))
    unfolding rule_tests rule_list_tests
    rules_parts =
        let p = accepted_passes (width_test W) (rule_list_tests W links rs) e in
        let q = accepted_passes (test Shape (rules_shape_bad rs)) (each_rule_tests W links rs 0 (rule_count rs)) p.1 in
        (p.0, q.0, λ i h. each_are (rule_bad W links rs) (rule_order_bad rs) 0 (rule_count rs) q.1 i zero-le (omega arith))

    pub rules_good : GoodRules W rs
    rules_good =
        let w = width_is width_limit W rules_parts.0 in
        let s = lengths_are rs rules_parts.1 in
        record { some_width = w.0; width = w.1; lengths = s.0; few = s.1; rule = λ i h. rule_is i (rules_parts.2 i h) }

    pub rules_linked : Linked links rs.actions
    rules_linked i h = action_linked i (rules_parts.2 i (omega (arith, rules_good.lengths.acts))).0

  -- and such rules are accepted
  pub good_rules : GoodRules W rs → Linked links rs.actions → outcome (rule_tests W links rs) ≡ Ok tt
  unfolding rule_tests rule_list_tests
  good_rules g l =
      outcome_passes (width_test W) (rule_list_tests W links rs) (width_passes width_limit W (λ (e : W ≡ 0). omega (arith, g.some_width)) g.width)
      ∙ outcome_passes (test Shape (rules_shape_bad rs)) (each_rule_tests W links rs 0 (rule_count rs)) (lengths_pass rs g.lengths g.few)
      ∙ each_pass (rule_bad W links rs) (rule_order_bad rs) 0 (rule_count rs) (λ j p q. rule_passes j (g.rule j (omega arith)) (l j (omega (arith, g.lengths.acts))))

  pub rules_exactly : (outcome (rule_tests W links rs) ≡ Ok tt) ↔ (GoodRules W rs × Linked links rs.actions)
  rules_exactly = (λ (e : outcome (rule_tests W links rs) ≡ Ok tt). (rules_good e, rules_linked e), λ g. good_rules g.0 g.1)

  -- how it ends, by the tests that led there
  pub check_rules_width : outside W width_limit ≡ true → check_rules_of W links rs ≡ Err Width
  unfolding check_rules_of rule_tests outcome
  check_rules_width w = simp w

  pub check_rules_gives : {r : Outcome} → r ≡ check_rules_of W links rs → Gives (rule_tests W links rs) r
  unfolding check_rules_of
  check_rules_gives e = subst (Gives (rule_tests W links rs)) (sym e) (outcome_gives (rule_tests W links rs))

  pub check_rules_shape : outside W width_limit ≡ false → rules_shape_bad rs ≡ true → check_rules_of W links rs ≡ Err Shape
  unfolding check_rules_of rule_tests rule_list_tests outcome
  check_rules_shape w s = simp (w, s)

  pub check_rules_each : outside W width_limit ≡ false → rules_shape_bad rs ≡ false → check_rules_of W links rs ≡ outcome (each_rule_tests W links rs 0 (rule_count rs))
  unfolding check_rules_of rule_tests rule_list_tests outcome
  check_rules_each w s = simp (w, s)

  -- and the meaning leaves one answer
  pub check_rules_unique : (r r' : Outcome) → Gives (rule_tests W links rs) r → Gives (rule_tests W links rs) r' → r ≡ r'
  check_rules_unique = gives_unique (rule_tests W links rs)

  pub numbered_rules : (most : ℕ) → 5 ≤ most → Numbered most (rule_tests W links rs)
  unfolding rule_tests rule_list_tests
  numbered_rules most h = ((omega arith, omega arith), ((omega arith, omega arith), numbered_each most h _ _ 0 (rule_count rs)))
