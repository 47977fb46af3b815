-- The answers of a plan and of a chooser: the exact one, what it means, and that the meaning leaves one answer.
use mathlib.Core.Path.{◌≡◌, refl, ap, sym, subst, ◌∙◌}
use mathlib.Core.List.{List, []}
use mathlib.Core.Logic.{⊎_elim}
use Prim.Native.Nat.{ℕ, ◌≤◌}
use lib.ListN.{length, replicate}
use Rattle.std.specs.Prelude.{Ok, Err}
use Rattle.table.specs.declared.refusal.Refusal.{Refusal}
use Rattle.table.specs.Refusals.{Outcome, outcome, Gives}
use Rattle.table.proofs.Refusals.{outcome_gives, gives_unique, refused_not_accepted, accepted_or}
use Rattle.table.specs.Lists.{padded}
use Rattle.strides.specs.Trie.{Trie}
use Rattle.strides.specs.Cheapest.{Kind, Cheapest}
use Rattle.strides.specs.Recurrence.{plain, strides_by}
use Rattle.strides.specs.Choice.{SameBlocks}
use Rattle.strides.specs.Strides.{choice_by}
use Rattle.strides.proofs.Follows.{follows_unique}
use Rattle.strides.proofs.Cheapest.{least_cheapest, strides_named, cheapest_unique, named_unique}
use Rattle.walk.specs.Limits.{LEVELS}
use Rattle.layout.specs.Laid.{table_trie}
use Rattle.choosers.specs.Chooser.{choose_tests, if_accepted, ChosenIs, Chooses}
use Rattle.choosers.specs.Plans.{Planned, PlanIs, Plans}
use Rattle.choosers.proofs.ChooseTests.{accepted_levels}

-- ---- where an outcome accepts, and where it does not

accepted_value : {A : Type 0} {o : Outcome} → o ≡ Ok tt → (x y : A) → if_accepted o x y ≡ x
unfolding if_accepted
accepted_value {o = (Ok tt)} e x y = refl
accepted_value {o = Err r} e x y = absurd (refused_not_accepted e)

refused_value : {A : Type 0} {o : Outcome} → (o ≡ Ok tt → ⊥) → (x y : A) → if_accepted o x y ≡ y
unfolding if_accepted
refused_value {o = (Ok tt)} ne x y = absurd (ne refl)
refused_value {o = Err r} ne x y = refl

levels_some : (W k links : ℕ) (vs ls hs scratch : List ℕ) {out : Outcome} → out ≡ outcome (choose_tests W k links vs ls hs (length scratch)) → out ≡ Ok tt → 1 ≤ k
levels_some W k links vs ls hs scratch t e = (accepted_levels W k links vs ls hs (length scratch) (sym t ∙ e)).0

-- ---- a plan: the exact answer

pub plan_refused : (kind : Kind) (W k links : ℕ) (vs ls hs scratch : List ℕ) {out tested : Outcome} {r : Refusal} {cost root : ℕ} {strides plan : List ℕ}
    → tested ≡ outcome (choose_tests W k links vs ls hs (length scratch)) → tested ≡ Err r → out ≡ Err r
    → (cost ≡ 0) × (strides ≡ padded LEVELS []) → (plan ≡ padded LEVELS []) × (root ≡ 0)
    → PlanIs kind W k links vs ls hs scratch out cost strides plan root scratch
plan_refused kind W k links vs ls hs scratch {out} e f o z r =
    let ne : out ≡ Ok tt → ⊥ = λ a. refused_not_accepted (sym o ∙ a) in
    record {
      chosen = record {
        tests = o ∙ sym f ∙ e;
        costs = z.0 ∙ sym (refused_value ne _ _);
        named = z.1 ∙ ap (padded LEVELS) (sym (refused_value ne _ _));
        after = refl;
      };
      holds = λ a. absurd (ne a);
      refused = λ _. record { no_plan = r.0; no_root = r.1; kept = refl };
    }

pub plan_accepted : (kind : Kind) (W k links : ℕ) (vs ls hs scratch : List ℕ) {cost root : ℕ} {strides plan scratch' : List ℕ}
    → outcome (choose_tests W k links vs ls hs (length scratch)) ≡ Ok tt → Planned kind W k vs ls hs cost strides plan root scratch'
    → PlanIs kind W k links vs ls hs scratch (Ok tt) cost strides plan root scratch'
plan_accepted kind W k links vs ls hs scratch e p =
    record {
      chosen = record {
        tests = sym e;
        costs = p.least ∙ sym (accepted_value refl _ _);
        named = p.named ∙ ap (padded LEVELS) (sym (accepted_value refl _ _));
        after = refl;
      };
      holds = λ _. p.holds;
      refused = λ ne. absurd (ne refl);
    }

-- where it accepts: what the planning past the tests gave
pub plan_made : {kind : Kind} {W k links : ℕ} {vs ls hs scratch : List ℕ} {out : Outcome} {cost root : ℕ} {strides plan scratch' : List ℕ}
    → PlanIs kind W k links vs ls hs scratch out cost strides plan root scratch' → out ≡ Ok tt → Planned kind W k vs ls hs cost strides plan root scratch'
plan_made p e = record {
  least = p.chosen.costs ∙ accepted_value e _ _;
  named = p.chosen.named ∙ ap (padded LEVELS) (accepted_value e _ _);
  holds = p.holds e;
}

-- ---- a chooser: the exact answer

pub refused_is : {kind : Kind} {W k links : ℕ} {vs ls hs scratch : List ℕ} {out : Outcome} {r : Refusal} {cost root : ℕ} {strides plan scratch' : List ℕ}
    → PlanIs kind W k links vs ls hs scratch out cost strides plan root scratch' → out ≡ Err r
    → ChosenIs kind W k links vs ls hs scratch (Err r) 0 (padded LEVELS []) scratch'
unfolding if_accepted padded
refused_is p f = record {
  tests = sym f ∙ p.chosen.tests;
  costs = refl;
  named = refl;
  after = (p.refused (λ a. refused_not_accepted (sym f ∙ a))).kept;
}

pub chosen_is : {kind : Kind} {W k links : ℕ} {vs ls hs scratch : List ℕ} {out : Outcome} {cost root : ℕ} {strides plan rows rows' : List ℕ}
    → PlanIs kind W k links vs ls hs scratch out cost strides plan root rows → out ≡ Ok tt → rows' ≡ replicate (length scratch) 0
    → ChosenIs kind W k links vs ls hs scratch (Ok tt) cost strides rows'
unfolding if_accepted
chosen_is p e z =
    let m = plan_made p e in
    record { tests = sym e ∙ p.chosen.tests; costs = m.least; named = m.named; after = z }

-- ---- and what they mean

pub chosen_means : (kind : Kind) (W k links : ℕ) (vs ls hs scratch : List ℕ) {out : Outcome} {cost : ℕ} {strides scratch' : List ℕ}
    → ChosenIs kind W k links vs ls hs scratch out cost strides scratch' → Chooses kind W k links vs ls hs scratch out cost strides scratch'
chosen_means kind W k links vs ls hs scratch c =
    let t = table_trie W vs ls hs in
    let tests = choose_tests W k links vs ls hs (length scratch) in
    let some = levels_some W k links vs ls hs scratch c.tests in
    record {
      tested = subst (Gives tests) (sym c.tests) (outcome_gives tests);
      cheapest = λ e. subst (Cheapest kind k t) (sym (c.costs ∙ accepted_value e _ _)) (least_cheapest kind k t (some e));
      named = λ e. (strides_by plain kind k t, strides_named kind k t (some e), c.named ∙ ap (padded LEVELS) (accepted_value e _ _));
      zeroed = λ e. c.after ∙ accepted_value e _ _;
      refused = λ ne. (c.costs ∙ refused_value ne _ _, c.named ∙ ap (padded LEVELS) (refused_value ne _ _), c.after ∙ refused_value ne _ _);
    }

pub plan_means : {kind : Kind} {W k links : ℕ} {vs ls hs scratch : List ℕ} {out : Outcome} {cost root : ℕ} {strides plan scratch' : List ℕ}
    → PlanIs kind W k links vs ls hs scratch out cost strides plan root scratch' → Plans kind W k links vs ls hs scratch out cost strides plan root scratch'
plan_means p = record { chooses = chosen_means _ _ _ _ _ _ _ _ p.chosen; holds = p.holds; refused = p.refused }

-- ---- what it means leaves one answer

pub chooses_unique : (kind : Kind) (W k links : ℕ) (vs ls hs scratch : List ℕ) {out out' : Outcome} {cost cost' : ℕ} {strides strides' scratch' scratch'' : List ℕ}
    → Chooses kind W k links vs ls hs scratch out cost strides scratch' → Chooses kind W k links vs ls hs scratch out' cost' strides' scratch''
    → (out ≡ out') × (cost ≡ cost') × (strides ≡ strides') × (scratch' ≡ scratch'')
chooses_unique kind W k links vs ls hs scratch {out} {out'} {cost} {cost'} {strides} {strides'} {scratch'} {scratch''} c d =
    let o : out ≡ out' = gives_unique (choose_tests W k links vs ls hs (length scratch)) out out' c.tested d.tested in
    let rest : (cost ≡ cost') × (strides ≡ strides') × (scratch' ≡ scratch'')
    = ⊎_elim (λ (e : out ≡ Ok tt). accepted e (sym o ∙ e)) (λ (ne : out ≡ Ok tt → ⊥). not_accepted ne (λ (e : out' ≡ Ok tt). ne (o ∙ e))) (accepted_or out) in
    (o, rest.0, rest.1, rest.2)
  where
    t : Trie
    t = table_trie W vs ls hs

    accepted : out ≡ Ok tt → out' ≡ Ok tt → (cost ≡ cost') × (strides ≡ strides') × (scratch' ≡ scratch'')
    accepted e e' =
        let n = c.named e in
        let n' = d.named e' in
        (cheapest_unique kind k t (c.cheapest e) (d.cheapest e'), n.2 ∙ ap (padded LEVELS) (named_unique kind k t n.0 n'.0 n.1 n'.1) ∙ sym n'.2, c.zeroed e ∙ sym (d.zeroed e'))

    not_accepted : (out ≡ Ok tt → ⊥) → (out' ≡ Ok tt → ⊥) → (cost ≡ cost') × (strides ≡ strides') × (scratch' ≡ scratch'')
    not_accepted ne ne' =
        let r = c.refused ne in
        let r' = d.refused ne' in
        (r.0 ∙ sym r'.0, r.1 ∙ sym r'.1, r.2 ∙ sym r'.2)

-- ---- and so does a plan's, but for the rows in which the nodes lie

module _ (kind : Kind) (W k links : ℕ) (vs ls hs scratch : List ℕ) {out out' : Outcome} {cost cost' root root' : ℕ} {strides strides' plan plan' scratch' scratch'' : List ℕ}
    (c : Plans kind W k links vs ls hs scratch out cost strides plan root scratch') (d : Plans kind W k links vs ls hs scratch out' cost' strides' plan' root' scratch'') where
  -- one outcome, one cost, the same strides named
  pub plans_unique : (out ≡ out') × (cost ≡ cost') × (strides ≡ strides')
  plans_unique = let one = chooses_unique kind W k links vs ls hs scratch c.chooses d.chooses in (one.0, one.1, one.2)

  -- refused: the same plan, root and scratch
  pub no_plans_unique : (out ≡ Ok tt → ⊥) → (plan ≡ plan') × (root ≡ root') × (scratch' ≡ scratch'')
  no_plans_unique ne =
      let a = c.refused ne in
      let b = d.refused (λ e. ne (plans_unique.0 ∙ e)) in
      (a.no_plan ∙ sym b.no_plan, a.no_root ∙ sym b.no_root, a.kept ∙ sym b.kept)

  -- accepted: the strides that are read are the same wherever a block begins
  pub plans_read : (e : out ≡ Ok tt) (e' : out' ≡ Ok tt) → let t = table_trie W vs ls hs in
      SameBlocks t 0 (choice_by (c.holds e).σ t 0 k) (choice_by (d.holds e').σ t 0 k)
  plans_read e e' =
      follows_unique kind k (table_trie W vs ls hs) (c.holds e).σ (d.holds e').σ (c.holds e).follows (d.holds e').follows
