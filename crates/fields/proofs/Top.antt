-- The winner over two fields: the longest destination that begins the one address and has a source that begins the other; in its run
-- the longest such source. And two winners are one rule.
use mathlib.Core.Path.{◌≡◌, sym, ap, subst, ◌∙◌}
use mathlib.Core.Bool.{Bool, true, false, ◌&&◌, true≢false}
use mathlib.Core.Logic.{◌⊎◌, inl, inr, ⊎_elim}
use Prim.Native.Nat.{ℕ, zero, suc, ◌+◌, ◌-◌, ◌≤◌, ◌<◌}
use native.Mathlib.Nat.{eq-or-lt_of_le, le_of_suc-le-suc}
use native.Mathlib.Decide.{dec_le}
use native.Mathlib.Omega.{arith}
use lib.ListN.{length}
use lib.Dec.{eqb}
use borrow.Author.Tests.{eqb-true}
use Rattle.table.specs.Prefix.{start, starts_with, IsPrefix}
use Rattle.table.specs.Table.{at}
use Rattle.table.specs.Longest.{matches, IsBest, NoMatch}
use Rattle.table.proofs.Bools.{and_true, and_both, true_or_false}
use Rattle.table.proofs.Prefix.{below_not_same, below_trans}
use Rattle.table.proofs.Starts.{start_value}
use Rattle.table.proofs.Table.{match_one}
use Rattle.fields.specs.Rules.{Rules, rule_count, RuleBelow, GoodRules}
use Rattle.fields.specs.Winning.{matches_rule, TopRule, NoRuleMatches}
use Rattle.fields.specs.Runs.{Runs, EntryLists, trie_table}
use Rattle.fields.proofs.Runs.{InRun, run_of, from_within}
use Rattle.fields.proofs.Tables.{dest_lengths, dest_at, dest_table, source_lengths, source_at}

-- ---- where the winner stands

-- the entries of a table that begin a, and the longest of them
abbrev pub entry_matches : ℕ → EntryLists → ℕ → ℕ → Bool
entry_matches W t a = matches W (at t.vals) (at t.lens) a

abbrev pub BestEntry : (m : ℕ → Bool) → EntryLists → ℕ → Type 0
BestEntry m t j = IsBest m (at t.lens) (length t.vals) j

module _ (W : ℕ) (rs : Rules) (good : GoodRules W rs) {m : ℕ} {from : ℕ → ℕ} (r : Runs (at rs.dvals) (at rs.dlens) (rule_count rs) m from) (da sa : ℕ) where
  -- the table of trie x
  abbrev tab : ℕ → EntryLists
  tab x = trie_table rs m from x

  -- rule i of run g: its destination is the table's entry g, its source entry i - from g of the run's table
  dest_matches : (i g : ℕ) → InRun r i g → starts_with W (at rs.dvals i) (at rs.dlens i) da ≡ entry_matches W (tab 0) da g
  unfolding matches
  dest_matches i g q =
      let o = r.same g i q.run q.begun q.before in
      let a = dest_at rs m from g q.run in
      rw (o.0, o.1, a.0, a.1)

  source_matches : (g j : ℕ) → j < from (suc g) - from g
      → starts_with W (at rs.svals (from g + j)) (at rs.slens (from g + j)) sa ≡ entry_matches W (tab (suc g)) sa j
  unfolding matches
  source_matches g j h = let a = source_at rs m from g j h in rw (a.0, a.1)

  rule_matches : (i g : ℕ) → InRun r i g → matches_rule W rs da sa i ≡ entry_matches W (tab 0) da g && entry_matches W (tab (suc g)) sa (i - from g)
  unfolding matches_rule
  rule_matches i g q =
      let e : from g + (i - from g) ≡ i = omega (arith, q.begun) in
      let s = source_matches g (i - from g) (omega (arith, q.begun, q.before)) in
      rw (dest_matches i g q, rw e at s)

  -- hit says which runs have a source that begins sa
  module _ (hit : ℕ → Bool) (misses : (g : ℕ) → g < m → hit g ≡ false → NoMatch W (at (tab (suc g)).vals) (at (tab (suc g)).lens) (length (tab (suc g)).vals) sa) where
    -- a rule that matches is in a run whose destination begins da, and that run is hit
    hit_of : (i g : ℕ) → InRun r i g → matches_rule W rs da sa i ≡ true → (entry_matches W (tab 0) da g && hit g ≡ true) × (entry_matches W (tab (suc g)) sa (i - from g) ≡ true)
    hit_of i g q t =
        let p = and_true (entry_matches W (tab 0) da g) (entry_matches W (tab (suc g)) sa (i - from g)) (sym (rule_matches i g q) ∙ t) in
        let n = source_lengths W rs good r g q.run in (
          and_both _ _ p.0 (⊎_elim (λ (h : hit g ≡ true). h) (λ (h : hit g ≡ false).
              absurd (true≢false (sym p.1 ∙ misses g q.run h (i - from g) (omega (arith, n.0, q.begun, q.before))))) (true_or_false (hit g))),
          p.1,
        )

    -- run g is the longest destination that begins da and has one, and j the longest such source of it: rule from g + j wins
    pub top_found : (g j : ℕ) → BestEntry (λ x. entry_matches W (tab 0) da x && hit x) (tab 0) g → BestEntry (entry_matches W (tab (suc g)) sa) (tab (suc g)) j
        → TopRule W rs da sa (from g + j)
    top_found g j b s = record { inside = omega (arith, inside, from_within r (suc g) run); marked = marked; most = most }
      where
        run : g < m
        run = omega (arith, b.inside, (dest_lengths rs m from).0)

        inside : from g + j < from (suc g)
        inside = omega (arith, s.inside, (source_lengths W rs good r g run).0)

        here : InRun r (from g + j) g
        here = record { run = run; begun = omega arith; before = inside }

        dest : at rs.dlens (from g + j) ≡ at (tab 0).lens g
        dest = (r.same g (from g + j) run (omega arith) inside).1 ∙ sym (dest_at rs m from g run).1

        source : (x : ℕ) → x < from (suc g) - from g → at rs.slens (from g + x) ≡ at (tab (suc g)).lens x
        source x h = sym (source_at rs m from g x h).1

        begins : entry_matches W (tab 0) da g ≡ true
        begins = (and_true (entry_matches W (tab 0) da g) (hit g) b.marked).0

        marked : matches_rule W rs da sa (from g + j) ≡ true
        marked = let e : (from g + j) - from g ≡ j = omega arith in rule_matches (from g + j) g here ∙ and_both _ _ begins (rw e s.marked)

        most : (k : ℕ) → k < rule_count rs → matches_rule W rs da sa k ≡ true
            → (at rs.dlens k < at rs.dlens (from g + j)) ⊎ ((at rs.dlens k ≡ at rs.dlens (from g + j)) × (at rs.slens k ≤ at rs.slens (from g + j)))
        most k h t =
            let q = run_of r k h in
            let x = q.0 in
            let d = hit_of k x q.1 t in
            let le : at (tab 0).lens x ≤ at (tab 0).lens g = b.most x (omega (arith, (dest_lengths rs m from).0, q.1.run)) d.0 in
            let e : at rs.dlens k ≡ at (tab 0).lens x = (r.same x k q.1.run q.1.begun q.1.before).1 ∙ sym (dest_at rs m from x q.1.run).1 in
            ⊎_elim (λ (z : at (tab 0).lens x ≡ at (tab 0).lens g). inr (e ∙ z ∙ sym dest, same_run k x q.1 d.1 (one x q.1.run z d.0)))
            (λ (z : at (tab 0).lens x < at (tab 0).lens g). inl (omega (arith, e, dest, z))) (eq-or-lt_of_le le)
          where
            one : (x : ℕ) → x < m → at (tab 0).lens x ≡ at (tab 0).lens g → entry_matches W (tab 0) da x && hit x ≡ true → x ≡ g
            one x l z d =
                let n = (dest_lengths rs m from).0 in
                match_one W (at (tab 0).vals) (at (tab 0).lens) (at (tab 0).hops) (length (tab 0).vals) (dest_table W rs good r).entry da x g
                (omega (arith, n)) b.inside z (and_true (entry_matches W (tab 0) da x) (hit x) d).0 begins

            same_run : (k x : ℕ) → InRun r k x → entry_matches W (tab (suc x)) sa (k - from x) ≡ true → x ≡ g → at rs.slens k ≤ at rs.slens (from g + j)
            same_run k x q t i =
                let fx : from x ≡ from g = ap from i in
                let fy : from (suc x) ≡ from (suc g) = ap (λ (v : ℕ). from (suc v)) i in
                let y : from g + (k - from g) ≡ k = omega (arith, q.begun, fx) in
                let less : k - from g < from (suc g) - from g = omega (arith, q.begun, q.before, fx, fy) in
                let l = s.most (k - from g) (omega (arith, (source_lengths W rs good r g run).0, less)) (rw i at t) in
                let here : at rs.slens k ≡ at (tab (suc g)).lens (k - from g) = ap (at rs.slens) (sym y) ∙ source (k - from g) less in
                omega (arith, l, here, source j (omega (arith, inside)))

    -- no destination that begins da has one: no rule matches
    pub top_none : ((g : ℕ) → g < m → entry_matches W (tab 0) da g && hit g ≡ false) → NoRuleMatches W rs da sa
    top_none nil i h = ⊎_elim (λ (t : matches_rule W rs da sa i ≡ true).
        let q = run_of r i h in
        absurd (true≢false (sym (hit_of i q.0 q.1 t).0 ∙ nil q.0 q.1.run))) (λ (f : matches_rule W rs da sa i ≡ false). f)
        (true_or_false (matches_rule W rs da sa i))

-- ---- one rule wins

module _ (W : ℕ) (rs : Rules) (good : GoodRules W rs) where
  rule_trans : (i j k : ℕ) → RuleBelow rs i j → RuleBelow rs j k → RuleBelow rs i k
  rule_trans i j k (inl a) (inl b) = inl (below_trans a b)
  rule_trans i j k (inl a) (inr b) = inl (rw (b.0, b.1) at a)
  rule_trans i j k (inr a) (inl b) = inl (rw (← a.0, ← a.1) at b)
  rule_trans i j k (inr a) (inr b) = inr (a.0 ∙ b.0, a.1 ∙ b.1, below_trans a.2 b.2)

  -- a later rule stands above an earlier one
  pub rules_sorted : (i j : ℕ) → i < j → j < rule_count rs → RuleBelow rs i j
  rules_sorted i zero l h = absurd (omega arith)
  rules_sorted i (suc j) l h =
      let e : suc j - 1 ≡ j = omega arith in
      let here : RuleBelow rs j (suc j) = rw e at ((good.rule (suc j) h).above (omega arith)) in
      ⊎_elim (λ (q : i ≡ j). rw q here) (λ (q : i < j). rule_trans i j (suc j) (rules_sorted i j q (omega arith)) here) (eq-or-lt_of_le (le_of_suc-le-suc l))

  -- the same two prefixes
  abbrev Same : ℕ → ℕ → Type 0
  Same i j = (at rs.dvals i ≡ at rs.dvals j) × (at rs.dlens i ≡ at rs.dlens j) × (at rs.svals i ≡ at rs.svals j) × (at rs.slens i ≡ at rs.slens j)

  not_below_lem : (i j : ℕ) → Same i j → RuleBelow rs i j → ⊥
  not_below_lem i j s (inl x) = below_not_same s.0 s.1 x
  not_below_lem i j s (inr x) = below_not_same s.2 s.3 x.2

  -- so two rules with the same two prefixes are one
  pub same_rule : (i j : ℕ) → i < rule_count rs → j < rule_count rs → Same i j → i ≡ j
  same_rule i j hi hj s = elim (dec_le i j) [
    | yes p ↦ ⊎_elim (λ (e : i ≡ j). e) (λ (q : i < j). absurd (not_below_lem i j s (rules_sorted i j q hj))) (eq-or-lt_of_le p)
    | no p ↦ absurd (not_below_lem j i (sym s.0, sym s.1, sym s.2, sym s.3) (rules_sorted j i (omega arith) hi))
  ]

  pub top_unique : (da sa i j : ℕ) → TopRule W rs da sa i → TopRule W rs da sa j → i ≡ j
  unfolding matches_rule starts_with
  top_unique da sa i j p q =
      let a = p.most j q.inside q.marked in
      let b = q.most i p.inside p.marked in
      let d : at rs.dlens i ≡ at rs.dlens j = equal_first a b in
      let s : at rs.slens i ≡ at rs.slens j = equal_second a b in
      let x = good.rule i p.inside in
      let y = good.rule j q.inside in
      let mi = and_true (starts_with W (at rs.dvals i) (at rs.dlens i) da) (starts_with W (at rs.svals i) (at rs.slens i) sa) p.marked in
      let mj = and_true (starts_with W (at rs.dvals j) (at rs.dlens j) da) (starts_with W (at rs.svals j) (at rs.slens j) sa) q.marked in
      same_rule i j p.inside q.inside (
        one_value (at rs.dlens) (at rs.dvals) da i j d x.dest y.dest mi.0 mj.0,
        d,
        one_value (at rs.slens) (at rs.svals) sa i j s x.source y.source mi.1 mj.1,
        s,
      )
    where
      equal_first : {a b c d : ℕ} → (b < a) ⊎ ((b ≡ a) × (d ≤ c)) → (a < b) ⊎ ((a ≡ b) × (c ≤ d)) → a ≡ b
      equal_first (inl x) (inl y) = absurd (omega arith)
      equal_first (inl x) (inr y) = y.0
      equal_first (inr x) y = sym x.0

      equal_second : {a b c d : ℕ} → (b < a) ⊎ ((b ≡ a) × (d ≤ c)) → (a < b) ⊎ ((a ≡ b) × (c ≤ d)) → c ≡ d
      equal_second (inl x) (inl y) = absurd (omega arith)
      equal_second (inl x) (inr y) = absurd (omega (arith, y.0))
      equal_second (inr x) (inl y) = absurd (omega (arith, x.0))
      equal_second (inr x) (inr y) = omega (arith, x.1, y.1)

      one_value : (len val : ℕ → ℕ) (a i j : ℕ) → len i ≡ len j → IsPrefix W (val i) (len i) → IsPrefix W (val j) (len j)
          → eqb (start W (len i) a) (start W (len i) (val i)) ≡ true → eqb (start W (len j) a) (start W (len j) (val j)) ≡ true → val i ≡ val j
      one_value len val a i j e x y t u =
          start_value W (val i) (val j) (len i) x (subst (IsPrefix W (val j)) (sym e) y)
          (sym (eqb-true _ _ t) ∙ subst (λ (l : ℕ). start W l a ≡ start W l (val j)) (sym e) (eqb-true _ _ u))
