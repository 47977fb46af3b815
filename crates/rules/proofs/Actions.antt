-- The action that rules decide is one: none exactly where no rule matches, a discard exactly where the rule that wins discards; and the
-- gateway has it where it has every rule's.
use mathlib.Core.Path.{◌≡◌, refl, sym, ap, ◌∙◌}
use mathlib.Core.Bool.{false, true≢false}
use mathlib.Core.Logic.{◌↔◌}
use Prim.Native.Nat.{ℕ}
use native.Mathlib.Omega.{arith}
use Rattle.table.specs.Limits.{discard_hop}
use Rattle.table.specs.Entry.{unlinked}
use Rattle.table.specs.Table.{at, Linked}
use Rattle.table.proofs.Table.{no_hop_linked}
use Rattle.fields.specs.Rules.{Rules, GoodRules}
use Rattle.fields.specs.Winning.{NoRuleMatches}
use Rattle.fields.proofs.Top.{top_unique}
use Rattle.rules.specs.Deciding.{ActionIs, no_rule, top_rule, TopDiscards}

module _ {W : ℕ} {rs : Rules} (good : GoodRules W rs) {da sa : ℕ} where
  pub action_unique : {a a' : ℕ} → ActionIs W rs da sa a → ActionIs W rs da sa a' → a ≡ a'
  action_unique (no_rule n) (no_rule n') = refl
  action_unique (no_rule n) (top_rule {j} t) = absurd (true≢false (sym t.marked ∙ n j t.inside))
  action_unique (top_rule {j} t) (no_rule n) = absurd (true≢false (sym t.marked ∙ n j t.inside))
  action_unique (top_rule {j = i} t) (top_rule {j} t') = ap (at rs.actions) (top_unique W rs good da sa i j t t')

  pub action_none : {a : ℕ} → ActionIs W rs da sa a → (a ≡ 0) ↔ NoRuleMatches W rs da sa
  action_none {a} d = (λ (z : a ≡ 0). to d z, λ n. action_unique d (no_rule n))
    where
      to : {a : ℕ} → ActionIs W rs da sa a → a ≡ 0 → NoRuleMatches W rs da sa
      to (no_rule n) z = n
      to (top_rule {j} t) z = absurd (omega (arith, z, (good.rule j t.inside).some_action))

  pub action_discards : {a : ℕ} → ActionIs W rs da sa a → (a ≡ discard_hop) ↔ TopDiscards W rs da sa
  action_discards {a} d = (λ (z : a ≡ discard_hop). to d z, λ t. action_unique d (top_rule t.1) ∙ t.2)
    where
      to : {a : ℕ} → ActionIs W rs da sa a → a ≡ discard_hop → TopDiscards W rs da sa
      to (no_rule n) z = absurd (omega arith)
      to (top_rule {j} t) z = (j, t, z)

  pub action_linked : (links : ℕ) → Linked links rs.actions → {a : ℕ} → ActionIs W rs da sa a → unlinked links a ≡ false
  action_linked links p (no_rule n) = no_hop_linked links
  action_linked links p (top_rule {j} t) = p j (omega (arith, t.inside, good.lengths.acts))
