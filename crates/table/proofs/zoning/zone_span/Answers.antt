use mathlib.Core.Path.{sym, ap₂, ◌∙◌}
use Prim.Native.Nat.{ℕ, ◌-◌}
use native.Mathlib.Omega.{arith}
use Rattle.std.proofs.lemmas.Grind.{common_steps}
use Rattle.table.specs.Refusals.{outcome_of}
use Rattle.table.proofs.Means.{span_gives}
use Rattle.table.proofs.Refusals.{ok_from}
use Rattle.table.proofs.Spans.{span_prefix, span_found}
use Rattle.table.proofs.zoning.zone_span.Goals as goal

pub returns-then-prefix_bad-clause-meaning : goal.returns-then-prefix_bad-clause-meaning
returns-then-prefix_bad-clause-meaning c = span_gives _ _ _ _ _ _ _ (grind (arith, common_steps, ok_from, span_prefix))

-- (Written out: where `grind` gives up, an edit would be refused for that and not for its meaning.)
pub returns-clause-meaning : goal.returns-clause-meaning
unfolding outcome_of
returns-clause-meaning c =
    let k = c.in_ok-table.ensures.table in
    span_gives _ _ _ _ _ _ _ (sym (span_found _ _ _ _ _ _ _ (sym c.in_ok-table.ensures.outcome) (sym c.prefix_bad.ensures ∙ c.if-prefix_bad.false)
    (rw k.2 at c.zone_from-from.ensures) (ap₂ (λ (x y : ℕ). x - y) (rw (k.0, k.2) at c.zone_to-to.ensures) (rw k.2 at c.zone_from-from.ensures))))
