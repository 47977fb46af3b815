use mathlib.Core.Path.{sym, ◌∙◌}
use Rattle.table.proofs.Refusals.{handed_on}
use Rattle.table.proofs.Table.{each_end, each_refused, each_next}
use Rattle.fields.proofs.checking.rules_outcome.Goals as goal

pub returns-in_err-rule_outcome : goal.returns-in_err-rule_outcome
returns-in_err-rule_outcome c =
    handed_on _ c.from_residual.ensures.1
    ∙ sym (c.loop-i.invariant ∙ each_refused _ _ c.loop-i.i _ c.loop-i-test.true (sym c.rule_outcome.ensures ∙ c.in_err-rule_outcome.was))

pub loop-i-preserved : goal.loop-i-preserved
loop-i-preserved c =
    c.loop-i.invariant ∙ each_next _ _ c.loop-i.i _ c.loop-i-test.true (sym c.rule_outcome.ensures ∙ c.in_ok-rule_outcome.was)

pub returns : goal.returns
returns c = sym (c.loop-i.invariant ∙ each_end _ _ c.loop-i.i _ c.loop-i-test.false)
