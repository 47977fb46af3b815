use mathlib.Core.Path.{sym, ◌∙◌}
use Rattle.table.proofs.Refusals.{handed_on}
use Rattle.table.proofs.Table.{each_end, each_refused, each_next}
use Rattle.table.proofs.checking.entries_outcome.Goals as goal

pub returns-in_err-entry_outcome : goal.returns-in_err-entry_outcome
returns-in_err-entry_outcome c =
    handed_on _ c.from_residual.ensures.1
    ∙ sym (c.loop-i.invariant ∙ each_refused _ _ c.loop-i.i _ c.loop-i-test.true (sym c.entry_outcome.ensures ∙ c.in_err-entry_outcome.was))

pub loop-i-preserved : goal.loop-i-preserved
loop-i-preserved c =
    c.loop-i.invariant ∙ each_next _ _ c.loop-i.i _ c.loop-i-test.true (sym c.entry_outcome.ensures ∙ c.in_ok-entry_outcome.was)

pub returns : goal.returns
returns c = sym (c.loop-i.invariant ∙ each_end _ _ c.loop-i.i _ c.loop-i-test.false)
