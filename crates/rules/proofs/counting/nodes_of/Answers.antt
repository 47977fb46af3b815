use mathlib.Core.Path.{sym, ap, ◌∙◌}
use Rattle.table.specs.Refusals.{refusal_detail, outcome_of}
use Rattle.rules.proofs.Planning.{needs_nodes}
use Rattle.rules.proofs.counting.nodes_of.Goals as goal

pub returns-in-Scratch : goal.returns-in-Scratch
unfolding outcome_of
returns-in-Scratch c =
    ap refusal_detail (sym c.in-Scratch.is ∙ needs_nodes c.requires c.in-Err.refusal c.choose-chosen.ensures.exact.tests (ap outcome_of c.in-Err.is))

pub returns-in_default-refusal : goal.returns-in_default-refusal
unfolding outcome_of
returns-in_default-refusal c =
    absurd (c.in_default-refusal.not-Scratch _ (needs_nodes c.requires c.in-Err.refusal c.choose-chosen.ensures.exact.tests (ap outcome_of c.in-Err.is)))
