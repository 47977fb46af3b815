use mathlib.Core.Path.{◌∙◌}
use Rattle.table.proofs.Refusals.{handed_on}
use Rattle.supernodes.proofs.Fitting.{scratch_early, checked_ask, scratch_short, scratch_passes}
use Rattle.supernodes.proofs.building.tested.Goals as goal

pub returns-in_err-check_table : goal.returns-in_err-check_table
returns-in_err-check_table c = handed_on _ c.from_residual.ensures.1 ∙ scratch_early _ _ _ _ _ c.args.words c.in_err-check_table.ensures.exact

pub nodes_in-nodes-requires : goal.nodes_in-nodes-requires
nodes_in-nodes-requires c = checked_ask _ _ _ _ _ c.args.words c.in_ok-check_table.ensures.exact

pub returns-then-words-nodes : goal.returns-then-words-nodes
returns-then-words-nodes c = scratch_short _ _ _ _ _ c.args.words c.in_ok-check_table.ensures.exact c.nodes_in-nodes.ensures c.if-words-nodes.true

pub returns : goal.returns
returns c = scratch_passes _ _ _ _ _ c.args.words c.in_ok-check_table.ensures.exact c.nodes_in-nodes.ensures c.if-words-nodes.false
