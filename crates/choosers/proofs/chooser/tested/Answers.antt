use mathlib.Core.Path.{sym, ◌∙◌}
use Rattle.choosers.proofs.ChooseTests.{tests_scratch}
use Rattle.choosers.proofs.chooser.tested.Goals as goal

pub returns-then-words-nodes : goal.returns-then-words-nodes
returns-then-words-nodes c =
    sym
    (tests_scratch c.args.width c.args.levels c.args.links c.args.entries.value.now c.args.entries.length.now c.args.entries.hop.now c.args.words
    (sym c.is_outside.ensures ∙ c.if-is_outside.false) (sym c.is_outside-2.ensures ∙ c.if-is_outside-2.false)
    (sym c.check_table.ensures.exact ∙ c.in_ok-check_table.was) _ c.node_count-nodes.ensures c.if-words-nodes.true)
