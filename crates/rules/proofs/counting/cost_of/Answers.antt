use Prim.Native.Nat.{◌*◌, ◌-◌}
use mathlib.Core.Path.{sym, ap, ◌∙◌}
use native.Mathlib.Omega.{arith}
use lib.ListN.{length-take}
use Rattle.table.specs.Refusals.{Outcome, outcome_of}
use Rattle.strides.specs.Recurrence.{plain, least_by}
use Rattle.layout.specs.Laid.{table_trie}
use Rattle.choosers.specs.Answered.{plan_cost}
use Rattle.choosers.specs.Chooser.{if_accepted}
use Rattle.choosers.specs.Kinds.{kind_of}
use Rattle.choosers.specs.Scratch.{ROW}
use Rattle.rules.proofs.Planning.{plan_passes, is_accepted}
use Rattle.rules.proofs.counting.cost_of.Goals as goal

pub unwrap-plan-requires : goal.unwrap-plan-requires
unwrap-plan-requires c =
    let long = length-take (c.nodes_of-words.result * ROW - 0) c.args.scratch.now in
    is_accepted c.plan_choice.result
    (c.plan_choice.ensures.exact.chosen.tests ∙ plan_passes c.requires.can_plan _ (omega (arith, long, c.nodes_of-words.ensures, c.requires.roomy)))

pub returns : goal.returns
unfolding if_accepted outcome_of
returns c =
    let s = c.args.split.now in
    let t = c.args.entries in
    let p = c.plan_choice.ensures.exact.chosen in
    let least = least_by plain (kind_of s.kind) s.levels (table_trie s.width t.value.now t.length.now t.hop.now) in
    let long = length-take (c.nodes_of-words.result * ROW - 0) c.args.scratch.now in
    ap plan_cost (sym c.unwrap-plan.ensures) ∙ p.costs
    ∙ ap (λ (o : Outcome). if_accepted o least 0) (p.tests ∙ plan_passes c.requires.can_plan _ (omega (arith, long, c.nodes_of-words.ensures, c.requires.roomy)))
