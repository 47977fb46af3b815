use mathlib.Core.Path.{refl}
use Rattle.std.proofs.lemmas.Result.{err_from_is_err_and}
use Rattle.table.specs.Refusals.{outcome_of}
use mathlib.Core.Path.{sym}
use Rattle.choosers.proofs.ChooseTests.{accepted_plan}
use Rattle.choosers.proofs.Choosing.{plan_refused, plan_accepted, plan_means}
use Rattle.choosers.proofs.chooser.plan_choice.Goals as goal

pub returns-in_err-tested : goal.returns-in_err-tested
unfolding outcome_of
returns-in_err-tested c =
    let p = err_from_is_err_and c.from_residual.result c.from_residual.ensures.1 in
    rw (p.1, p.2)
    (let b = plan_refused _ c.args.width c.args.levels c.args.links c.args.entries.value.now c.args.entries.length.now c.args.entries.hop.now c.args.scratch.now
    c.in_err-tested.ensures refl refl (refl, refl) (refl, refl) in record { exact = b; meaning = plan_means b })

pub planned-requires : goal.planned-requires
planned-requires c =
    accepted_plan c.args.width c.args.levels c.args.links c.args.entries.value.now c.args.entries.length.now c.args.entries.hop.now c.args.scratch.now
    (sym c.in_ok-tested.ensures)

pub returns : goal.returns
unfolding outcome_of
returns c =
    let passed = sym c.in_ok-tested.ensures in
    let b = plan_accepted _ c.args.width c.args.levels c.args.links c.args.entries.value.now c.args.entries.length.now c.args.entries.hop.now c.args.scratch.now
    passed c.planned.ensures in record { exact = b; meaning = plan_means b }
