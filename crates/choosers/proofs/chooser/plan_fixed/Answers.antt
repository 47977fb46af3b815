use native.Mathlib.Omega.{arith}
use Rattle.choosers.proofs.Plans.{make_in, fixed_in, plan_fixed}
use Rattle.choosers.proofs.chooser.plan_fixed.Goals as goal

pub make_rows-root-requires : goal.make_rows-root-requires
make_rows-root-requires c =
    rw c.zero.ensures (make_in _ _ _ _ _ _ c.requires)

pub fixed_choice-f-requires : goal.fixed_choice-f-requires
fixed_choice-f-requires c =
    let M = c.make_rows-root in (
      _,
      fixed_in _ _ _ _ _ _ c.requires
          M.result M.new.rows M.new.counts M.ensures
          (omega (arith, M.auto)) c.longest_length-depth.result c.longest_length-depth.ensures,
    )

pub returns : goal.returns
returns c =
    let M = c.make_rows-root in
    plan_fixed _ _ _ _ _ _ c.requires
    M.result M.new.rows M.new.counts M.ensures
    (omega (arith, M.auto)) c.longest_length-depth.result _ _ c.longest_length-depth.ensures c.fixed_choice-f.ensures
