use native.Mathlib.Omega.{arith}
use Rattle.choosers.proofs.Plans.{make_in, settle_in, root_fits, plan_variable}
use Rattle.choosers.proofs.chooser.plan_variable.Goals as goal

pub make_rows-root-requires : goal.make_rows-root-requires
make_rows-root-requires c =
    rw c.zero.ensures (make_in _ _ _ _ _ _ c.requires)

pub settle_all-requires : goal.settle_all-requires
settle_all-requires c =
    let M = c.make_rows-root in (
      settle_in _ _ _ _ _ _ c.requires _ _ _ M.ensures
          (omega (arith, M.auto)),
      c.requires.levels.1,
    )

pub asked-requires : goal.asked-requires
asked-requires c =
    let M = c.make_rows-root in
    let T = c.settle_all in (
      root_fits _ _ _ _ _ _ c.requires _ _ _ M.ensures (omega (arith, M.auto))
          T.new.rows (omega (arith, T.auto)),
      omega (arith, c.requires.levels.1),
    )

pub asked-requires-2 : goal.asked-requires-2
asked-requires-2 c =
    let M = c.make_rows-root in
    let T = c.settle_all in (
      root_fits _ _ _ _ _ _ c.requires _ _ _ M.ensures (omega (arith, M.auto))
          T.new.rows (omega (arith, T.auto)),
      omega (arith, c.requires.levels.1),
    )

pub returns : goal.returns
returns c =
    let M = c.make_rows-root in
    let Z = c.zero in
    let T = c.settle_all in
    plan_variable _ _ _ _ _ _ c.requires _ _ _ M.ensures
    (omega (arith, M.auto, Z.auto)) _ _ _ (omega (arith, T.auto))
    T.ensures c.asked-2.ensures c.asked.ensures
