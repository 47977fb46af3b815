use native.Mathlib.Omega.{arith}
use Rattle.choosers.proofs.Settling.{pass_in, passes_next}
use Rattle.choosers.proofs.costs.settle_all.Goals as goal

pub settle_pass-requires : goal.settle_pass-requires
settle_pass-requires c =
    let l = c.loop-from in
    pass_in c.args.rows.now c.args.k l.from l.rows l.invariant.1 l.invariant.2 c.requires.0

pub loop-from-preserved : goal.loop-from-preserved
loop-from-preserved c =
    let l = c.loop-from in
    let P = c.settle_pass in
    let e = c.min-to.ensures in (
      omega (arith, e),
      omega (arith, P.auto),
      passes_next c.args.rows.now c.args.k l.from l.rows l.invariant.1 l.invariant.2 _ P.new.rows (omega (arith, e)) P.ensures,
    )
