use Prim.Native.Nat.{◌+◌}
use mathlib.Core.Path.{◌∙◌}
use native.Mathlib.Omega.{arith}
use lib.ListN.{set, length-set}
use Rattle.choosers.proofs.Gathering.{lift_next}
use Rattle.choosers.proofs.costs.lift.Goals as goal

pub loop-i-preserved : goal.loop-i-preserved
loop-i-preserved c =
    let l = c.loop-i in (
      omega arith,
      length-set (set l.sums (c.args.up + l.i) _) (c.args.down + l.i) _ ∙ length-set l.sums (c.args.up + l.i) _ ∙ l.invariant.1,
      lift_next c.args.sums.now c.args.up c.args.down l.sums c.args.n l.i _ c.requires.0 (omega arith) (omega arith) l.invariant.2 c.capped_sum.ensures,
    )
