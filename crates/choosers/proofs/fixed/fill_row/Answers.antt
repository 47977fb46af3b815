use Prim.Native.Nat.{◌+◌, ◌*◌}
use mathlib.Core.Path.{◌∙◌}
use native.Mathlib.Omega.{arith}
use lib.ListN.{length-set}
use Rattle.walk.specs.Limits.{LEVELS}
use Rattle.choosers.proofs.FixedChoice.{fill_next}
use Rattle.choosers.proofs.fixed.fill_row.Goals as goal

pub loop-r-preserved : goal.loop-r-preserved
loop-r-preserved c =
    let l = c.loop-r in
    let C = c.choice-b in (
      omega arith,
      length-set l.costs (c.args.i * LEVELS + l.r) _ ∙ l.invariant.1,
      length-set l.strides (c.args.i * LEVELS + l.r) _ ∙ l.invariant.2,
      fill_next c.args.n c.args.d c.args.i c.args.costs.now c.args.strides.now l.costs l.strides l.r _ _ (omega arith) (omega (arith, c.requires.costs_len.0))
          (omega (arith, c.requires.costs_len.1)) l.invariant.3 C.ensures.cost C.ensures.place,
    )
