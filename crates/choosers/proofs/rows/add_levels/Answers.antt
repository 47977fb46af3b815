use Prim.Native.Nat.{◌<◌}
use mathlib.Core.Path.{◌∙◌}
use native.Mathlib.Omega.{arith}
use lib.ListN.{length-set}
use Rattle.walk.specs.Limits.{WIDTH}
use Rattle.choosers.proofs.LevelCounts.{in_levels_same, in_levels_one, run_next}
use Rattle.choosers.proofs.rows.add_levels.Goals as goal

pub loop-j-init : goal.loop-j-init
loop-j-init c = (omega arith, omega arith, c.requires.2.long, λ i h. omega (arith, in_levels_same c.args.from i))

pub overflow_add-counts : goal.overflow_add-counts
overflow_add-counts c =
    let l = c.loop-j in
    let w : l.j < WIDTH = omega arith in
    omega (arith, l.invariant.3 l.j w, c.requires.2.small l.j w, in_levels_one c.args.from l.j l.j)

pub loop-j-preserved : goal.loop-j-preserved
loop-j-preserved c =
    let l = c.loop-j in
    (omega arith, omega arith, length-set l.counts l.j _ ∙ l.invariant.2, run_next c.args.counts.now l.counts c.args.from l.j l.invariant.2 (omega arith) l.invariant.0 l.invariant.3)
