use Prim.Native.Nat.{◌+◌, ◌-◌}
use mathlib.Core.Path.{◌≡◌}
use native.Mathlib.Omega.{arith}
use Rattle.table.specs.Table.{at}
use Rattle.choosers.proofs.FixedChoice.{filled_next}
use Rattle.choosers.proofs.fixed.fill_table.Goals as goal

pub loop-i-preserved : goal.loop-i-preserved
loop-i-preserved c =
    let l = c.loop-i in
    let F = c.fill_row in
    let e : l.i - 1 + 1 ≡ l.i = omega arith in
    (omega arith, filled_next (at c.args.nodes.now) c.args.levels c.args.depth (l.i - 1) l.costs l.strides _ _ c.requires.nodes_len.1 (omega arith) (rw e l.invariant.1) F.ensures)
