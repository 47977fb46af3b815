-- The loop's invariant: the levels from i on are filled in.
use Prim.Native.Nat.{◌≤◌}
use Rattle.table.specs.Table.{at}
use Rattle.choosers.specs.FixedChoice.{Filled}
use Rattle.choosers.proofs.fixed.fill_table.Given as goal

abbrev pub invariant-loop-i : goal.invariant-loop-i
invariant-loop-i l = (l.i ≤ l.depth) × Filled (at l.nodes) l.levels l.depth l.i l.costs l.strides
