-- The loop's invariant: the numbers of levels passed are added.
use Prim.Native.Nat.{◌≤◌}
use mathlib.Core.Path.{◌≡◌}
use lib.ListN.{length}
use Rattle.choosers.specs.Costs.{RowAdded}
use Rattle.choosers.proofs.costs.add_row.Given as goal

abbrev pub invariant-loop-r : goal.invariant-loop-r
invariant-loop-r l = (l.pass.from ≤ l.r) × (l.r ≤ l.pass.to) × (length l.sums ≡ length l.initial.sums) × RowAdded l.pass.from l.r l.rows l.k l.line l.initial.sums l.sums
