-- The loop's invariant: the sums passed are lifted, all else is kept.
use Prim.Native.Nat.{◌≤◌}
use mathlib.Core.Path.{◌≡◌}
use lib.ListN.{length}
use Rattle.choosers.specs.Costs.{Lifted}
use Rattle.choosers.proofs.costs.lift.Given as goal

abbrev pub invariant-loop-i : goal.invariant-loop-i
invariant-loop-i l = (l.i ≤ l.n) × (length l.sums ≡ length l.initial.sums) × Lifted l.initial.sums l.up l.down l.i l.sums
