-- The loop's invariant: the passes so far have settled the tree for `from` levels.
use Prim.Native.Nat.{◌≤◌, ◌-◌}
use mathlib.Core.Path.{◌≡◌}
use lib.ListN.{length}
use Rattle.choosers.specs.Costs.{TreeDone}
use Rattle.choosers.proofs.costs.settle_all.Given as goal

abbrev pub invariant-loop-from : goal.invariant-loop-from
invariant-loop-from l = (l.from ≤ l.levels) × (length l.rows ≡ length l.initial.rows) × TreeDone 0 l.from l.initial.rows l.k 0 l.rows

abbrev pub decreases-loop-from : goal.decreases-loop-from
decreases-loop-from l = l.levels - l.from
