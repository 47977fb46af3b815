-- The loop's invariant: the numbers of levels passed are stored, all else is kept.
use Prim.Native.Nat.{◌≤◌}
use mathlib.Core.Path.{◌≡◌}
use lib.ListN.{length}
use Rattle.choosers.specs.Costs.{Stored}
use Rattle.choosers.proofs.costs.store.Given as goal

abbrev pub invariant-loop-r : goal.invariant-loop-r
invariant-loop-r l = (l.pass.from ≤ l.r) × (l.r ≤ l.pass.to) × (length l.rows ≡ length l.initial.rows) × Stored l.pass.from l.r l.initial.rows l.x l.depth l.first l.sums l.rows
