-- The loop's invariant: the scan up to stride j + 1.
use Rattle.std.proofs.Common.{◌≡◌}
use Rattle.strides.specs.Recurrence.{scan}
use Rattle.choosers.specs.Costs.{price, column}
use Rattle.choosers.proofs.costs.cheapest.Given as goal

abbrev pub invariant-loop-j : goal.invariant-loop-j
invariant-loop-j l = (l.b.cost ≡ (scan (price (column l.below.first l.below.pitch l.below.list.now) l.n) l.j).1) × (l.b.place ≡ (scan (price (column l.below.first l.below.pitch l.below.list.now) l.n) l.j).0)
