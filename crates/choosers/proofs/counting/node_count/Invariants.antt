-- The loop's invariant: the count of the entries passed.
use Rattle.std.proofs.Common.{◌≡◌}
use Rattle.table.specs.Table.{at}
use Rattle.strides.specs.Insertion.{node_count}
use Rattle.choosers.proofs.counting.node_count.Given as goal

abbrev pub invariant-loop-i : goal.invariant-loop-i
invariant-loop-i l = l.count ≡ node_count l.width (at l.entries.value.now) (at l.entries.length.now) l.i
