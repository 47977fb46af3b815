-- The loop's invariant: the longest of the lengths passed.
use Rattle.std.proofs.Common.{◌≡◌}
use Rattle.table.specs.Table.{at}
use Rattle.strides.specs.Entries.{longest_length}
use Rattle.choosers.proofs.fixed.longest_length.Given as goal

abbrev pub invariant-loop-l : goal.invariant-loop-l
invariant-loop-l l = l.longest ≡ longest_length (at l.lens) l.l-index
