-- The loop's invariant: the numbers of levels passed are filled in, and the rows after are as they were.
use Prim.Native.Nat.{◌≤◌}
use mathlib.Core.Path.{◌≡◌}
use lib.ListN.{length}
use Rattle.choosers.specs.FixedChoice.{level_cells, RowFilled}
use Rattle.choosers.proofs.fixed.fill_row.Given as goal

abbrev pub invariant-loop-r : goal.invariant-loop-r
invariant-loop-r l = (l.r ≤ l.levels) × (length l.costs ≡ level_cells) × (length l.strides ≡ level_cells) × RowFilled l.r l.n l.d l.i l.initial.costs l.initial.strides l.costs l.strides
