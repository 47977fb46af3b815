-- The loop's invariant: the search from i finds what the search from the start finds.
use mathlib.Core.Path.{◌≡◌}
use lib.ListN.{length}
use Rattle.table.specs.Zone.{find, not_below}
use Rattle.table.specs.Table.{at}
use Rattle.table.proofs.zoning.zone_from.Given as goal

abbrev pub invariant-loop-i : goal.invariant-loop-i
invariant-loop-i l = let n = length l.e.value.now in let P = not_below (at l.e.value.now) (at l.e.length.now) l.p l.b in find P n 0 ≡ find P n l.i
