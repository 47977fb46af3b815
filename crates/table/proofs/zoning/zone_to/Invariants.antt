-- The loop's invariant: the search from i finds what the search from the first entry finds.
use mathlib.Core.Path.{◌≡◌}
use lib.ListN.{length}
use Rattle.table.specs.Zone.{find, not_inside, zone_to}
use Rattle.table.specs.Table.{at}
use Rattle.table.proofs.zoning.zone_to.Given as goal

abbrev pub invariant-loop-i : goal.invariant-loop-i
invariant-loop-i l = let n = length l.e.value.now in
    zone_to l.table.width (at l.e.value.now) (at l.e.length.now) n l.p l.b ≡ find (not_inside l.table.width (at l.e.value.now) (at l.e.length.now) l.p l.b) n l.i
