use mathlib.Core.Path.{◌≡◌}
use Rattle.pieces.specs.Maps.{map_of}
use Rattle.supernodes.specs.Marking.{marked_place}
use Rattle.supernodes.proofs.maps.internal_map.Given as goal

abbrev pub invariant-loop-i : goal.invariant-loop-i
invariant-loop-i l = l.map ≡ map_of l.i (marked_place l.rows l.p)
