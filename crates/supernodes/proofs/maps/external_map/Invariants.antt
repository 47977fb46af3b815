use mathlib.Core.Path.{◌≡◌}
use Rattle.pieces.specs.Maps.{map_of}
use Rattle.supernodes.specs.Marking.{taken_branch}
use Rattle.supernodes.proofs.maps.external_map.Given as goal

abbrev pub invariant-loop-i : goal.invariant-loop-i
invariant-loop-i l = l.map ≡ map_of l.i (taken_branch l.p)
