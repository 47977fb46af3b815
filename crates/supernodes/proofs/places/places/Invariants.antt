use Prim.Native.Nat.{suc}
use Rattle.supernodes.specs.Spots.{PlacesFound}
use Rattle.supernodes.proofs.places.places.Given as goal

abbrev pub invariant-loop-i : goal.invariant-loop-i
invariant-loop-i l = PlacesFound l.rows l.k (suc l.i) l.p
