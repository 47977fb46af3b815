use Prim.Native.Nat.{◌-◌}
use Rattle.supernodes.proofs.ranges.+nodes_in.Given as goal

abbrev pub decreases-nodes_in : goal.decreases-nodes_in
decreases-nodes_in l = l.width - l.d
