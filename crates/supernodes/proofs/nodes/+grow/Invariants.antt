use Prim.Native.Nat.{◌-◌}
use Rattle.supernodes.proofs.nodes.+grow.Given as goal

abbrev pub decreases-grow : goal.decreases-grow
decreases-grow l = l.width - l.d
