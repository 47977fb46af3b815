-- The contract is the invariant: the tree at each link, and the sums that it adds. The measure is the number of levels that can stand
-- below.
use Prim.Native.Nat.{◌-◌}
use Rattle.walk.specs.Limits.{WIDTH}
use Rattle.choosers.proofs.costs.+settle_tree.Given as goal

abbrev pub decreases-settle_tree : goal.decreases-settle_tree
decreases-settle_tree l = WIDTH - l.d
