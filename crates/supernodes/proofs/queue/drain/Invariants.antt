use Prim.Native.Nat.{◌-◌}
use lib.ListN.{length}
use Rattle.supernodes.proofs.Lining.{Loop}
use Rattle.supernodes.proofs.queue.drain.Given as goal

abbrev pub invariant-loop-i : goal.invariant-loop-i
invariant-loop-i l = Loop l.initial.rows l.first l.rows l.tail l.i

abbrev pub decreases-loop-i : goal.decreases-loop-i
decreases-loop-i l = length l.initial.rows - l.i
