use native.Mathlib.Omega.{arith}
use Rattle.supernodes.proofs.Marking.{mark_next}
use Rattle.supernodes.proofs.maps.put_hops.Goals as goal

pub loop-i-preserved : goal.loop-i-preserved
loop-i-preserved c = mark_next c.requires (omega (arith, c.loop-i-test.true)) c.loop-i.invariant c.asked.ensures c.put_hop-next.ensures (omega arith)
