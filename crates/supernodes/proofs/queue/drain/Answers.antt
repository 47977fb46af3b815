use native.Mathlib.Omega.{arith}
use Rattle.supernodes.proofs.Lining.{loop_first, loop_room, loop_push, loop_next, loop_end}
use Rattle.supernodes.proofs.queue.drain.Goals as goal

pub loop-i-init : goal.loop-i-init
loop-i-init c = loop_first _ _

pub overflow_add-i : goal.overflow_add-i
overflow_add-i c =
    omega (arith, (loop_room c.loop-i.invariant c.loop-i-test.true c.requires).1, c.well_formed.0.0, c.loop-i.invariant.long)

pub asked-k-requires : goal.asked-k-requires
asked-k-requires c = ((loop_room c.loop-i.invariant c.loop-i-test.true c.requires).0, omega arith)

pub push-tail-requires : goal.push-tail-requires
push-tail-requires c =
    loop_push c.loop-i.invariant c.loop-i-test.true c.asked-k.ensures c.requires

pub overflow_add-i-in-loop-i : goal.overflow_add-i-in-loop-i
overflow_add-i-in-loop-i c =
    omega (arith, (loop_room c.loop-i.invariant c.loop-i-test.true c.requires).1, c.well_formed.0.0, c.loop-i.invariant.long)

pub loop-i-smaller : goal.loop-i-smaller
loop-i-smaller c =
    omega (arith, (loop_room c.loop-i.invariant c.loop-i-test.true c.requires).1, c.loop-i.invariant.long)

pub loop-i-preserved : goal.loop-i-preserved
loop-i-preserved c =
    loop_next c.loop-i.invariant c.loop-i-test.true c.asked-k.ensures (omega arith) c.push-tail.ensures

pub returns : goal.returns
returns c = loop_end c.loop-i.invariant c.loop-i-test.false
