use mathlib.Core.Path.{refl}
use native.Mathlib.Omega.{arith}
use Rattle.supernodes.proofs.Lining.{push_none, push_room, push_here, push_left, push_right, push_both}
use Rattle.supernodes.proofs.queue.+push.Goals as goal

pub returns-then-k-eq0 : goal.returns-then-k-eq0
returns-then-k-eq0 t c = push_none c.if-k-eq0.true

pub put-requires : goal.put-requires
put-requires t c = let q = c.requires in (push_room c.if-k-eq0.false q c.if-c-eq0.true, omega arith)

pub returns-then-c-eq0 : goal.returns-then-c-eq0
returns-then-c-eq0 t c = push_here c.if-k-eq0.false c.if-c-eq0.true c.put.ensures

pub push-next-requires : goal.push-next-requires
push-next-requires t c =
    let q = c.requires in
    (omega (arith, c.decreases), push_left c.if-k-eq0.false c.asked-left.ensures c.asked-right.ensures c.if-c-eq0.false refl q)

pub push-requires : goal.push-requires
push-requires t c =
    let q = c.requires in
    (omega (arith, c.decreases), push_right c.if-k-eq0.false c.asked-left.ensures c.asked-right.ensures c.if-c-eq0.false refl c.push-next.ensures q)

pub returns : goal.returns
returns t c =
    push_both c.if-k-eq0.false c.asked-left.ensures c.asked-right.ensures c.if-c-eq0.false refl c.push-next.ensures c.push.ensures
