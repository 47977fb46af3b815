use Rattle.supernodes.proofs.Marking.{put_no_mark, one_mark, put_mark}
use native.Mathlib.Omega.{arith}
use Rattle.supernodes.proofs.maps.put_hop.Goals as goal

pub returns-then-mark-eq0 : goal.returns-then-mark-eq0
returns-then-mark-eq0 c = put_no_mark _ _ _ c.if-mark-eq0.true

pub bounds-hops-next : goal.bounds-hops-next
bounds-hops-next c = omega (arith, one_mark _ c.if-mark-eq0.false, c.requires)

pub returns : goal.returns
returns c = put_mark _ _ _ c.if-mark-eq0.false (omega (arith, one_mark _ c.if-mark-eq0.false, c.requires))
