use Rattle.supernodes.specs.Marking.{place_marks, HopsPut}
use Rattle.supernodes.proofs.maps.put_hops.Given as goal

abbrev pub invariant-loop-i : goal.invariant-loop-i
invariant-loop-i l = HopsPut l.initial.hops l.first (place_marks l.rows l.p l.i) l.next l.hops
