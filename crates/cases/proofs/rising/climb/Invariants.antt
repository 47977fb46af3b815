-- The loop's invariant: the entries passed are made, and the next value is known.
use Rattle.cases.proofs.Climbing.{Climbed}
use Rattle.cases.proofs.rising.climb.Given as goal

abbrev pub invariant-loop-i : goal.invariant-loop-i
invariant-loop-i l = Climbed l.i-end l.step l.bits l.initial.values l.initial.lengths l.initial.hops l.value l.i l.values l.lengths l.hops
