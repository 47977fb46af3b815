use Rattle.visits.specs.Lent.{held, SameSupernodes}
use Rattle.supernodes.proofs.Filing.{Turned}
use Rattle.supernodes.proofs.rows.write_rows.Given as goal

abbrev pub invariant-loop-i : goal.invariant-loop-i
invariant-loop-i l = record {
  same : SameSupernodes l.initial.rows l.rows;
  turned : Turned l.nodes l.count (held l.initial.rows) l.initial.rows.hops.now l.i l.next.child l.next.hop (held l.rows) l.rows.hops.now;
}
