-- The first i lookups are written, by both clauses of the lookup's promise, and the lists are still the caller's.
use Rattle.walk.specs.Lent.{lent}
use Rattle.gateway.specs.Batch.{BatchWritten}
use Rattle.gateway.specs.Lent.{answers_in, SameAnswers}
use Rattle.gateway.proofs.Writing.{Promised}
use Rattle.gateway.proofs.looking.hongsamuk_lookup_batch.Given as goal

abbrev pub invariant-loop-i : goal.invariant-loop-i
invariant-loop-i l =
    SameAnswers l.initial.answers l.answers × BatchWritten (Promised l.rec (lent l.rows)) l.address (answers_in l.initial.answers) (answers_in l.answers) l.i
