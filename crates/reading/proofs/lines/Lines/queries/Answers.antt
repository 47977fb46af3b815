-- A turn reads the next address, or ends at its bad line.
use Rattle.std.proofs.Common.{refl, ◌∙◌, arith}
use Rattle.reading.proofs.Listing.{queries_none, query_bad, query_next}
use Rattle.reading.proofs.lines.Lines.queries.Goals as goal

pub loop-i-init : goal.loop-i-init
loop-i-init c = record { text = refl; holds = queries_none _ _ _ _ }

pub returns-in_err-read-clause-took : goal.returns-in_err-read-clause-took
returns-in_err-read-clause-took c =
    let text = c.loop-i.invariant.text in
    query_bad text c.loop-i.invariant.holds c.from_residual.result (omega arith) c.in_err-read.ensures.took c.from_residual.ensures.1

pub loop-i-preserved : goal.loop-i-preserved
loop-i-preserved c =
    let text = c.loop-i.invariant.text in
    record {
      text = c.in_ok-read.ensures.text ∙ text;
      holds = query_next text c.loop-i.invariant.holds (omega arith) (omega arith) c.in_ok-read.ensures.took;
    }
