-- A turn reads the next entry's two lines, or ends at a bad one.
use Rattle.std.proofs.Common.{refl, ◌∙◌, arith}
use Rattle.reading.proofs.Listing.{entries_none, entry_bits_bad, entry_hop_bad, entry_next}
use Rattle.reading.proofs.lines.Lines.entries.Goals as goal

pub loop-i-init : goal.loop-i-init
loop-i-init c = record { text = refl; holds = entries_none _ _ _ _ _ }

pub returns-in_err-read-clause-took : goal.returns-in_err-read-clause-took
returns-in_err-read-clause-took c =
    let text = c.loop-i.invariant.text in
    entry_bits_bad text c.loop-i.invariant.holds c.from_residual.result (omega arith) c.in_err-read.ensures.took c.from_residual.ensures.1

pub returns-in_err-hop-clause-took : goal.returns-in_err-hop-clause-took
returns-in_err-hop-clause-took c =
    let text = c.loop-i.invariant.text in
    let next = c.in_ok-read.ensures.text ∙ text in
    entry_hop_bad text c.loop-i.invariant.holds next c.in_ok-read.ensures.took c.from_residual-in_err-hop.result (omega arith) c.in_err-hop.ensures.took
    c.from_residual-in_err-hop.ensures.1

pub loop-i-preserved : goal.loop-i-preserved
loop-i-preserved c =
    let text = c.loop-i.invariant.text in
    let next = c.in_ok-read.ensures.text ∙ text in
    record {
      text = c.in_ok-hop.ensures.text ∙ next;
      holds =
          entry_next text c.loop-i.invariant.holds next c.in_ok-read.ensures.took (omega arith) (omega arith) (omega arith) c.in_ok-hop.ensures.took;
    }
