use Rattle.table.proofs.Refusals.{handed_on}
use Rattle.visits.proofs.Told.{told_early, told_empty, told_visits, follow_can}
use Rattle.visits.proofs.looking.find_bitmap.Goals as goal

pub returns-in_err-tested : goal.returns-in_err-tested
returns-in_err-tested c =
    let b = told_early _ _ _ _ _ c.len.ensures _ c.in_err-tested.ensures in
    rw (handed_on _ c.from_residual.ensures.1) (record { exact = b.0; meaning = b.1 })

pub returns-then-rec-eq0 : goal.returns-then-rec-eq0
returns-then-rec-eq0 c =
    let b = told_empty _ _ _ _ _ c.len.ensures c.in_ok-tested.ensures c.if-rec-eq0.true _ c.found_hop.ensures in record { exact = b.0; meaning = b.1 }

pub follow-requires : goal.follow-requires
follow-requires c = follow_can _ _ _ _ _ c.len.ensures c.in_ok-tested.ensures

pub returns : goal.returns
returns c =
    let b = told_visits _ _ _ _ _ c.len.ensures c.in_ok-tested.ensures c.if-rec-eq0.false _ c.follow.ensures in record { exact = b.0; meaning = b.1 }
