use Rattle.table.proofs.Refusals.{handed_on}
use Rattle.walk.proofs.Told.{told_early, told_empty, told_rootless, told_walks, follow_can}
use Rattle.walk.proofs.walk.find.Goals as goal

pub returns-in_err-tested : goal.returns-in_err-tested
returns-in_err-tested c =
    let b = told_early _ _ _ _ c.len.ensures _ c.in_err-tested.ensures in
    rw (handed_on _ c.from_residual.ensures.1) (record { exact = b.0; meaning = b.1 })

pub returns-then-rec-eq0-2 : goal.returns-then-rec-eq0-2
returns-then-rec-eq0-2 c = let b = told_empty _ _ _ _ c.len.ensures c.in_ok-tested.ensures c.if-rec-eq0.true c.if-rec-eq0-2.true in record { exact = b.0; meaning = b.1 }

pub returns-then-rec-eq0 : goal.returns-then-rec-eq0
returns-then-rec-eq0 c = let b = told_rootless _ _ _ _ c.len.ensures c.in_ok-tested.ensures c.if-rec-eq0.true c.if-rec-eq0-2.false in record { exact = b.0; meaning = b.1 }

pub follow-requires : goal.follow-requires
follow-requires c = follow_can _ _ _ _ c.len.ensures c.in_ok-tested.ensures c.if-rec-eq0.false

pub returns : goal.returns
returns c = let b = told_walks _ _ _ _ c.len.ensures c.in_ok-tested.ensures c.if-rec-eq0.false _ c.follow.ensures in record { exact = b.0; meaning = b.1 }
