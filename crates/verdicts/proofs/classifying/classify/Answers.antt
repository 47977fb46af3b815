use Rattle.table.proofs.Refusals.{handed_on}
use Rattle.verdicts.proofs.Classified.{can_visit, early_tests_passed, promised_early, promised_damaged, promised_on, dest_reads}
use Rattle.verdicts.proofs.classifying.classify.Goals as goal

pub returns-in_err-tested : goal.returns-in_err-tested
returns-in_err-tested c =
    let p = promised_early _ _ _ _ _ c.len.ensures _ c.in_err-tested.ensures in
    rw (handed_on _ c.from_residual.ensures.1) (record { exact = p.0; meaning = p.1 })

pub returns-in_err-found : goal.returns-in_err-found
returns-in_err-found c =
    let p = promised_damaged _ _ _ _ _ c.len.ensures c.in_ok-tested.ensures _ c.in_err-found.ensures.exact in
    rw (handed_on _ c.from_residual-in_err-found.ensures.1) (record { exact = p.0; meaning = p.1 })

pub invariant_of-tries : goal.invariant_of-tries
invariant_of-tries c = record { can_visit = can_visit _ _ c.args.list.now _ _ (early_tests_passed _ _ c.args.list.now _ _ c.len.ensures c.in_ok-tested.ensures) }

pub visit_tries-requires : goal.visit_tries-requires
visit_tries-requires c = dest_reads _ _ c.args.list.now _ _ c.len.ensures c.in_ok-tested.ensures c.in_ok-found.found c.from.ensures c.in_ok-found.ensures.exact

pub returns : goal.returns
returns c =
    let p = promised_on _ _ _ _ _ c.len.ensures c.in_ok-tested.ensures c.in_ok-found.found c.from.ensures c.in_ok-found.ensures.exact
    (rw (c.from-2.ensures, c.called.ensures) at c.visit_tries.ensures) in
    record { exact = p.0; meaning = p.1 }
