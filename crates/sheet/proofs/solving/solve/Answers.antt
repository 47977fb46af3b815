-- The build, then its refusal or the answers that are looked up in what it left.
use Rattle.std.proofs.Common.{◌++◌, ◌∙◌, ap, refl}
use Rattle.table.specs.Refusals.{outcome_of}
use Rattle.reading.specs.Contents.{sheet_in}
use Rattle.sheet.proofs.Solutions.{lent_room, sheet_refused, sheet_accepted, queries_lent}
use Rattle.sheet.proofs.solving.solve.Goals as goal

pub invariant_of-queries : goal.invariant_of-queries
unfolding sheet_in
invariant_of-queries c = record { lent = queries_lent _ c.requires.1 }

pub returns-in-Err : goal.returns-in-Err
unfolding outcome_of
returns-in-Err c =
    rw (c.put_refusal.ensures, c.from.ensures, c.number.ensures, c.detail.ensures) (ap (λ x. c.args.page.now.items ++ x) (sheet_refused _ lent_room c.in-Err.ensures.built refl))

pub returns-in-Ok : goal.returns-in-Ok
unfolding sheet_in outcome_of
returns-in-Ok c =
    c.put_report.ensures ∙ rw c.rows.ensures (ap (λ x. c.args.page.now.items ++ x) (sheet_accepted _ lent_room c.in-Ok.ensures.built refl (queries_lent _ c.requires.1)))
