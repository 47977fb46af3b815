-- Every address is tested before the first line is put.
use Rattle.std.proofs.Common.{◌++◌, ◌∙◌, ap, sym, append_assoc}
use Rattle.walk.specs.Lent.{lent}
use Rattle.sheet.specs.Printing.{refusal_lines}
use Rattle.sheet.proofs.Queries.{report_some, report_none, answers_fit}
use Rattle.sheet.proofs.answering.put_report.Goals as goal

pub put_answers-requires : goal.put_answers-requires
put_answers-requires c = answers_fit _ _ _ c.args.queries.lent c.requires c.put_head.ensures

pub returns-in-Some : goal.returns-in-Some
returns-in-Some c =
    let q = c.args.queries in
    c.put_refusal.ensures
    ∙ ap (λ n. c.args.page.now.items ++ refusal_lines n c.in-Some.i) (c.from.ensures ∙ c.number.ensures)
    ∙ ap (λ x. c.args.page.now.items ++ x)
    (report_some c.args.built.record (lent c.args.built.rows) q.addresses.now q.places.now (sym c.in-Some.ensures))

pub returns-in-None : goal.returns-in-None
returns-in-None c =
    let q = c.args.queries in
    rw (c.put_answers.ensures, c.put_head.ensures, append_assoc)
    (ap (λ x. c.args.page.now.items ++ x)
    (report_none c.args.built.record (lent c.args.built.rows) q.addresses.now q.places.now (sym c.in-None.ensures)))
