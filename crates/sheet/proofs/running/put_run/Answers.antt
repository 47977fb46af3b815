-- The text is read, then refused or solved.
use Rattle.std.proofs.Common.{◌++◌, ◌∙◌, ap, arith}
use Rattle.reading.proofs.Holding.{good_contents}
use Rattle.sheet.proofs.Runs.{report_bad, report_good}
use Rattle.sheet.proofs.running.put_run.Goals as goal

pub solve-requires : goal.solve-requires
solve-requires c = (omega arith, good_contents _ c.in-Ok.ensures.exact)

pub returns-in-Ok : goal.returns-in-Ok
returns-in-Ok c = c.solve.ensures ∙ ap (λ x. c.args.page.now.items ++ x) (report_good _ c.in-Ok.ensures.exact)

pub returns-in-Err : goal.returns-in-Err
returns-in-Err c = c.put_refusal.ensures ∙ ap (λ x. c.args.page.now.items ++ x) (report_bad _ c.in-Err.ensures.exact)
