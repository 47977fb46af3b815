use Rattle.sheet.proofs.Meaning.{ran_reports}
use Rattle.sheet.proofs.Runs.{ran}
use Rattle.sheet.proofs.running.run.Goals as goal

pub returns : goal.returns
returns c =
    let r = ran c.args.text.now (rw c.new-page.ensures at c.put_run.ensures) c.hand_over.ensures.answer c.hand_over.ensures.left in
    record { exact = r; meaning = ran_reports r; fits = c.hand_over.ensures.fits }
