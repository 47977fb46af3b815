-- The report of what stands on the page is that of the whole text, and a page has room for it.
use Rattle.std.proofs.Common.{arith}
use Rattle.sheet.proofs.Room.{run_writes}
use Rattle.sheet.proofs.Runs.{page_ran, page_reports}
use Rattle.sheet.proofs.running.run_page.Goals as goal

pub unwrap-requires : goal.unwrap-requires
unwrap-requires c = rw (run_writes (omega arith) c.run.ensures.exact)

pub returns : goal.returns
returns c =
    let ran = rw (c.unwrap.ensures, c.min.ensures) at c.run.ensures.exact in
    record { exact = page_ran _ c.args.n c.told-page ran; meaning = page_reports _ c.args.n c.told-page ran; fits = rw c.unwrap.ensures at c.run.ensures.fits }
