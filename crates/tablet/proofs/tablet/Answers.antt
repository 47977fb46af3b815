use Rattle.std.proofs.Common.{sym, ◌∙◌}
use Rattle.tablet.proofs.Whole.{prints}
use Rattle.tablet.proofs.tablet.Goals as goal

pub returns : goal.returns
returns g c =
    prints _ _ _ _ c.read_text.new.page c.buffer-page.result c.run_page-k.new.out c.in-Ok.got.count c.run_page-k.result
    (c.read_text.auto.page ∙ sym c.buffer-text.ensures.size) c.in-Ok.ensures.within c.in-Ok.ensures.bytes c.in-Ok.ensures.whole
    c.run_page-k.ensures.exact c.in-Ok-write_all.ensures.bytes
