use mathlib.Core.Path.{refl}
use Rattle.cases.specs.Elements.{element_place}
use Rattle.cases.proofs.ElementLists.{place_more}
use Rattle.cases.proofs.text.Text.pass_rows.Goals as goal

pub loop-row-init : goal.loop-row-init
unfolding element_place
loop-row-init c = refl

pub loop-row-preserved : goal.loop-row-preserved
loop-row-preserved c =
    rw (c.read.ensures.next, c.loop-row.invariant, place_more c.args.self.now.bytes.now c.args.self.now.at c.loop-row.row) refl
