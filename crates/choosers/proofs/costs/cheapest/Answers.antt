use mathlib.Core.Path.{refl}
use Rattle.strides.specs.Recurrence.{scan}
use Rattle.choosers.specs.Costs.{price, column}
use Rattle.choosers.proofs.Pricing.{scan_next}
use Rattle.choosers.proofs.costs.cheapest.Goals as goal

pub loop-j-init : goal.loop-j-init
unfolding scan
loop-j-init c = (c.price_at.ensures, refl)

pub loop-j-preserved : goal.loop-j-preserved
loop-j-preserved c =
    let l = c.loop-j in
    let g = price (column c.args.below.first c.args.below.pitch c.args.below.list.now) c.args.n in
    scan_next g l.j l.invariant.0 l.invariant.1 c.price_at-in-loop-j.ensures c.cheaper-b.ensures.other c.cheaper-b.ensures.less
