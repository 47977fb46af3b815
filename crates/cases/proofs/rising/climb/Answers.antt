use Rattle.cases.proofs.Climbing.{climbed_start, climbed_on}
use Rattle.cases.proofs.rising.climb.Goals as goal

pub loop-i-init : goal.loop-i-init
loop-i-init c = climbed_start _ _ _ _ _ _

pub loop-i-preserved : goal.loop-i-preserved
loop-i-preserved c = climbed_on c.loop-i.invariant c.loop-i-test.true (rw c.from.ensures at c.held-value.ensures)
