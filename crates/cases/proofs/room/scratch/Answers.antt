use Rattle.cases.specs.Limits.{SCRATCH}
use Rattle.cases.proofs.Sizing.{sized}
use Rattle.cases.proofs.room.scratch.Goals as goal

pub returns : goal.returns
returns c = sized SCRATCH
