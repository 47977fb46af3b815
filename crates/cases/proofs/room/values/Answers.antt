use Rattle.cases.specs.Limits.{PLACES}
use Rattle.cases.proofs.Sizing.{sized}
use Rattle.cases.proofs.room.values.Goals as goal

pub returns : goal.returns
returns c = sized PLACES
