use Rattle.cases.specs.Limits.{TEXT}
use Rattle.cases.proofs.Sizing.{sized}
use Rattle.cases.proofs.room.page.Goals as goal

pub returns : goal.returns
returns c = sized TEXT
