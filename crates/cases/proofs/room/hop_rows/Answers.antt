use Rattle.cases.specs.Limits.{hop_row_count}
use Rattle.cases.proofs.Sizing.{sized}
use Rattle.cases.proofs.room.hop_rows.Goals as goal

pub returns : goal.returns
returns c = sized hop_row_count
