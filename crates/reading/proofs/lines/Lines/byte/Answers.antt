-- Past the end a list read with a default gives the default.
use Rattle.std.proofs.Common.{rules}
use Rattle.reading.specs.Lines.{byte_at}
use Rattle.reading.proofs.lines.Lines.byte.Goals as goal

pub returns : goal.returns
unfolding byte_at
returns c = search rules
