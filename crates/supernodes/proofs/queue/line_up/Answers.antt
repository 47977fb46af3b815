use Rattle.supernodes.proofs.Lining.{line_push, line_drain, line_out}
use Rattle.supernodes.proofs.queue.line_up.Goals as goal

pub push-first-requires : goal.push-first-requires
push-first-requires c = line_push c.requires

pub drain-requires : goal.drain-requires
drain-requires c = line_drain c.push-first.ensures c.requires

pub returns : goal.returns
returns c = line_out c.push-first.ensures c.drain.ensures
