use Rattle.walk.specs.Packed.{unpacked}
use Rattle.walk.proofs.Answers.{best_has_numbers}
use Rattle.walk.proofs.numbers.Found.unpacked.Goals as goal

pub returns : goal.returns
returns c = best_has_numbers (unpacked c.args.best) c.args.reads c.requires.1
