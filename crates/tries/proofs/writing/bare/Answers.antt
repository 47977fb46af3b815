use native.Mathlib.Omega.{arith}
use Rattle.std.proofs.Common.{rules}
use Rattle.tries.proofs.Filling.{spread_part}
use Rattle.tries.proofs.writing.bare.Goals as goal

pub returns-clause-wrote : goal.returns-clause-wrote
returns-clause-wrote c = record {
  hop = spread_part (omega arith) (omega arith) (search rules);
  len = spread_part (omega arith) (omega arith) (search rules);
  link = spread_part (omega arith) (omega arith) (search rules);
  stride = spread_part (omega arith) (omega arith) (search rules);
}
