use native.Mathlib.Omega.{arith}
use Rattle.cases.proofs.Climbing.{step_held}
use Rattle.cases.proofs.rising.step_of.Goals as goal

pub returns : goal.returns
returns c = step_held c.args.width c.args.bits (omega arith)
