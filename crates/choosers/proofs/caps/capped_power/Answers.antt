-- Past the word a power is above every cap; within it the shift is the power.
use native.Mathlib.Omega.{arith}
use lib.Pow.{pow_mono}
use Rattle.choosers.proofs.caps.capped_power.Goals as goal

pub returns-then-s-ge64 : goal.returns-then-s-ge64
returns-then-s-ge64 c = omega (arith, pow_mono c.if-s-ge64.true)
