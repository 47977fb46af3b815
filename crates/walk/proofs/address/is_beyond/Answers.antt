use mathlib.Core.Path.{sym}
use native.Mathlib.Omega.{arith}
use Rattle.walk.proofs.Bits.{held_below}
use Rattle.walk.proofs.address.is_beyond.Goals as goal

pub returns-then-width-gt-WIDTH : goal.returns-then-width-gt-WIDTH
returns-then-width-gt-WIDTH c = sym (held_below 32 c.args.width c.args.address (omega arith) (omega arith))
