use Prim.Native.Nat.{◌/◌, ◌^◌}
use native.Mathlib.Omega.{arith}
use lib.Pow.{pow_pos}
use Rattle.table.proofs.Shifts.{one_shl}
use Rattle.walk.proofs.Bits.{and_shl}
use Rattle.walk.proofs.address.cut.Goals as goal

pub overflow_sub-mask : goal.overflow_sub-mask
overflow_sub-mask c = omega (arith, one_shl 64 c.args.s (omega arith), pow_pos c.args.s)

pub returns : goal.returns
returns c = and_shl 64 c.args.s (c.args.address / 2 ^ c.args.rest) (omega arith)
