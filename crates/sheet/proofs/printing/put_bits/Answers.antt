use Rattle.std.proofs.Common.{arith, ◌∙◌}
use Rattle.sheet.proofs.Writing.{bits_none, bits_more, bits_fit}
use Rattle.sheet.proofs.printing.put_bits.Goals as goal

pub loop-i-init : goal.loop-i-init
loop-i-init c = (omega arith, bits_none _ _ _ (omega arith))

pub push-requires : goal.push-requires
push-requires c = (omega arith, omega (arith, bits_fit _ _ _ _ c.args.v c.loop-i.invariant.0 c.loop-i.invariant.1))

pub loop-i-preserved : goal.loop-i-preserved
loop-i-preserved c = (omega arith, c.push.ensures.items ∙ bits_more _ _ _ _ _ (omega arith) c.loop-i.invariant.0 c.loop-i.invariant.1)
