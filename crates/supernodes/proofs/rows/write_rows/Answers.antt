use Rattle.std.proofs.Common.{rules}
use native.Mathlib.Omega.{arith}
use Rattle.supernodes.proofs.Filing.{turned_first, turned_ask, turned_next, turned_end}
use Rattle.supernodes.proofs.rows.write_rows.Goals as goal

pub loop-i-init : goal.loop-i-init
loop-i-init c = record { same = search rules; turned = turned_first _ _ _ _ }

pub write_supernode-next-requires : goal.write_supernode-next-requires
write_supernode-next-requires c =
    turned_ask c.loop-i.invariant.turned c.loop-i-test.true c.requires

pub loop-i-preserved : goal.loop-i-preserved
loop-i-preserved c = record {
  same = search rules;
  turned = turned_next c.loop-i.invariant.turned c.loop-i-test.true c.requires c.write_supernode-next.ensures.wrote (omega arith);
}

pub returns-clause-wrote : goal.returns-clause-wrote
returns-clause-wrote c = turned_end c.loop-i.invariant.turned c.loop-i-test.false
