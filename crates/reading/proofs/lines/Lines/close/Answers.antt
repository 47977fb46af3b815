use Rattle.std.proofs.Common.{arith, refl}
use Rattle.reading.proofs.Keys.{byte_inside}
use Rattle.reading.proofs.Reading.{close_open, close_done}
use Rattle.reading.proofs.Taking.{took_bad, took_good}
use Rattle.reading.proofs.lines.Lines.close.Goals as goal

pub returns-then-byte-ne10-clause-took : goal.returns-then-byte-ne10-clause-took
returns-then-byte-ne10-clause-took g c d = took_bad _ c.bad.ensures (close_open _ _ _ d refl c.byte.ensures c.if-byte-ne10.true)

pub invariant_of-self-clause-inside : goal.invariant_of-self-clause-inside
invariant_of-self-clause-inside g c = let h = byte_inside c.args.self.now.text.now c.args.end (λ z. omega (arith, z, c.byte.ensures, c.if-byte-ne10.false)) in omega arith

pub returns-clause-took : goal.returns-clause-took
returns-clause-took g c d = took_good d _ (close_done _ _ _ d refl c.byte.ensures c.if-byte-ne10.false)
