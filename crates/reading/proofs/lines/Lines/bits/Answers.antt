use Rattle.std.proofs.Common.{arith, refl, ap}
use mathlib.Core.Bool.{not}
use Rattle.reading.proofs.Digits.{read_most}
use Rattle.reading.specs.Taking.{digits_of}
use Rattle.reading.proofs.Reading.{bits_keyless, bits_few, bits_fine}
use Rattle.reading.proofs.Taking.{took_bad, took_close, fits_of, digits_small}
use Rattle.reading.proofs.Steps.{spells_fits}
use Rattle.reading.proofs.lines.Lines.bits.Goals as goal

pub returns-then-not-starts_with-clause-took : goal.returns-then-not-starts_with-clause-took
returns-then-not-starts_with-clause-took c = took_bad _ c.bad.ensures (bits_keyless _ _ _ _ c.starts_with.ensures (ap not c.if-not-starts_with.true))

pub returns-then-read-least-clause-took : goal.returns-then-read-least-clause-took
returns-then-read-least-clause-took c =
    took_bad _ c.bad-then-read-least.ensures
    (bits_few _ _ _ _ c.starts_with.ensures (ap not c.if-not-starts_with.false) c.digits-read.ensures c.if-read-least.true)

pub close-requires : goal.close-requires
close-requires c = (omega (arith, read_most _ _ _ _ c.digits-read.ensures), omega (arith, read_most _ _ _ _ c.digits-read.ensures))

pub returns-clause-took : goal.returns-clause-took
returns-clause-took c =
    took_close digits_of _ _ _ c.digits-read.result _ _ (λ z. refl)
    (bits_fine _ _ _ _ c.starts_with.ensures (ap not c.if-not-starts_with.false) c.digits-read.ensures c.if-read-least.false)
    (c.close.ensures.took c.digits-read.result)

pub returns-clause-fits : goal.returns-clause-fits
returns-clause-fits c =
    let few = read_most _ _ _ _ c.digits-read.ensures in
    fits_of _ c.digits-read.result c.close.result c.close.ensures.value (spells_fits (digits_small 2 _ _ _ c.digits-read.ensures, few), few)
