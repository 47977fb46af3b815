use Rattle.std.proofs.Common.{arith, refl, ap}
use mathlib.Core.Bool.{not}
use Rattle.reading.proofs.Digits.{read_most}
use Rattle.reading.proofs.Reading.{number_keyless, number_padded, number_above, number_fine}
use Rattle.reading.proofs.Taking.{took_bad, took_close}
use Rattle.reading.proofs.lines.Lines.number.Goals as goal

pub returns-then-not-starts_with-clause-took : goal.returns-then-not-starts_with-clause-took
returns-then-not-starts_with-clause-took c = took_bad _ c.bad.ensures (number_keyless _ _ _ _ _ c.starts_with.ensures (ap not c.if-not-starts_with.true))

pub returns-then-not-is_unpadded-clause-took : goal.returns-then-not-is_unpadded-clause-took
returns-then-not-is_unpadded-clause-took c =
    let has = ap not c.if-not-starts_with.false in
    took_bad _ c.bad-then-not-is_unpadded.ensures
    (number_padded _ _ _ _ _ c.starts_with.ensures has c.digits-read.ensures c.byte.ensures c.is_unpadded.ensures (ap not c.if-not-is_unpadded.true))

pub returns-then-most-read-clause-took : goal.returns-then-most-read-clause-took
returns-then-most-read-clause-took c =
    let has = ap not c.if-not-starts_with.false in
    let clean = ap not c.if-not-is_unpadded.false in
    took_bad _ c.bad-then-most-read.ensures
    (number_above _ _ _ _ _ c.starts_with.ensures has c.digits-read.ensures c.byte.ensures c.is_unpadded.ensures clean c.if-most-read.true)

pub close-requires : goal.close-requires
close-requires c = (omega (arith, read_most _ _ _ _ c.digits-read.ensures), omega (arith, read_most _ _ _ _ c.digits-read.ensures))

pub returns-clause-took : goal.returns-clause-took
returns-clause-took c =
    let has = ap not c.if-not-starts_with.false in
    let clean = ap not c.if-not-is_unpadded.false in
    took_close (λ l. l.value) _ _ _ c.digits-read.result _ _ (λ z. refl)
    (number_fine _ _ _ _ _ c.starts_with.ensures has c.digits-read.ensures c.byte.ensures c.is_unpadded.ensures clean c.if-most-read.false)
    (c.close.ensures.took c.digits-read.result)
