-- A refused build's record is all zeros.
use mathlib.Core.Path.{refl}
use Rattle.table.specs.Refusals.{outcome_of}
use Rattle.gateway.proofs.Zeros.{zero_strides}
use Rattle.gateway.proofs.ruling.BuiltRulesNumbersFromResultRuleRecordRefusal.from.Goals as goal

pub returns-in-Err : goal.returns-in-Err
unfolding outcome_of
returns-in-Err c =
    let d = c.default.ensures.0 in
    let e = d.1.1.1 in
    rw (c.in-Err.is, c.number.ensures, c.detail.ensures, c.default.ensures.1, d.0, d.1.0, d.1.1.0, e.0, zero_strides e.1) refl
