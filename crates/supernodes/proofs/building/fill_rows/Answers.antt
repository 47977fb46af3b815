use mathlib.Core.Path.{refl}
use native.Mathlib.Omega.{arith}
use Rattle.table.specs.Refusals.{outcome_of}
use Rattle.visits.specs.Lent.{held}
use Rattle.supernodes.proofs.BitmapSteps.{count_few, short_rows_lem, short_hops, fill_ask, filled}
use Rattle.supernodes.proofs.building.fill_rows.Goals as goal

pub returns-then-len-count-clause-filled : goal.returns-then-len-count-clause-filled
unfolding outcome_of
returns-then-len-count-clause-filled c =
    let A = c.args in
    short_rows_lem c.requires (held A.rows.now) A.rows.now.hops.now c.line_table-count.ensures (omega (arith, c.len.ensures, c.if-len-count.true)) refl

pub returns-then-rows-hops-clause-filled : goal.returns-then-rows-hops-clause-filled
unfolding outcome_of
returns-then-rows-hops-clause-filled c =
    let A = c.args in
    short_hops c.requires (held A.rows.now) A.rows.now.hops.now c.line_table-count.ensures
    (omega (arith, c.len.ensures, c.if-len-count.false)) c.hop_rows-hops.ensures.count c.if-rows-hops.true refl

pub write_rows-requires : goal.write_rows-requires
write_rows-requires c =
    let A = c.args in
    fill_ask c.requires (held A.rows.now) A.rows.now.hops.now c.line_table-count.ensures
    (omega (arith, c.len.ensures, c.if-len-count.false)) (omega (arith, c.if-rows-hops.false, c.hop_rows-hops.ensures.count)) c.hop_rows-hops.ensures.small

pub overflow_cast-result : goal.overflow_cast-result
overflow_cast-result c =
    let A = c.args in
    omega (arith, count_few c.requires (held A.rows.now) A.rows.now.hops.now c.line_table-count.ensures)

pub returns-clause-filled : goal.returns-clause-filled
unfolding outcome_of
returns-clause-filled c =
    let A = c.args in
    let S = c.write_rows.ensures.same in
    filled c.requires (held A.rows.now) A.rows.now.hops.now c.line_table-count.ensures
    (omega (arith, c.len.ensures, c.if-len-count.false)) (omega (arith, c.if-rows-hops.false, c.hop_rows-hops.ensures.count)) c.hop_rows-hops.ensures.small _ c.write_rows.ensures.wrote
    (record { internal = S.internal.long; external = S.external.long; first_child = S.child.long; first_hop = S.first.long }) S.hops.long refl refl c.hop_rows-hops.ensures.count refl
