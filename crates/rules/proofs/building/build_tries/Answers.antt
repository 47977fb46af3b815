use mathlib.Core.Path.{refl}
use Rattle.table.specs.Refusals.{outcome_of}
use Rattle.table.proofs.Refusals.{handed_on}
use Rattle.walk.specs.Lent.{held}
use Rattle.choosers.specs.Kinds.{kind_of}
use Rattle.rules.specs.Tables.{tables}
use Rattle.rules.proofs.Steps.{room_lacks, may_lay_all, tries_built}
use Rattle.rules.proofs.building.build_tries.Goals as goal

pub returns-in_err-room_outcome-clause-built : goal.returns-in_err-room_outcome-clause-built
unfolding outcome_of
returns-in_err-room_outcome-clause-built c =
    let s = c.args.split.now in
    rw (handed_on _ c.from_residual.ensures.1)
    (room_lacks (kind_of s.kind) s.width s.levels (tables s) (held c.args.rows.now) c.args.list.now c.all_costs-cost.ensures
    (rw c.len.ensures at c.in_err-room_outcome.ensures) _ refl)

pub lay_all-requires : goal.lay_all-requires
lay_all-requires c =
    let s = c.args.split.now in
    rw c.all_costs-cost.auto.scratch
    (may_lay_all (kind_of s.kind) s.width s.levels (tables s) (held c.args.rows.now) c.args.list.now c.all_costs-cost.ensures
    (rw c.len.ensures at c.in_ok-room_outcome.ensures) refl c.requires.can_split c.requires.roomy)

pub returns-clause-built : goal.returns-clause-built
unfolding outcome_of
returns-clause-built c =
    let s = c.args.split.now in
    tries_built (kind_of s.kind) s.width s.levels (tables s) (held c.args.rows.now) c.args.list.now c.all_costs-cost.ensures
    (rw c.len.ensures at c.in_ok-room_outcome.ensures) refl c.lay_all.ensures.built
