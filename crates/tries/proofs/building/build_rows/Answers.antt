use mathlib.Core.Path.{refl}
use Rattle.table.specs.Refusals.{outcome_of}
use Rattle.walk.specs.Lent.{held}
use Rattle.tries.proofs.BuildSteps.{room_is, crowded_is, built_is, may_lay}
use Rattle.tries.proofs.building.build_rows.Goals as goal

pub returns-then-is_crowded-clause-done : goal.returns-then-is_crowded-clause-done
unfolding outcome_of
returns-then-is_crowded-clause-done c =
    λ kind vs g. crowded_is g (held c.args.rows.now) (room_is _ _ c.len.ensures c.is_crowded.ensures c.if-is_crowded.true)

pub lay-requires : goal.lay-requires
lay-requires c =
    (_, _, may_lay c.requires.2 _ (room_is _ _ c.len.ensures c.is_crowded.ensures c.if-is_crowded.false))

pub returns-clause-done : goal.returns-clause-done
unfolding outcome_of
returns-clause-done c =
    let L = c.lay in
    let S = L.ensures.same in
    λ kind vs g. built_is g (held c.args.rows.now) _ (room_is _ _ c.len.ensures c.is_crowded.ensures c.if-is_crowded.false)
    L.ensures.wrote S.hop.long S.length.long S.link.long S.stride.long refl refl refl (c.floor_hop.ensures _ _ g.table) refl
