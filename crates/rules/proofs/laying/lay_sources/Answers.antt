use Prim.Native.Nat.{◌<◌}
use mathlib.Core.Path.{refl, ◌∙◌}
use native.Mathlib.Omega.{arith}
use lib.ListN.{length}
use Rattle.std.proofs.Common.{rules}
use Rattle.choosers.specs.Kinds.{kind_of}
use Rattle.rules.specs.Tables.{tables}
use Rattle.rules.proofs.Standing.{laid_none, laid_next, may_lay_source, may_list, source_place_few}
use Rattle.rules.proofs.laying.lay_sources.Goals as goal

pub loop-g-init : goal.loop-g-init
loop-g-init c = record { laid = laid_none _ _ _ _ _ _ _; same = search rules; long = refl }

pub lay_source-place-requires-clause-can_lay_at : goal.lay_source-place-requires-clause-can_lay_at
lay_source-place-requires-clause-can_lay_at c =
    let s = c.args.split.now in
    rw c.loop-g.invariant.long (may_lay_source (kind_of s.kind) s.width s.levels (tables s) c.requires c.loop-g.invariant.laid (omega arith))

pub lay_source-place-requires-clause-in_bounds : goal.lay_source-place-requires-clause-in_bounds
lay_source-place-requires-clause-in_bounds c =
    let s = c.args.split.now in
    let l = c.loop-g.invariant.laid in
    let h : c.loop-g.g < length s.destinations.value.now = omega arith in
    (h, may_list (kind_of s.kind) s.width s.levels (tables s) c.requires l h, source_place_few (kind_of s.kind) s.width s.levels (tables s) c.requires l)

pub loop-g-preserved : goal.loop-g-preserved
loop-g-preserved c =
    record {
      laid = laid_next _ _ _ _ _ (omega arith) c.loop-g.invariant.laid c.lay_source-place.ensures.laid c.lay_source-place.auto.list;
      same = search rules;
      long = c.lay_source-place.auto.scratch ∙ c.loop-g.invariant.long;
    }
