use mathlib.Core.Path.{refl}
use native.Mathlib.Omega.{arith}
use Rattle.choosers.specs.Kinds.{kind_of}
use Rattle.rules.specs.Tables.{tables}
use Rattle.rules.proofs.Steps.{may_lay_dest, may_lay_sources, elements_few, all_laid}
use Rattle.rules.proofs.building.lay_all.Goals as goal

pub lay_at-dest-requires : goal.lay_at-dest-requires
lay_at-dest-requires c =
    let s = c.args.split.now in may_lay_dest (kind_of s.kind) s.width s.levels (tables s) c.requires

pub lay_sources-elements-requires : goal.lay_sources-elements-requires
lay_sources-elements-requires c =
    let s = c.args.split.now in
    rw c.lay_at-dest.auto.scratch (may_lay_sources (kind_of s.kind) s.width s.levels (tables s) c.requires c.lay_at-dest.ensures.laid)

pub overflow_cast-result : goal.overflow_cast-result
overflow_cast-result c =
    let s = c.args.split.now in
    record { fits = omega (arith, elements_few (kind_of s.kind) s.width s.levels (tables s) c.requires c.lay_at-dest.ensures.laid c.lay_sources-elements.ensures.laid) }

pub returns-clause-built : goal.returns-clause-built
returns-clause-built c =
    let s = c.args.split.now in
    all_laid (kind_of s.kind) s.width s.levels (tables s) c.requires c.lay_at-dest.ensures.laid c.lay_sources-elements.ensures.laid refl refl
