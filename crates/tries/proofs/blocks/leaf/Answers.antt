use mathlib.Core.Path.{ap}
use Rattle.walk.specs.Rows.{Lists}
use native.Mathlib.Omega.{arith}
use Rattle.tries.proofs.Filling.{power_most, leaf_bounds, leaf_gives}
use Rattle.tries.proofs.blocks.leaf.Goals as goal

pub stride_at-s-requires : goal.stride_at-s-requires
stride_at-s-requires c = let b = leaf_bounds c.requires.2.2 in
    (b.fits, b.level, b.levels, b.planned)

pub write-requires : goal.write-requires
write-requires c = let b = leaf_bounds c.requires.2.2 in
    (b.own, c.requires.1, omega arith, omega (arith, c.stride_at-s.ensures))

pub power-requires : goal.power-requires
power-requires c =
    omega (arith, (leaf_bounds c.requires.2.2).stride, c.stride_at-s.ensures)

pub overflow_add-result : goal.overflow_add-result
overflow_add-result c =
    let b = leaf_bounds c.requires.2.2 in
    let p = power_most c.power.ensures (omega (arith, c.stride_at-s.ensures)) in
    omega arith

pub returns-clause-wrote : goal.returns-clause-wrote
returns-clause-wrote c =
    let W = c.write.ensures.wrote in
    λ σ t g.
    leaf_gives g c.requires.0 c.args.best c.stride_at-s.ensures c.power.ensures
    (record { hop = ap (λ (l : Lists). l.hop) W; len = ap (λ (l : Lists). l.len) W; link = ap (λ (l : Lists). l.link) W; stride = ap (λ (l : Lists). l.stride) W })
