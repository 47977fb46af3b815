use Prim.Native.Nat.{suc, ◌-◌}
use mathlib.Core.Path.{◌≡◌, refl}
use native.Mathlib.Omega.{arith}
use Rattle.tries.proofs.Filling.{power_most}
use Rattle.tries.proofs.Leveling.{block_bounds, own_asks, own_gives}
use Rattle.tries.proofs.blocks.block.Goals as goal

pub stride_at-s-requires : goal.stride_at-s-requires
stride_at-s-requires c = let b = block_bounds c.requires.1.1.2 c.requires.0 in
    (b.fits, λ s. b.level, b.levels, b.planned)

pub overflow_sub-q : goal.overflow_sub-q
overflow_sub-q c = (block_bounds c.requires.1.1.2 c.requires.0).level

pub fill-f-requires : goal.fill-f-requires
fill-f-requires c =
    let b = block_bounds c.requires.1.1.2 c.requires.0 in
    (omega arith, (c.requires.1.1.0, c.requires.1.1.1, own_asks c.requires.1.1.2 c.requires.0 c.stride_at-s.ensures (omega arith) refl))

pub power-requires : goal.power-requires
power-requires c = omega (
  arith,
  (block_bounds c.requires.1.1.2
      c.requires.0).stride,
  c.stride_at-s.ensures,
)

pub overflow_add-end : goal.overflow_add-end
overflow_add-end c =
    let b = block_bounds c.requires.1.1.2 c.requires.0 in
    let p = power_most c.power.ensures (omega (arith, c.stride_at-s.ensures)) in
    omega arith

pub returns-clause-wrote : goal.returns-clause-wrote
returns-clause-wrote c =
    let b = block_bounds c.requires.1.1.2 c.requires.0 in
    let e : c.args.r ≡ suc (c.args.r - 1) = omega arith in
    let q = c.stride_at-s.ensures in
    λ w σ t g. own_gives g c.requires.0 q e refl c.power.ensures (c.fill-f.ensures.wrote σ t (own_asks g c.requires.0 q e refl))
