use Rattle.std.proofs.Common.{rules}
use native.Mathlib.Omega.{arith}
use Rattle.tries.proofs.Leveling.{lay_bounds, done_none, next_asks, done_more, done_all}
use Rattle.tries.proofs.blocks.lay.Goals as goal

pub stride_at-requires : goal.stride_at-requires
stride_at-requires c = let b = lay_bounds c.requires.2 in
    (b.fits, b.level, b.levels, b.planned)

pub power-requires : goal.power-requires
power-requires c = omega (arith, (lay_bounds c.requires.2).stride, c.stride_at.ensures)

pub loop-n-init : goal.loop-n-init
loop-n-init c =
    record {
      in_range = omega arith;
      same = search rules;
      done = λ σ t g. done_none g c.stride_at.ensures c.power.ensures (c.given-first.ensures.there, c.given-first.ensures.not);
    }

pub level-to-requires : goal.level-to-requires
level-to-requires c =
    let l = c.loop-n in
    (c.requires.0, c.requires.1, next_asks c.requires.2 (omega (arith, l.invariant)) (l.invariant.done c.requires.0 c.requires.1 c.requires.2))

pub loop-n-preserved : goal.loop-n-preserved
loop-n-preserved c =
    let l = c.loop-n in
    let F = c.level-to in
    record {
      in_range = omega arith;
      same = search rules;
      done = λ σ t g.
          let p = l.invariant.done σ t g in
          done_more g (omega (arith, l.invariant)) p (F.ensures.wrote σ t (next_asks g (omega (arith, l.invariant)) p));
    }

pub returns-clause-wrote : goal.returns-clause-wrote
returns-clause-wrote c = let l = c.loop-n in
    λ σ t g. done_all g (omega (arith, l.invariant)) (l.invariant.done σ t g) (omega arith)
