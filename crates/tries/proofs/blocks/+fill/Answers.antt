use Prim.Native.Nat.{suc, ◌-◌}
use mathlib.Core.Path.{◌≡◌}
use native.Mathlib.Omega.{arith}
use Rattle.strides.specs.Trie.{left, right}
use Rattle.tries.proofs.Filling.{bare_gives, half_bounds, left_asks, right_asks, halves_give}
use Rattle.tries.proofs.blocks.+fill.Goals as goal

pub returns-then-k-eq0-clause-wrote : goal.returns-then-k-eq0-clause-wrote
returns-then-k-eq0-clause-wrote t c = λ σ u g. bare_gives g c.if-k-eq0.true
    c.power.ensures c.bare.ensures.wrote

pub best_below-p-requires : goal.best_below-p-requires
best_below-p-requires t c = let b = half_bounds c.requires.1.2 in
    omega arith

pub best_below-q-requires : goal.best_below-q-requires
best_below-q-requires t c = let b = half_bounds c.requires.1.2 in
    omega arith

pub asked-k0-requires : goal.asked-k0-requires
asked-k0-requires t c = let b = half_bounds c.requires.1.2 in
    omega arith

pub asked-k1-requires : goal.asked-k1-requires
asked-k1-requires t c = let b = half_bounds c.requires.1.2 in
    omega arith

pub fill-f-requires : goal.fill-f-requires
fill-f-requires t c =
    (omega arith, (c.best_below-p.ensures.small, (c.requires.1.0, left c.requires.1.1, left_asks c.requires.1.2 (omega arith) c.asked-k0.ensures)))

pub fill-requires : goal.fill-requires
fill-requires t c =
    let F = c.fill-f in
    let ne = c.if-c-eq0.false in
    let e : c.args.c ≡ suc (c.args.c - 1) = omega (arith, ne) in
    let o = F.ensures.wrote c.requires.1.0 (left c.requires.1.1) (left_asks c.requires.1.2 e c.asked-k0.ensures) in (
      omega (arith, ne, c.decreases),
      (c.best_below-q.ensures.small, (c.requires.1.0, right c.requires.1.1, right_asks c.requires.1.2 e (omega (arith, F.ensures.same)) o c.power-2.ensures c.asked-k1.ensures)),
    )

pub returns-clause-wrote : goal.returns-clause-wrote
returns-clause-wrote t c =
    let F = c.fill-f in
    let P = c.power-2.ensures in
    let e : c.args.c ≡ suc (c.args.c - 1) = omega (arith, c.if-c-eq0.false) in
    λ σ u g.
    let o = F.ensures.wrote σ (left u) (left_asks g e c.asked-k0.ensures) in
    halves_give g e (omega (arith, F.ensures.same)) o P
    c.best_below-p.ensures.value c.best_below-q.ensures.value
    (c.fill.ensures.wrote σ (right u)
    (right_asks g e (omega (arith, F.ensures.same)) o P
    c.asked-k1.ensures))
